-- Lanes of some CPUs: their entries, and a walk that leaves some out.
use Rattle.std.proofs.Common.{◌≡◌, ℕ, None, Bool, true, false, cond, List, [], ◌∷◌, ◌++◌, sym, ap, append_assoc}
use Rattle.std.specs.Prelude.{not}
use Rattle.std.specs.List.{flat_map}
use Rattle.std.specs.Cmp.{nat_cmp_total}
use Rattle.std.specs.FinMap as map
use Rattle.std.specs.FinMap.{get-retain_keys, same_map, nat_cmp-IsAntisymmetric}
use Rattle.std.proofs.lemmas.List.{append-nil}
use Rattle.ft_fields.specs.Traced.{Traced}
use Rattle.ft_fields.specs.declared.pos.Pos.{Pos}
use Rattle.ft_lanes.specs.Held.{Lane, Lanes}
use Rattle.ft_replay.specs.Chosen.{is_among, lanes_but}
use Rattle.ft_replay.specs.Merged.{placed}

-- what is looked up in some lanes
pub get-chosen : (p : ℕ → Bool) (lanes : Lanes) (cpu : ℕ) → map.get (map.retain_keys lanes p) cpu ≡ cond (p cpu) (map.get lanes cpu) None
get-chosen p lanes cpu = get-retain_keys lanes p cpu (λ x tie. ap p (sym (nat_cmp-IsAntisymmetric cpu x tie)))

-- without those of no CPU they are all there
pub but_none : (lanes : Lanes) → lanes_but [] lanes ≡ lanes
but_none lanes = same_map nat_cmp_total nat_cmp-IsAntisymmetric (lanes_but [] lanes) lanes (λ cpu. get-chosen (λ q. not (is_among [] q)) lanes cpu)

-- one lane more, unless it is left out
pub one_lane : (out : Bool) (pushed : List (Pos × Traced)) (e : ℕ × Lane) (rest : List (ℕ × Lane))
    → (pushed ++ cond out [] (placed e)) ++ flat_map placed rest ≡ pushed ++ flat_map placed (cond (not out) (e ∷ rest) rest)
one_lane true pushed e rest = ap (λ (es : List (Pos × Traced)). es ++ flat_map placed rest) (append-nil pushed)
one_lane false pushed e rest = append_assoc pushed (placed e) (flat_map placed rest)
