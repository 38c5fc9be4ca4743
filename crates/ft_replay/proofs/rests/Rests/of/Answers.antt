use Rattle.std.proofs.Common.{◌≡◌, ℕ, Bool, List, ◌∷◌, ◌++◌, sym, ap, subst, ◌∙◌}
use Rattle.std.specs.Prelude.{not}
use Rattle.std.specs.List.{flat_map}
use Rattle.std.specs.FinMap as map
use Rattle.std.specs.FinMap.{nat_cmp-IsAntisymmetric}
use Rattle.std.specs.FinMap.Entries.{where_key}
use Rattle.std.specs.Cmp.{nat_cmp_total}
use Rattle.std.specs.Ordering.{nat_cmp}
use Rattle.std.proofs.lemmas.List.{append-nil}
use Rattle.std.proofs.lemmas.Map.Iter.{rest_more, rest_all}
use Rattle.ft_fields.specs.Traced.{Traced}
use Rattle.ft_fields.specs.declared.pos.Pos.{Pos}
use Rattle.ft_lanes.specs.Held.{Lane}
use Rattle.ft_lanes.specs.Walks.{itself}
use Rattle.ft_replay.specs.Chosen.{is_among}
use Rattle.ft_replay.specs.Merged.{placed}
use Rattle.ft_replay.specs.inner.Rests.{entries_left}
use Rattle.ft_table.proofs.Retained.{entries-retained}
use Rattle.ft_replay.proofs.Choosing.{one_lane}
use Rattle.ft_replay.proofs.rests.Rests.of.Goals as goal

pub loop-cpu-preserved : goal.loop-cpu-preserved
loop-cpu-preserved c =
    let other : ℕ → Bool = λ cpu. not (is_among c.args.but.now cpu) in
    let e : ℕ × Lane = (c.in-Some.cpu, c.in-Some.lane) in
    let left : List (Pos × Traced) = entries_left c.loop-cpu.rests.rests.items in
    let more : c.loop-cpu.cpu-iterator ≡ e ∷ c.next.new.self = rest_more (itself {X = ℕ × Lane}) _ _ _ _ c.in-Some.is c.next.ensures.steps in
    ap (λ (es : List (Pos × Traced)). es ++ flat_map placed (where_key nat_cmp other c.next.new.self)) c.in_ok-push_unless.ensures
    ∙ one_lane (is_among c.args.but.now e.0) left e (where_key nat_cmp other c.next.new.self)
    ∙ subst (λ (es : List (ℕ × Lane)). left ++ flat_map placed (where_key nat_cmp other es) ≡ flat_map placed (where_key nat_cmp other (map.entries c.args.lanes.now))) more c.loop-cpu.invariant

pub returns : goal.returns
returns c =
    let other : ℕ → Bool = λ cpu. not (is_among c.args.but.now cpu) in
    let left : List (Pos × Traced) = entries_left c.loop-cpu.rests.rests.items in
    sym (ap (λ (rest : List (ℕ × Lane)). left ++ flat_map placed (where_key nat_cmp other rest)) (rest_all (itself {X = ℕ × Lane}) _ _ _ c.in-None.is c.next.ensures.steps)
    ∙ append-nil left)
    ∙ c.loop-cpu.invariant
    ∙ ap (λ (es : List (ℕ × Lane)). flat_map placed es) (sym (entries-retained nat_cmp_total nat_cmp-IsAntisymmetric c.args.lanes.now other))
