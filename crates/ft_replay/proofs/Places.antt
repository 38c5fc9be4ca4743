-- At each place the merged events have the event that is held there.
use Rattle.std.proofs.Common.{◌≡◌, ℕ, Bool, true, false, cond, List, [], ◌∷◌, refl, sym, ap, subst, ◌∙◌, Some, None, Option}
use Rattle.std.specs.Prelude.{◌&&◌, ◌==◌, if◌then◌else◌, fold, option_and_then}
use Rattle.std.specs.List.{AllByRecursion}
use Rattle.std.specs.List.Sorted.{IsStrictlySortedBy}
use Rattle.std.specs.declared.cmp.Ordering.TheVariants.{Less}
use Rattle.std.specs.Ordering.{nat_cmp, is_eq, eq_by_cmp, ordering_then}
use Rattle.std.specs.Cmp.{nat_eq_equiv, unsigned_tied, tied_then}
use Rattle.std.specs.Map.{keys_of}
use Rattle.std.specs.FinMap as map
use Rattle.std.specs.FinMap.{FinMap, find, get-insert, get-empty, get-entries, entries_sorted, nat_cmp-IsAntisymmetric}
use Rattle.std.proofs.lemmas.Map.Keys.{sorted_head, sorted_tail}
use Rattle.ft_fields.specs.Traced.{Traced}
use Rattle.ft_fields.specs.Places.{pos_cmp, pos_cmp_total}
use Rattle.ft_maps.specs.Entries.{strictly_sorted, same_from_tie}
use Rattle.ft_fields.specs.declared.pos.Pos.{Pos}
use Rattle.ft_lanes.specs.Held.{Lane, Lanes}
use Rattle.ft_replay.specs.Merged.{place_of, merged, held_at, merged_with_lane}
use Rattle.ft_replay.proofs.Merging.{merged_with_lines, by_lane}

-- the first of two that is there
abbrev or_else : {X : Type 0} → Option X → Option X → Option X
or_else None y = y
or_else (Some x) y = Some x

pub or_none : {X : Type 0} (x : Option X) → or_else x None ≡ x
or_none None = refl
or_none (Some x) = refl

-- no number above k ties with k
none_above : {X : Type 0} (k : ℕ) (es : List (ℕ × X)) → AllByRecursion (λ y. nat_cmp k y ≡ Less) (keys_of es) → find nat_cmp k es ≡ None
none_above k [] above = refl
none_above k (e ∷ es) above = ap (λ o. cond (is_eq o) (Some e.1) (find nat_cmp k es)) above.0 ∙ none_above k es above.1

pub none_later : {X : Type 0} (q : ℕ) (e : ℕ × X) (es : List (ℕ × X)) → IsStrictlySortedBy nat_cmp (keys_of (e ∷ es)) → eq_by_cmp nat_cmp q e.0 ≡ true → find nat_cmp q es ≡ None
none_later q e es sorted at =
    subst (λ k. find nat_cmp k es ≡ None) (sym (same_from_tie nat_cmp-IsAntisymmetric q e.0 at)) (none_above e.0 es (sorted_head nat_cmp e.0 (keys_of es) sorted))

module _ (pos : Pos) where
  -- an event, if its stamp is the place's
  abbrev on_stamp : Traced → Option Traced
  on_stamp e = if e.stamp == pos.stamp then Some e else None

  stamp-is : (e : Traced) → on_stamp e ≡ cond (is_eq (nat_cmp pos.stamp e.stamp)) (Some e) None
  stamp-is e = ap (λ b. cond b (Some e) None) (sym (unsigned_tied pos.stamp e.stamp ∙ nat_eq_equiv.symm pos.stamp e.stamp))

  -- what some lines of a CPU's lane hold at the place
  abbrev line_at : ℕ → List (ℕ × Traced) → Option Traced
  line_at cpu lines = cond (eq_by_cmp nat_cmp pos.cpu cpu) (option_and_then on_stamp (find nat_cmp pos.line lines)) None

  at_place : (cpu : ℕ) (e : ℕ × Traced) → eq_by_cmp pos_cmp pos (place_of cpu e) ≡ (is_eq (nat_cmp pos.stamp e.1.stamp) && (eq_by_cmp nat_cmp pos.cpu cpu && eq_by_cmp nat_cmp pos.line e.0))
  at_place cpu e = sym (tied_then (nat_cmp pos.stamp e.1.stamp) (ordering_then (nat_cmp pos.cpu cpu) (nat_cmp pos.line e.0))) ∙ ap (λ b. is_eq (nat_cmp pos.stamp e.1.stamp) && b) (sym (tied_then (nat_cmp pos.cpu cpu) (nat_cmp pos.line e.0)))

  one_line : (stamp cpu line : Bool) (e : Traced) (found old : Option Traced) → on_stamp e ≡ cond stamp (Some e) None → (line ≡ true → found ≡ None)
      → or_else (cond cpu (option_and_then on_stamp found) None) (cond (stamp && (cpu && line)) (Some e) old) ≡ or_else (cond cpu (option_and_then on_stamp (cond line (Some e) found)) None) old
  one_line true false line e found old is none = refl
  one_line false false line e found old is none = refl
  one_line true true true e found old is none = ap (λ o. or_else (option_and_then on_stamp o) (Some e)) (none refl) ∙ ap (λ o. or_else o old) (sym is)
  one_line false true true e found old is none = ap (λ o. or_else (option_and_then on_stamp o) old) (none refl) ∙ ap (λ o. or_else o old) (sym is)
  one_line true true false e found old is none = refl
  one_line false true false e found old is none = refl

  lines_at : (cpu : ℕ) (m : FinMap pos_cmp Traced) (lines : List (ℕ × Traced)) → IsStrictlySortedBy nat_cmp (keys_of lines) → map.get (merged_with_lines cpu m lines) pos ≡ or_else (line_at cpu lines) (map.get m pos)
  lines_at cpu m [] sorted = elim (eq_by_cmp nat_cmp pos.cpu cpu) as (λ b. map.get m pos ≡ or_else (cond b None None) (map.get m pos)) [ true ↦ refl | false ↦ refl ]
  lines_at cpu m (e ∷ lines) sorted =
      lines_at cpu (map.insert m (place_of cpu e) e.1) lines (sorted_tail nat_cmp e.0 (keys_of lines) sorted)
      ∙ ap (or_else (line_at cpu lines)) (get-insert pos_cmp_total m (place_of cpu e) e.1 pos ∙ ap (λ b. cond b (Some e.1) (map.get m pos)) (at_place cpu e))
      ∙ one_line (is_eq (nat_cmp pos.stamp e.1.stamp)) (eq_by_cmp nat_cmp pos.cpu cpu) (eq_by_cmp nat_cmp pos.line e.0) e.1 (find nat_cmp pos.line lines) (map.get m pos) (stamp-is e.1) (none_later pos.line e lines sorted)

  -- what some lanes hold at the place
  abbrev lane_at : List (ℕ × Lane) → Option Traced
  lane_at lanes = option_and_then on_stamp (option_and_then (λ lane. map.get lane.events pos.line) (find nat_cmp pos.cpu lanes))

  merged_with_lane_at : (m : FinMap pos_cmp Traced) (e : ℕ × Lane) → map.get (merged_with_lane m e) pos ≡ or_else (cond (eq_by_cmp nat_cmp pos.cpu e.0) (option_and_then on_stamp (map.get e.1.events pos.line)) None) (map.get m pos)
  merged_with_lane_at m e =
      lines_at e.0 m (map.entries e.1.events) (strictly_sorted nat_cmp (map.entries e.1.events) (entries_sorted e.1.events))
      ∙ ap (λ o. or_else (cond (eq_by_cmp nat_cmp pos.cpu e.0) (option_and_then on_stamp o) None) (map.get m pos)) (sym (get-entries e.1.events pos.line))

  one_lane : (cpu : Bool) (e : ℕ × Lane) (found : Option Lane) (old : Option Traced) → (cpu ≡ true → found ≡ None)
      → or_else (option_and_then on_stamp (option_and_then (λ lane. map.get lane.events pos.line) found)) (or_else (cond cpu (option_and_then on_stamp (map.get e.1.events pos.line)) None) old)
      ≡ or_else (option_and_then on_stamp (option_and_then (λ lane. map.get lane.events pos.line) (cond cpu (Some e.1) found))) old
  one_lane true e found old none = ap (λ o. or_else (option_and_then on_stamp (option_and_then (λ lane. map.get lane.events pos.line) o)) (or_else (option_and_then on_stamp (map.get e.1.events pos.line)) old)) (none refl)
  one_lane false e found old none = refl

  lanes_at : (m : FinMap pos_cmp Traced) (lanes : List (ℕ × Lane)) → IsStrictlySortedBy nat_cmp (keys_of lanes) → map.get (fold merged_with_lane m lanes) pos ≡ or_else (lane_at lanes) (map.get m pos)
  lanes_at m [] sorted = refl
  lanes_at m (e ∷ lanes) sorted =
      lanes_at (merged_with_lane m e) lanes (sorted_tail nat_cmp e.0 (keys_of lanes) sorted)
      ∙ ap (or_else (lane_at lanes)) (merged_with_lane_at m e)
      ∙ one_lane (eq_by_cmp nat_cmp pos.cpu e.0) e (find nat_cmp pos.cpu lanes) (map.get m pos) (none_later pos.cpu e lanes sorted)

  pub merged_at : (lanes : Lanes) → map.get (merged lanes) pos ≡ held_at lanes pos
  unfolding merged
  merged_at lanes =
      ap (λ (m : FinMap pos_cmp Traced). map.get m pos) (sym (by_lane map.empty (map.entries lanes)))
      ∙ lanes_at map.empty (map.entries lanes) (strictly_sorted nat_cmp (map.entries lanes) (entries_sorted lanes))
      ∙ ap (or_else (lane_at (map.entries lanes))) (get-empty {X = Traced} pos_cmp pos)
      ∙ or_none (lane_at (map.entries lanes))
      ∙ ap (λ o. option_and_then on_stamp (option_and_then (λ lane. map.get lane.events pos.line) o)) (sym (get-entries lanes pos.cpu))
