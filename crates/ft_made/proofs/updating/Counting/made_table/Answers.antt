use Rattle.std.proofs.Common.{◌≡◌, ◌∷◌, ℕ, List, [], None, refl, sym, ap, subst, ◌∙◌}
use Rattle.std.specs.List.{AllByRecursion}
use Rattle.std.specs.Option.{option_map_or}
use Rattle.std.specs.Prelude.{map as list_map}
use Rattle.std.specs.Ordering.{nat_cmp}
use Rattle.std.specs.Cmp.{nat_cmp_total}
use Rattle.std.specs.FinMap as map
use Rattle.std.specs.Map.Iter.{deref_pair}
use Rattle.std.proofs.lemmas.Map.Iter.{rest_more, rest_all}
use Rattle.ft_hist.specs.Hist.{Hist}
use Rattle.ft_maps.proofs.Common.{all_map}
use Rattle.ft_table.specs.Tabled.{Tabled}
use Rattle.ft_hist.specs.Triggers.{Triggers}
use Rattle.ft_base.proofs.Apart.{entries_found}
use Rattle.ft_replay.specs.Merged.{Events, merged}
use Rattle.ft_replay.specs.declared.pair.Pair.{Pair}
use Rattle.ft_replay.proofs.Stepping.{grow_none, grow_more}
use Rattle.ft_made.specs.inner.First.{first_change, first_changes}
use Rattle.ft_made.proofs.MadeTables.{IsFilledBut, all_found, all_made, new_filled, next_filled, way_done}
use Rattle.ft_made.proofs.updating.Counting.made_table.Goals as goal

-- a trigger without an onmatch part has no changes
no_changes : (pairs : ℕ → List Pair) (e : ℕ × Hist) → e.1.onmatch ≡ None → first_changes pairs e ≡ []
no_changes pairs e none = ap (λ o. option_map_or (λ onmatch. list_map (first_change e.0) (pairs e.0)) o []) none

pub loop-id-init : goal.loop-id-init
loop-id-init g c =
    let triggers : Triggers = c.args.self.now.triggers.now in
    let events : Events = merged c.args.self.now.lanes.now in
    let hist : Hist = c.args.self.now.trigger.now in
    let pairs : ℕ → List Pair = g.R.KeptReadings.pairs c.args.readings.now in
    let all : c.into_iter-id-iterator.result ≡ map.entries triggers = c.into_iter-id-iterator.ensures.into_iter_gives ∙ c.iter-id-items.ensures.rest in
    let new : c.new-table.result ≡ record { hits = map.empty; size = hist.size } = c.new-table.ensures ∙ ap (λ (n : ℕ). let t : Tabled = record { hits = map.empty; size = n } in t) c.size.ensures.value in
    record {
      way = subst (λ (ts : List (ℕ × Hist)). IsFilledBut triggers pairs events hist ts c.new-table.result) (sym all)
          (subst (IsFilledBut triggers pairs events hist (map.entries triggers)) (sym new) (new_filled triggers pairs c.requires events hist));
      idle = λ none. (
        subst (AllByRecursion (λ (e : ℕ × Hist). e.1.onmatch ≡ None)) (sym all) (all_map _ _ (λ e attached. none e.0 e.1 attached) (map.entries triggers) (entries_found nat_cmp nat_cmp_total triggers)),
        refl,
      );
      grow = grow_none _;
    }

pub update_made-requires : goal.update_made-requires
update_made-requires g c =
    (next_filled c.args.self.now.triggers.now (g.R.KeptReadings.pairs c.args.readings.now) (merged c.args.self.now.lanes.now) c.args.self.now.trigger.now (c.in-Some.id.now, c.in-Some.maker.now) c.next.new.self c.loop-id.id-iterator
    (rest_more (deref_pair {K = ℕ} {X = Hist}) _ _ _ _ c.in-Some.is c.next.ensures.steps) c.deref.result.now (c.deref.ensures.value ∙ c.in_ok-changes.ensures) c.loop-id.table c.loop-id.invariant.way).0

pub loop-id-preserved : goal.loop-id-preserved
loop-id-preserved g c =
    let pairs : ℕ → List Pair = g.R.KeptReadings.pairs c.args.readings.now in
    let e : ℕ × Hist = (c.in-Some.id.now, c.in-Some.maker.now) in
    let more : c.loop-id.id-iterator ≡ e ∷ c.next.new.self = rest_more (deref_pair {K = ℕ} {X = Hist}) _ _ _ _ c.in-Some.is c.next.ensures.steps in
    let changes : c.deref.result.now ≡ first_changes pairs e = c.deref.ensures.value ∙ c.in_ok-changes.ensures in
    record {
      way = (next_filled c.args.self.now.triggers.now pairs (merged c.args.self.now.lanes.now) c.args.self.now.trigger.now e c.next.new.self c.loop-id.id-iterator more c.deref.result.now changes c.loop-id.table c.loop-id.invariant.way).1
          c.update_made.new.table c.in_ok-update_made.ensures.updated;
      idle = λ none.
          let left : AllByRecursion (λ (x : ℕ × Hist). x.1.onmatch ≡ None) (e ∷ c.next.new.self) = subst (AllByRecursion (λ (x : ℕ × Hist). x.1.onmatch ≡ None)) more (c.loop-id.invariant.idle none).0 in
          (left.1, (c.in_ok-update_made.ensures.idle (changes ∙ no_changes pairs e left.0)).1.1 ∙ (c.loop-id.invariant.idle none).1);
      grow = grow_more _ _ _ c.loop-id.invariant.grow c.in_ok-update_made.ensures.grow;
    }

pub returns-clause-table : goal.returns-clause-table
returns-clause-table g c =
    let triggers : Triggers = c.args.self.now.triggers.now in
    let events : Events = merged c.args.self.now.lanes.now in
    let hist : Hist = c.args.self.now.trigger.now in
    let pairs : ℕ → List Pair = g.R.KeptReadings.pairs c.args.readings.now in
    let all : c.loop-id.id-iterator ≡ [] = rest_all (deref_pair {K = ℕ} {X = Hist}) _ _ _ c.in-None.is c.next.ensures.steps in
    λ found are. all_made triggers pairs events found are hist c.loop-id.table (way_done triggers events hist (all_found triggers pairs) c.loop-id.table
    (subst (λ (ts : List (ℕ × Hist)). IsFilledBut triggers pairs events hist ts c.loop-id.table) all c.loop-id.invariant.way))

pub returns-in_err-update_made-clause-idle : goal.returns-in_err-update_made-clause-idle
returns-in_err-update_made-clause-idle g c =
    let pairs : ℕ → List Pair = g.R.KeptReadings.pairs c.args.readings.now in
    let e : ℕ × Hist = (c.in-Some.id.now, c.in-Some.maker.now) in
    let more : c.loop-id.id-iterator ≡ e ∷ c.next.new.self = rest_more (deref_pair {K = ℕ} {X = Hist}) _ _ _ _ c.in-Some.is c.next.ensures.steps in
    λ none.
    let left : AllByRecursion (λ (x : ℕ × Hist). x.1.onmatch ≡ None) (e ∷ c.next.new.self) = subst (AllByRecursion (λ (x : ℕ × Hist). x.1.onmatch ≡ None)) more (c.loop-id.invariant.idle none).0 in
    (c.update_made.ensures.idle (c.deref.ensures.value ∙ c.in_ok-changes.ensures ∙ no_changes pairs e left.0)).1.1 ∙ (c.loop-id.invariant.idle none).1
