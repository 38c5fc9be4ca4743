use Rattle.std.proofs.Common.{◌≡◌, Some, sym, subst, ◌∙◌}
use Rattle.std.specs.Prelude.{IsSome}
use Rattle.std.specs.Ordering.{nat_cmp}
use Rattle.std.specs.Cmp.{nat_cmp_total}
use Rattle.std.specs.FinMap as map
use Rattle.ft_maps.specs.Seen.{seen, get-seen}
use Rattle.ft_replay.specs.Merged.{merged}
use Rattle.ft_replay.specs.Counters.{Counters}
use Rattle.ft_answers.proofs.Answering.{some_counter, counter_fits, counter_tally}
use Rattle.ft_answers.proofs.counted.counter_at.Goals as goal

pub unwrap-requires : goal.unwrap-requires
unwrap-requires c =
    let counters : Counters = seen nat_cmp c.in_ok-counters.counters in
    subst IsSome (get-seen nat_cmp_total c.in_ok-counters.counters c.args.id ∙ sym c.remove.ensures.value) (some_counter c.args.triggers.now counters c.in_ok-counters.ensures.complete c.args.id c.requires)

pub returns-clause-tally : goal.returns-clause-tally
returns-clause-tally c =
    let counters : Counters = seen nat_cmp c.in_ok-counters.counters in
    let there : map.get counters c.args.id ≡ Some c.unwrap.result = get-seen nat_cmp_total c.in_ok-counters.counters c.args.id ∙ sym c.remove.ensures.value ∙ c.unwrap.ensures in
    counter_tally c.made_counters.ensures.first c.args.triggers.now (merged c.args.lanes.now) counters c.args.id c.unwrap.result c.in_ok-counters.ensures.tallies there

pub returns-clause-fit : goal.returns-clause-fit
returns-clause-fit c =
    let counters : Counters = seen nat_cmp c.in_ok-counters.counters in
    let there : map.get counters c.args.id ≡ Some c.unwrap.result = get-seen nat_cmp_total c.in_ok-counters.counters c.args.id ∙ sym c.remove.ensures.value ∙ c.unwrap.ensures in
    counter_fits c.args.triggers.now counters c.in_ok-counters.ensures.complete c.args.id c.unwrap.result there
