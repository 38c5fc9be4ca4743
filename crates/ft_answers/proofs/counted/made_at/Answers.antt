use Rattle.std.proofs.Common.{sym, ap, Option}
use Rattle.std.specs.Prelude.{unwrap_or}
use Rattle.std.specs.Ordering.{nat_cmp}
use Rattle.std.proofs.lemmas.Result.{IfOk-weaker}
use Rattle.ft_maps.specs.Seen.{seen}
use Rattle.ft_hist.specs.Triggers.{Triggers}
use Rattle.ft_replay.specs.Counters.{Counters}
use Rattle.ft_replay.specs.Merged.{Events, merged}
use Rattle.ft_replay.specs.Tally.{Tally, empty_tally}
use Rattle.ft_answers.specs.inner.Readings.{pairs_by}
use Rattle.ft_answers.proofs.MadeTables.{are_replayed, made_fits}
use Rattle.ft_answers.proofs.counted.made_at.Goals as goal

pub made_table-requires : goal.made_table-requires
made_table-requires c =
    let triggers : Triggers = c.args.triggers.now in
    let events : Events = merged c.args.lanes.now in
    let counters : Counters = seen nat_cmp c.in_ok-counters.counters in
    let replayed = are_replayed triggers events counters c.in_ok-counters.ensures.tallies c.in_ok-counters.ensures.complete (c.counted_hits.ensures.tally triggers events) in
    c.replayed_pairs.ensures.order triggers events (pairs_by counters) replayed

pub returns-clause-tally : goal.returns-clause-tally
returns-clause-tally c =
    let triggers : Triggers = c.args.triggers.now in
    let events : Events = merged c.args.lanes.now in
    let counters : Counters = seen nat_cmp c.in_ok-counters.counters in
    let replayed = are_replayed triggers events counters c.in_ok-counters.ensures.tallies c.in_ok-counters.ensures.complete (c.counted_hits.ensures.tally triggers events) in
    IfOk-weaker c.made_table.result _ _ (λ table is.
    sym (ap (λ (o : Option Tally). unwrap_or o empty_tally) (c.replayed_pairs.ensures.tally triggers events (pairs_by counters) replayed c.args.id c.args.trigger.now c.requires table is))) c.made_table.ensures.table

pub returns-clause-fit : goal.returns-clause-fit
returns-clause-fit c =
    let triggers : Triggers = c.args.triggers.now in
    let events : Events = merged c.args.lanes.now in
    let counters : Counters = seen nat_cmp c.in_ok-counters.counters in
    IfOk-weaker c.made_table.result _ _ (λ table is.
    made_fits triggers events counters c.in_ok-counters.ensures.tallies c.in_ok-counters.ensures.complete (c.counted_hits.ensures.tally triggers events) c.made_tables.ensures.fit
    (c.counted_hits.ensures.pairs triggers events) c.args.trigger.now table is) c.made_table.ensures.table
