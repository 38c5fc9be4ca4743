use Rattle.std.proofs.Common.{◌+◌, List, Option, arith, drop, get_or, length, sym, ap, subst, ◌∙◌}
use Rattle.std.proofs.lemmas.List.{drop_all, drop_more}
use Rattle.ft_fields.specs.Traced.{Traced}
use Rattle.ft_hist.specs.Hist.{Hist}
use Rattle.ft_changes.specs.declared.changed.ReadingChange.{ReadingChange}
use Rattle.ft_hist.specs.Triggers.{Triggers}
use Rattle.ft_replay.specs.Merged.{Events, merged}
use Rattle.ft_replay.proofs.Stepping.{grow_more}
use Rattle.ft_made.specs.MadeTables.{IsFreeAt, with_made}
use Rattle.ft_made.specs.Updating.{change_spot}
use Rattle.ft_made.proofs.MadeTables.{IsOnTheWay, next_taken, next_updated, no_change, way_done}
use Rattle.ft_made.proofs.updating.Counting.update_made.Goals as goal

pub put_made-requires-clause-free : goal.put_made-requires-clause-free
put_made-requires-clause-free c =
    let changes : List ReadingChange = c.args.changes.now in
    let change : ReadingChange = get_or changes c.loop-change.change-index no_change in
    subst (IsFreeAt (change_spot change)) (sym c.take_made.ensures.table)
    (next_taken c.args.self.now.triggers.now (merged c.args.self.now.lanes.now) c.args.self.now.trigger.now
    change (drop (c.loop-change.change-index + 1) changes) (drop c.loop-change.change-index changes)
    (drop_more changes c.loop-change.change-index no_change c.loop-change-test.true)
    c.requires.now c.loop-change.table (c.loop-change.invariant.way c.requires.found c.requires.now c.requires.lead c.requires.made)
    c.made_of_change-before.result c.made_of_change-before.ensures.made).here

pub loop-change-preserved : goal.loop-change-preserved
loop-change-preserved c =
    let triggers : Triggers = c.args.self.now.triggers.now in
    let events : Events = merged c.args.self.now.lanes.now in
    let hist : Hist = c.args.self.now.trigger.now in
    let changes : List ReadingChange = c.args.changes.now in
    let change : ReadingChange = get_or changes c.loop-change.change-index no_change in
    let left : List ReadingChange = drop (c.loop-change.change-index + 1) changes in
    let after : Option Traced = c.made_of_change-after.result in
    record {
      way = λ found now lead is.
          subst (IsOnTheWay triggers events hist left now) (sym (c.in_ok-put_made.ensures.ok ∙ ap (with_made hist (change_spot change) after) c.take_made.ensures.table))
          (next_updated triggers events hist change left (drop c.loop-change.change-index changes) (drop_more changes c.loop-change.change-index no_change c.loop-change-test.true)
          now c.loop-change.table (c.loop-change.invariant.way found now lead is)
          c.made_of_change-before.result c.made_of_change-before.ensures.made after c.made_of_change-after.ensures.made);
      idle = λ none. absurd (omega (arith, ap length none, c.loop-change-test.true));
      grow = grow_more _ _ _ (grow_more _ _ _ c.loop-change.invariant.grow c.take_made.ensures.grow) c.in_ok-put_made.ensures.grow;
    }

pub returns-clause-updated : goal.returns-clause-updated
returns-clause-updated c = λ found now lead is.
    let triggers : Triggers = c.args.self.now.triggers.now in
    let events : Events = merged c.args.self.now.lanes.now in
    way_done triggers events c.args.self.now.trigger.now now c.loop-change.table
    (subst (λ (left : List ReadingChange). IsOnTheWay triggers events c.args.self.now.trigger.now left now c.loop-change.table)
    (drop_all c.loop-change.change-index c.args.changes.now (omega (arith, c.loop-change-test.false))) (c.loop-change.invariant.way found now lead is))
