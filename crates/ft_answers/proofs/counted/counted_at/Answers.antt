use Rattle.std.proofs.Common.{rules, ◌≡◌, true, false, [], sym, ◌∙◌}
use Rattle.ft_hist.specs.Hist.{Hist}
use Rattle.ft_replay.specs.Merged.{merged}
use Rattle.ft_hist.specs.Made.{counts_made}
use Rattle.ft_answers.proofs.Answering.{shown-made, shown-held}
use Rattle.ft_answers.proofs.counted.counted_at.Goals as goal

pub returns-then-counts_made-clause-tally : goal.returns-then-counts_made-clause-tally
returns-then-counts_made-clause-tally c =
    let hist : Hist = c.args.trigger.now in
    let counts : counts_made hist ≡ true = search rules in
    ([], c.in_ok-made.ensures.tally ∙ sym (shown-made c.args.triggers.now (merged c.args.lanes.now) c.args.id hist counts))

pub returns-clause-tally : goal.returns-clause-tally
returns-clause-tally c =
    let hist : Hist = c.args.trigger.now in
    let counts : counts_made hist ≡ false = search rules in
    (c.in_ok-counter.counter.pairs, c.in_ok-counter.ensures.tally ∙ sym (shown-held c.args.triggers.now (merged c.args.lanes.now) c.args.id hist counts))

pub returns-clause-fit : goal.returns-clause-fit
returns-clause-fit c = c.in_ok-counter.ensures.fit c.args.trigger.now c.requires
