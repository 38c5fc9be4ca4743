use Rattle.std.proofs.Common.{◌∙◌}
use Rattle.ft_made.proofs.laws.replayed_pairs.Goals as goal

pub returns-clause-order : goal.returns-clause-order
returns-clause-order c = λ triggers events pairs are id hist attached.
    let replayed = c.counted_hits.ensures.pairs triggers events id in
    (replayed.0, are id hist attached ∙ replayed.1.1)

pub returns-clause-tally : goal.returns-clause-tally
returns-clause-tally c = λ triggers events pairs are id hist attached table is.
    c.made_tables.ensures.tally triggers events _ (λ other h there pos. (c.counted_hits.ensures.pairs triggers events other).1.0 pos) id hist attached table
    (is (λ other. (c.counted_hits.ensures.pairs triggers events other).0) (λ other h there. are other h there ∙ (c.counted_hits.ensures.pairs triggers events other).1.1))
