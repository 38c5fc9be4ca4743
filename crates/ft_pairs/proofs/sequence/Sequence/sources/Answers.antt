-- The place that is looked up is the first one whose source isn't found yet.
use Rattle.std.proofs.Common.{◌<◌, ◌≤◌, length, sym, subst, rules}
use Rattle.std.specs.FinMap as map
use Rattle.ft_pairs.specs.inner.Met.{FindFirst}
use Rattle.ft_pairs.proofs.Runs.{each_found, found_next, none_first}
use Rattle.ft_pairs.proofs.sequence.Sequence.sources.Goals as goal

pub loop-found-init : goal.loop-found-init
loop-found-init c = subst (FindFirst (map.get c.args.self.now) c.args.reads.now) (sym c.in_ok-found.ensures.items) (none_first (map.get c.args.self.now) c.args.reads.now)

pub loop-found-preserved : goal.loop-found-preserved
loop-found-preserved c =
    let reads = c.args.reads.now in
    let found = c.loop-found.found.items in
    let more : length found < length reads = search rules in
    subst (FindFirst (map.get c.args.self.now) reads) (sym c.in_ok-push.ensures.items)
    (found_next (map.get c.args.self.now) reads found _ c.source.result more (search rules) c.source.ensures c.loop-found.invariant)

pub returns : goal.returns
returns c =
    let all : length c.args.reads.now ≤ length c.loop-found.found.items = search rules in
    each_found (map.get c.args.self.now) c.args.reads.now c.loop-found.found.items all c.loop-found.invariant
