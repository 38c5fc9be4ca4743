-- What was half done is undone.
use Rattle.std.proofs.Common.{◌∙◌, drop}
use Rattle.std.specs.Ordering.{nat_cmp}
use Rattle.std.proofs.lemmas.Result.{on_err_weaker}
use Rattle.ft_maps.specs.Seen.{seen}
use Rattle.ft_lanes.proofs.Loads.{free-from, removed-back}
use Rattle.ft_lanes.proofs.load.push_load.Goals as goal

pub push_all-pushed-requires-clause-apart : goal.push_all-pushed-requires-clause-apart
push_all-pushed-requires-clause-apart c = free-from (seen nat_cmp c.args.lanes.now) (drop c.args.first c.args.store.now) c.requires.apart

pub returns-then-is_err-clause-err : goal.returns-then-is_err-clause-err
returns-then-is_err-clause-err c =
    let old = seen nat_cmp c.args.lanes.now in
    let es = drop c.args.first c.args.store.now in
    on_err_weaker c.push_all-pushed.result (λ beside.
    c.remove_all.ensures ∙ removed-back old (seen nat_cmp c.push_all-pushed.new.lanes) es (free-from old es c.requires.apart) beside) c.push_all-pushed.ensures.err
