use Rattle.std.proofs.Common.{ap, ◌∙◌, get_or, set}
use Rattle.std.proofs.lemmas.List.Edits.{map_over_more}
use Rattle.ft_dispatch.specs.Joining.{place_behind, dispatch_behind}
use Rattle.ft_dispatch.specs.declared.dispatch.Dispatch.{Dispatch}
use Rattle.ft_dispatch.proofs.joining.put_behind.Goals as goal

pub loop-one-preserved : goal.loop-one-preserved
loop-one-preserved c =
    let now = c.loop-one.dispatches in
    let i = c.loop-one.one-index in
    ap (λ (d : Dispatch). set now i d) c.dispatch_behind.ensures
    ∙ map_over_more (dispatch_behind (place_behind c.args.counts.now)) c.args.dispatches.now now i (get_or now i c.one-item.result) c.loop-one-test.true c.loop-one.invariant (ap (get_or now i) c.one-item.is)
