use Rattle.std.proofs.Common.{◌∙◌, ap, ℤ, List}
use Rattle.std.proofs.lemmas.Result.{on_ok_weaker}
use Rattle.ft_dispatch.specs.Joining.{place_behind, since_behind, over, joined, left_over}
use Rattle.ft_dispatch.specs.Telling.{known}
use Rattle.ft_dispatch.specs.declared.dispatch.Dispatch.{Dispatch}
use Rattle.ft_dispatch.specs.declared.tasks.Tasks.{Tasks}
use Rattle.ft_dispatch.proofs.Joins.{joins}
use Rattle.ft_dispatch.proofs.tasks.Tasks.join.Goals as goal

pub returns : goal.returns
returns c =
    let move = place_behind c.args.counts.now in
    let old = c.args.self.now in
    let new : Tasks = record { since = c.put_all.new.tasks } in
    on_ok_weaker c.put_all.result (λ put. joins move old c.args.part new c.args.dispatches.now c.complete_all.new.dispatches
    (λ (pid : ℤ). put pid ∙ ap (over (since_behind move (known c.args.part.since pid)))
    (c.complete_all.ensures.knows pid ∙ ap (λ (ds : List Dispatch). left_over (known old.since) ds pid) c.put_behind.ensures))
    (c.complete_all.ensures.dispatches ∙ ap (joined (known old.since)) c.put_behind.ensures)) c.put_all.ensures
