use Rattle.std.proofs.Common.{◌≡◌, ap, refl, rules, to_z, of_z, w32, ◌∙◌}
use Rattle.std.proofs.lemmas.Result.{on_ok_weaker}
use Rattle.ft_summary.specs.inner.Changes.{changed_in, found_task, leaving_by}
use Rattle.ft_summary.specs.declared.standing.Change.TheVariants as changes
use Rattle.ft_summary.specs.declared.standing.Leaving.{Leaving}
use Rattle.ft_summary.proofs.Taking.{changed-same, on_ok_both}
use Rattle.ft_summary.proofs.summary.Summary.switch.Goals as goal

pub returns : goal.returns
returns c =
    let act = c.args.act.now in
    let tasks = found_task c.args.self.now.tasks in
    let same-prev : to_z w32 (of_z w32 act.prev_pid) ≡ act.prev_pid = search rules in
    let same-next : to_z w32 (of_z w32 act.pid) ≡ act.pid = search rules in
    let leaving = c.by.ensures ∙ ap (leaving_by act) c.in_ok-ran_for.ensures.run in
    let r = c.change-2.result in
    on_ok_weaker r (λ both. record {
      clock = refl;
      tasks = λ q. both.0 q ∙ ap (λ pid. changed_in (found_task c.change.new.tasks) (changes.Run act.place.cpu) pid q) same-next
          ∙ changed-same (found_task c.change.new.tasks) _ (changes.Run act.place.cpu) act.pid q
          (λ p. c.in_ok-change.ensures.finds p ∙ ap (λ pid. changed_in tasks (changes.Left c.by.result) pid p) same-prev
          ∙ ap (λ (l : Leaving). changed_in tasks (changes.Left l) act.prev_pid p) leaving);
      counts = λ same. both.1.0 (c.in_ok-change.ensures.counts same);
      tasks_ascend = λ sorted. both.1.1 (c.in_ok-change.ensures.ordered sorted);
      cpus = c.in_ok-ran_for.ensures.finds;
      cpus_ascend = c.in_ok-ran_for.ensures.ordered;
    }) (on_ok_both _ _ r c.change-2.ensures.finds (on_ok_both _ _ r c.change-2.ensures.counts c.change-2.ensures.ordered))
