use Rattle.std.proofs.Common.{◌≡◌, ◌∷◌, ◌∙◌, ℤ, ap, nat_lt, inl, inr, of_z, refl, rules, subst, sym, to_z, w32}
use Rattle.std.proofs.lemmas.Result.{on_ok_weaker}
use Rattle.ft_dispatch.specs.Telling.{act_from}
use Rattle.ft_summary.specs.Telling.{Tells}
use Rattle.ft_summary.specs.inner.Changes.{changed_in, found_task}
use Rattle.ft_summary.specs.declared.standing.Change.TheVariants as changes
use Rattle.ft_summary.specs.declared.summary.Summary.{Summary}
use Rattle.ft_summary.proofs.Taking.{goes-on, on_ok_both, tells-created, tells-roused, tells-turned, tells-woken}
use Rattle.ft_summary.proofs.summary.Summary.take.Goals as goal

pub returns-in-Switch : goal.returns-in-Switch
returns-in-Switch c =
    let act = c.args.act.now in
    let old = c.args.self.now in
    let new = c.switch.new.self in
    let goes = goes-on c.args.self.now.clock c.advance.new.self act.place c.some_task_waits-some_task_waits.result (nat_lt 0 old.waiting) c.some_task_waits-some_task_waits.ensures c.advance.ensures.latest c.advance.ensures.waited in
    let mid : Summary = record { clock = c.advance.new.self; waiting = old.waiting; tasks = old.tasks; cpus = old.cpus } in
    on_ok_weaker c.switch.result (λ switches. λ before tells.
    subst (λ k. Tells new ((act.place, act_from k act) ∷ before)) (sym c.in-Switch.is)
    (tells-turned old mid new act before tells goes refl refl refl switches)) c.switch.ensures

pub returns-in-Waking : goal.returns-in-Waking
returns-in-Waking c =
    let act = c.args.act.now in
    let old = c.args.self.now in
    let goes = goes-on c.args.self.now.clock c.advance.new.self act.place c.some_task_waits-some_task_waits.result (nat_lt 0 old.waiting) c.some_task_waits-some_task_waits.ensures c.advance.ensures.latest c.advance.ensures.waited in
    let new : Summary = record { clock = c.advance.new.self; waiting = c.change.new.waiting; tasks = c.change.new.tasks; cpus = old.cpus } in
    let r = c.change.result in
    let same : to_z w32 (of_z w32 act.pid) ≡ act.pid = search rules in
    let finds : (found : (q : ℤ) → found_task c.change.new.tasks q ≡ changed_in (found_task old.tasks) changes.Awoken (to_z w32 (of_z w32 act.pid)) q) → (q : ℤ) → found_task c.change.new.tasks q ≡ changed_in (found_task old.tasks) changes.Awoken act.pid q =
    λ found q. found q ∙ ap (λ pid. changed_in (found_task old.tasks) changes.Awoken pid q) same in
    on_ok_weaker r (λ both. λ before tells.
    elim c.in-Waking.is [
      | inl is ↦ subst (λ k. Tells new ((act.place, act_from k act) ∷ before)) (sym is)
          (tells-woken old new act.place act.by act.pid before tells goes (finds both.0) both.1.0 both.1.1 refl)
      | inr is ↦ subst (λ k. Tells new ((act.place, act_from k act) ∷ before)) (sym is)
          (tells-created old new act.place act.by act.pid before tells goes (finds both.0) both.1.0 both.1.1 refl)
    ]) (on_ok_both _ _ r c.change.ensures.finds (on_ok_both _ _ r c.change.ensures.counts c.change.ensures.ordered))

pub returns-in-Wakeup : goal.returns-in-Wakeup
returns-in-Wakeup c =
    let act = c.args.act.now in
    let old = c.args.self.now in
    let goes = goes-on c.args.self.now.clock c.advance.new.self act.place c.some_task_waits-some_task_waits.result (nat_lt 0 old.waiting) c.some_task_waits-some_task_waits.ensures c.advance.ensures.latest c.advance.ensures.waited in
    let new : Summary = record { clock = c.advance.new.self; waiting = old.waiting; tasks = old.tasks; cpus = old.cpus } in
    λ before tells.
    subst (λ k. Tells new ((act.place, act_from k act) ∷ before)) (sym c.in-Wakeup.is)
    (tells-roused old new act.place act.by act.pid before tells goes refl refl refl)
