use Rattle.std.proofs.Common.{to_z, of_z, w32, ap, arith, ◌∙◌, subst, sym, refl}
use Rattle.std.proofs.lemmas.Int.{to_z-of_z}
use Rattle.std.specs.Option.{IsSome}
use Rattle.ft_summary.specs.Waiting.{is_counted}
use Rattle.ft_summary.specs.inner.Changes.{number_waiting, count_after, standing_waits}
use Rattle.ft_summary.specs.declared.tasks.Task.{Task}
use Rattle.ft_summary.proofs.Counting.{count-changed, few, recount}
use Rattle.ft_summary.proofs.Written.{found-changed}
use Rattle.ft_summary.proofs.tasks.change.Goals as goal

pub returns-in-Some-clause-finds : goal.returns-in-Some-clause-finds
returns-in-Some-clause-finds c = λ q.
    let new = c.change.new.self in
    let stored = to_z w32 (of_z w32 c.args.pid) in
    let written = ((c.get_mut.follows.holds new).3 (subst IsSome c.in-Some.ensures.value refl)).0 (record { pid = q }) in
    found-changed c.args.tasks.now (c.get_mut.follows.lender new) stored c.args.pid q c.in-Some.standing.now new c.args.change
    (to_z-of_z w32 c.args.pid c.ranges.pid) (ap is_counted (sym (to_z-of_z w32 c.args.pid c.ranges.pid)) ∙ sym c.is_counted.ensures ∙ c.if-not-is_counted.false) c.in-Some.ensures.value c.change.ensures written

pub returns-in-Some-clause-counts : goal.returns-in-Some-clause-counts
returns-in-Some-clause-counts c = λ same.
    let old = c.args.tasks.now in
    let value = c.change.new.self in
    let new = c.get_mut.follows.lender value in
    let was = c.in-Some.standing.now in
    let key : Task = record { pid = to_z w32 (of_z w32 c.args.pid) } in
    let len = (c.get_mut.follows.holds value).2 in
    c.count_after.ensures ∙ ap (λ a. count_after c.args.waiting.now a c.waits.result) c.waits-waited.ensures
    ∙ ap (count_after c.args.waiting.now (standing_waits was)) c.waits.ensures
    ∙ recount c.args.waiting.now (number_waiting old) (number_waiting new) (standing_waits was) (standing_waits value) same
    (count-changed old new key was value (c.get_mut.follows.holds value).0 c.in-Some.ensures.value)
    (few new (omega (arith, len, c.len.ensures.len, c.len.ensures.small)))
