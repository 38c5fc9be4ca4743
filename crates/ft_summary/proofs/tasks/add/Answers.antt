use Rattle.std.proofs.Common.{to_z, of_z, w32, ap, arith, false, ◌∙◌}
use Rattle.std.proofs.lemmas.Int.{to_z-of_z}
use Rattle.ft_summary.specs.inner.Changes.{changed, found_task, none, number_waiting, count_after, standing_waits}
use Rattle.ft_summary.specs.declared.standing.Standing.{Standing}
use Rattle.ft_summary.specs.declared.tasks.Task.{Task}
use Rattle.ft_summary.proofs.Counting.{count-added, few, recount}
use Rattle.ft_summary.proofs.Written.{found-written}
use Rattle.ft_summary.proofs.tasks.add.Goals as goal

pub returns-clause-finds : goal.returns-clause-finds
returns-clause-finds c = λ q.
    let stored = to_z w32 (of_z w32 c.args.pid) in
    found-written c.args.tasks.now c.insert.new.self stored c.args.pid q c.change.new.self (changed c.args.change (none c.args.pid)) (to_z-of_z w32 c.args.pid c.ranges.pid)
    (c.change.ensures ∙ ap (λ (s : Standing). changed c.args.change s) c.none-standing.ensures ∙ ap (λ p. changed c.args.change (none p)) (to_z-of_z w32 c.args.pid c.ranges.pid))
    (c.in_ok-insert.ensures.updates.0 (record { pid = q }))

pub returns-clause-counts : goal.returns-clause-counts
returns-clause-counts c = λ same.
    let old = c.args.tasks.now in
    let new = c.insert.new.self in
    let value = c.change.new.self in
    let stored = to_z w32 (of_z w32 c.args.pid) in
    let key : Task = record { pid = stored } in
    let absent = ap (found_task old) (to_z-of_z w32 c.args.pid c.ranges.pid) ∙ c.requires.new in
    c.count_after.ensures ∙ ap (count_after c.args.waiting.now false) c.waits.ensures
    ∙ recount c.args.waiting.now (number_waiting old) (number_waiting new) false (standing_waits value) same
    (count-added old new key value c.in_ok-insert.ensures.entries c.in_ok-insert.ensures.was_ordered absent)
    (few new (omega (arith, c.len.ensures.len, c.len.ensures.small)))
