use Rattle.std.proofs.Common.{sym, length, refl}
use Rattle.std.proofs.lemmas.Bool.{eqb-true}
use Rattle.ft_text.specs.inner.Walk.{ReadsAsMembers}
use Rattle.ft_text.proofs.Readings.{reads_byte, reads_class, reads_none, reads_empty, reads_unread, some_inside}
use Rattle.ft_text.proofs.globs.behind_item.Goals as goal
use Rattle.ft_text.proofs.globs.behind_item.Goals.{else-not-is_empty-via-then-not-is_empty+else-are_members, else-not-is_empty-via-else-not-is_empty}

pub returns-then-first-ne91-clause-found : goal.returns-then-first-ne91-clause-found
returns-then-first-ne91-clause-found c = reads_byte c.args.first c.args.behind.now c.if-first-ne91.true

pub returns-then-are_members-clause-found : goal.returns-then-are_members-clause-found
returns-then-are_members-clause-found c =
    let some = some_inside c.in-Some.class.inside.now c.if-not-is_empty.ensures in
    rw c.if-first-ne91.false (reads_class c.args.behind.now c.in-Some.class.inside.now c.in-Some.class.rest.now c.in-Some.class.negated c.in-Some.ensures.found some (c.if-are_members.ensures.0 refl))

pub returns-else-not-is_empty-clause-none : goal.returns-else-not-is_empty-clause-none
returns-else-not-is_empty-clause-none c = rw c.if-first-ne91.false (elim c.else-not-is_empty.branch [
  | else-not-is_empty-via-then-not-is_empty+else-are_members w ↦
      let unread : ReadsAsMembers c.in-Some.class.inside.now → ⊥ = λ h. let f = w.if-are_members.ensures.1 h in absurd cc in
      reads_unread c.args.behind.now c.in-Some.class.inside.now c.in-Some.class.rest.now c.in-Some.class.negated c.in-Some.ensures.found unread
  | else-not-is_empty-via-else-not-is_empty w ↦
      reads_empty c.args.behind.now c.in-Some.class.inside.now c.in-Some.class.rest.now c.in-Some.class.negated c.in-Some.ensures.found (eqb-true (length c.in-Some.class.inside.now) 0 (sym w.if-not-is_empty.ensures))
])

pub returns-in-None-clause-none : goal.returns-in-None-clause-none
returns-in-None-clause-none c = rw c.if-first-ne91.false (reads_none c.args.behind.now c.in-None.ensures.none)
