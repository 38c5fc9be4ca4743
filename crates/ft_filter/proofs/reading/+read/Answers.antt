use Rattle.std.proofs.Common.{◌≡◌, ◌-◌, ◌++◌, ◌∷◌, [], inl, inr, arith, refl, ap, ◌∙◌, map, Some, None, false, eqb, rules, length-append}
use Rattle.std.specs.List.{starts_with}
use Rattle.std.proofs.lemmas.Result.{err_from_is_err_and}
use Rattle.ft_filter.specs.FilterIs.{first_fails, behind_joint, tree_of_joint}
use Rattle.ft_filter.specs.Tree.{tree_of, trees}
use Rattle.ft_filter.proofs.Steps.{gives, gives_fault, no_room, not_of, enclosing, enclosed_so, negated_so, compared_so, alone, first_of, fails_behind, completes_first, completes_next, completes_all, fails_next}
use Rattle.ft_filter.proofs.reading.+read.Goals as goal

pub read_enclosed-returns-then-room-eq0-clause-reads :
    goal.read_enclosed-returns-then-room-eq0-clause-reads
read_enclosed-returns-then-room-eq0-clause-reads t c text is = inr (no_room c.args.source.event c.args.source.len c.args.room text c.args.behind.now 40 c.if-room-eq0.true is (inr refl))

pub read_enclosed-returns-in_err-inside-clause-reads :
    goal.read_enclosed-returns-in_err-inside-clause-reads
read_enclosed-returns-in_err-inside-clause-reads t c text is =
    let p = err_from_is_err_and c.from_residual.result c.from_residual.ensures.1 in
    rw (p.1, p.2) (gives_fault c.in_err-inside.field-0.0 (enclosing c.args.source.event c.args.source.len c.args.room (c.args.room - 1) text c.args.behind.now _ (omega (arith, c.if-room-eq0.false)) is) c.in_err-inside.ensures.reads)

pub read_enclosed-returns-clause-reads : goal.read_enclosed-returns-clause-reads
read_enclosed-returns-clause-reads t c text is =
    gives c.close_group.result (enclosed_so c.args.source.event c.args.source.len c.args.room (c.args.room - 1) text c.args.behind.now _ _ (omega (arith, c.if-room-eq0.false)) is c.in_ok-inside.ensures.reads) c.close_group.ensures.reads

pub read_joined-returns-in_err-first-clause-reads :
    goal.read_joined-returns-in_err-first-clause-reads
read_joined-returns-in_err-first-clause-reads t c =
    let p = err_from_is_err_and c.from_residual.result c.from_residual.ensures.1 in
    rw (p.1, p.2) (gives_fault c.in_err-first.field-0.0 (first_fails c.args.joint c.args.room c.args.text.now _) c.in_err-first.ensures.reads)

pub read_joined-returns-in-Some-clause-reads : goal.read_joined-returns-in-Some-clause-reads
read_joined-returns-in-Some-clause-reads t c =
    let is : behind_joint c.args.joint c.in_ok-first.first.rest.now ≡ Some c.in-Some.behind.now = search rules in
    gives c.read_more.result (first_of c.args.source.event c.args.source.len c.args.joint c.args.room c.args.text.now _ _ c.in_ok-first.ensures.reads) (c.read_more.ensures.reads _ is)

pub read_joined-returns-in-None-clause-reads : goal.read_joined-returns-in-None-clause-reads
read_joined-returns-in-None-clause-reads t c =
    let none : behind_joint c.args.joint c.in_ok-first.first.rest.now ≡ None = search rules in
    alone c.args.source.event c.args.source.len c.args.joint c.args.room c.args.text.now _ _ c.in_ok-first.ensures.reads none

pub read_more-returns-in_err-second-clause-reads :
    goal.read_more-returns-in_err-second-clause-reads
read_more-returns-in_err-second-clause-reads t c rest is =
    let p = err_from_is_err_and c.from_residual-in_err-second.result c.from_residual-in_err-second.ensures.1 in
    rw (p.1, p.2) (gives_fault c.in_err-second.field-0.0 (fails_behind c.args.source.event c.args.source.len c.args.joint c.args.room rest c.args.behind.now (tree_of c.args.first) _ is) c.in_err-second.ensures.reads)

pub read_more-loop-behind-init : goal.read_more-loop-behind-init
read_more-loop-behind-init t c = (
  tree_of c.in_ok-second.second.expr ∷ [],
  c.in_ok-add-2.ensures.ok ∙ ap (λ list. list ++ tree_of c.in_ok-second.second.expr ∷ []) (c.in_ok-add.ensures.ok ∙ ap (λ list. map tree_of list ++ tree_of c.args.first ∷ []) c.new-operands.ensures),
  omega arith,
  completes_first c.args.source.event c.args.source.len c.args.joint c.args.room c.args.behind.now _ _ c.in_ok-second.ensures.reads,
  c.in_ok-second.ensures.shorter,
)

pub read_more-returns-in_err-next-clause-reads : goal.read_more-returns-in_err-next-clause-reads
read_more-returns-in_err-next-clause-reads t c rest is =
    let p = err_from_is_err_and c.from_residual-in_err-next.result c.from_residual-in_err-next.ensures.1 in
    let next : behind_joint c.args.joint c.loop-behind.rest.now ≡ Some c.in-Some.behind.now = search rules in
    rw (p.1, p.2) (gives_fault c.in_err-next.field-0.0 (λ fails. fails_next c.args.source.event c.args.source.len c.args.joint c.args.room c.args.behind.now c.loop-behind.rest.now c.in-Some.behind.now _ _ c.loop-behind.invariant.3 next fails rest is (tree_of c.args.first)) c.in_err-next.ensures.reads)

pub read_more-loop-behind-preserved : goal.read_more-loop-behind-preserved
read_more-loop-behind-preserved t c =
    let inv = c.loop-behind.invariant in
    let next : behind_joint c.args.joint c.loop-behind.rest.now ≡ Some c.in-Some.behind.now = search rules in (
      inv.0 ++ tree_of c.in_ok-next.next.expr ∷ [],
      c.in_ok-add-3.ensures.ok ∙ ap (λ list. list ++ tree_of c.in_ok-next.next.expr ∷ []) inv.1,
      omega (arith, inv.2, length-append inv.0 (tree_of c.in_ok-next.next.expr ∷ [])),
      completes_next c.args.source.event c.args.source.len c.args.joint c.args.room c.args.behind.now c.loop-behind.rest.now c.in-Some.behind.now _ inv.0 _ inv.3 next c.in_ok-next.ensures.reads,
      omega (arith, inv.4, c.in-Some.ensures.shorter, c.in_ok-next.ensures.shorter),
    )

pub read_more-returns-clause-reads : goal.read_more-returns-clause-reads
read_more-returns-clause-reads t c rest is =
    let inv = c.loop-behind.invariant in
    let none : behind_joint c.args.joint c.loop-behind.rest.now ≡ None = search rules in
    completes_all c.args.source.event c.args.source.len c.args.joint c.args.room c.args.behind.now c.loop-behind.rest.now inv.0 inv.3 none rest is (tree_of c.args.first) (tree_of c.join.result) inv.2
    (c.join.ensures ∙ ap (λ list. tree_of_joint c.args.joint (trees list)) inv.1)

pub read_not-returns-then-room-eq0-clause-reads : goal.read_not-returns-then-room-eq0-clause-reads
read_not-returns-then-room-eq0-clause-reads t c text is = inr (no_room c.args.source.event c.args.source.len c.args.room text c.args.behind.now 33 c.if-room-eq0.true is (inl refl))

pub read_not-returns-in_err-operand-clause-reads :
    goal.read_not-returns-in_err-operand-clause-reads
read_not-returns-in_err-operand-clause-reads t c text is =
    let p = err_from_is_err_and c.from_residual.result c.from_residual.ensures.1 in
    rw (p.1, p.2) (gives_fault c.in_err-operand.field-0.0 (not_of c.args.source.event c.args.source.len c.args.room (c.args.room - 1) text c.args.behind.now _ (omega (arith, c.if-room-eq0.false)) is) c.in_err-operand.ensures.reads)

pub read_not-returns-clause-reads : goal.read_not-returns-clause-reads
read_not-returns-clause-reads t c text is =
    gives c.negate.result (negated_so c.args.source.event c.args.source.len c.args.room (c.args.room - 1) text c.args.behind.now _ _ (omega (arith, c.if-room-eq0.false)) is c.in_ok-operand.ensures.reads) c.negate.ensures.reads

pub read_operand-returns-clause-reads : goal.read_operand-returns-clause-reads
read_operand-returns-clause-reads t c =
    let no_not : starts_with eqb c.skip-text.result.now (33 ∷ []) ≡ false = search rules in
    let no_paren : starts_with eqb c.skip-text.result.now (40 ∷ []) ≡ false = search rules in
    gives c.read_predicate.result (compared_so c.args.source.event c.args.source.len c.args.room c.args.text.now c.skip-text.result.now c.skip-text.ensures.value no_not no_paren) c.read_predicate.ensures.reads

pub read_below-returns-in-Or-clause-reads : goal.read_below-returns-in-Or-clause-reads
read_below-returns-in-Or-clause-reads t c = search rules
