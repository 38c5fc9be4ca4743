use Rattle.std.proofs.Common.{rules, ◌≡◌, ◌+◌, ◌++◌, suc, sym, subst, ap, ◌∙◌, arith, drop, Some, None}
use Rattle.std.specs.Prelude.{◌≢◌}
use Rattle.std.specs.declared.cmp.Ordering.TheVariants.{Less}
use Rattle.ft_blocks.specs.Sorted.{StartsAt, first_entry}
use Rattle.ft_blocks.specs.Blocks.{joined}
use Rattle.ft_blocks.specs.inner.Moves.{all_behind}
use Rattle.ft_blocks.proofs.Cuts.{not_less}
use Rattle.ft_blocks.proofs.Shifts.{behind_block, behind_none, starts_some, starts_none}
use Rattle.ft_blocks.proofs.moves.next_below.Goals as goal

pub returns-then-at-blocks-clause-none : goal.returns-then-at-blocks-clause-none
returns-then-at-blocks-clause-none g c h =
    subst (StartsAt g.K.Ord.cmp c.args.key.now) (sym (behind_none c.args.blocks.now c.args.last.now c.args.at c.if-at-blocks.true)) tt

pub returns-in-None-clause-none : goal.returns-in-None-clause-none
returns-in-None-clause-none g c h =
    let bs = c.args.blocks.now in
    let next : c.args.at + 1 ≡ suc c.args.at = omega arith in
    let first : first_entry (all_behind bs c.args.last.now c.args.at) ≡ None =
    ap first_entry (behind_block bs c.args.last.now c.args.at c.if-at-blocks.false)
    ∙ ap (λ n. first_entry (joined (drop n bs) ++ c.args.last.now)) (sym next) ∙ sym c.first_from.ensures ∙ c.in-None.is
    in
    starts_none g.K.Ord.cmp c.args.key.now (all_behind bs c.args.last.now c.args.at) first

pub returns-then-is_lt-clause-first : goal.returns-then-is_lt-clause-first
returns-then-is_lt-clause-first g c =
    let bs = c.args.blocks.now in
    let next : c.args.at + 1 ≡ suc c.args.at = omega arith in
    ap first_entry (behind_block bs c.args.last.now c.args.at c.if-at-blocks.false)
    ∙ ap (λ n. first_entry (joined (drop n bs) ++ c.args.last.now)) (sym next) ∙ sym c.first_from.ensures ∙ c.in-Some.is

pub returns-else-is_lt-clause-none : goal.returns-else-is_lt-clause-none
returns-else-is_lt-clause-none g c h =
    let bs = c.args.blocks.now in
    let e = c.in-Some.next in
    let next : c.args.at + 1 ≡ suc c.args.at = omega arith in
    let first : first_entry (all_behind bs c.args.last.now c.args.at) ≡ Some e =
    ap first_entry (behind_block bs c.args.last.now c.args.at c.if-at-blocks.false)
    ∙ ap (λ n. first_entry (joined (drop n bs) ++ c.args.last.now)) (sym next) ∙ sym c.first_from.ensures ∙ c.in-Some.is
    in
    let n : g.K.Ord.cmp e.0 c.args.key.now ≢ Less = not_less _ (search rules) in
    starts_some g.K.Ord.cmp c.args.key.now (all_behind bs c.args.last.now c.args.at) e first n
