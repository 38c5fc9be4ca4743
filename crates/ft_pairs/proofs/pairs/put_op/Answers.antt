-- The operations that `get_mut` finds are those that the finite map has.
use Rattle.std.proofs.Common.{◌≡◌, sym, ap, subst, ◌∙◌, Some, None}
use Rattle.std.specs.FinMap as map
use Rattle.std.specs.FinMap.{get-empty}
use Rattle.std.proofs.lemmas.Result.{on_ok_weaker, on_err_weaker}
use Rattle.ft_fields.specs.Parts.{key_cmp}
use Rattle.ft_fields.specs.Orders.{key_cmp_total}
use Rattle.ft_fields.specs.Ties.{key_same}
use Rattle.ft_maps.specs.Seen.{seen, get-seen, seen-found, seen-kept}
use Rattle.ft_pairs.specs.Order.{at_cmp}
use Rattle.ft_pairs.specs.Edits.{with_op}
use Rattle.ft_pairs.specs.ByKey.{KeyOps, ChangesKey}
use Rattle.ft_pairs.proofs.Found.{found_in, changed, inserted}
use Rattle.ft_pairs.proofs.pairs.put_op.Goals as goal

pub put-requires : goal.put-requires
put-requires c = key_same

pub returns-in-Some-clause-ok : goal.returns-in-Some-clause-ok
returns-in-Some-clause-ok c =
    let m = c.args.by_key.now in
    let key = c.args.key in
    let ops = c.in-Some.sequence.now in
    let at : map.get (seen key_cmp m) key ≡ Some ops = get-seen key_cmp_total m key ∙ sym c.in-Some.ensures.value in
    on_ok_weaker c.insert.result (λ e.
    subst (ChangesKey key (with_op c.args.at c.args.op) (seen key_cmp m))
    (sym (seen-found key_cmp_total key_same m (c.get_mut.follows.lender c.insert.new.self) key ops c.insert.new.self c.in-Some.ensures.value (c.get_mut.follows.holds c.insert.new.self)))
    (changed (seen key_cmp m) key c.insert.new.self (with_op c.args.at c.args.op) (λ q.
    ap (λ (l : KeyOps). map.get l q) e ∙ inserted (seen key_cmp m) key ops c.args.at c.args.op (λ p. ap (λ held. found_in held p) (sym at)) q))) c.insert.ensures.ok

pub returns-in-Some-clause-err : goal.returns-in-Some-clause-err
returns-in-Some-clause-err c =
    on_err_weaker c.insert.result (λ e.
    seen-kept key_cmp_total key_same c.args.by_key.now (c.get_mut.follows.lender c.insert.new.self) c.args.key c.in-Some.sequence.now c.insert.new.self c.in-Some.ensures.value (c.get_mut.follows.holds c.insert.new.self) e) c.insert.ensures.err

pub returns-in_ok-insert-in-None-clause-ok : goal.returns-in_ok-insert-in-None-clause-ok
returns-in_ok-insert-in-None-clause-ok c =
    let m = c.args.by_key.now in
    let key = c.args.key in
    let none : map.get (seen key_cmp m) key ≡ None = get-seen key_cmp_total m key ∙ sym c.in-None.ensures.value in
    let ops : c.insert-in-None.new.self ≡ map.insert map.empty c.args.at c.args.op = c.in_ok-insert-in-None.ensures.ok ∙ ap (λ (l : KeyOps). map.insert l c.args.at c.args.op) c.new-sequence.ensures in
    on_ok_weaker c.put.result (λ e.
    subst (ChangesKey key (with_op c.args.at c.args.op) (seen key_cmp m))
    (sym (e ∙ ap (λ n. map.insert (seen key_cmp n) key c.insert-in-None.new.self) c.get_mut.follows.holds-at-none))
    (changed (seen key_cmp m) key c.insert-in-None.new.self (with_op c.args.at c.args.op) (λ q.
    ap (λ (l : KeyOps). map.get l q) ops ∙ inserted (seen key_cmp m) key map.empty c.args.at c.args.op (λ p. get-empty at_cmp p ∙ ap (λ held. found_in held p) (sym none)) q))) c.put.ensures.ok
