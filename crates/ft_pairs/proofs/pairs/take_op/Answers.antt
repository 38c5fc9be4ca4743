-- The operations that `get_mut` finds are those that the finite map has.
use Rattle.std.proofs.Common.{◌≡◌, sym, ap, subst, ◌∙◌, Some, None}
use Rattle.std.specs.FinMap as map
use Rattle.ft_fields.specs.Parts.{key_cmp}
use Rattle.ft_fields.specs.Orders.{key_cmp_total}
use Rattle.ft_fields.specs.Ties.{key_same}
use Rattle.ft_maps.specs.Seen.{seen, get-seen, seen-found}
use Rattle.ft_pairs.specs.Edits.{without_op}
use Rattle.ft_pairs.specs.ByKey.{KeyOps, ops_of, ChangesKey}
use Rattle.ft_pairs.proofs.Found.{found_in, changed, kept, removed, none_removed}
use Rattle.ft_pairs.proofs.pairs.take_op.Goals as goal

pub returns-in-Some : goal.returns-in-Some
returns-in-Some c =
    let m = c.args.by_key.now in
    let key = c.args.key.now in
    let ops = c.in-Some.sequence.now in
    let at : map.get (seen key_cmp m) key ≡ Some ops = get-seen key_cmp_total m key ∙ sym c.in-Some.ensures.value in
    subst (ChangesKey key (without_op c.args.at) (seen key_cmp m))
    (sym (seen-found key_cmp_total key_same m (c.get_mut.follows.lender c.remove.new.self) key ops c.remove.new.self c.in-Some.ensures.value (c.get_mut.follows.holds c.remove.new.self)))
    (changed (seen key_cmp m) key c.remove.new.self (without_op c.args.at) (λ q.
    ap (λ (l : KeyOps). map.get l q) c.remove.ensures ∙ removed (seen key_cmp m) key ops c.args.at (λ p. ap (λ held. found_in held p) (sym at)) q))

pub returns-in-None : goal.returns-in-None
returns-in-None c =
    let m = c.args.by_key.now in
    let key = c.args.key.now in
    let none : map.get (seen key_cmp m) key ≡ None = get-seen key_cmp_total m key ∙ sym c.in-None.ensures.value in
    subst (ChangesKey key (without_op c.args.at) (seen key_cmp m)) (sym (ap (seen key_cmp) c.get_mut.follows.holds-at-none))
    (kept (seen key_cmp m) key (without_op c.args.at) (λ q. none_removed (ops_of (seen key_cmp m) key) c.args.at q (ap (λ held. found_in held q) none)))
