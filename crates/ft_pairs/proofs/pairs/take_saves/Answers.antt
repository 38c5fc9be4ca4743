-- The operations that `get_mut` finds are those that the finite map has.
use Rattle.std.proofs.Common.{◌≡◌, sym, ap, subst, ◌∙◌, Some, None}
use Rattle.std.specs.FinMap as map
use Rattle.ft_fields.specs.Parts.{key_cmp}
use Rattle.ft_fields.specs.Orders.{key_cmp_total}
use Rattle.ft_fields.specs.Ties.{key_same}
use Rattle.ft_maps.specs.Seen.{seen, get-seen, seen-found}
use Rattle.ft_pairs.specs.Edits.{reads_alone, if_read}
use Rattle.ft_pairs.specs.ByKey.{ops_of, ChangesKey}
use Rattle.ft_pairs.proofs.Found.{found_in, changed, kept, no_saves}
use Rattle.ft_pairs.proofs.pairs.take_saves.Goals as goal

pub returns-in-Some : goal.returns-in-Some
returns-in-Some c =
    let m = c.args.by_key.now in
    let key = c.args.key.now in
    let ops = c.in-Some.sequence.now in
    let at : map.get (seen key_cmp m) key ≡ Some ops = get-seen key_cmp_total m key ∙ sym c.in-Some.ensures.value in
    subst (ChangesKey key reads_alone (seen key_cmp m))
    (sym (seen-found key_cmp_total key_same m (c.get_mut.follows.lender c.keep_reads.new.self) key ops c.keep_reads.new.self c.in-Some.ensures.value (c.get_mut.follows.holds c.keep_reads.new.self)))
    (changed (seen key_cmp m) key c.keep_reads.new.self reads_alone (λ q. c.keep_reads.ensures q ∙ ap (λ held. if_read (found_in held q)) (sym at)))

pub returns-in-None : goal.returns-in-None
returns-in-None c =
    let m = c.args.by_key.now in
    let key = c.args.key.now in
    let none : map.get (seen key_cmp m) key ≡ None = get-seen key_cmp_total m key ∙ sym c.in-None.ensures.value in
    subst (ChangesKey key reads_alone (seen key_cmp m)) (sym (ap (seen key_cmp) c.get_mut.follows.holds-at-none))
    (kept (seen key_cmp m) key reads_alone (λ q. no_saves (ops_of (seen key_cmp m) key q) (ap (λ held. found_in held q) none)))
