-- The operations that `get_mut` finds are those that the finite map has.
use Rattle.std.proofs.Common.{◌≡◌, ◌⊎◌, sym, ap, subst, ◌∙◌, Some, None}
use Rattle.std.specs.FinMap as map
use Rattle.std.specs.FinMap.{get-empty}
use Rattle.std.proofs.lemmas.Result.{IfOk-weaker, on_err_weaker}
use Rattle.ft_fields.specs.Parts.{key_cmp}
use Rattle.ft_fields.specs.Orders.{key_cmp_total}
use Rattle.ft_fields.specs.Ties.{key_same}
use Rattle.ft_maps.specs.Seen.{seen, get-seen, seen-found}
use Rattle.ft_maps.specs.Entries.{get-insert_same}
use Rattle.ft_pairs.specs.Order.{at_cmp}
use Rattle.ft_pairs.specs.Source.{Ops}
use Rattle.ft_pairs.specs.Runs.{with_reads, FindEach}
use Rattle.ft_pairs.specs.ByKey.{KeyOps, OpsByKey, ChangesKey, PartlyChangesKey}
use Rattle.ft_pairs.proofs.Found.{found_in, changed, at_key}
use Rattle.ft_pairs.proofs.Partly.{partly_changed}
use Rattle.ft_pairs.proofs.pairs.read_key.Goals as goal

pub put-requires : goal.put-requires
put-requires c = key_same

pub returns-in-Some-clause-ok : goal.returns-in-Some-clause-ok
returns-in-Some-clause-ok c =
    let m = c.args.by_key.now in
    let key = c.args.key in
    let reads = c.args.reads.now in
    let new = c.put_reads.new.self in
    let at : map.get (seen key_cmp m) key ≡ Some c.in-Some.sequence.now = get-seen key_cmp_total m key ∙ sym c.in-Some.ensures.value in
    IfOk-weaker c.put_reads.result _ _ (λ _ put.
    subst (ChangesKey key (with_reads reads) (seen key_cmp m))
    (sym (seen-found key_cmp_total key_same m (c.get_mut.follows.lender new) key c.in-Some.sequence.now new c.in-Some.ensures.value (c.get_mut.follows.holds new)))
    (changed (seen key_cmp m) key new (with_reads reads) (λ q. put q ∙ ap (λ held. with_reads reads (found_in held) q) (sym at)))) c.put_reads.ensures.ops

pub returns-in-Some-clause-found : goal.returns-in-Some-clause-found
returns-in-Some-clause-found c =
    let m = c.args.by_key.now in
    let key = c.args.key in
    let new = c.put_reads.new.self in
    let at : map.get (seen key_cmp (c.get_mut.follows.lender new)) key ≡ Some new =
    ap (λ (l : OpsByKey). map.get l key) (seen-found key_cmp_total key_same m (c.get_mut.follows.lender new) key c.in-Some.sequence.now new c.in-Some.ensures.value (c.get_mut.follows.holds new))
    ∙ get-insert_same key_cmp_total (seen key_cmp m) key new in
    IfOk-weaker c.put_reads.result _ _ (λ found finds.
    subst (λ (ops : Ops). FindEach ops c.args.reads.now found.items) (sym (at_key (seen key_cmp (c.get_mut.follows.lender new)) key (Some new) at)) finds) c.put_reads.ensures.found

pub returns-in_ok-put-in-None-clause-ok : goal.returns-in_ok-put-in-None-clause-ok
returns-in_ok-put-in-None-clause-ok c =
    let m = c.args.by_key.now in
    let key = c.args.key in
    let reads = c.args.reads.now in
    let new = c.put_reads-in-None.new.self in
    let none : map.get (seen key_cmp m) key ≡ None = get-seen key_cmp_total m key ∙ sym c.in-None.ensures.value in
    subst (ChangesKey key (with_reads reads) (seen key_cmp m))
    (sym (c.in_ok-put-in-None.ensures.ok ∙ ap (λ n. map.insert (seen key_cmp n) key new) c.get_mut.follows.holds-at-none))
    (changed (seen key_cmp m) key new (with_reads reads) (λ q.
    c.in_ok-found-in-None.ensures.ops q
    ∙ ap (λ (ops : Ops). with_reads reads ops q) (ap (λ (l : KeyOps). map.get l) c.new-sequence.ensures ∙ (λ i p. get-empty at_cmp p i) ∙ ap found_in (sym none))))

pub returns-in_ok-put-in-None-clause-found : goal.returns-in_ok-put-in-None-clause-found
returns-in_ok-put-in-None-clause-found c =
    let key = c.args.key in
    let new = c.put_reads-in-None.new.self in
    let at : map.get (seen key_cmp c.put.new.map) key ≡ Some new =
    ap (λ (l : OpsByKey). map.get l key) c.in_ok-put-in-None.ensures.ok ∙ get-insert_same key_cmp_total _ key new in
    subst (λ (ops : Ops). FindEach ops c.args.reads.now c.in_ok-found-in-None.found.items) (sym (at_key (seen key_cmp c.put.new.map) key (Some new) at)) c.in_ok-found-in-None.ensures.found

pub returns-in-Some-clause-err : goal.returns-in-Some-clause-err
returns-in-Some-clause-err c =
    let m = c.args.by_key.now in
    let key = c.args.key in
    let reads = c.args.reads.now in
    let new = c.put_reads.new.self in
    let at : map.get (seen key_cmp m) key ≡ Some c.in-Some.sequence.now = get-seen key_cmp_total m key ∙ sym c.in-Some.ensures.value in
    on_err_weaker c.put_reads.result (λ put.
    subst (PartlyChangesKey key (with_reads reads) (seen key_cmp m))
    (sym (seen-found key_cmp_total key_same m (c.get_mut.follows.lender new) key c.in-Some.sequence.now new c.in-Some.ensures.value (c.get_mut.follows.holds new)))
    (partly_changed (seen key_cmp m) key new (with_reads reads) (λ q.
    subst (λ (ops : Ops). (map.get new q ≡ ops q) ⊎ (map.get new q ≡ with_reads reads ops q)) (ap found_in (sym at)) (put q)))) c.put_reads.ensures.err
