-- The entry that `get_mut` finds is the one that the finite map has.
use Rattle.std.proofs.Common.{◌≡◌, sym, ◌∙◌, ap, unwrap_or, Some, None, Option}
use Rattle.ft_maps.specs.Entries.{entries-empty}
use Rattle.ft_hits.specs.Spots.{spot_cmp}
use Rattle.std.specs.Prelude.{List, ℤ, option_and_then, IfSome, MatchOption}
use Rattle.std.specs.FinMap as map
use Rattle.std.proofs.lemmas.Option.{none-some}
use Rattle.std.proofs.lemmas.Result.{IfOk-weaker, on_err_weaker}
use Rattle.ft_hits.specs.declared.spot.Spot.{Spot}
use Rattle.ft_fields.specs.Parts.{key_cmp}
use Rattle.ft_maps.specs.Seen.{seen, get-seen, seen-found, seen-kept}
use Rattle.ft_hits.specs.ByKey.{flat}
use Rattle.ft_hits.specs.Marks.{mark_of}
use Rattle.ft_hits.specs.Hits.{EntryHits, least_key}
use Rattle.ft_fields.specs.Orders.{key_cmp_total}
use Rattle.ft_fields.specs.Ties.{key_same}
use Rattle.ft_hits.proofs.Flat.{get-flat, flat-insert, hits_of-flat}
use Rattle.ft_hits.proofs.entry.put_behind.Goals as goal

either : {A B C D : Type 0} (o : Option Spot) → (A → C) → (B → D) → MatchOption o A (λ _. B) → MatchOption o C (λ _. D)
either None f g h = f h
either (Some spot) f g h = g h

told : {P Q : Spot → Type 0} (o : Option Spot) → ((spot : Spot) → P spot → Q spot) → IfSome o P → IfSome o Q
told None f h = tt
told (Some spot) f h = f spot h

pub insert_behind-requires : goal.insert_behind-requires
insert_behind-requires c =
    let m = c.args.by_key.now in
    let at : map.get (seen key_cmp m) c.args.hit.now.key ≡ Some c.in-Some.entry.now = get-seen key_cmp_total m c.args.hit.now.key ∙ sym c.in-Some.ensures.value in
    sym (ap (option_and_then (λ entry. map.get entry c.args.hit.now.spot)) at) ∙ sym (get-flat (seen key_cmp m) (mark_of c.args.hit.now)) ∙ c.requires

pub returns-in-Some-clause-ok : goal.returns-in-Some-clause-ok
returns-in-Some-clause-ok c =
    let m = c.args.by_key.now in
    let key = c.args.hit.now.key in
    let at : map.get (seen key_cmp m) key ≡ Some c.in-Some.entry.now = get-seen key_cmp_total m key ∙ sym c.in-Some.ensures.value in
    IfOk-weaker c.insert_behind.result _ _ (λ o. either o
    (λ e. ap flat (seen-kept key_cmp_total key_same m (c.get_mut.follows.lender c.insert_behind.new.self) key c.in-Some.entry.now c.insert_behind.new.self c.in-Some.ensures.value (c.get_mut.follows.holds c.insert_behind.new.self) e))
    (λ e. ap flat (seen-found key_cmp_total key_same m (c.get_mut.follows.lender c.insert_behind.new.self) key c.in-Some.entry.now c.insert_behind.new.self c.in-Some.ensures.value (c.get_mut.follows.holds c.insert_behind.new.self)
    ∙ ap (map.insert (seen key_cmp m) key) (e ∙ ap (λ o. map.insert (unwrap_or o map.empty) c.args.hit.now.spot c.args.hit.now.values) (sym at)))
    ∙ flat-insert (seen key_cmp m) (mark_of c.args.hit.now) c.args.hit.now.values)) c.insert_behind.ensures.ok

pub returns-in-Some-clause-first : goal.returns-in-Some-clause-first
returns-in-Some-clause-first c =
    let m = c.args.by_key.now in
    let key = c.args.hit.now.key in
    let at : map.get (seen key_cmp m) key ≡ Some c.in-Some.entry.now = get-seen key_cmp_total m key ∙ sym c.in-Some.ensures.value in
    IfOk-weaker c.insert_behind.result _ _ (λ o. told o (λ spot is.
    ap (λ (l : EntryHits). least_key (map.entries l)) (hits_of-flat (seen key_cmp m) key ∙ ap (λ o. unwrap_or o map.empty) at) ∙ is)) c.insert_behind.ensures.first

pub returns-in-Some-clause-err : goal.returns-in-Some-clause-err
returns-in-Some-clause-err c =
    on_err_weaker c.insert_behind.result (λ e.
    ap flat (seen-kept key_cmp_total key_same c.args.by_key.now (c.get_mut.follows.lender c.insert_behind.new.self) c.args.hit.now.key c.in-Some.entry.now c.insert_behind.new.self c.in-Some.ensures.value (c.get_mut.follows.holds c.insert_behind.new.self) e)) c.insert_behind.ensures.err

pub returns-in-Some-clause-before : goal.returns-in-Some-clause-before
returns-in-Some-clause-before c =
    let m = c.args.by_key.now in
    let key = c.args.hit.now.key in
    let at : map.get (seen key_cmp m) key ≡ Some c.in-Some.entry.now = get-seen key_cmp_total m key ∙ sym c.in-Some.ensures.value in
    IfOk-weaker c.insert_behind.result _ _ (λ o before none spot is. before none spot
    (sym (ap (λ (l : EntryHits). least_key (map.entries l)) (hits_of-flat (seen key_cmp m) key ∙ ap (λ o. unwrap_or o map.empty) at)) ∙ is)) c.insert_behind.ensures.before

pub returns-in-None-clause-before : goal.returns-in-None-clause-before
returns-in-None-clause-before c _ spot is =
    let m = c.args.by_key.now in
    let key = c.args.hit.now.key in
    let at : map.get (seen key_cmp m) key ≡ None = get-seen key_cmp_total m key ∙ sym c.in-None.ensures.value in
    let none : least_key (map.entries {X = List ℤ} {R = spot_cmp} map.empty) ≡ None = ap (λ (es : List (Spot × List ℤ)). least_key es) (entries-empty {X = List ℤ} spot_cmp) in
    absurd (none-some spot (sym none ∙ sym (ap (λ (l : EntryHits). least_key (map.entries l)) (hits_of-flat (seen key_cmp m) key ∙ ap (λ o. unwrap_or o map.empty) at)) ∙ is))
