-- The order and the counts, without the hit but before its key was moved.
use Rattle.std.proofs.Common.{◌≡◌, ℕ, false, true, Bool, cond, List, refl, sym, ap, subst, ◌∙◌, Some, None, Option}
use Rattle.std.specs.Prelude.{ℤ, is_some}
use Rattle.std.specs.List.{Contains}
use Rattle.std.specs.FinMap as map
use Rattle.std.specs.FinMap.{get-remove}
use Rattle.std.specs.Ordering.{eq_by_cmp}
use Rattle.std.specs.declared.cmp.Ordering.TheVariants.{Less}
use Rattle.std.proofs.lemmas.Option.{none-some}
use Rattle.ft_fields.specs.declared.key.Part.{Part}
use Rattle.ft_hits.specs.declared.spot.Spot.{Spot}
use Rattle.ft_hits.specs.declared.mark.Mark.{Mark}
use Rattle.ft_hits.specs.Marks.{mark_cmp, mark_cmp_total}
use Rattle.ft_hits.specs.Spots.{spot_cmp}
use Rattle.ft_hits.specs.Hits.{Hits, hitcount, first_place}
use Rattle.ft_hits.proofs.Flat.{mark}
use Rattle.ft_table.specs.inner.Ascending.{IsRank}
use Rattle.ft_table.specs.inner.Cut.{IsSplit}
use Rattle.ft_table.specs.inner.Moves.{order_before, with_more}
use Rattle.ft_table.specs.inner.Ordered.{Ordered}
use Rattle.ft_table.specs.Tabled.{order_of}
use Rattle.ft_table.proofs.Firsts.{first_is_hit, no_first, order-some}
use Rattle.ft_table.proofs.Changes.{remove-beside, remove-none, counts-more, order-before, order_before-beside}
use Rattle.ft_table.proofs.OneKeys.{first_least}
use Rattle.ft_table.proofs.Splits.{resplit}
use Rattle.ft_table.proofs.Standings.{stands}
use Rattle.ft_table.proofs.ranked.Ranked.drop_hit.Goals as goal

before : (hits : Hits) (m : Mark) (order : List Mark) (o : Option Spot) → order ≡ order_of hits → first_place hits m.key ≡ o → (after : Hits) → after ≡ map.remove hits m → order ≡ order_before after m.key o
before hits m order o is first after e =
    is ∙ order-before hits m.key o first ∙ sym (order_before-beside hits (map.remove hits m) m.key o (remove-beside hits m)) ∙ ap (λ (h : Hits). order_before h m.key o) (sym e)

-- a first hit that is left isn't before the one that was first
late : (hits after : Hits) (m : Mark) (old new : Spot) → after ≡ map.remove hits m → first_place hits m.key ≡ Some old → first_place after m.key ≡ Some new → spot_cmp new old ≡ Less → ⊥
late hits after m old new e was is less =
    let held = first_is_hit after m.key new is in
    let here : map.get (map.remove hits m) (mark new m.key) ≡ Some held.0 = ap (λ (h : Hits). map.get h (mark new m.key)) (sym e) ∙ held.1 in
    let all : map.get hits (mark new m.key) ≡ Some held.0 = still (eq_by_cmp mark_cmp (mark new m.key) m) (map.get hits (mark new m.key)) held.0 (sym (get-remove mark_cmp_total hits m (mark new m.key)) ∙ here) in
    first_least hits m.key old new held.0 was all less where
      still : (b : Bool) (o : Option (List ℤ)) (v : List ℤ) → cond b None o ≡ Some v → o ≡ Some v
      still true o v is = absurd (none-some v is)
      still false o v is = is

pub standing-standing-requires : goal.standing-standing-requires
standing-standing-requires c =
    let first = sym c.first_at.ensures ∙ c.in-Some.is in
    subst (λ ms. Contains ms (mark c.in-Some.spot c.args.mark.key)) (sym (c.requires.order ∙ order-some c.args.hits.now c.args.mark.key c.in-Some.spot first)) (stands c.args.hits.now (mark c.in-Some.spot c.args.mark.key) 0)

pub returns-in-None-clause-hits : goal.returns-in-None-clause-hits
returns-in-None-clause-hits c =
    let hits : Hits = c.args.hits.now in
    sym (remove-none hits c.args.mark (ap is_some (no_first hits c.args.mark.key (sym c.first_at.ensures ∙ c.in-None.is) c.args.mark.spot)))

pub count_down-requires-clause-inside : goal.count_down-requires-clause-inside
count_down-requires-clause-inside c i at =
    c.standing-standing.ensures.inside i (subst (λ ms. IsRank mark_cmp ms (mark c.in-Some.spot c.args.mark.key) i)
    (sym (before c.args.hits.now c.args.mark c.args.self.now.order.marks (Some c.in-Some.spot) c.requires.order (sym c.first_at.ensures ∙ c.in-Some.is) c.take_hit.new.self c.take_hit.ensures.left)) at)

pub count_down-requires-clause-cut : goal.count_down-requires-clause-cut
count_down-requires-clause-cut c =
    let hits : Hits = c.args.hits.now in
    let counts : hitcount hits ≡ with_more (hitcount c.take_hit.new.self) c.args.mark.key =
    counts-more hits c.args.mark (sym c.take_hit.ensures.found ∙ c.if-take_hit.true) ∙ ap (λ (h : Hits). with_more (hitcount h) c.args.mark.key) (sym c.take_hit.ensures.left) in
    resplit (with_more (hitcount c.take_hit.new.self) c.args.mark.key)
    (subst (λ (count : List Part → ℕ). IsSplit count c.args.self.now.order.size c.args.self.now.order.marks c.args.self.now.hits c.args.self.now.dropped) counts c.requires.cut) refl
    (sym (before c.args.hits.now c.args.mark c.args.self.now.order.marks (Some c.in-Some.spot) c.requires.order (sym c.first_at.ensures ∙ c.in-Some.is) c.take_hit.new.self c.take_hit.ensures.left)) refl refl

pub settle-requires-clause-order : goal.settle-requires-clause-order
settle-requires-clause-order c =
    ap (λ (o : Ordered). o.marks) c.count_down.ensures.order
    ∙ before c.args.hits.now c.args.mark c.args.self.now.order.marks (Some c.in-Some.spot) c.requires.order (sym c.first_at.ensures ∙ c.in-Some.is) c.take_hit.new.self c.take_hit.ensures.left

pub settle-requires-clause-cut : goal.settle-requires-clause-cut
settle-requires-clause-cut c =
    resplit (hitcount c.take_hit.new.self) c.count_down.ensures.cut refl
    (ap (λ (o : Ordered). o.marks) c.count_down.ensures.order
    ∙ before c.args.hits.now c.args.mark c.args.self.now.order.marks (Some c.in-Some.spot) c.requires.order (sym c.first_at.ensures ∙ c.in-Some.is) c.take_hit.new.self c.take_hit.ensures.left) refl refl

pub settle-requires-clause-late : goal.settle-requires-clause-late
settle-requires-clause-late c spot is less =
    late c.args.hits.now c.take_hit.new.self c.args.mark c.in-Some.spot spot c.take_hit.ensures.left (sym c.first_at.ensures ∙ c.in-Some.is) is less

same : (hits after : Hits) (m : Mark) → after ≡ map.remove hits m → map.contains_key hits m ≡ false → hits ≡ after
same hits after m is none = sym (is ∙ remove-none hits m none)

pub returns-else-take_hit-clause-order : goal.returns-else-take_hit-clause-order
returns-else-take_hit-clause-order c =
    c.requires.order ∙ ap order_of (same c.args.hits.now c.take_hit.new.self c.args.mark c.take_hit.ensures.left (sym c.take_hit.ensures.found ∙ c.if-take_hit.false))

pub returns-else-take_hit-clause-cut : goal.returns-else-take_hit-clause-cut
returns-else-take_hit-clause-cut c =
    subst (λ (h : Hits). IsSplit (hitcount h) c.args.self.now.order.size c.args.self.now.order.marks c.args.self.now.hits c.args.self.now.dropped)
    (same c.args.hits.now c.take_hit.new.self c.args.mark c.take_hit.ensures.left (sym c.take_hit.ensures.found ∙ c.if-take_hit.false)) c.requires.cut
