-- A hit after its key's first leaves the order as it is, and its key has one more.
use Rattle.std.proofs.Common.{◌≡◌, ℕ, List, refl, sym, ap, subst, ◌∙◌, arith, Some, Option}
use Rattle.std.specs.Prelude.{IfSome, MatchOption}
use Rattle.std.specs.List.{Contains}
use Rattle.std.specs.declared.cmp.Ordering.TheVariants.{Less}
use Rattle.std.specs.FinMap as map
use Rattle.ft_hits.specs.declared.spot.Spot.{Spot}
use Rattle.ft_hits.specs.Spots.{spot_cmp}
use Rattle.ft_hits.specs.Marks.{mark_cmp, mark_of}
use Rattle.ft_hits.specs.Hits.{Hits, hitcount, first_place}
use Rattle.ft_hits.proofs.Flat.{mark}
use Rattle.ft_fields.specs.declared.key.Part.{Part}
use Rattle.ft_table.specs.inner.Ascending.{IsRank}
use Rattle.ft_table.specs.inner.Cut.{IsSplit}
use Rattle.ft_table.specs.inner.Moves.{order_before, with_less}
use Rattle.ft_table.specs.inner.Ordered.{Ordered}
use Rattle.ft_table.specs.Tabled.{order_of}
use Rattle.ft_table.proofs.Appends.{order-behind}
use Rattle.ft_table.proofs.Changes.{count-insert, counts-less, order-before-insert}
use Rattle.ft_table.proofs.Firsts.{order-some}
use Rattle.ft_table.proofs.Splits.{resplit}
use Rattle.ft_table.proofs.Standings.{stands}
use Rattle.ft_table.proofs.ranked.Ranked.add_hit.Goals as goal

inserted : (A B : Type 0) (o : Option Spot) (spot : Spot) → o ≡ Some spot → MatchOption o A (λ _. B) → B
inserted A B o spot is h = subst (λ (o : Option Spot). MatchOption o A (λ _. B)) is h

at_some : (P : Spot → Type 0) (o : Option Spot) (spot : Spot) → o ≡ Some spot → IfSome o P → P spot
at_some P o spot is h = subst (λ (o : Option Spot). IfSome o P) is h

pub is_inside-inside-requires : goal.is_inside-inside-requires
is_inside-inside-requires c =
    let hits : Hits = c.args.hits.now in
    let key = c.args.hit.now.key in
    let first = at_some (λ at. first_place hits key ≡ Some at) c.in_ok-spot.field-0 c.in-Some.spot c.in-Some.is c.in_ok-spot.ensures.first in
    subst (λ ms. Contains ms (mark c.in-Some.spot key)) (sym (c.requires.order ∙ order-some hits key c.in-Some.spot first)) (stands hits (mark c.in-Some.spot key) 0)

pub count_up-requires-clause-inside : goal.count_up-requires-clause-inside
count_up-requires-clause-inside c i at =
    let hits : Hits = c.args.hits.now in
    let key = c.args.hit.now.key in
    let after : c.put_behind.new.self ≡ map.insert hits (mark_of c.args.hit.now) c.args.hit.now.values = inserted _ _ c.in_ok-spot.field-0 c.in-Some.spot c.in-Some.is c.in_ok-spot.ensures.ok in
    let first = at_some (λ at. first_place hits key ≡ Some at) c.in_ok-spot.field-0 c.in-Some.spot c.in-Some.is c.in_ok-spot.ensures.first in
    c.is_inside-inside.ensures i (subst (λ ms. IsRank mark_cmp ms (mark c.in-Some.spot key) i)
    (sym (c.requires.order ∙ order-before-insert hits (mark_of c.args.hit.now) c.args.hit.now.values (Some c.in-Some.spot) first ∙ ap (λ (h : Hits). order_before h key (Some c.in-Some.spot)) (sym after))) at)

pub count_up-requires-clause-cut : goal.count_up-requires-clause-cut
count_up-requires-clause-cut c =
    let hits : Hits = c.args.hits.now in
    let key = c.args.hit.now.key in
    let after : c.put_behind.new.self ≡ map.insert hits (mark_of c.args.hit.now) c.args.hit.now.values = inserted _ _ c.in_ok-spot.field-0 c.in-Some.spot c.in-Some.is c.in_ok-spot.ensures.ok in
    let first = at_some (λ at. first_place hits key ≡ Some at) c.in_ok-spot.field-0 c.in-Some.spot c.in-Some.is c.in_ok-spot.ensures.first in
    let counts : hitcount hits ≡ with_less (hitcount c.put_behind.new.self) key =
    counts-less hits (mark_of c.args.hit.now) c.args.hit.now.values c.requires.absent ∙ ap (λ (h : Hits). with_less (hitcount h) key) (sym after) in
    resplit (with_less (hitcount c.put_behind.new.self) key)
    (subst (λ (count : List Part → ℕ). IsSplit count c.args.self.now.order.size c.args.self.now.order.marks c.args.self.now.hits c.args.self.now.dropped) counts c.requires.cut) refl
    (sym (c.requires.order ∙ order-before-insert hits (mark_of c.args.hit.now) c.args.hit.now.values (Some c.in-Some.spot) first ∙ ap (λ (h : Hits). order_before h key (Some c.in-Some.spot)) (sym after))) refl refl

pub count_up-requires-clause-some : goal.count_up-requires-clause-some
count_up-requires-clause-some c =
    let hits : Hits = c.args.hits.now in
    let after : c.put_behind.new.self ≡ map.insert hits (mark_of c.args.hit.now) c.args.hit.now.values = inserted _ _ c.in_ok-spot.field-0 c.in-Some.spot c.in-Some.is c.in_ok-spot.ensures.ok in
    let one = ap (λ (h : Hits). hitcount h c.args.hit.now.key) after ∙ count-insert hits (mark_of c.args.hit.now) c.args.hit.now.values c.requires.absent in
    omega (arith, one)

pub returns-in-Some-clause-order : goal.returns-in-Some-clause-order
returns-in-Some-clause-order c =
    let hits : Hits = c.args.hits.now in
    let after : c.put_behind.new.self ≡ map.insert hits (mark_of c.args.hit.now) c.args.hit.now.values = inserted _ _ c.in_ok-spot.field-0 c.in-Some.spot c.in-Some.is c.in_ok-spot.ensures.ok in
    let first = at_some (λ at. first_place hits c.args.hit.now.key ≡ Some at) c.in_ok-spot.field-0 c.in-Some.spot c.in-Some.is c.in_ok-spot.ensures.first in
    let behind = at_some (λ at. spot_cmp at c.args.hit.now.spot ≡ Less) c.in_ok-spot.field-0 c.in-Some.spot c.in-Some.is c.in_ok-spot.ensures.behind in
    ap (λ (o : Ordered). o.marks) c.count_up.ensures.order ∙ c.requires.order ∙ sym (order-behind hits (mark_of c.args.hit.now) c.args.hit.now.values c.in-Some.spot first behind) ∙ ap order_of (sym after)

pub returns-in-Some-clause-cut : goal.returns-in-Some-clause-cut
returns-in-Some-clause-cut c =
    let hits : Hits = c.args.hits.now in
    let key = c.args.hit.now.key in
    let after : c.put_behind.new.self ≡ map.insert hits (mark_of c.args.hit.now) c.args.hit.now.values = inserted _ _ c.in_ok-spot.field-0 c.in-Some.spot c.in-Some.is c.in_ok-spot.ensures.ok in
    let first = at_some (λ at. first_place hits key ≡ Some at) c.in_ok-spot.field-0 c.in-Some.spot c.in-Some.is c.in_ok-spot.ensures.first in
    resplit (hitcount c.put_behind.new.self) c.count_up.ensures.cut refl
    (ap (λ (o : Ordered). o.marks) c.count_up.ensures.order
    ∙ c.requires.order ∙ order-before-insert hits (mark_of c.args.hit.now) c.args.hit.now.values (Some c.in-Some.spot) first ∙ ap (λ (h : Hits). order_before h key (Some c.in-Some.spot)) (sym after)) refl refl

pub add_first-requires-clause-early : goal.add_first-requires-clause-early
add_first-requires-clause-early c spot is =
    let hits : Hits = c.args.hits.now in
    c.in_ok-spot.ensures.before c.in-None.is spot (ap (λ (h : Hits). first_place h c.args.hit.now.key) (sym (subst (λ (o : Option Spot). MatchOption o (c.put_behind.new.self ≡ hits) (λ _. c.put_behind.new.self ≡ map.insert hits (mark_of c.args.hit.now) c.args.hit.now.values)) c.in-None.is c.in_ok-spot.ensures.ok)) ∙ is)
