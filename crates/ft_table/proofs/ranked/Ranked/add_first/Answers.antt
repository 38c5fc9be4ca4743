-- The order and the counts, as a key's first hit comes, or another before the one that was first.
use Rattle.std.proofs.Common.{◌≡◌, ℕ, ◌+◌, false, List, nat_lt, sym, ap, subst, ◌∙◌, arith, Some, None, Option}
use Rattle.std.specs.Prelude.{ℤ, slice_get}
use Rattle.std.specs.List.{Contains}
use Rattle.std.specs.FinMap as map
use Rattle.std.specs.declared.cmp.Ordering.TheVariants.{Less, Equal}
use Rattle.std.proofs.lemmas.Cmp.{tied_itself}
use Rattle.ft_fields.specs.declared.key.Part.{Part}
use Rattle.ft_hits.specs.declared.spot.Spot.{Spot}
use Rattle.ft_hits.specs.declared.mark.Mark.{Mark}
use Rattle.ft_hits.specs.Hits.{Hits, hitcount, hits_of, first_place}
use Rattle.ft_hits.specs.Marks.{mark_cmp}
use Rattle.ft_hits.specs.Spots.{spot_cmp, spot_cmp_total}
use Rattle.ft_hits.proofs.Flat.{mark}
use Rattle.ft_table.specs.inner.Ascending.{IsRank}
use Rattle.ft_table.specs.inner.Cut.{IsSplit}
use Rattle.ft_table.specs.inner.Moves.{order_before, with_less}
use Rattle.ft_table.specs.inner.Ordered.{Ordered}
use Rattle.ft_table.specs.Tabled.{order_of}
use Rattle.ft_table.proofs.Appends.{first_place-insert, first-empty}
use Rattle.ft_table.proofs.OneKeys.{first_put}
use Rattle.ft_table.proofs.Changes.{count-insert, counts-insert, counts-less, hitcount-none, order-before-insert}
use Rattle.ft_table.proofs.Comings.{came_order, moved_up, others_there}
use Rattle.ft_table.proofs.Counts.{split-without}
use Rattle.ft_table.proofs.Firsts.{order-none, order-some}
use Rattle.ft_table.proofs.Splits.{resplit}
use Rattle.ft_table.proofs.Standings.{stands}
use Rattle.ft_table.proofs.ranked.Ranked.add_first.Goals as goal

-- the order of before, told by the hits after
before : (hits : Hits) (m : Mark) (v : List ℤ) (order : List Mark) (o : Option Spot) → order ≡ order_of hits → first_place hits m.key ≡ o → (after : Hits) → after ≡ map.insert hits m v → order ≡ order_before after m.key o
before hits m v order o is first after e =
    is ∙ order-before-insert hits m v o first ∙ ap (λ (h : Hits). order_before h m.key o) (sym e)

-- the key's first hit then, if it had none, and if the new one is before its first
first_now : (hits after : Hits) (m : Mark) (v : List ℤ) → first_place hits m.key ≡ None → after ≡ map.insert hits m v → first_place after m.key ≡ Some m.spot
first_now hits after m v none e = ap (λ (h : Hits). first_place h m.key) e ∙ first_place-insert hits m v ∙ first-empty m.spot v (map.entries (hits_of hits m.key)) none

first_early : (hits after : Hits) (m : Mark) (v : List ℤ) (old : Spot) → first_place hits m.key ≡ Some old → spot_cmp m.spot old ≡ Less → after ≡ map.insert hits m v → first_place after m.key ≡ Some m.spot
first_early hits after m v old is less e = ap (λ (h : Hits). first_place h m.key) e ∙ first_place-insert hits m v ∙ first_put m.spot old v (map.entries (hits_of hits m.key)) is Less less

unlike : (a b : Spot) → spot_cmp a b ≡ Less → a ≡ b → ⊥
unlike a b less same = let both : Less ≡ Equal = sym less ∙ ap (λ (p : Spot). spot_cmp p b) same ∙ tied_itself spot_cmp_total b in cc

-- the key has one hit more
first_after : (hits after : Hits) (m : Mark) (v : List ℤ) → map.get hits m ≡ None → after ≡ map.insert hits m v → hitcount after m.key ≡ hitcount hits m.key + 1
first_after hits after m v absent e = ap (λ (h : Hits). hitcount h m.key) e ∙ count-insert hits m v absent

pub count_in-requires-clause-count : goal.count_in-requires-clause-count
count_in-requires-clause-count c =
    let one = first_after c.args.hits.now c.put_first.new.hits c.args.mark c.args.values c.requires.absent c.in_ok-put_first-in-None.ensures.hits in
    let none = hitcount-none c.args.hits.now c.args.mark.key (sym c.first_at.ensures ∙ c.in-None.is) in
    omega (arith, one, none)

pub count_in-requires-clause-order : goal.count_in-requires-clause-order
count_in-requires-clause-order c =
    came_order c.put_first.new.hits c.args.mark c.args.self.now.order c.put_first.new.self.order
    (before c.args.hits.now c.args.mark c.args.values c.args.self.now.order.marks None c.requires.order (sym c.first_at.ensures ∙ c.in-None.is) c.put_first.new.hits c.in_ok-put_first-in-None.ensures.hits)
    c.in_ok-put_first-in-None.ensures.order

pub count_in-requires-clause-cut : goal.count_in-requires-clause-cut
count_in-requires-clause-cut c =
    let hits : Hits = c.args.hits.now in
    let after : Hits = c.put_first.new.hits in
    let key = c.args.mark.key in
    let none = sym c.first_at.ensures ∙ c.in-None.is in
    resplit (hitcount after)
    (split-without hits (hitcount hits) (hitcount after) key (c.requires.order ∙ order-none hits key none)
    (λ q apart. ap (λ (h : Hits). hitcount h q) c.in_ok-put_first-in-None.ensures.hits ∙ counts-insert hits c.args.mark c.args.values c.requires.absent q false apart) c.requires.cut)
    c.in_ok-put_first-in-None.ensures.order.size
    (sym (before hits c.args.mark c.args.values c.args.self.now.order.marks None c.requires.order none after c.in_ok-put_first-in-None.ensures.hits))
    c.put_first.ensures.counts.0 c.put_first.ensures.counts.1

pub count_in-requires-clause-few : goal.count_in-requires-clause-few
count_in-requires-clause-few c =
    let one = first_after c.args.hits.now c.put_first.new.hits c.args.mark c.args.values c.requires.absent c.in_ok-put_first-in-None.ensures.hits in
    let none = hitcount-none c.args.hits.now c.args.mark.key (sym c.first_at.ensures ∙ c.in-None.is) in
    let few = c.requires.few in let hits = c.put_first.ensures.counts.0 in let dropped = c.put_first.ensures.counts.1 in
    omega (arith, one, none, few, hits, dropped)

pub returns-in_ok-put_first-in-None-clause-order : goal.returns-in_ok-put_first-in-None-clause-order
returns-in_ok-put_first-in-None-clause-order c =
    let hits : Hits = c.args.hits.now in
    let after : Hits = c.put_first.new.hits in
    let none = sym c.first_at.ensures ∙ c.in-None.is in
    ap (λ (o : Ordered). o.marks) c.count_in.ensures.order
    ∙ came_order after c.args.mark c.args.self.now.order c.put_first.new.self.order
    (before hits c.args.mark c.args.values c.args.self.now.order.marks None c.requires.order none after c.in_ok-put_first-in-None.ensures.hits)
    c.in_ok-put_first-in-None.ensures.order
    ∙ sym (order-some after c.args.mark.key c.args.mark.spot (first_now hits after c.args.mark c.args.values none c.in_ok-put_first-in-None.ensures.hits))

pub standing-standing-requires : goal.standing-standing-requires
standing-standing-requires c =
    let first = sym c.first_at.ensures ∙ c.in-Some.is in
    subst (λ ms. Contains ms (mark c.in-Some.spot c.args.mark.key)) (sym (c.requires.order ∙ order-some c.args.hits.now c.args.mark.key c.in-Some.spot first)) (stands c.args.hits.now (mark c.in-Some.spot c.args.mark.key) 0)

pub remove-requires : goal.remove-requires
remove-requires c =
    let first = sym c.first_at.ensures ∙ c.in-Some.is in
    others_there c.args.hits.now c.args.mark c.args.self.now.order c.put_first-in-Some.new.self.order c.requires.order c.in_ok-put_first-in-Some.ensures.order (mark c.in-Some.spot c.args.mark.key)
    (subst (λ ms. Contains ms (mark c.in-Some.spot c.args.mark.key)) (sym (c.requires.order ∙ order-some c.args.hits.now c.args.mark.key c.in-Some.spot first)) (stands c.args.hits.now (mark c.in-Some.spot c.args.mark.key) 0))

pub count_up-requires-clause-inside : goal.count_up-requires-clause-inside
count_up-requires-clause-inside c i at =
    let first = sym c.first_at.ensures ∙ c.in-Some.is in
    c.standing-standing.ensures.inside i (subst (λ ms. IsRank mark_cmp ms (mark c.in-Some.spot c.args.mark.key) i)
    (sym (before c.args.hits.now c.args.mark c.args.values c.args.self.now.order.marks (Some c.in-Some.spot) c.requires.order first c.put_first-in-Some.new.hits c.in_ok-put_first-in-Some.ensures.hits)) at)
    ∙ ap (nat_lt i) (sym (c.remove.ensures.size ∙ c.in_ok-put_first-in-Some.ensures.order.size))

pub count_up-requires-clause-cut : goal.count_up-requires-clause-cut
count_up-requires-clause-cut c =
    let hits : Hits = c.args.hits.now in
    let after : Hits = c.put_first-in-Some.new.hits in
    let first = sym c.first_at.ensures ∙ c.in-Some.is in
    let counts : hitcount hits ≡ with_less (hitcount after) c.args.mark.key =
    counts-less hits c.args.mark c.args.values c.requires.absent ∙ ap (λ (h : Hits). with_less (hitcount h) c.args.mark.key) (sym c.in_ok-put_first-in-Some.ensures.hits) in
    resplit (with_less (hitcount after) c.args.mark.key)
    (subst (λ (count : List Part → ℕ). IsSplit count c.args.self.now.order.size c.args.self.now.order.marks c.args.self.now.hits c.args.self.now.dropped) counts c.requires.cut)
    (c.remove.ensures.size ∙ c.in_ok-put_first-in-Some.ensures.order.size)
    (sym (before hits c.args.mark c.args.values c.args.self.now.order.marks (Some c.in-Some.spot) c.requires.order first after c.in_ok-put_first-in-Some.ensures.hits))
    c.put_first-in-Some.ensures.counts.0 c.put_first-in-Some.ensures.counts.1

pub count_up-requires-clause-some : goal.count_up-requires-clause-some
count_up-requires-clause-some c =
    let one = first_after c.args.hits.now c.put_first-in-Some.new.hits c.args.mark c.args.values c.requires.absent c.in_ok-put_first-in-Some.ensures.hits in
    omega (arith, one)

pub count_out-requires-clause-standing : goal.count_out-requires-clause-standing
count_out-requires-clause-standing c =
    let first = sym c.first_at.ensures ∙ c.in-Some.is in
    let order = before c.args.hits.now c.args.mark c.args.values c.args.self.now.order.marks (Some c.in-Some.spot) c.requires.order first c.put_first-in-Some.new.hits c.in_ok-put_first-in-Some.ensures.hits in
    let size : c.count_up.new.self.order.size ≡ c.args.self.now.order.size = ap (λ (o : Ordered). o.size) c.count_up.ensures.order ∙ c.remove.ensures.size ∙ c.in_ok-put_first-in-Some.ensures.order.size in
    record {
      inside = λ i at. c.standing-standing.ensures.inside i (subst (λ ms. IsRank mark_cmp ms (mark c.in-Some.spot c.args.mark.key) i) (sym order) at) ∙ ap (nat_lt i) (sym size);
      next = c.standing-standing.ensures.next ∙ (λ k. slice_get (order k) (sym size k));
    }

pub count_in-requires-in-Some-clause-order : goal.count_in-requires-in-Some-clause-order
count_in-requires-in-Some-clause-order c =
    let first = sym c.first_at.ensures ∙ c.in-Some.is in
    let early = c.requires.early c.in-Some.spot first in
    ap (λ (o : Ordered). o.marks) (c.count_out.ensures.order ∙ c.count_up.ensures.order)
    ∙ moved_up c.put_first-in-Some.new.hits c.args.mark.key c.in-Some.spot c.args.mark.spot (unlike c.args.mark.spot c.in-Some.spot early) c.args.self.now.order c.put_first-in-Some.new.self.order c.remove.new.self
    (before c.args.hits.now c.args.mark c.args.values c.args.self.now.order.marks (Some c.in-Some.spot) c.requires.order first c.put_first-in-Some.new.hits c.in_ok-put_first-in-Some.ensures.hits)
    c.in_ok-put_first-in-Some.ensures.order c.remove.ensures

pub returns-in_ok-put_first-in-Some-clause-order : goal.returns-in_ok-put_first-in-Some-clause-order
returns-in_ok-put_first-in-Some-clause-order c =
    let hits : Hits = c.args.hits.now in
    let after : Hits = c.put_first-in-Some.new.hits in
    let first = sym c.first_at.ensures ∙ c.in-Some.is in
    let early = c.requires.early c.in-Some.spot first in
    ap (λ (o : Ordered). o.marks) (c.count_in-in-Some.ensures.order ∙ c.count_out.ensures.order ∙ c.count_up.ensures.order)
    ∙ moved_up after c.args.mark.key c.in-Some.spot c.args.mark.spot (unlike c.args.mark.spot c.in-Some.spot early) c.args.self.now.order c.put_first-in-Some.new.self.order c.remove.new.self
    (before hits c.args.mark c.args.values c.args.self.now.order.marks (Some c.in-Some.spot) c.requires.order first after c.in_ok-put_first-in-Some.ensures.hits)
    c.in_ok-put_first-in-Some.ensures.order c.remove.ensures
    ∙ sym (order-some after c.args.mark.key c.args.mark.spot (first_early hits after c.args.mark c.args.values c.in-Some.spot first early c.in_ok-put_first-in-Some.ensures.hits))
