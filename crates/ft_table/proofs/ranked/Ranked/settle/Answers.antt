-- The order before and after, by where the key's first hit stood and where it stands.
use Rattle.std.proofs.Common.{◌≡◌, true, false, refl, rules, sym, ap, subst, ◌∙◌}
use Rattle.std.specs.List.{Contains}
use Rattle.std.specs.Ordering.{is_lt, ordering_reverse}
use Rattle.std.specs.declared.cmp.Ordering.TheVariants.{Less, Equal, Greater}
use Rattle.std.proofs.lemmas.Cmp.{tied_itself}
use Rattle.ft_blocks.proofs.Cuts.{is_less, not_less}
use Rattle.ft_hits.specs.declared.spot.Spot.{Spot}
use Rattle.ft_hits.specs.Hits.{hitcount}
use Rattle.ft_hits.specs.Spots.{spot_cmp, spot_cmp_total, spot_same}
use Rattle.ft_hits.proofs.Flat.{mark}
use Rattle.ft_table.specs.inner.Moves.{order_with}
use Rattle.ft_table.specs.inner.Ordered.{Lacks, Ordered}
use Rattle.ft_table.proofs.Comings.{went_order, moved_order, no_other}
use Rattle.ft_table.proofs.Firsts.{order-none, order-some}
use Rattle.ft_table.proofs.Splits.{resplit}
use Rattle.ft_table.proofs.Standings.{stands}
use Rattle.ft_table.proofs.ranked.Ranked.settle.Goals as goal

pub remove-requires : goal.remove-requires
remove-requires c = subst (λ ms. Contains ms c.args.first) (sym c.requires.order) (stands c.args.hits.now c.args.first 0)

pub move_on-requires-clause-there : goal.move_on-requires-clause-there
move_on-requires-clause-there c = subst (λ ms. Contains ms c.args.first) (sym c.requires.order) (stands c.args.hits.now c.args.first 0)

pub move_on-requires-clause-absent : goal.move_on-requires-clause-absent
move_on-requires-clause-absent c =
    let less : is_lt (spot_cmp c.args.first.spot c.in-Some.spot) ≡ true = search rules in
    let other : c.in-Some.spot ≡ c.args.first.spot → ⊥ = (λ same. let both : Less ≡ Equal = sym (is_less _ less) ∙ ap (spot_cmp c.args.first.spot) same ∙ tied_itself spot_cmp_total c.args.first.spot in cc) in
    subst (λ ms. Lacks ms (mark c.in-Some.spot c.args.first.key)) (sym c.requires.order) (no_other c.args.hits.now c.args.first.key c.args.first.spot c.in-Some.spot other)

pub count_in-requires-clause-order : goal.count_in-requires-clause-order
count_in-requires-clause-order c =
    ap (λ (o : Ordered). o.marks) c.count_out-then-lt.ensures.order
    ∙ moved_order c.args.hits.now c.args.first.key c.args.first.spot c.in-Some.spot c.args.self.now.order c.move_on.new.self c.requires.order c.move_on.ensures

pub returns-in-None-clause-order : goal.returns-in-None-clause-order
returns-in-None-clause-order c =
    ap (λ (o : Ordered). o.marks) c.count_out.ensures.order
    ∙ went_order c.args.hits.now c.args.first c.args.self.now.order c.remove.new.self c.requires.order c.remove.ensures
    ∙ sym (order-none c.args.hits.now c.args.first.key (sym c.first_at.ensures ∙ c.in-None.is))

pub returns-in-None-clause-cut : goal.returns-in-None-clause-cut
returns-in-None-clause-cut c =
    resplit (hitcount c.args.hits.now) c.count_out.ensures.cut refl
    (ap (λ (o : Ordered). o.marks) c.count_out.ensures.order
    ∙ went_order c.args.hits.now c.args.first c.args.self.now.order c.remove.new.self c.requires.order c.remove.ensures) refl refl

pub returns-then-lt-clause-order : goal.returns-then-lt-clause-order
returns-then-lt-clause-order c =
    ap (λ (o : Ordered). o.marks) (c.count_in.ensures.order ∙ c.count_out-then-lt.ensures.order)
    ∙ moved_order c.args.hits.now c.args.first.key c.args.first.spot c.in-Some.spot c.args.self.now.order c.move_on.new.self c.requires.order c.move_on.ensures
    ∙ sym (order-some c.args.hits.now c.args.first.key c.in-Some.spot (sym c.first_at.ensures ∙ c.in-Some.is))

tied : (a b : Spot) → (spot_cmp a b ≡ Less → ⊥) → (spot_cmp b a ≡ Less → ⊥) → a ≡ b
tied a b ne nor =
    elim (spot_cmp a b) as (λ o. spot_cmp a b ≡ o → a ≡ b) [
      | Less ↦ λ is. absurd (ne is)
      | Equal ↦ λ is. spot_same a b is
      | Greater ↦ λ is. absurd (nor (spot_cmp_total.antisymm b a ∙ ap ordering_reverse is))
    ] refl

pub returns-else-lt-clause-order : goal.returns-else-lt-clause-order
returns-else-lt-clause-order c =
    let first = sym c.first_at.ensures ∙ c.in-Some.is in
    let ne : is_lt (spot_cmp c.args.first.spot c.in-Some.spot) ≡ false = search rules in
    let same : c.args.first.spot ≡ c.in-Some.spot = tied c.args.first.spot c.in-Some.spot (not_less _ ne) (c.requires.late c.in-Some.spot first) in
    c.requires.order ∙ ap (λ (p : Spot). order_with c.args.hits.now (mark p c.args.first.key)) same
    ∙ sym (order-some c.args.hits.now c.args.first.key c.in-Some.spot first)
