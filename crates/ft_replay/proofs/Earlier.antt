-- Acts in order, and which hits stand before them.
use Rattle.std.proofs.Common.{◌≡◌, ℕ, List, [], ◌∷◌, sym, ap, ◌∙◌}
use Rattle.std.specs.declared.cmp.Ordering.{Ordering}
use Rattle.std.specs.declared.cmp.Ordering.TheVariants.{Less, Equal, Greater}
use Rattle.std.specs.List.{AllByRecursion}
use Rattle.std.specs.Map.{keys_of}
use Rattle.std.specs.Ordering.{nat_cmp, ordering_then}
use Rattle.std.specs.Cmp.{IsTotalOrder, eq_by_cmp_equiv, nat_cmp_total}
use Rattle.ft_fields.specs.Places.{pos_cmp, pos_cmp_total}
use Rattle.ft_fields.specs.declared.pos.Pos.{Pos}
use Rattle.ft_maps.specs.Entries.{equal_from_tie}
use Rattle.ft_pairs.specs.Order.{at_cmp}
use Rattle.ft_pairs.specs.declared.at.At.{At}

module _ {K : Type 0} {R : K → K → Ordering} (total : IsTotalOrder R) where
  pub ties : (k : K) → R k k ≡ Equal
  ties k = equal_from_tie (R k k) ((eq_by_cmp_equiv total).refl k)

  less_tied : (o : Ordering) → o ≡ Equal → o ≡ Less → ⊥
  less_tied o equal less = let both : ◌≡◌ {A = Ordering} Equal Less = sym equal ∙ less in cc

  -- nothing stands before itself
  pub never_before : (k : K) → R k k ≡ Less → ⊥
  never_before k less = less_tied (R k k) (ties k) less

-- the act of a trigger at a place
abbrev pub act_of : Pos → ℕ → At
act_of pos trigger = record { pos = pos; trigger = trigger }

-- acts at an earlier place come before
pub earlier_place : (p q : Pos) (i j : ℕ) → pos_cmp p q ≡ Less → at_cmp (act_of p i) (act_of q j) ≡ Less
earlier_place p q i j less = ap (λ o. ordering_then o (nat_cmp i j)) less

-- at one place triggers act in order of id
pub lower_id : (p : Pos) (i j : ℕ) → nat_cmp i j ≡ Less → at_cmp (act_of p i) (act_of p j) ≡ Less
lower_id p i j less = ap (λ o. ordering_then o (nat_cmp i j)) (ties pos_cmp_total p) ∙ less

place_by : (places ids : Ordering) → ids ≡ Equal → ordering_then places ids ≡ Less → places ≡ Less
place_by Less ids tied less = less
place_by Equal ids tied less = absurd (less_tied nat_cmp_total ids tied less)
place_by Greater ids tied less = less

-- an earlier act of the same trigger stands at an earlier place
pub place_before : (p q : Pos) (i : ℕ) → at_cmp (act_of p i) (act_of q i) ≡ Less → pos_cmp p q ≡ Less
place_before p q i less = place_by (pos_cmp p q) (nat_cmp i i) (ties nat_cmp_total i) less

-- what holds of all keys above one holds of the entries after it
pub all_above : {K X : Type 0} (R : K → K → Ordering) (k : K) (P : K → Type 0) → ((q : K) → R k q ≡ Less → P q) → (es : List (K × X)) → AllByRecursion (λ q. R k q ≡ Less) (keys_of es) → AllByRecursion (λ e. P e.0) es
all_above R k P f [] above = tt
all_above R k P f (e ∷ es) above = (f e.0 above.0, all_above R k P f es above.1)
