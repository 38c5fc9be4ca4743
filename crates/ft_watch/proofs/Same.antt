-- Keys of two maps that pass a test: the same keys stand in the same order.
use Rattle.std.proofs.Common.{◌≡◌, Bool, true, false, cond, List, [], ◌∷◌, refl, sym, ap, ◌∙◌, Option, Some, None, map}
use Rattle.std.specs.Prelude.{is_some, option_map}
use Rattle.std.specs.List.{filter}
use Rattle.std.specs.declared.cmp.Ordering.{Ordering}
use Rattle.std.specs.declared.cmp.Ordering.TheVariants.{Equal}
use Rattle.std.specs.Cmp.{IsTotalOrder}
use Rattle.std.specs.FinMap as finite
use Rattle.std.specs.FinMap.{FinMap, IsAntisymmetric, find, entries_sorted, get-entries}
use Rattle.std.specs.FinMap.Entries.{where_key, is_sorted-where_key, find-where_key, same_entries}
use Rattle.std.proofs.lemmas.Bool.{true≢false}
use Rattle.ft_maps.specs.Mapped.{entries_by, map_by, entries-map_by, get-map_by}

-- a value's mark
abbrev mark : {X : Type 0} → X → Unit {0}
mark x = tt

nothing : {X : Type 0} (o : Option X) → is_some o ≡ true → option_map mark o ≡ Some tt
nothing None there = absurd (true≢false (sym there))
nothing (Some x) there = refl

module _ {K : Type 0} where
  keys-entries_by : {X Y : Type 0} (f : X → Y) (es : List (K × X)) → map (λ e. e.0) (entries_by f es) ≡ map (λ e. e.0) es
  keys-entries_by f [] = refl
  keys-entries_by f (e ∷ es) = ap (λ (ks : List K). e.0 ∷ ks) (keys-entries_by f es)

  filter-keys : {X : Type 0} (p : K → Bool) (es : List (K × X)) → filter p (map (λ e. e.0) es) ≡ map (λ e. e.0) (filter (λ e. p e.0) es)
  filter-keys p [] = refl
  filter-keys p (e ∷ es) =
      elim (p e.0) as (λ b. cond b (e.0 ∷ filter p (map (λ e. e.0) es)) (filter p (map (λ e. e.0) es)) ≡ map (λ e. e.0) (cond b (e ∷ filter (λ e. p e.0) es) (filter (λ e. p e.0) es))) [
        | true ↦ ap (λ (ks : List K). e.0 ∷ ks) (filter-keys p es)
        | false ↦ filter-keys p es
      ]

module _ {K : Type 0} {R : K → K → Ordering} (total : IsTotalOrder R) (same : IsAntisymmetric R) where
  -- the keys of a map, with nothing
  abbrev marks : {X : Type 0} → FinMap R X → FinMap R (Unit {0})
  marks m = map_by mark m

  abbrev kept : {X : Type 0} → (K → Bool) → FinMap R X → List (K × Unit {0})
  kept p m = where_key R p (finite.entries (marks m))

  keys-kept : {X : Type 0} (p : K → Bool) (m : FinMap R X) → filter p (finite.keys m) ≡ map (λ e. e.0) (kept p m)
  keys-kept p m =
      ap (filter p) (sym (ap (map (λ e. e.0)) (entries-map_by mark total m) ∙ keys-entries_by mark (finite.entries m)))
      ∙ filter-keys p (finite.entries (marks m))

  alike : (p : K → Bool) (q x : K) → R q x ≡ Equal → p x ≡ p q
  alike p q x tie = ap p (sym (same q x tie))

  find-kept : {X : Type 0} (p : K → Bool) (m : FinMap R X) (q : K) → find R q (kept p m) ≡ cond (p q) (option_map mark (finite.get m q)) None
  find-kept p m q =
      find-where_key R p q (alike p q) (finite.entries (marks m))
      ∙ ap (λ o. cond (p q) o None) (sym (get-entries (marks m) q) ∙ get-map_by mark total m q)

  module _ {X Y : Type 0} (p : K → Bool) (a : FinMap R X) (b : FinMap R Y) (in_a : (q : K) → p q ≡ true → is_some (finite.get a q) ≡ true) (in_b : (q : K) → p q ≡ true → is_some (finite.get b q) ≡ true) where
    same_find : (q : K) → find R q (kept p a) ≡ find R q (kept p b)
    same_find q = find-kept p a q ∙ by (p q) refl ∙ sym (find-kept p b q)
      where
        by : (t : Bool) → p q ≡ t → cond t (option_map mark (finite.get a q)) None ≡ cond t (option_map mark (finite.get b q)) None
        by true passes = nothing (finite.get a q) (in_a q passes) ∙ sym (nothing (finite.get b q) (in_b q passes))
        by false fails = refl

    -- if both maps have each key that passes, the same keys pass in the same order
    pub same_keys : filter p (finite.keys a) ≡ filter p (finite.keys b)
    same_keys =
        keys-kept p a
        ∙ ap (map (λ e. e.0)) (same_entries R total same (kept p a) (kept p b)
        (is_sorted-where_key R p (finite.entries (marks a)) (entries_sorted (marks a))) (is_sorted-where_key R p (finite.entries (marks b)) (entries_sorted (marks b))) same_find)
        ∙ sym (keys-kept p b)
