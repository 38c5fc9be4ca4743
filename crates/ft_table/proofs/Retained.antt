-- What a map keeps of its entries, in order.
use Rattle.std.proofs.Common.{◌≡◌, Bool, true, false, cond, List, [], ◌∷◌, refl, sym, ap, ◌∙◌, None}
use Rattle.std.specs.List.{filter}
use Rattle.std.specs.declared.cmp.Ordering.{Ordering}
use Rattle.std.specs.declared.cmp.Ordering.TheVariants.{Equal}
use Rattle.std.specs.Cmp.{IsTotalOrder}
use Rattle.std.specs.Map.{keys_of}
use Rattle.std.specs.FinMap as map
use Rattle.std.specs.FinMap.{FinMap, IsAntisymmetric, entries_sorted, get-entries, get-retain_keys}
use Rattle.std.specs.FinMap.Entries.{where_key, is_sorted-where_key, find-where_key, same_entries}

module _ {K X : Type 0} {R : K → K → Ordering} (total : IsTotalOrder R) (same : IsAntisymmetric R) where
  -- the entries that are kept are those that pass
  pub entries-retained : (m : FinMap R X) (p : K → Bool) → map.entries (map.retain_keys m p) ≡ where_key R p (map.entries m)
  entries-retained m p =
      let alike : (q x : K) → R q x ≡ Equal → p x ≡ p q = λ q x tie. ap p (sym (same q x tie)) in
      same_entries R total same _ _ (entries_sorted (map.retain_keys m p)) (is_sorted-where_key R p (map.entries m) (entries_sorted m)) (λ q.
      sym (get-entries (map.retain_keys m p) q) ∙ get-retain_keys m p q (alike q) ∙ ap (λ o. cond (p q) o None) (get-entries m q) ∙ sym (find-where_key R p q (alike q) (map.entries m)))

  keys-where : (p : K → Bool) (es : List (K × X)) → keys_of (where_key R p es) ≡ filter p (keys_of es)
  keys-where p [] = refl
  keys-where p (e ∷ es) = elim (p e.0) as (λ b. keys_of (cond b (e ∷ where_key R p es) (where_key R p es)) ≡ cond b (e.0 ∷ filter p (keys_of es)) (filter p (keys_of es))) [
    | true ↦ ap (λ (ks : List K). e.0 ∷ ks) (keys-where p es)
    | false ↦ keys-where p es
  ]

  -- the keys that are kept are those that pass
  pub keys-retained : (m : FinMap R X) (p : K → Bool) → map.keys (map.retain_keys m p) ≡ filter p (map.keys m)
  keys-retained m p = ap (λ (es : List (K × X)). keys_of es) (entries-retained m p) ∙ keys-where p (map.entries m)
