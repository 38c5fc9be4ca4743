-- Entries of a finite map, of which each is left out or seen as another under its key.
use Rattle.std.proofs.Common.{◌≡◌, Bool, true, false, cond, List, [], ◌∷◌, refl, sym, ap, ◌∙◌, Some, None, Option}
use Rattle.std.specs.Prelude.{option_map, option_and_then, filter_map}
use Rattle.std.specs.List.{AllByRecursion, IsDistinct, cons_option}
use Rattle.std.specs.List.Sorted.{IsStrictlySortedBy}
use Rattle.std.specs.Map.{keys_of}
use Rattle.std.specs.declared.cmp.Ordering.{Ordering}
use Rattle.std.specs.declared.cmp.Ordering.TheVariants.{Less}
use Rattle.std.specs.Ordering.{eq_by_cmp}
use Rattle.std.specs.Cmp.{IsTotalOrder}
use Rattle.std.specs.FinMap as map
use Rattle.std.specs.FinMap.{FinMap, IsAntisymmetric, find, get-entries, get-from_entries, entries_sorted, same_map}
use Rattle.std.proofs.lemmas.Map.Keys.{IsDistinct-from_sorted}
use Rattle.ft_maps.specs.Entries.{entries-from_entries, same_from_tie, strictly_sorted}

module _ {K X Y : Type 0} (R : K → K → Ordering) (total : IsTotalOrder R) (same : IsAntisymmetric R) (h : X → Option Y) where
  -- an entry seen under its key, if it is seen
  abbrev pub seen_entry : K × X → Option (K × Y)
  seen_entry e = option_map (λ y. (e.0, y)) (h e.1)

  abbrev IsAbove : K → List K → Type 0
  IsAbove k ks = AllByRecursion (λ q. R k q ≡ Less) ks

  above_seen : (k : K) (es : List (K × X)) → IsAbove k (keys_of es) → IsAbove k (keys_of (filter_map seen_entry es))
  above_seen k [] above = tt
  above_seen k (e ∷ es) above =
      let rest = above_seen k es above.1 in
      elim (h e.1) as (λ o. IsAbove k (keys_of (cons_option (option_map (λ y. (e.0, y)) o) (filter_map seen_entry es)))) [ None ↦ rest | Some y ↦ (above.0, rest) ]

  seen_sorted : (es : List (K × X)) → IsStrictlySortedBy R (keys_of es) → IsStrictlySortedBy R (keys_of (filter_map seen_entry es))
  unfolding IsStrictlySortedBy
  seen_sorted [] sorted = tt
  seen_sorted (e ∷ es) sorted =
      let rest = seen_sorted es sorted.1 in
      elim (h e.1) as (λ o. IsStrictlySortedBy R (keys_of (cons_option (option_map (λ y. (e.0, y)) o) (filter_map seen_entry es)))) [
        | None ↦ rest
        | Some y ↦ (above_seen e.0 es sorted.0, rest)
      ]

  none_apart : (k : K) (es : List (K × X)) → AllByRecursion (λ q. eq_by_cmp R k q ≡ false) (keys_of es) → find R k es ≡ None
  none_apart k [] apart = refl
  none_apart k (e ∷ es) apart = ap (λ b. cond b (Some e.1) (find R k es)) apart.0 ∙ none_apart k es apart.1

  find-seen : (q : K) (es : List (K × X)) → IsDistinct (eq_by_cmp R) (keys_of es) → find R q (filter_map seen_entry es) ≡ option_and_then h (find R q es)
  unfolding IsDistinct
  find-seen q [] distinct = refl
  find-seen q (e ∷ es) distinct = from (find-seen q es distinct.1) (eq_by_cmp R q e.0) (h e.1) refl refl
    where
      from : find R q (filter_map seen_entry es) ≡ option_and_then h (find R q es) → (b : Bool) (o : Option Y) → eq_by_cmp R q e.0 ≡ b → h e.1 ≡ o
          → find R q (cons_option (option_map (λ y. (e.0, y)) (h e.1)) (filter_map seen_entry es)) ≡ option_and_then h (cond (eq_by_cmp R q e.0) (Some e.1) (find R q es))
      from rest true (Some y) tie is =
          ap (λ o. find R q (cons_option (option_map (λ y. (e.0, y)) o) (filter_map seen_entry es))) is
          ∙ ap (λ b. cond b (Some y) (find R q (filter_map seen_entry es))) tie
          ∙ sym is
          ∙ ap (λ b. option_and_then h (cond b (Some e.1) (find R q es))) (sym tie)
      from rest true None tie is =
          ap (λ o. find R q (cons_option (option_map (λ y. (e.0, y)) o) (filter_map seen_entry es))) is
          ∙ rest
          ∙ ap (option_and_then h) (ap (λ k. find R k es) (same_from_tie same q e.0 tie) ∙ none_apart e.0 es distinct.0)
          ∙ sym is
          ∙ ap (λ b. option_and_then h (cond b (Some e.1) (find R q es))) (sym tie)
      from rest false (Some y) tie is =
          ap (λ o. find R q (cons_option (option_map (λ y. (e.0, y)) o) (filter_map seen_entry es))) is
          ∙ ap (λ b. cond b (Some y) (find R q (filter_map seen_entry es))) tie
          ∙ rest
          ∙ ap (λ b. option_and_then h (cond b (Some e.1) (find R q es))) (sym tie)
      from rest false None tie is =
          ap (λ o. find R q (cons_option (option_map (λ y. (e.0, y)) o) (filter_map seen_entry es))) is
          ∙ rest
          ∙ ap (λ b. option_and_then h (cond b (Some e.1) (find R q es))) (sym tie)

  -- entries of which no two have one key come to the same order, whether they are seen before or after
  pub seen_in_order : (es : List (K × X)) → IsDistinct (eq_by_cmp R) (keys_of es)
      → filter_map seen_entry (map.entries (map.from_entries {R = R} es)) ≡ map.entries (map.from_entries {R = R} (filter_map seen_entry es))
  seen_in_order es distinct =
      let all : FinMap R X = map.from_entries es in
      let sorted : IsStrictlySortedBy R (keys_of (map.entries all)) = strictly_sorted R (map.entries all) (entries_sorted all) in
      sym (entries-from_entries total (filter_map seen_entry (map.entries all)) (seen_sorted (map.entries all) sorted))
      ∙ ap (λ (m : FinMap R Y). map.entries m) (same_map total same _ _ (λ q.
      get-from_entries total (filter_map seen_entry (map.entries all)) q
      ∙ find-seen q (map.entries all) (IsDistinct-from_sorted R (keys_of (map.entries all)) sorted)
      ∙ ap (option_and_then h) (sym (get-entries all q) ∙ get-from_entries total es q)
      ∙ sym (get-from_entries total (filter_map seen_entry es) q ∙ find-seen q es distinct)))
