-- Keys, each once: the same ones, no two alike, and no more than there were.
use Rattle.std.proofs.Common.{◌≡◌, ◌+◌, ◌<◌, ◌≤◌, ℕ, Bool, true, false, cond, List, [], ◌∷◌, ◌++◌, length, drop, get_or, refl, sym, ap, ◌∙◌, arith, rules}
use Rattle.std.specs.Prelude.{◌||◌, not}
use Rattle.std.specs.List.{fold, list_any, AllByRecursion, IsDistinct}
use Rattle.std.specs.Cmp.{eq_by_cmp_equiv}
use Rattle.std.proofs.lemmas.Bool.{both_ways, false_from_ne_true, or_parts, or_left, or_right}
use Rattle.std.proofs.lemmas.List.{length-append}
use Rattle.std.proofs.lemmas.List.Folds.{list_any-append}
use Rattle.std.proofs.lemmas.Map.Keys.{IsDistinct-push}
use Rattle.ft_fields.specs.declared.key.Part.{Part}
use Rattle.ft_fields.specs.Orders.{key_cmp_total}
use Rattle.ft_fields.specs.Parts.{same_key}
use Rattle.ft_hits.proofs.Flat.{same_is, same_itself}
use Rattle.ft_table.specs.Tabled.{Tabled}
use Rattle.ft_changes.proofs.KeyLists.{next_key, with_own}
use Rattle.ft_changes.specs.Rivals.{is_of, rivals, RivalsAreOthers, RivalsDiffer}
use Rattle.ft_kept.specs.Touched.{with_new_key, each_once}

-- a key that is none of some and others is none of either
pub neither : (xs ys : List (List Part)) (key : List Part) → is_of (xs ++ ys) key ≡ false → (is_of xs key ≡ false) × (is_of ys key ≡ false)
neither xs ys key none = search (list_any-append, or_parts, rules)

-- ---- each once

among_once : (found keys : List (List Part)) (q : List Part) → is_of (fold with_new_key found keys) q ≡ (is_of found q || is_of keys q)
among_once found [] q = grind arith
among_once found (key ∷ keys) q = grind (arith, among_once (with_new_key found key) keys q, list_any-append, same_is q key)

-- each once, keys are those that they were
pub of_each_once : (keys : List (List Part)) (q : List Part) → is_of (each_once keys) q ≡ is_of keys q
unfolding each_once
of_each_once keys q = among_once [] keys q

distinct_once : (found keys : List (List Part)) → IsDistinct same_key found → IsDistinct same_key (fold with_new_key found keys)
distinct_once found [] apart = apart
distinct_once found (key ∷ keys) apart = distinct_once (with_new_key found key) keys (search (IsDistinct-push (eq_by_cmp_equiv key_cmp_total), rules))

-- no two of them the same
pub each_distinct : (keys : List (List Part)) → IsDistinct same_key (each_once keys)
unfolding each_once IsDistinct
each_distinct keys = distinct_once [] keys tt

few_once : (found keys : List (List Part)) → length (fold with_new_key found keys) ≤ length found + length keys
few_once found [] = grind arith
few_once found (key ∷ keys) = grind (arith, length-append, few_once (with_new_key found key) keys)

-- and no more than there were
pub few_each_once : (keys : List (List Part)) → length (each_once keys) ≤ length keys
unfolding each_once
few_each_once keys = let all = few_once [] keys in omega (arith, all)

-- ---- one key more

-- with a key that was not met, or without one that was, they are those with the new key
pub with_fresh : (met found : List (List Part)) (key : List Part) (fresh : Bool) → ((q : List Part) → is_of met q ≡ is_of found q) → fresh ≡ not (is_of met key) → cond fresh (found ++ key ∷ []) found ≡ with_new_key found key
with_fresh met found key fresh same is = ap (λ b. cond b (found ++ key ∷ []) found) (is ∙ ap not (same key)) ∙ by (is_of found key) where
  by : (b : Bool) → cond (not b) (found ++ key ∷ []) found ≡ cond b found (found ++ key ∷ [])
  by true = refl
  by false = refl

-- those that were met are they, also with the key
pub met_more : (met new found : List (List Part)) (key : List Part) → ((q : List Part) → is_of met q ≡ is_of found q) → ((q : List Part) → is_of new q ≡ (same_key q key || is_of met q)) → (q : List Part) → is_of new q ≡ is_of (with_new_key found key) q
met_more met new found key same put q = put q ∙ ap (λ b. same_key q key || b) (same q) ∙ by (is_of found key) refl where
  swapped : (a b : Bool) → (b || a) ≡ (a || (b || false))
  swapped true true = refl
  swapped true false = refl
  swapped false true = refl
  swapped false false = refl

  by : (b : Bool) → is_of found key ≡ b → (same_key q key || is_of found q) ≡ is_of (cond b found (found ++ key ∷ [])) q
  by true there = sym (with_own found key q there)
  by false none = swapped (is_of found q) (same_key q key) ∙ sym (list_any-append (same_key q) found (key ∷ []))

-- those that are left lead to the same
pub once_more : (keys found : List (List Part)) (i : ℕ) (key : List Part) → i < length keys → key ≡ get_or keys i key → fold with_new_key (with_new_key found key) (drop (i + 1) keys) ≡ fold with_new_key found (drop i keys)
once_more keys found i key within is = ap (fold with_new_key found) (sym (next_key keys i key within is))

-- ---- lists one after the other

module _ {K : Type 0} (e : K → K → Bool) (itself : (x : K) → e x x ≡ true) where
  apart_both : (x : K) (xs ys : List K) → AllByRecursion (λ y. e x y ≡ false) xs → list_any (e x) ys ≡ false → AllByRecursion (λ y. e x y ≡ false) (xs ++ ys)
  apart_both x [] [] apart none = tt
  apart_both x [] (y ∷ ys) apart none = search (apart_both x [] ys, or_parts, rules)
  apart_both x (y ∷ xs) ys apart none = search (apart_both x xs ys, rules)

  -- no two of them are the same, if none of the first is one of the second
  pub distinct_both : (xs ys : List K) → IsDistinct e xs → IsDistinct e ys → ((x : K) → list_any (e x) xs ≡ true → list_any (e x) ys ≡ false) → IsDistinct e (xs ++ ys)
  unfolding IsDistinct
  distinct_both [] ys apart apart' others = apart'
  distinct_both (x ∷ xs) ys apart apart' others = search (apart_both, distinct_both xs ys, or_left, or_right, itself, rules)

-- keys and their rivals
pub rivals_once : RivalsDiffer → RivalsAreOthers → (table : Tabled) (keys : List (List Part)) → IsDistinct same_key keys → IsDistinct same_key (keys ++ rivals table keys)
rivals_once differ others table keys apart =
    distinct_both same_key same_itself keys (rivals table keys) apart (differ table keys)
    (λ q is. false_from_ne_true (is_of (rivals table keys) q) (λ rival. both_ways (is_of keys q) (others table keys q rival) is))
