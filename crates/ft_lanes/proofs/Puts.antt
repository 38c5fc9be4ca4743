-- Entries put in one by one: what a map has then.
use Rattle.std.proofs.Common.{◌≡◌, ℕ, T, false, cond, List, [], ◌∷◌, fold, refl, sym, ap, ◌∙◌, Option, Some, None, ⊎_elim}
use Rattle.std.specs.Option.{option_map_or}
use Rattle.std.specs.declared.cmp.Ordering.{Ordering}
use Rattle.std.specs.declared.cmp.Ordering.TheVariants.{Less, Equal, Greater}
use Rattle.std.specs.Ordering.{nat_cmp, is_eq, is_lt}
use Rattle.std.specs.Cmp.{nat_cmp_total, unsigned_tied}
use Rattle.std.specs.FinMap as map
use Rattle.std.specs.FinMap.{FinMap, find, is_sorted, entries_sorted, get-entries, get-empty, same_map, nat_cmp-IsAntisymmetric}
use Rattle.std.specs.FinMap.Entries.{below_all}
use Rattle.std.proofs.lemmas.Bool.{cases_eq, eq-eqb, ne_eqb}
use Rattle.ft_maps.specs.Entries.{and_left, and_right, get-insert_same, get-insert_other}

not_tied : (r : Ordering) → T (is_lt r) → is_eq r ≡ false
not_tied Less p = refl
not_tied Equal p = absurd p
not_tied Greater p = absurd p

module _ {X : Type 0} where
  -- one entry put in
  abbrev pub put_one : FinMap nat_cmp X → ℕ × X → FinMap nat_cmp X
  put_one m e = map.insert m e.0 e.1

  -- a key below all others is not among them
  find-above : (k : ℕ) (es : List (ℕ × X)) → T (below_all nat_cmp k es) → find nat_cmp k es ≡ None
  find-above k [] all = refl
  find-above k (e ∷ es) all =
      ap (λ b. cond b (Some e.1) (find nat_cmp k es)) (not_tied (nat_cmp k e.0) (and_left _ _ all))
      ∙ find-above k es (and_right _ _ all)

  -- the first entry is found by its key
  pub find-here : (k : ℕ) (v : X) (es : List (ℕ × X)) → find nat_cmp k ((k, v) ∷ es) ≡ Some v
  find-here k v es = ap (λ b. cond b (Some v) (find nat_cmp k es)) (unsigned_tied k k ∙ eq-eqb k k refl)

  -- and by no other
  pub find-there : (q : ℕ) (e : ℕ × X) (es : List (ℕ × X)) → (q ≡ e.0 → ⊥) → find nat_cmp q (e ∷ es) ≡ find nat_cmp q es
  find-there q e es ne = ap (λ b. cond b (Some e.1) (find nat_cmp q es)) (unsigned_tied q e.0 ∙ ne_eqb q e.0 ne)

  put-at : (m : FinMap nat_cmp X) (es : List (ℕ × X)) → T (is_sorted nat_cmp es) → (q : ℕ) → map.get (fold put_one m es) q ≡ option_map_or Some (find nat_cmp q es) (map.get m q)
  put-at m [] sorted q = refl
  put-at m (e ∷ es) sorted q =
      put-at (map.insert m e.0 e.1) es (and_right (below_all nat_cmp e.0 es) (is_sorted nat_cmp es) sorted) q
      ∙ ⊎_elim
      (λ s.
      (λ i. option_map_or Some (find nat_cmp (s i) es) (map.get (map.insert m e.0 e.1) (s i)))
      ∙ (λ i. option_map_or Some (find-above e.0 es (and_left _ _ sorted) i) (get-insert_same nat_cmp_total m e.0 e.1 i))
      ∙ ap (λ o. option_map_or Some o (map.get m q)) (sym (find-here e.0 e.1 es) ∙ ap (λ k. find nat_cmp k (e ∷ es)) (sym s)))
      (λ ne. λ i. option_map_or Some (sym (find-there q e es ne) i) (get-insert_other nat_cmp_total nat_cmp-IsAntisymmetric m e.0 e.1 q ne i))
      (cases_eq q e.0)

  or_none : (o : Option X) → option_map_or Some o None ≡ o
  or_none None = refl
  or_none (Some x) = refl

  -- the entries of a map, put into the empty one, give the map
  pub put-all : (m : FinMap nat_cmp X) → fold put_one map.empty (map.entries m) ≡ m
  put-all m = same_map nat_cmp_total nat_cmp-IsAntisymmetric _ _ (λ q.
      put-at map.empty (map.entries m) (entries_sorted m) q
      ∙ (λ i. option_map_or Some (sym (get-entries m q) i) (get-empty nat_cmp q i))
      ∙ or_none (map.get m q))
