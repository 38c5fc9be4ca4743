-- Entries in order, the finite map that contracts above see them as, and edits of both.
use Rattle.std.specs.Prelude.{◌≡◌, Bool, true, false, Option, List, [], ◌∷◌, Some, None, not}
use Rattle.std.specs.declared.cmp.Ordering.{Ordering}
use Rattle.std.specs.declared.cmp.Ordering.TheVariants.{Less}
use Rattle.std.specs.Ordering.{eq_by_cmp, is_eq}
use Rattle.std.specs.Cmp.{IsTotalOrder, eq_by_cmp_equiv}
use Rattle.std.specs.FinMap as finite
use Rattle.std.specs.FinMap.{IsAntisymmetric, put, find, get-from_entries, get-insert, get-remove, same_map}
use Rattle.std.specs.FinMap.Entries.{find-put, find-where_key}
use Rattle.std.specs.Map.{keys_of}
use Rattle.std.specs.List.{AllByRecursion}
use Rattle.std.specs.List.Sorted.{IsStrictlySortedBy}
use Rattle.std.proofs.Common.{cond, refl, sym, ap, ◌∙◌}
use Rattle.std.proofs.lemmas.Cmp.{alike_right}
use Rattle.std.proofs.lemmas.Option.{none-some}
use Rattle.ft_maps.specs.Entries.{entries-from_entries}
use Rattle.ft_blocks.specs.Sorted.{AllAbove, Ascend, without}

turned : {A : Type 0} (b : Bool) (o : Option A) → cond (not b) o None ≡ cond b None o
turned true o = refl
turned false o = refl

module _ {K X : Type 0} (R : K → K → Ordering) where
  each : (k : K) (es : List (K × X)) → AllAbove R k es → AllByRecursion (λ q. R k q ≡ Less) (keys_of es)
  each k [] a = tt
  each k (e ∷ es) a = (a.0, each k es a.1)

  strict : (es : List (K × X)) → Ascend R es → IsStrictlySortedBy R (keys_of es)
  unfolding IsStrictlySortedBy
  strict [] up = tt
  strict (e ∷ es) up = (each e.0 es up.0, strict es up.1)

module _ {K X : Type 0} (R : K → K → Ordering) where
  apart : (k : K) (e : K × X) (es : List (K × X)) (b : Bool) → cond b (Some e.1) (find R k es) ≡ None → (find R k es ≡ None → without R k es ≡ es) → cond (not b) (e ∷ without R k es) (without R k es) ≡ e ∷ es
  apart k e es true none f = absurd (none-some e.1 (sym none))
  apart k e es false none f = ap (λ (l : List (K × X)). e ∷ l) (f none)

  -- taking out a key that has nothing leaves all entries
  pub without-none : (k : K) (es : List (K × X)) → find R k es ≡ None → without R k es ≡ es
  without-none k [] none = refl
  without-none k (e ∷ es) none = apart k e es (eq_by_cmp R k e.0) none (without-none k es)

module _ {K X : Type 0} {R : K → K → Ordering} (total : IsTotalOrder R) where
  -- entries in order are those of the finite map that they are seen as
  pub entries-ascend : (es : List (K × X)) → Ascend R es → finite.entries (finite.from_entries {R = R} es) ≡ es
  entries-ascend es up = entries-from_entries total es (strict R es up)

  -- a look-up is one in the finite map
  pub get-found : (es : List (K × X)) (q : K) → finite.get (finite.from_entries {R = R} es) q ≡ find R q es
  get-found es q = get-from_entries total es q

  module _ (same : IsAntisymmetric R) where
    pub seen-put : (es : List (K × X)) (k : K) (v : X) → finite.from_entries {R = R} (put R k v es) ≡ finite.insert (finite.from_entries es) k v
    seen-put es k v = same_map total same _ _ (λ q.
        get-from_entries total (put R k v es) q ∙ find-put R total q k v es
        ∙ sym (get-insert total (finite.from_entries es) k v q ∙ ap (cond (eq_by_cmp R q k) (Some v)) (get-from_entries total es q)))

    pub seen-without : (es : List (K × X)) (k : K) → finite.from_entries {R = R} (without R k es) ≡ finite.remove (finite.from_entries es) k
    seen-without es k = same_map total same _ _ (λ q.
        get-from_entries total (without R k es) q
        ∙ find-where_key R (λ x. not (eq_by_cmp R k x)) q (λ x t. ap (λ r. not (is_eq r)) (sym (alike_right total q x k t))) es
        ∙ turned (eq_by_cmp R k q) (find R q es)
        ∙ ap (λ b. cond b None (find R q es)) ((eq_by_cmp_equiv total).symm k q)
        ∙ sym (get-remove total (finite.from_entries es) k q ∙ ap (cond (eq_by_cmp R q k) None) (get-from_entries total es q)))
