-- A `BTreeMap` as a finite map: what contracts see of it, and what its calls do to that.
use Rattle.std.specs.Prelude.{◌≡◌, ◌∷◌, List, [], length, map as list_map, Some, None, IsSome}
use Rattle.std.specs.declared.cmp.Ordering.{Ordering}
use Rattle.std.specs.Ordering.{eq_by_cmp}
use Rattle.std.specs.Cmp.{IsTotalOrder, eq_by_cmp_equiv}
use Rattle.std.specs.Map.{lookup, values_of}
use Rattle.std.specs.BTreeMap as tree
use Rattle.std.specs.BTreeMap.{BTreeMap, IsOrdered, is_at, btree_map_len}
use Rattle.std.specs.FinMap as finite
use Rattle.std.specs.FinMap.{FinMap, IsAntisymmetric, find, get-from_entries, get-insert, get-remove, len-entries, same_map}
use Rattle.std.proofs.Common.{cond, refl, sym, ap, subst, ◌∙◌}
use Rattle.ft_maps.specs.Entries.{entries-from_entries, insert_same}

-- what a map holds, whatever its tree
abbrev pub seen : {K X : Type 0} → (R : K → K → Ordering) → BTreeMap K X → FinMap R X
seen R m = finite.from_entries m.entries

-- a search of a finite map's entries is one of a tree's
pub find-lookup : {K X : Type 0} (R : K → K → Ordering) (q : K) (es : List (K × X)) → find R q es ≡ lookup (is_at (R q)) es
find-lookup R q [] = refl
find-lookup R q (e ∷ es) = ap (cond (is_at (R q) e.0) (Some e.1)) (find-lookup R q es)

-- an unchanged tree is seen unchanged
pub same-seen : {K X : Type 0} (R : K → K → Ordering) (m n : BTreeMap K X) → tree.IsUnchanged m n → seen R n ≡ seen R m
same-seen R m n e = ap finite.from_entries e

-- an empty tree is seen as the empty map
pub seen-empty : {K X : Type 0} (R : K → K → Ordering) (m : BTreeMap K X) → tree.IsEmpty m → seen R m ≡ finite.empty
seen-empty R m e = ap finite.from_entries e

module _ {K X : Type 0} {R : K → K → Ordering} (total : IsTotalOrder R) where
  -- a look-up in the tree is one in the finite map
  pub get-seen : (m : BTreeMap K X) (q : K) → finite.get (seen R m) q ≡ tree.get R m q
  get-seen m q = get-from_entries total m.entries q ∙ find-lookup R q m.entries

  -- the entries of a tree, which stand in order, are those of the finite map
  pub entries-seen : (m : BTreeMap K X) → IsOrdered R m → finite.entries (seen R m) ≡ m.entries
  entries-seen m sorted = entries-from_entries total m.entries sorted

  -- and so are the values
  pub values-seen : (m : BTreeMap K X) → IsOrdered R m → finite.values (seen R m) ≡ values_of m.entries
  values-seen m sorted = ap (list_map (λ e. e.1)) (entries-seen m sorted)

  -- and their number
  pub len-seen : (m : BTreeMap K X) → IsOrdered R m → finite.len (seen R m) ≡ btree_map_len m
  len-seen m sorted = len-entries (seen R m) ∙ ap length (entries-seen m sorted)

  module _ (same : IsAntisymmetric R) where
    -- a tree that answers as a finite map does is seen as that one
    pub seen-from_get : (m : BTreeMap K X) (f : FinMap R X) → ((q : K) → tree.get R m q ≡ finite.get f q) → seen R m ≡ f
    seen-from_get m f h = same_map total same _ _ (λ q. get-seen m q ∙ h q)

    -- what `insert` leaves, by its clause `updates.0`, is seen as the map with the value at the key
    pub seen-insert : (m n : BTreeMap K X) (k : K) (v : X) → ((q : K) → tree.get R n q ≡ cond (is_at (R k) q) (Some v) (tree.get R m q)) → seen R n ≡ finite.insert (seen R m) k v
    seen-insert m n k v h = seen-from_get n _ (λ q.
        h q ∙ ap (λ b. cond b (Some v) (tree.get R m q)) ((eq_by_cmp_equiv total).symm k q)
        ∙ sym (get-insert total (seen R m) k v q ∙ ap (cond (eq_by_cmp R q k) (Some v)) (get-seen m q)))

    -- what `remove` leaves, by its clause `updates.0`, is seen as the map without the key
    pub seen-remove : (m n : BTreeMap K X) (k : K) → ((q : K) → tree.get R n q ≡ cond (is_at (R k) q) None (tree.get R m q)) → seen R n ≡ finite.remove (seen R m) k
    seen-remove m n k h = seen-from_get n _ (λ q.
        h q ∙ ap (λ b. cond b None (tree.get R m q)) ((eq_by_cmp_equiv total).symm k q)
        ∙ sym (get-remove total (seen R m) k q ∙ ap (cond (eq_by_cmp R q k) None) (get-seen m q)))

    -- a value that is written through what `get_mut` lent is seen at the key
    pub seen-write : (m n : BTreeMap K X) (k : K) (v : X) → IsSome (tree.get R m k) → tree.WritesThrough R (R k) m v n → seen R n ≡ finite.insert (seen R m) k v
    seen-write m n k v is h = seen-insert m n k v (h.3 is).0

    -- `get_mut` lent a value, and another was written
    pub seen-found : (m n : BTreeMap K X) (k : K) (was v : X) → Some was ≡ tree.get R m k → tree.WritesThrough R (R k) m v n → seen R n ≡ finite.insert (seen R m) k v
    seen-found m n k was v is h = seen-write m n k v (subst IsSome is refl) h

    -- `get_mut` lent a value, and it was left as it was
    pub seen-kept : (m n : BTreeMap K X) (k : K) (was v : X) → Some was ≡ tree.get R m k → tree.WritesThrough R (R k) m v n → v ≡ was → seen R n ≡ seen R m
    seen-kept m n k was v is h e = seen-found m n k was v is h ∙ ap (finite.insert (seen R m) k) e ∙ insert_same total same _ k was (get-seen m k ∙ sym is)
