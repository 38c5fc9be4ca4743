-- Rows in order are the same rows, in order, and if their keys differ, there is no other such list.
use Rattle.std.proofs.Common.{◌≡◌, Bool, true, false, List, [], ◌∷◌, refl, sym, ap, ◌∙◌}
use Rattle.std.specs.Prelude.{if◌then◌else◌, map, IsPermutation, IsSorted}
use Rattle.std.specs.List.{IsDistinct, AllByRecursion}
use Rattle.std.specs.List.Sorted.{IsStrictlySortedBy}
use Rattle.std.specs.Ordering.{is_lt, is_gt, is_eq, eq_by_cmp}
use Rattle.std.specs.declared.cmp.Ordering.{Ordering}
use Rattle.std.specs.declared.cmp.Ordering.TheVariants.{Less, Equal, Greater}
use Rattle.std.specs.Cmp.{tied_itself, eq_by_cmp_equiv}
use Rattle.std.proofs.lemmas.List.Sorted.{IsPermutation-refl, IsPermutation-cons, IsPermutation-sym, IsPermutation-trans, IsPermutation-middle, Contains-permutation}
use Rattle.std.proofs.lemmas.Map.Keys.{IsDistinct-IsPermutation}
use Rattle.ft_hist.specs.declared.item.SortItem.{SortItem}
use Rattle.ft_fields.specs.Parts.{key_cmp}
use Rattle.ft_fields.specs.Orders.{key_cmp_total}
use Rattle.ft_table.specs.Counted.{Counted}
use Rattle.ft_table.specs.Sorting.{row_cmp, row_among, in_order, HasDistinctKeys}
use Rattle.ft_table.proofs.RowOrders.{row_cmp_total, one_key}
use Rattle.ft_table.proofs.Rising.{strictly, one_list, Chain, Bounds, sorted-chain, greater-not-less, not-less}

-- ---- permutation

among_permutes : (sort : List SortItem) (row : Counted) (rows : List Counted) → IsPermutation (row ∷ rows) (row_among sort row rows)
among_permutes sort row [] = IsPermutation-refl (row ∷ [])
among_permutes sort row (first ∷ rest) = from (among_permutes sort row rest) (is_gt (row_cmp sort row first))
  where
    from : IsPermutation (row ∷ rest) (row_among sort row rest) → (behind : Bool) → IsPermutation (row ∷ first ∷ rest) (if behind then first ∷ row_among sort row rest else row ∷ first ∷ rest)
    from rest_moved false = IsPermutation-refl (row ∷ first ∷ rest)
    from rest_moved true =
        IsPermutation-trans _ _ _ (IsPermutation-sym _ _ (IsPermutation-middle (first ∷ []) row rest))
        (IsPermutation-cons first (row ∷ rest) (row_among sort row rest) rest_moved)

-- rows in order are the rows
pub in_order-permutes : (sort : List SortItem) (rows : List Counted) → IsPermutation rows (in_order sort rows)
unfolding in_order
in_order-permutes sort [] = IsPermutation-refl []
in_order-permutes sort (row ∷ rows) =
    IsPermutation-trans _ _ _ (IsPermutation-cons row rows (in_order sort rows) (in_order-permutes sort rows)) (among_permutes sort row (in_order sort rows))

-- ---- order

among_bounds : (sort : List SortItem) (least row : Counted) (rows : List Counted) → is_lt (row_cmp sort row least) ≡ false → Bounds {R = row_cmp sort} (row_cmp_total sort) least rows → Bounds {R = row_cmp sort} (row_cmp_total sort) least (row_among sort row rows)
among_bounds sort least row [] above bound = above
among_bounds sort least row (first ∷ rest) above bound = from (is_gt (row_cmp sort row first))
  where
    from : (behind : Bool) → Bounds {R = row_cmp sort} (row_cmp_total sort) least (if behind then first ∷ row_among sort row rest else row ∷ first ∷ rest)
    from false = above
    from true = bound

among_rises : (sort : List SortItem) (row : Counted) (rows : List Counted) → Chain {R = row_cmp sort} (row_cmp_total sort) rows → Chain {R = row_cmp sort} (row_cmp_total sort) (row_among sort row rows)
among_rises sort row [] up = (tt, tt)
among_rises sort row (first ∷ rest) up = from (among_rises sort row rest up.1) (is_gt (row_cmp sort row first)) refl
  where
    from : Chain {R = row_cmp sort} (row_cmp_total sort) (row_among sort row rest) → (behind : Bool) → is_gt (row_cmp sort row first) ≡ behind → Chain {R = row_cmp sort} (row_cmp_total sort) (if behind then first ∷ row_among sort row rest else row ∷ first ∷ rest)
    from rest_rises true is = (among_bounds sort first row rest (greater-not-less (row_cmp sort row first) is) up.0, rest_rises)
    from rest_rises false is = (not-less (row_cmp sort first row) (ap is_gt (sym ((row_cmp_total sort).antisymm row first)) ∙ is), up)

in_order-rises : (sort : List SortItem) (rows : List Counted) → Chain {R = row_cmp sort} (row_cmp_total sort) (in_order sort rows)
unfolding in_order
in_order-rises sort [] = tt
in_order-rises sort (row ∷ rows) = among_rises sort row (in_order sort rows) (in_order-rises sort rows)

-- rows in order stand in order
pub in_order-sorted : (sort : List SortItem) (rows : List Counted) → IsSorted (row_cmp sort) (in_order sort rows)
in_order-sorted sort rows = sorted-chain (row_cmp_total sort) (in_order sort rows) (in_order-rises sort rows)

-- ---- no other list

-- two rows are the same row, or have one key
abbrev same_keys : Counted → Counted → Bool
same_keys a b = eq_by_cmp key_cmp a.key b.key

tied : (sort : List SortItem) (a b : Counted) (r : Ordering) → row_cmp sort a b ≡ r → same_keys a b ≡ false → is_eq r ≡ false
tied sort a b Less e other = refl
tied sort a b Equal e other = absurd (let same : same_keys a b ≡ true = rw (one_key sort a b e) (ap is_eq (tied_itself key_cmp_total b.key)) in cc)
tied sort a b Greater e other = refl

others_apart : (sort : List SortItem) (row : Counted) (rows : List Counted) → AllByRecursion (λ key. eq_by_cmp key_cmp row.key key ≡ false) (map (λ r. r.key) rows) → AllByRecursion (λ r. eq_by_cmp (row_cmp sort) row r ≡ false) rows
others_apart sort row [] apart = tt
others_apart sort row (first ∷ rest) apart = (tied sort row first (row_cmp sort row first) refl apart.0, others_apart sort row rest apart.1)

-- rows with different keys don't tie
apart : (sort : List SortItem) (rows : List Counted) → HasDistinctKeys rows → IsDistinct (eq_by_cmp (row_cmp sort)) rows
unfolding IsDistinct
apart sort [] distinct = tt
apart sort (row ∷ rows) distinct = (others_apart sort row rows distinct.0, apart sort rows distinct.1)

rises : (sort : List SortItem) (rows others : List Counted) → HasDistinctKeys rows → IsPermutation rows others → IsSorted (row_cmp sort) others → IsStrictlySortedBy (row_cmp sort) others
rises sort rows others distinct moved up =
    strictly (row_cmp_total sort) others up (IsDistinct-IsPermutation (eq_by_cmp (row_cmp sort)) (eq_by_cmp_equiv (row_cmp_total sort)).symm rows others moved (apart sort rows distinct))

-- if keys differ, a list that has the same rows and is in order is the rows in order
pub in_order-alone : (sort : List SortItem) (rows others : List Counted) → HasDistinctKeys rows → IsPermutation rows others → IsSorted (row_cmp sort) others → others ≡ in_order sort rows
in_order-alone sort rows others distinct moved up =
    let ours = in_order-permutes sort rows in
    one_list (row_cmp_total sort) others (in_order sort rows) (rises sort rows others distinct moved up) (rises sort rows (in_order sort rows) distinct ours (in_order-sorted sort rows))
    (λ q has. Contains-permutation rows (in_order sort rows) q ours (Contains-permutation others rows q (IsPermutation-sym rows others moved) has))
    (λ q has. Contains-permutation rows others q moved (Contains-permutation (in_order sort rows) rows q (IsPermutation-sym rows (in_order sort rows) ours) has))
