-- The hits on both sides of the edge, as a mark goes in or out.
use Rattle.std.proofs.Common.{◌≡◌, ℕ, zero, suc, ◌+◌, ◌-◌, ◌<◌, ◌≤◌, ◌^◌, List, length, get_or, drop, sym, ap, subst, arith}
use Rattle.std.specs.List.{insert, remove, sum_by}
use Rattle.std.proofs.lemmas.List.Sums.{sum_by-insert, sum_by-remove, sum_by-drop_more}
use Rattle.ft_fields.specs.declared.key.Part.{Part}
use Rattle.ft_hits.specs.declared.mark.Mark.{Mark}
use Rattle.ft_table.specs.inner.Cut.{IsSplit}
use Rattle.ft_table.proofs.Edges.{drop-insert, drop-remove, sum-drop-insert, sum-drop-remove, sum-drop-le, sum-drop-all}

module _ (count : List Part → ℕ) where
  abbrev weight : Mark → ℕ
  weight m = count m.key

  -- what goes in among those in the table, if it is full: the last goes out
  pub enters-full : {size : ℕ} {order : List Mark} {hits dropped : ℕ} (rank : ℕ) (m d : Mark) → rank < size → size ≤ length order → IsSplit count size order hits dropped → hits + dropped + count m.key < 2 ^ 64
      → (count (get_or order (size - 1) d).key ≤ hits + count m.key) × IsSplit count size (insert order rank m) (hits + count m.key - count (get_or order (size - 1) d).key) (dropped + count (get_or order (size - 1) d).key)
  enters-full {size = zero} {order = order} {hits = hits} {dropped = dropped} rank m d lt full h few = absurd (omega arith)
  enters-full {size = suc t} {order = order} {hits = hits} {dropped = dropped} rank m d lt full h few =
      let last : suc t - 1 ≡ t = omega arith in
      rw last (
      let behind : sum_by weight (drop (suc t) (insert order rank m)) ≡ sum_by weight (drop t order) = ap (sum_by weight) (drop-insert order t rank m (omega arith)) in
      let more : sum_by weight (drop t order) ≡ weight (get_or order t d) + sum_by weight (drop (t + 1) order) = sum_by-drop_more weight order t d (omega arith) in
      let same : sum_by weight (drop (t + 1) order) ≡ sum_by weight (drop (suc t) order) = let e : t + 1 ≡ suc t = omega arith in ap (λ n. sum_by weight (drop n order)) e in
      let all : sum_by weight (insert order rank m) ≡ sum_by weight order + weight m = sum_by-insert weight order rank m in
      let le : sum_by weight (drop t order) ≤ sum_by weight order = sum-drop-le weight order t in
      let old_behind = h.behind in
      let old_whole = h.whole in
      let old_fits = h.fits in
      (omega arith, record { behind = omega arith; whole = omega arith; fits = omega arith }))

  -- if it has room
  pub enters-room : {size : ℕ} {order : List Mark} {hits dropped : ℕ} (rank : ℕ) (m : Mark) → rank < size → length order < size → IsSplit count size order hits dropped → hits + dropped + count m.key < 2 ^ 64
      → IsSplit count size (insert order rank m) (hits + count m.key) dropped
  enters-room {size = zero} {order = order} {hits = hits} {dropped = dropped} rank m lt room h few = absurd (omega arith)
  enters-room {size = suc t} {order = order} {hits = hits} {dropped = dropped} rank m lt room h few =
      let behind : sum_by weight (drop (suc t) (insert order rank m)) ≡ sum_by weight (drop t order) = ap (sum_by weight) (drop-insert order t rank m (omega arith)) in
      let none : sum_by weight (drop t order) ≡ 0 = sum-drop-all weight order t (omega arith) in
      let none_old : sum_by weight (drop (suc t) order) ≡ 0 = sum-drop-all weight order (suc t) (omega arith) in
      let all : sum_by weight (insert order rank m) ≡ sum_by weight order + weight m = sum_by-insert weight order rank m in
      let old_behind = h.behind in
      let old_whole = h.whole in
      let old_fits = h.fits in
      record { behind = omega arith; whole = omega arith; fits = omega arith }

  -- and after them
  pub enters-behind : {size : ℕ} {order : List Mark} {hits dropped : ℕ} (rank : ℕ) (m : Mark) → size ≤ rank → rank ≤ length order → IsSplit count size order hits dropped → hits + dropped + count m.key < 2 ^ 64
      → IsSplit count size (insert order rank m) hits (dropped + count m.key)
  enters-behind {size = size} {order = order} {hits = hits} {dropped = dropped} rank m le within h few =
      let behind : sum_by weight (drop size (insert order rank m)) ≡ sum_by weight (drop size order) + weight m = sum-drop-insert weight order size rank m le within in
      let all : sum_by weight (insert order rank m) ≡ sum_by weight order + weight m = sum_by-insert weight order rank m in
      let old_behind = h.behind in
      let old_whole = h.whole in
      let old_fits = h.fits in
      record { behind = omega arith; whole = omega arith; fits = omega arith }

  -- what goes out of those in the table, if others are outside: the first of them comes in
  pub leaves-full : {size : ℕ} {order : List Mark} {hits dropped : ℕ} (rank : ℕ) (c d : Mark) → rank < size → size < length order → IsSplit count size order hits dropped
      → (count (get_or order size d).key ≤ dropped) × (count (get_or order rank c).key ≤ hits + count (get_or order size d).key) × IsSplit count size (remove order rank) (hits + count (get_or order size d).key - count (get_or order rank c).key) (dropped - count (get_or order size d).key)
  leaves-full {size = size} {order = order} {hits = hits} {dropped = dropped} rank c d lt full h =
      let behind : sum_by weight (drop size (remove order rank)) ≡ sum_by weight (drop (suc size) order) = ap (sum_by weight) (drop-remove order size rank (omega arith) (omega arith)) in
      let more : sum_by weight (drop size order) ≡ weight (get_or order size d) + sum_by weight (drop (size + 1) order) = sum_by-drop_more weight order size d full in
      let same : sum_by weight (drop (size + 1) order) ≡ sum_by weight (drop (suc size) order) = let e : size + 1 ≡ suc size = omega arith in ap (λ n. sum_by weight (drop n order)) e in
      let all : sum_by weight (remove order rank) + weight (get_or order rank c) ≡ sum_by weight order = sum_by-remove weight order rank c (omega arith) in
      let le : sum_by weight (drop size (remove order rank)) ≤ sum_by weight (remove order rank) = sum-drop-le weight (remove order rank) size in
      let old_behind = h.behind in
      let old_whole = h.whole in
      let old_fits = h.fits in
      (omega arith, omega arith, record { behind = omega arith; whole = omega arith; fits = omega arith })

  -- if none are
  pub leaves-room : {size : ℕ} {order : List Mark} {hits dropped : ℕ} (rank : ℕ) (c : Mark) → rank < size → rank < length order → length order ≤ size → IsSplit count size order hits dropped
      → (count (get_or order rank c).key ≤ hits) × IsSplit count size (remove order rank) (hits - count (get_or order rank c).key) dropped
  leaves-room {size = size} {order = order} {hits = hits} {dropped = dropped} rank c lt within room h =
      let behind : sum_by weight (drop size (remove order rank)) ≡ sum_by weight (drop (suc size) order) = ap (sum_by weight) (drop-remove order size rank (omega arith) (omega arith)) in
      let none : sum_by weight (drop (suc size) order) ≡ 0 = sum-drop-all weight order (suc size) (omega arith) in
      let none_old : sum_by weight (drop size order) ≡ 0 = sum-drop-all weight order size (omega arith) in
      let all : sum_by weight (remove order rank) + weight (get_or order rank c) ≡ sum_by weight order = sum_by-remove weight order rank c within in
      let old_behind = h.behind in
      let old_whole = h.whole in
      let old_fits = h.fits in
      (omega arith, record { behind = omega arith; whole = omega arith; fits = omega arith })

  -- and after them
  pub leaves-behind : {size : ℕ} {order : List Mark} {hits dropped : ℕ} (rank : ℕ) (c : Mark) → size ≤ rank → rank < length order → IsSplit count size order hits dropped
      → (count (get_or order rank c).key ≤ dropped) × IsSplit count size (remove order rank) hits (dropped - count (get_or order rank c).key)
  leaves-behind {size = size} {order = order} {hits = hits} {dropped = dropped} rank c le within h =
      let behind : sum_by weight (drop size (remove order rank)) + weight (get_or order rank c) ≡ sum_by weight (drop size order) = sum-drop-remove weight order size rank c le within in
      let all : sum_by weight (remove order rank) + weight (get_or order rank c) ≡ sum_by weight order = sum_by-remove weight order rank c within in
      let old_behind = h.behind in
      let old_whole = h.whole in
      let old_fits = h.fits in
      (omega arith, record { behind = omega arith; whole = omega arith; fits = omega arith })

  -- the same, with the numbers written otherwise
  pub resplit : {size s : ℕ} {order other : List Mark} {hits dropped h d : ℕ} → IsSplit count size order hits dropped → s ≡ size → other ≡ order → h ≡ hits → d ≡ dropped → IsSplit count s other h d
  resplit is e f g k = subst (λ (t : ℕ × (List Mark × (ℕ × ℕ))). IsSplit count t.0 t.1.0 t.1.1.0 t.1.1.1) (λ i. (sym e i, (sym f i, (sym g i, sym k i)))) is
