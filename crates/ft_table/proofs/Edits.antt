-- Marks in blocks, as one comes, goes or moves.
use Rattle.std.proofs.Common.{◌≡◌, ℕ, ◌<◌, List, length, sym, ap, subst, ◌∙◌, arith, inl, inr}
use Rattle.std.specs.Prelude.{◌+◌}
use Rattle.std.specs.List.{Contains, insert, remove}
use Rattle.std.specs.Map.{keys_of}
use Rattle.std.specs.FinMap.{put}
use Rattle.std.specs.declared.cmp.Ordering.TheVariants.{Less}
use Rattle.std.proofs.lemmas.Bool.{cases_lt}
use Rattle.std.proofs.lemmas.List.Edits.{length-remove, get_or-remove_below, get_or-remove_above}
use Rattle.ft_blocks.specs.Sorted.{Ascend, without}
use Rattle.ft_blocks.proofs.Order.{ascend_put, ascend_without}
use Rattle.ft_hits.specs.declared.mark.Mark.{Mark}
use Rattle.ft_hits.specs.Marks.{mark_cmp, mark_cmp_total, mark_same}
use Rattle.ft_table.specs.inner.Ascending.{Rises, IsRank}
use Rattle.ft_table.specs.inner.Ordered.{HasCome, HasGone, HasMoved, Lacks}
use Rattle.ft_table.proofs.AtEdge.{at_rank}
use Rattle.ft_table.proofs.Orders.{rises_in, rank_of, find_lacking, find_listed, without_rank}
use Rattle.ft_table.proofs.Sorted.{put-rank}

module _ {X : Type 0} (es : List (Mark × X)) (up : Ascend mark_cmp es) where
  pub came_of : (m : Mark) (x : X) (i : ℕ) → Lacks (keys_of es) m → IsRank mark_cmp (keys_of es) m i → (new : List (Mark × X)) → new ≡ put mark_cmp m x es → HasCome m (keys_of es) i (keys_of new)
  came_of m x i lacks at new is = record {
    rises = rises_in mark_cmp_total es up;
    rise = subst (λ (es : List (Mark × X)). Rises mark_cmp (keys_of es)) (sym is) (rises_in mark_cmp_total (put mark_cmp m x es) (ascend_put mark_cmp_total m x es up));
    rank = at;
    lacks = lacks;
    is = ap (λ (es : List (Mark × X)). keys_of es) is ∙ put-rank mark_cmp_total m x es i (find_lacking mark_cmp_total mark_same es m lacks) at;
  }

  pub gone_of : (m : Mark) (i : ℕ) → Contains (keys_of es) m → IsRank mark_cmp (keys_of es) m i → (new : List (Mark × X)) → new ≡ without mark_cmp m es → HasGone m (keys_of es) i (keys_of new)
  gone_of m i has at new is =
      let v = find_listed mark_cmp_total es m has in
      record {
        rises = rises_in mark_cmp_total es up;
        rise = subst (λ (es : List (Mark × X)). Rises mark_cmp (keys_of es)) (sym is) (rises_in mark_cmp_total (without mark_cmp m es) (ascend_without mark_cmp m es up));
        rank = at;
        has = has;
        is = ap (λ (es : List (Mark × X)). keys_of es) is ∙ without_rank mark_cmp_total es up m v.0 i v.1 at;
      }

  contains_more : (ks : List Mark) (i : ℕ) (q : Mark) → i < length ks → Contains (remove ks i) q → Contains ks q
  contains_more ks i q within has = elim (cases_lt has.0 i) [
    | inl lt ↦ (has.0, omega (arith, lt, within), sym (get_or-remove_below ks i q has.0 lt within) ∙ has.2)
    | inr le ↦ (let short = length-remove ks i within in let at = has.1 in (has.0 + 1, omega (arith, short, at), sym (get_or-remove_above ks i q has.0 le within) ∙ has.2))
  ]

  pub moved_of : (from to : Mark) (x : X) (i j : ℕ) → Contains (keys_of es) from → Lacks (keys_of es) to → mark_cmp from to ≡ Less → IsRank mark_cmp (keys_of es) from i → IsRank mark_cmp (remove (keys_of es) i) to j
      → (new : List (Mark × X)) → new ≡ put mark_cmp to x (without mark_cmp from es) → HasMoved from to (keys_of es) i j (keys_of new)
  moved_of from to x i j has lacks less at there new is =
      let v = find_listed mark_cmp_total es from has in
      let rest : List (Mark × X) = without mark_cmp from es in
      let left : keys_of rest ≡ remove (keys_of es) i = without_rank mark_cmp_total es up from v.0 i v.1 at in
      let within = (at_rank (keys_of es) from i (rises_in mark_cmp_total es up) has at).0 in
      let none : Lacks (keys_of rest) to = (λ has. lacks (contains_more (keys_of es) i to within (subst (λ ks. Contains ks to) left has))) in
      let ascend : Ascend mark_cmp rest = ascend_without mark_cmp from es up in
      record {
        rises = rises_in mark_cmp_total es up;
        rise = subst (λ (es : List (Mark × X)). Rises mark_cmp (keys_of es)) (sym is) (rises_in mark_cmp_total (put mark_cmp to x rest) (ascend_put mark_cmp_total to x rest ascend));
        rank = at;
        there = there;
        has = has;
        lacks = lacks;
        later = less;
        is = ap (λ (es : List (Mark × X)). keys_of es) is
            ∙ put-rank mark_cmp_total to x rest j (find_lacking mark_cmp_total mark_same rest to none) (subst (λ ks. IsRank mark_cmp ks to j) (sym left) there)
            ∙ ap (λ ks. insert ks j to) left;
      }

  -- a rank among the others
  pub rank_without : (from to : Mark) (i : ℕ) → Contains (keys_of es) from → IsRank mark_cmp (keys_of es) from i → (j : ℕ) × IsRank mark_cmp (remove (keys_of es) i) to j
  rank_without from to i has at =
      let v = find_listed mark_cmp_total es from has in
      let r = rank_of mark_cmp_total (without mark_cmp from es) (ascend_without mark_cmp from es up) to in
      (r.0, subst (λ ks. IsRank mark_cmp ks to r.0) (without_rank mark_cmp_total es up from v.0 i v.1 at) r.1)
