-- The order of a table, as the mark of a key comes, goes or moves.
use Rattle.std.proofs.Common.{◌≡◌, ℕ, zero, suc, ◌+◌, ◌≤◌, Bool, true, false, cond, List, [], ◌∷◌, length, get_or, refl, sym, ap, subst, ◌∙◌, arith, Some, None, Option, inl, inr}
use Rattle.std.specs.Prelude.{ℤ, is_some}
use Rattle.std.specs.List.{Contains, insert, remove}
use Rattle.std.specs.FinMap as map
use Rattle.std.specs.FinMap.{get-insert, same_map}
use Rattle.std.specs.Ordering.{eq_by_cmp}
use Rattle.std.proofs.lemmas.Bool.{cases_lt, cases_order}
use Rattle.std.proofs.lemmas.List.Edits.{length-insert, get_or-insert_below, get_or-insert_at, get_or-insert_above}
use Rattle.ft_fields.specs.declared.key.Part.{Part}
use Rattle.ft_fields.specs.Parts.{same_key}
use Rattle.ft_hits.specs.declared.mark.Mark.{Mark}
use Rattle.ft_hits.specs.declared.spot.Spot.{Spot}
use Rattle.ft_hits.specs.Hits.{Hits}
use Rattle.ft_hits.specs.Marks.{mark_cmp, mark_cmp_total, mark_same}
use Rattle.ft_hits.proofs.Flat.{is_equal, mark, same_itself}
use Rattle.ft_maps.proofs.Common.{cond_same}
use Rattle.ft_table.specs.Tabled.{is_first, first_hits, order_of}
use Rattle.ft_table.specs.inner.Ascending.{Rises, IsRank}
use Rattle.ft_table.specs.inner.Moves.{others, order_with, order_without}
use Rattle.ft_table.specs.inner.Ordered.{IsMoved, IsWith, IsWithout, Lacks, Ordered}
use Rattle.ft_table.proofs.Counts.{listed, with-apart}
use Rattle.ft_table.proofs.Firsts.{get-first_hits, not_among_others, order-found, order-leave}
use Rattle.ft_table.proofs.Sorted.{keys-insert, keys-without, rank-keys, rises-keys}
use Rattle.ft_table.proofs.Standings.{rank_put, rank_with, rank_without}

-- ---- lists

pub put_back : {X : Type 0} (xs : List X) (i : ℕ) (x : X) → i ≤ length xs → remove (insert xs i x) i ≡ xs
put_back xs zero x le = refl
put_back [] (suc i) x le = absurd (omega arith)
put_back (y ∷ ys) (suc i) x le = ap (λ (zs : List _). y ∷ zs) (put_back ys i x (omega arith))

pub has_put : (ks : List Mark) (i : ℕ) (m : Mark) → i ≤ length ks → Contains (insert ks i m) m
has_put ks i m le = (i, (let long = length-insert ks i m le in omega (arith, long, le)), get_or-insert_at ks i m m le)

pub has_still : (ks : List Mark) (i : ℕ) (m q : Mark) → i ≤ length ks → Contains ks q → Contains (insert ks i m) q
has_still ks i m q le has =
    let long = length-insert ks i m le in let lt = has.1 in
    elim (cases_lt has.0 i) [
      | inl before ↦ (has.0, omega (arith, long, lt), get_or-insert_below ks i m q has.0 before le ∙ has.2)
      | inr behind ↦ (has.0 + 1, omega (arith, long, lt), get_or-insert_above ks i m q has.0 behind le ∙ has.2)
    ]

-- ---- marks of hits

-- the marks in order are those of first hits, so that a mark without a hit is none of them
pub no_mark : (hits : Hits) (m : Mark) → map.get hits m ≡ None → Lacks (order_of hits) m
no_mark hits m none has =
    let some : is_some (map.get (first_hits hits) m) ≡ true = subst (λ q. is_some (map.get (first_hits hits) q) ≡ true) has.2 (listed (first_hits hits) has.0 m has.1) in
    let gone : map.get (first_hits hits) m ≡ None = get-first_hits hits m ∙ ap (λ o. cond (is_first hits m) o None) none ∙ cond_same (is_first hits m) None in
    let both : true ≡ false = sym some ∙ ap is_some gone in
    cc

pub rank_any : (hits : Hits) (m : Mark) → (i : ℕ) × IsRank mark_cmp (order_of hits) m i
rank_any hits m = rank-keys mark_cmp_total (first_hits hits) m

pub rises_any : (hits : Hits) → Rises mark_cmp (order_of hits)
rises_any hits = rises-keys (first_hits hits)

module _ (hits : Hits) (m : Mark) (old new : Ordered) (order : old.marks ≡ order_of hits) (came : IsWith m old new) where
  at : (i : ℕ) × IsRank mark_cmp old.marks m i
  at = subst (λ ms. (i : ℕ) × IsRank mark_cmp ms m i) (sym order) (rank_any hits m)

  -- the mark that came is one of them
  pub came_there : Contains new.marks m
  came_there = subst (λ ms. Contains ms m) (sym (came.marks at.0 at.1)) (has_put old.marks at.0 m at.1.within)

  pub others_there : (q : Mark) → Contains old.marks q → Contains new.marks q
  others_there q has = subst (λ ms. Contains ms q) (sym (came.marks at.0 at.1)) (has_still old.marks at.0 m q at.1.within has)

  -- and as it goes again, all is as it was
  pub came_back : (last : Ordered) → IsWithout m new last → last ≡ old
  came_back last went =
      let is : new.marks ≡ insert old.marks at.0 m = came.marks at.0 at.1 in
      let marks : last.marks ≡ old.marks =
      (went.marks at.0 (subst (λ ms. IsRank mark_cmp ms m at.0) (sym is) (rank_put old.marks m at.0 at.1))
      ∙ ap (λ (ms : List Mark). remove ms at.0) is ∙ put_back old.marks at.0 m at.1.within) in
      let size : last.size ≡ old.size = went.size ∙ came.size in
      λ i. record { marks = marks i; size = size i }

-- a mark that comes to the others of its key
pub came_order : (hits : Hits) (m : Mark) (old new : Ordered) → old.marks ≡ order_without hits m.key → IsWith m old new → new.marks ≡ order_with hits m
came_order hits m old new order came =
    let at = rank_without hits m 0 in
    came.marks at.0 (subst (λ ms. IsRank mark_cmp ms m at.0) (sym order) at.1.0) ∙ ap (λ (ms : List Mark). insert ms at.0 m) order ∙ sym at.1.1

-- one that goes from them
pub went_order : (hits : Hits) (m : Mark) (old new : Ordered) → old.marks ≡ order_with hits m → IsWithout m old new → new.marks ≡ order_without hits m.key
went_order hits m old new order went =
    let at = rank_with hits m 0 in
    went.marks at.0 (subst (λ ms. IsRank mark_cmp ms m at.0) (sym order) at.1) ∙ ap (λ (ms : List Mark). remove ms at.0) order ∙ sym (order-leave hits m at.0 at.1)

-- one of a key that moves
pub moved_order : (hits : Hits) (key : List Part) (p q : Spot) (old new : Ordered) → old.marks ≡ order_with hits (mark p key) → IsMoved (mark p key) (mark q key) old new → new.marks ≡ order_with hits (mark q key)
moved_order hits key p q old new order moved =
    let at = rank_with hits (mark p key) 0 in
    let there = rank_without hits (mark q key) 0 in
    let rest : remove old.marks at.0 ≡ order_without hits key = ap (λ (ms : List Mark). remove ms at.0) order ∙ sym (order-leave hits (mark p key) at.0 at.1) in
    moved.marks at.0 there.0 (subst (λ ms. IsRank mark_cmp ms (mark p key) at.0) (sym order) at.1) (subst (λ ms. IsRank mark_cmp ms (mark q key) there.0) (sym rest) there.1.0)
    ∙ ap (λ (ms : List Mark). insert ms there.0 (mark q key)) rest ∙ sym there.1.1

-- and another mark of the key is none of them
pub no_other : (hits : Hits) (key : List Part) (p q : Spot) → (q ≡ p → ⊥) → Lacks (order_with hits (mark p key)) (mark q key)
no_other hits key p q other has =
    let m : Mark = mark p key in
    let at = rank_with hits m 0 in
    elim (cases_order has.0 at.0) [
      | inl same ↦ other (ap (λ (m : Mark). m.spot) (sym has.2 ∙ ap (λ n. get_or (order_with hits m) n (mark q key)) same ∙ (order-found hits m at.0 at.1).1 (mark q key)))
      | inr way ↦ (
          let ne : has.0 ≡ at.0 → ⊥ = (λ e. elim way [ inl lt ↦ omega (arith, lt, e) | inr lt ↦ omega (arith, lt, e) ]) in
          let apart : same_key (get_or (order_with hits m) has.0 (mark q key)).key key ≡ false = with-apart hits m at.0 has.0 (mark q key) at.1 has.1 ne in
          let both : true ≡ false = sym (same_itself key) ∙ ap (λ (m : Mark). same_key m.key key) (sym has.2) ∙ apart in
          cc)
    ]

-- two keys may come in any order
swapped : (m : Hits) (a b : Mark) → eq_by_cmp mark_cmp a b ≡ false → map.insert (map.insert m a []) b [] ≡ map.insert (map.insert m b []) a []
swapped m a b apart = same_map mark_cmp_total mark_same _ _ (λ q.
    get-insert mark_cmp_total (map.insert m a []) b [] q ∙ ap (cond (eq_by_cmp mark_cmp q b) (Some [])) (get-insert mark_cmp_total m a [] q)
    ∙ either (eq_by_cmp mark_cmp q b) (eq_by_cmp mark_cmp q a) (map.get m q)
    ∙ sym (get-insert mark_cmp_total (map.insert m b []) a [] q ∙ ap (cond (eq_by_cmp mark_cmp q a) (Some [])) (get-insert mark_cmp_total m b [] q))) where
      either : (x y : Bool) (o : Option (List ℤ)) → cond x (Some []) (cond y (Some []) o) ≡ cond y (Some []) (cond x (Some []) o)
      either true true o = refl
      either true false o = refl
      either false true o = refl
      either false false o = refl

module _ (hits : Hits) (key : List Part) (p q : Spot) (other : q ≡ p → ⊥) where
  abbrev first : Mark
  first = mark p key

  abbrev m : Mark
  m = mark q key

  unlike : (a b : Spot) → (a ≡ b → ⊥) → eq_by_cmp mark_cmp (mark a key) (mark b key) ≡ false
  unlike a b other = elim (eq_by_cmp mark_cmp (mark a key) (mark b key)) as (λ t. eq_by_cmp mark_cmp (mark a key) (mark b key) ≡ t → t ≡ false) [
    | true ↦ λ tie. absurd (other (ap (λ (m : Mark). m.spot) (mark_same (mark a key) (mark b key) (is_equal _ tie))))
    | false ↦ λ tie. refl
  ] refl

  none_beside : (a b : Spot) → (a ≡ b → ⊥) → map.get (map.insert (others hits key) (mark b key) []) (mark a key) ≡ None
  none_beside a b other =
      get-insert mark_cmp_total (others hits key) (mark b key) [] (mark a key)
      ∙ ap (λ t. cond t (Some []) (map.get (others hits key) (mark a key))) (unlike a b other) ∙ not_among_others hits (mark a key)

  -- a mark of a key comes, and then the key's other one goes
  pub moved_up : (old mid last : Ordered) → old.marks ≡ order_with hits first → IsWith m old mid → IsWithout first mid last → last.marks ≡ order_with hits m
  moved_up old mid last order came went =
      let one : Hits = map.insert (others hits key) first [] in
      let at = rank-keys mark_cmp_total one m in
      let both : mid.marks ≡ map.keys (map.insert one m []) =
      (came.marks at.0 (subst (λ ms. IsRank mark_cmp ms m at.0) (sym order) at.1) ∙ ap (λ (ms : List Mark). insert ms at.0 m) order
      ∙ sym (keys-insert mark_cmp_total one m [] at.0 (none_beside q p other) at.1)) in
      let turned : mid.marks ≡ map.keys (map.insert (map.insert (others hits key) m []) first []) = both ∙ ap map.keys (swapped (others hits key) first m (unlike p q (λ e. other (sym e)))) in
      let r = rank-keys mark_cmp_total (map.insert (map.insert (others hits key) m []) first []) first in
      went.marks r.0 (subst (λ ms. IsRank mark_cmp ms first r.0) (sym turned) r.1) ∙ ap (λ (ms : List Mark). remove ms r.0) turned
      ∙ sym (keys-without mark_cmp_total (map.insert (others hits key) m []) first [] r.0 (none_beside p q (λ e. other (sym e))) r.1)
