-- Which keys are among the first of the order, except for one key.
use Rattle.std.proofs.Common.{◌≡◌, ℕ, zero, suc, ◌-◌, ◌<◌, ◌≤◌, Bool, false, List, [], ◌∷◌, length, get_or, take, drop, map as list_map, refl, sym, ap, ◌∙◌, arith, Some, None, Option, inl, inr}
use Rattle.std.specs.Prelude.{◌||◌, slice_get}
use Rattle.std.specs.List.{insert, list_any}
use Rattle.std.specs.declared.cmp.Ordering.TheVariants.{Less, Equal, Greater}
use Rattle.std.specs.Ordering.{ordering_reverse}
use Rattle.std.proofs.lemmas.Bool.{cases_lt}
use Rattle.ft_hits.specs.declared.spot.Spot.{Spot}
use Rattle.ft_fields.specs.declared.key.Part.{Part}
use Rattle.ft_fields.specs.Parts.{same_key}
use Rattle.ft_hits.specs.declared.mark.Mark.{Mark}
use Rattle.ft_hits.specs.Marks.{mark_cmp, mark_cmp_total}
use Rattle.ft_table.specs.inner.Ascending.{IsRank}
use Rattle.ft_hits.specs.Hits.{Hits}
use Rattle.ft_table.specs.inner.Moves.{order_without, order_with, order_before, others}
use Rattle.ft_hits.proofs.Flat.{mark}
use Rattle.ft_table.proofs.Firsts.{order-enter}
use Rattle.ft_table.proofs.Sorted.{rank-keys}
use Rattle.ft_table.proofs.Appends.{length-taken}

-- ---- lists

module _ {X Y : Type 0} (f : X → Y) (p : Y → Bool) where
  abbrev pub among : ℕ → List X → Bool
  among s xs = list_any p (list_map f (take s xs))

  pub among-insert : (xs : List X) (t i : ℕ) (x : X) → i ≤ t → i ≤ length xs → p (f x) ≡ false → among (suc t) (insert xs i x) ≡ among t xs
  among-insert [] zero zero x le within apart = ap (λ b. b || false) apart
  among-insert [] (suc t) zero x le within apart = ap (λ b. b || false) apart
  among-insert [] t (suc i) x le within apart = absurd (omega arith)
  among-insert (y ∷ ys) t zero x le within apart = ap (λ b. b || among t (y ∷ ys)) apart
  among-insert (y ∷ ys) zero (suc i) x le within apart = absurd (omega arith)
  among-insert (y ∷ ys) (suc t) (suc i) x le within apart = ap (λ b. p (f y) || b) (among-insert ys t i x (omega arith) (omega arith) apart)

  pub take-insert : (xs : List X) (s i : ℕ) (x : X) → s ≤ i → i ≤ length xs → take s (insert xs i x) ≡ take s xs
  take-insert xs zero i x le within = refl
  take-insert xs (suc s) zero x le within = absurd (omega arith)
  take-insert [] (suc s) (suc i) x le within = absurd (omega arith)
  take-insert (y ∷ ys) (suc s) (suc i) x le within = ap (λ (zs : List X). y ∷ zs) (take-insert ys s i x (omega arith) (omega arith))

  pub among-less : (xs : List X) (t : ℕ) → ((d : X) → t < length xs → p (f (get_or xs t d)) ≡ false) → among (suc t) xs ≡ among t xs
  among-less [] zero apart = refl
  among-less [] (suc t) apart = refl
  among-less (y ∷ ys) zero apart = ap (λ b. b || false) (apart y (omega arith))
  among-less (y ∷ ys) (suc t) apart = ap (λ b. p (f y) || b) (among-less ys t (λ d lt. apart d (omega arith)))

  last_at : (xs : List X) (t : ℕ) (d : X) → t < length xs → slice_get (list_map f (take (suc t) xs)) t ≡ Some (f (get_or xs t d))
  last_at [] t d lt = absurd (omega arith)
  last_at (y ∷ ys) zero d lt = refl
  last_at (y ∷ ys) (suc t) d lt = last_at ys t d (omega arith)

  pub last-taken : (xs : List X) (t : ℕ) (d : X) → t < length xs → slice_get (list_map f (take (suc t) xs)) (length (list_map f (take (suc t) xs)) - 1) ≡ Some (f (get_or xs t d))
  last-taken xs t d lt =
      let len : length (list_map f (take (suc t) xs)) ≡ suc t = length-taken f xs (suc t) (omega arith) in
      let e : length (list_map f (take (suc t) xs)) - 1 ≡ t = omega (arith, len) in
      ap (slice_get (list_map f (take (suc t) xs))) e ∙ last_at xs t d lt

  pub first-dropped : (xs : List X) (s : ℕ) (d : X) → s < length xs → slice_get (list_map f (drop s xs)) 0 ≡ Some (f (get_or xs s d))
  first-dropped [] s d lt = absurd (omega arith)
  first-dropped (y ∷ ys) zero d lt = refl
  first-dropped (y ∷ ys) (suc s) d lt = first-dropped ys s d (omega arith)

-- ---- places

-- what isn't after another stands no further on
pub rank-le : (ks : List Mark) (a b : Mark) (i j : ℕ) → IsRank mark_cmp ks a i → IsRank mark_cmp ks b j → (mark_cmp b a ≡ Less → ⊥) → i ≤ j
rank-le ks a b i j at there apart = elim (cases_lt j i) [
  | inr le ↦ le
  | inl lt ↦
      let x : Mark = get_or ks j a in
      let before : mark_cmp x a ≡ Less = at.below j a lt in
      let w = at.within in
      absurd (elim (mark_cmp x b) as (λ o. mark_cmp x b ≡ o → ⊥) [
        | Less ↦ λ is. there.above j a (omega arith) (omega arith) is
        | Equal ↦ λ is. apart (sym (mark_cmp_total.congr x b a is) ∙ before)
        | Greater ↦ λ is. apart (mark_cmp_total.trans b x a (mark_cmp_total.antisymm b x ∙ ap ordering_reverse is) before)
      ] refl)
]

-- ---- the keys in a table, except for one key

abbrev pub key_of : Mark → List Part
key_of m = m.key

module _ (hits : Hits) (key q : List Part) (apart : same_key q key ≡ false) (t : ℕ) where
  abbrev pub rest : List Mark
  rest = order_without hits key

  -- whether q is in a table for t + 1 keys, if the key has its first hit at o
  abbrev pub stands : Option Spot → Bool
  stands o = among key_of (same_key q) (suc t) (order_before hits key o)

  pub order-at : (p : Spot) → (i : ℕ) × (IsRank mark_cmp rest (mark p key) i × (order_with hits (mark p key) ≡ insert rest i (mark p key)))
  order-at p = let at = rank-keys mark_cmp_total (others hits key) (mark p key) in (at.0, (at.1, order-enter hits (mark p key) at.0 at.1))

  -- the next mark is none of q's key
  abbrev pub NotAt : Type 0
  NotAt = (d : Mark) → t < length rest → same_key q (get_or rest t d).key ≡ false

  stands-none : stands None ≡ among key_of (same_key q) (suc t) rest
  stands-none = refl

  stands-in : (p : Spot) → (order-at p).0 ≤ t → stands (Some p) ≡ among key_of (same_key q) t rest
  stands-in p le =
      let at = order-at p in
      let w = at.1.0.within in
      ap (among key_of (same_key q) (suc t)) at.1.1 ∙ among-insert key_of (same_key q) rest t at.0 (mark p key) le w apart

  stands-out : (p : Spot) → t < (order-at p).0 → stands (Some p) ≡ among key_of (same_key q) (suc t) rest
  stands-out p lt =
      let at = order-at p in
      let w = at.1.0.within in
      ap (λ (ms : List Mark). list_any (same_key q) (list_map key_of (take (suc t) ms))) at.1.1 ∙ ap (λ (ms : List Mark). list_any (same_key q) (list_map key_of ms)) (take-insert key_of (same_key q) rest (suc t) at.0 (mark p key) (omega arith) w)

  less : NotAt → among key_of (same_key q) (suc t) rest ≡ among key_of (same_key q) t rest
  less not_at = among-less key_of (same_key q) rest t not_at

  -- a first hit that comes, or comes to stand before
  pub stands-came : NotAt → (b : Spot) → stands (Some b) ≡ stands None
  stands-came not_at b = elim (cases_lt t (order-at b).0) [
    | inl lt ↦ stands-out b lt
    | inr le ↦ stands-in b le ∙ sym (less not_at)
  ]

  pub stands-before : (a b : Spot) → (t < (order-at a).0 → NotAt) → ((order-at b).0 ≤ (order-at a).0) → stands (Some b) ≡ stands (Some a)
  stands-before a b not_at le = elim (cases_lt t (order-at a).0) [
    | inl lt ↦ stands-came (not_at lt) b ∙ sym (stands-came (not_at lt) a)
    | inr out ↦ stands-in b (omega arith) ∙ sym (stands-in a out)
  ]

  -- one that goes, or moves further back
  pub stands-went : (a : Spot) → ((order-at a).0 ≤ t → NotAt) → stands None ≡ stands (Some a)
  stands-went a not_at = elim (cases_lt t (order-at a).0) [
    | inl lt ↦ sym (stands-out a lt)
    | inr le ↦ less (not_at le) ∙ sym (stands-in a le)
  ]

  pub stands-behind : (a b : Spot) → ((order-at a).0 ≤ t → NotAt) → ((order-at a).0 ≤ (order-at b).0) → stands (Some b) ≡ stands (Some a)
  stands-behind a b not_at le = elim (cases_lt t (order-at a).0) [
    | inl lt ↦ stands-out b (omega arith) ∙ sym (stands-out a lt)
    | inr out ↦ stands-came (not_at out) b ∙ sym (stands-came (not_at out) a)
  ]
