-- The marks from a place on, and the keys before it, told by the mark that stands there.
use Rattle.std.proofs.Common.{◌≡◌, ℕ, zero, suc, ◌<◌, Bool, true, false, cond, List, [], ◌∷◌, length, get_or, take, drop, map as list_map, refl, sym, ap, subst, ◌∙◌, arith, nat_lt, Some, None, Option, inl, inr}
use Rattle.std.specs.Prelude.{not}
use Rattle.std.specs.List.{filter, list_any}
use Rattle.std.specs.Map.{keys_of}
use Rattle.std.specs.Option.{option_map_or}
use Rattle.std.specs.Ordering.{is_lt}
use Rattle.std.specs.declared.cmp.Ordering.{Ordering}
use Rattle.std.specs.declared.cmp.Ordering.TheVariants.{Less, Equal, Greater}
use Rattle.std.proofs.lemmas.Bool.{cases_lt}
use Rattle.std.proofs.lemmas.Bool.Decides.{nat_tests}
use Rattle.ft_fields.specs.declared.key.Part.{Part}
use Rattle.ft_fields.specs.Parts.{same_key}
use Rattle.ft_hits.specs.declared.mark.Mark.{Mark}
use Rattle.ft_hits.specs.declared.spot.Spot.{Spot}
use Rattle.ft_hits.specs.Hits.{Hits, first_place}
use Rattle.ft_hits.specs.Marks.{mark_cmp}
use Rattle.ft_hits.proofs.Flat.{mark}
use Rattle.ft_table.specs.Tabled.{is_before, marks_from, order_of}
use Rattle.ft_table.specs.inner.Ascending.{IsRank}
use Rattle.ft_table.proofs.Firsts.{order-none, order-some, order-found}
use Rattle.ft_table.proofs.Members.{in-without, in-with}
use Rattle.ft_table.proofs.Standings.{rank_with}
use Rattle.ft_changes.specs.Rivals.{is_of}
use Rattle.ft_changes.specs.inner.Edge.{inside, others_of}

lt_less : (o : Ordering) → o ≡ Less → not (is_lt o) ≡ false
lt_less Less e = refl
lt_less Equal e = cc
lt_less Greater e = cc

not_lt : (o : Ordering) → (o ≡ Less → ⊥) → not (is_lt o) ≡ true
not_lt Less n = absurd (n refl)
not_lt Equal n = refl
not_lt Greater n = refl

-- ---- from a mark on

module _ (m : Mark) where
  stays : Mark → Bool
  stays q = not (is_lt (mark_cmp q m))

  all_stay : (ks : List Mark) → ((j : ℕ) (d : Mark) → j < length ks → mark_cmp (get_or ks j d) m ≡ Less → ⊥) → marks_from m ks ≡ ks
  all_stay [] none = refl
  all_stay (k ∷ ks) none =
      ap (λ b. cond b (k ∷ marks_from m ks) (marks_from m ks)) (not_lt (mark_cmp k m) (none zero k (omega arith)))
      ∙ ap (λ (ks : List Mark). k ∷ ks) (all_stay ks (λ j d lt. none (suc j) d (omega arith)))

  pub from_rank : (ks : List Mark) (n : ℕ) → IsRank mark_cmp ks m n → marks_from m ks ≡ drop n ks
  from_rank ks zero at = all_stay ks (λ j d lt. at.above j d (omega arith) lt)
  from_rank [] (suc n) at = refl
  from_rank (k ∷ ks) (suc n) at =
      ap (λ b. cond b (k ∷ marks_from m ks) (marks_from m ks)) (lt_less (mark_cmp k m) (at.below zero k (omega arith)))
      ∙ from_rank ks n (record {
        within = let w = at.within in omega (arith, w);
        below = λ j d lt. at.below (suc j) d (omega arith);
        above = λ j d le lt. at.above (suc j) d (omega arith) (omega arith);
      })

-- ---- keys before a mark

lt_is : (o : Ordering) → o ≡ Less → is_lt o ≡ true
lt_is Less e = refl
lt_is Equal e = cc
lt_is Greater e = cc

lt_not : (o : Ordering) → (o ≡ Less → ⊥) → is_lt o ≡ false
lt_not Less n = absurd (n refl)
lt_not Equal n = refl
lt_not Greater n = refl

-- what stands in a list in order is before another that does, if its place is
places : (ks : List Mark) (a m : Mark) (r n : ℕ) → ((d : Mark) → get_or ks r d ≡ a) → r < length ks → IsRank mark_cmp ks m n → is_lt (mark_cmp a m) ≡ nat_lt r n
places ks a m r n here within at = elim (cases_lt r n) [
  | inl lt ↦ lt_is _ (subst (λ q. mark_cmp q m ≡ Less) (here m) (at.below r m lt)) ∙ sym (grind (arith, nat_tests, lt))
  | inr le ↦ lt_not _ (λ less. at.above r m le within (subst (λ q. mark_cmp q m ≡ Less) (sym (here m)) less)) ∙ sym (grind (arith, nat_tests, le))
]

-- a key is before the mark at a place if it is among the keys before that place
pub before_place : (hits : Hits) (key : List Part) (m : Mark) (n : ℕ) → IsRank mark_cmp (order_of hits) m n → is_before hits key m ≡ is_of (inside (order_of hits) n) key
before_place hits key m n at = by (first_place hits key) refl where
  by : (o : Option Spot) → first_place hits key ≡ o → option_map_or (λ spot. is_lt (mark_cmp (record { spot = spot; key = key }) m)) o false ≡ is_of (inside (order_of hits) n) key
  by None none = sym (ap (λ (ms : List Mark). list_any (same_key key) (list_map (λ m. m.key) (take n ms))) (order-none hits key none) ∙ in-without hits n key)
  by (Some f) is =
      let order = order-some hits key f is in
      let r = rank_with hits (mark f key) n in
      let found = order-found hits (mark f key) r.0 r.1 in
      let at_with = subst (λ ms. IsRank mark_cmp ms m n) order at in
      places _ (mark f key) m r.0 n found.1 found.0 at_with
      ∙ sym (ap (λ (ms : List Mark). list_any (same_key key) (list_map (λ m. m.key) (take n ms))) order ∙ in-with hits n (mark f key) r.0 r.1)

pub all_before : (hits : Hits) (keys : List (List Part)) (m : Mark) (n : ℕ) → IsRank mark_cmp (order_of hits) m n → filter (λ key. is_before hits key m) keys ≡ filter (is_of (inside (order_of hits) n)) keys
all_before hits [] m n at = refl
all_before hits (k ∷ ks) m n at =
    ap (λ b. cond b (k ∷ filter (λ key. is_before hits key m) ks) (filter (λ key. is_before hits key m) ks)) (before_place hits k m n at)
    ∙ ap (λ (rest : List (List Part)). cond (is_of (inside (order_of hits) n) k) (k ∷ rest) rest) (all_before hits ks m n at)

-- ---- entries and their marks

module _ {X : Type 0} (keys : List (List Part)) where
  others_in : (es : List (Mark × X)) → keys_of (filter (λ e. not (is_of keys e.0.key)) es) ≡ others_of keys (keys_of es)
  others_in [] = refl
  others_in (e ∷ es) = by (is_of keys e.0.key) (others_in es) where
    by : (b : Bool) → keys_of (filter (λ e. not (is_of keys e.0.key)) es) ≡ others_of keys (keys_of es)
        → keys_of (cond (not b) (e ∷ filter (λ e. not (is_of keys e.0.key)) es) (filter (λ e. not (is_of keys e.0.key)) es)) ≡ cond (not b) (e.0 ∷ others_of keys (keys_of es)) (others_of keys (keys_of es))
    by true rest = rest
    by false rest = ap (λ (ks : List Mark). e.0 ∷ ks) rest

  take_keys : (es : List (Mark × X)) (n : ℕ) → list_map (λ e. e.0.key) (take n es) ≡ list_map (λ m. m.key) (take n (keys_of es))
  take_keys [] zero = refl
  take_keys [] (suc n) = refl
  take_keys (e ∷ es) zero = refl
  take_keys (e ∷ es) (suc n) = ap (λ (ks : List (List Part)). e.0.key ∷ ks) (take_keys es n)

  drop_keys : (es : List (Mark × X)) (n : ℕ) → keys_of (drop n es) ≡ drop n (keys_of es)
  drop_keys [] zero = refl
  drop_keys [] (suc n) = refl
  drop_keys (e ∷ es) zero = refl
  drop_keys (e ∷ es) (suc n) = drop_keys es n

  -- what is read of entries is read of their marks
  pub by_marks : (es : List (Mark × X)) (few passed : ℕ) → list_map (λ e. e.0.key) (take few (drop passed (filter (λ e. not (is_of keys e.0.key)) es))) ≡ list_map (λ m. m.key) (take few (drop passed (others_of keys (keys_of es))))
  by_marks es few passed =
      take_keys (drop passed (filter (λ e. not (is_of keys e.0.key)) es)) few
      ∙ ap (λ (ms : List Mark). list_map (λ m. m.key) (take few ms)) (drop_keys (filter (λ e. not (is_of keys e.0.key)) es) passed ∙ ap (drop passed) (others_in es))

-- the same keys leave the same others
pub others_same : (keys others : List (List Part)) → ((q : List Part) → is_of keys q ≡ is_of others q) → (ms : List Mark) → others_of keys ms ≡ others_of others ms
others_same keys others same ms = ap (λ (test : Mark → Bool). filter test ms) (λ i m. not (same m.key i))
