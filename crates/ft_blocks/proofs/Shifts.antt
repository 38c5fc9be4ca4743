-- An entry goes to a later key: what stands around the place that it leaves.
use Rattle.std.proofs.Common.{◌≡◌, ℕ, zero, suc, ◌<◌, ◌≤◌, cond, List, [], ◌∷◌, ◌++◌, length, get_or, take, drop, refl, sym, ap, subst, ◌∙◌, arith, Bool, true, false, Some, None}
use Rattle.std.specs.Prelude.{◌≢◌, slice_set, not}
use Rattle.std.specs.List.{remove}
use Rattle.std.specs.Option.{is_some}
use Rattle.std.specs.declared.vec.Vec.{Vec}
use Rattle.std.specs.declared.alloc.Global.{Global}
use Rattle.std.specs.declared.cmp.Ordering.{Ordering}
use Rattle.std.specs.declared.cmp.Ordering.TheVariants.{Less, Equal, Greater}
use Rattle.std.specs.Ordering.{is_eq, is_lt, eq_by_cmp}
use Rattle.std.specs.Cmp.{IsTotalOrder}
use Rattle.std.specs.FinMap.{put, find}
use Rattle.std.specs.FinMap.Entries.{by_order}
use Rattle.std.proofs.lemmas.Bool.{false≢true}
use Rattle.std.proofs.lemmas.Cmp.{alike_right}
use Rattle.std.proofs.lemmas.List.{append_assoc}
use Rattle.std.proofs.lemmas.List.Elements.{filter-append}
use Rattle.std.proofs.lemmas.Option.{none-some}
use Rattle.ft_blocks.specs.Sorted.{AllBelow, Ascend, StartsAt, IsCut, ties_first, without, first_entry}
use Rattle.ft_blocks.specs.Blocks.{joined, AreFilled, StartsReaching, IsBlockOf}
use Rattle.ft_blocks.specs.inner.Moves.{StandsAt, all_but, all_before, all_behind}
use Rattle.ft_blocks.proofs.Cuts.{key_after, key_not_after}
use Rattle.ft_blocks.proofs.Appends.{below_both, below_first, below_second, below_before, ascend_first, ascend_second}
use Rattle.ft_blocks.proofs.Edited.{put_behind, reaching}
use Rattle.ft_blocks.proofs.Joined.{ascend_at}
use Rattle.ft_blocks.proofs.Taken.{above_rest, lesser, without_above, without_below, find_none, find_block, find_behind}

less_greater : Less ≡ Greater → ⊥
less_greater e = false≢true (sym (ap is_lt e))

equal_greater : Equal ≡ Greater → ⊥
equal_greater e = false≢true (sym (ap is_eq e))

module _ {X : Type 0} where
  pub stands_block : (bs : List (Vec X Global)) (last : List X) (i p : ℕ) (b : Vec X Global) → i < length bs → get_or bs i b ≡ b → p < length b.items → StandsAt bs last i p
  stands_block [] last i p b lt is at = absurd (omega arith)
  stands_block (x ∷ bs) last zero p b lt is at = subst (λ (y : Vec X Global). p < length y.items) (sym is) at
  stands_block (x ∷ bs) last (suc i) p b lt is at = stands_block bs last i p b (omega arith) is at

  pub stands_last : (bs : List (Vec X Global)) (last : List X) (i p : ℕ) → i ≡ length bs → p < length last → StandsAt bs last i p
  stands_last [] last zero p e at = at
  stands_last [] last (suc i) p e at = absurd (omega (arith, e))
  stands_last (x ∷ bs) last zero p e at = absurd (omega (arith, e))
  stands_last (x ∷ bs) last (suc i) p e at = stands_last bs last i p (omega (arith, e)) at

  pub stands_in : (bs : List (Vec X Global)) (last : List X) (i p : ℕ) (b : Vec X Global) → i < length bs → get_or bs i b ≡ b → StandsAt bs last i p → p < length b.items
  stands_in [] last i p b lt is at = absurd (omega arith)
  stands_in (x ∷ bs) last zero p b lt is at = subst (λ (y : Vec X Global). p < length y.items) is at
  stands_in (x ∷ bs) last (suc i) p b lt is at = stands_in bs last i p b (omega arith) is at

  pub stands_behind : (bs : List (Vec X Global)) (last : List X) (i p : ℕ) → length bs ≤ i → StandsAt bs last i p → (i ≡ length bs) × (p < length last)
  stands_behind [] last zero p le at = (refl, at)
  stands_behind [] last (suc i) p le at = absurd at
  stands_behind (x ∷ bs) last zero p le at = absurd (omega arith)
  stands_behind (x ∷ bs) last (suc i) p le at = let r = stands_behind bs last i p (omega arith) at in (ap suc r.0, r.1)

  pub but_last : (bs : List (Vec X Global)) (last : List X) (i p : ℕ) → i ≡ length bs → all_but bs last i p ≡ joined bs ++ remove last p
  but_last [] last zero p e = refl
  but_last [] last (suc i) p e = absurd (omega (arith, e))
  but_last (x ∷ bs) last zero p e = absurd (omega (arith, e))
  but_last (x ∷ bs) last (suc i) p e =
      ap (λ (l : List X). x.items ++ l) (but_last bs last i p (omega (arith, e))) ∙ sym (append_assoc x.items (joined bs) (remove last p))

  pub before_last : (bs : List (Vec X Global)) (last : List X) (i p : ℕ) → i ≡ length bs → all_before bs last i p ≡ joined bs ++ take p last
  before_last [] last zero p e = refl
  before_last [] last (suc i) p e = absurd (omega (arith, e))
  before_last (x ∷ bs) last zero p e = absurd (omega (arith, e))
  before_last (x ∷ bs) last (suc i) p e =
      ap (λ (l : List X). x.items ++ l) (before_last bs last i p (omega (arith, e))) ∙ sym (append_assoc x.items (joined bs) (take p last))

  pub behind_block : (bs : List (Vec X Global)) (last : List X) (i : ℕ) → i < length bs → all_behind bs last i ≡ joined (drop (suc i) bs) ++ last
  behind_block [] last i lt = absurd (omega arith)
  behind_block (x ∷ bs) last zero lt = refl
  behind_block (x ∷ bs) last (suc i) lt = behind_block bs last i (omega arith)

  pub behind_none : (bs : List (Vec X Global)) (last : List X) (i : ℕ) → length bs ≤ i → all_behind bs last i ≡ []
  behind_none [] last i le = refl
  behind_none (x ∷ bs) last zero le = absurd (omega arith)
  behind_none (x ∷ bs) last (suc i) le = behind_none bs last i (omega arith)

  -- a block has others behind it only if it isn't the last one
  pub some_behind : (bs : List (Vec X Global)) (last : List X) (i : ℕ) (e : X) → first_entry (all_behind bs last i) ≡ Some e → i < length bs
  some_behind [] last i e first = absurd (none-some e first)
  some_behind (x ∷ bs) last zero e first = omega arith
  some_behind (x ∷ bs) last (suc i) e first = let lt = some_behind bs last i e first in omega (arith, lt)

  same : (x e : X) → Some x ≡ Some e → x ≡ e
  same x e h = cc

  pub length_set : (xs : List X) (i : ℕ) (x : X) → length (slice_set xs i x) ≡ length xs
  length_set [] i x = refl
  length_set (y ∷ xs) zero x = refl
  length_set (y ∷ xs) (suc i) x = ap suc (length_set xs i x)

  -- the first entry is the one that stands first
  first_goes : (xs rest : List X) (e : X) → 0 < length xs → first_entry (xs ++ rest) ≡ Some e → e ∷ (remove xs 0 ++ rest) ≡ xs ++ rest
  first_goes [] rest e some first = absurd (omega arith)
  first_goes (x ∷ xs) rest e some first = ap (λ (y : X). y ∷ (xs ++ rest)) (sym (same x e first))

  head_goes : (bs : List (Vec X Global)) (last : List X) (e : X) → AreFilled bs → first_entry (joined bs ++ last) ≡ Some e → e ∷ all_but bs last 0 0 ≡ joined bs ++ last
  head_goes [] [] e f first = absurd (none-some e first)
  head_goes [] (x ∷ last) e f first = ap (λ (y : X). y ∷ last) (sym (same x e first))
  head_goes (b ∷ bs) last e f first =
      first_goes b.items (joined bs ++ last) e f.0 (ap first_entry (sym (append_assoc b.items (joined bs) last)) ∙ first) ∙ sym (append_assoc b.items (joined bs) last)

  head_stands : (bs : List (Vec X Global)) (last : List X) (e : X) → AreFilled bs → first_entry (joined bs ++ last) ≡ Some e → StandsAt bs last 0 0
  head_stands [] [] e f first = absurd (none-some e first)
  head_stands [] (x ∷ last) e f first = omega arith
  head_stands (b ∷ bs) last e f first = f.0

  none_before : (bs : List (Vec X Global)) (last : List X) → all_before bs last 0 0 ≡ []
  none_before [] last = refl
  none_before (b ∷ bs) last = refl

  -- a block takes the first entry of the next one in place of its own
  pub step_stands : (bs : List (Vec X Global)) (last : List X) (i : ℕ) (c : Vec X Global) (e : X) → AreFilled bs → first_entry (all_behind bs last i) ≡ Some e → StandsAt (slice_set bs i c) last (suc i) 0
  step_stands [] last i c e f first = absurd (none-some e first)
  step_stands (x ∷ bs) last zero c e f first = head_stands bs last e f.1 first
  step_stands (x ∷ bs) last (suc i) c e f first = step_stands bs last i c e f.1 first

  pub step_others : (bs : List (Vec X Global)) (last : List X) (i p : ℕ) (b c : Vec X Global) (e : X) → AreFilled bs → i < length bs → get_or bs i b ≡ b
      → c.items ≡ remove b.items p ++ e ∷ [] → first_entry (all_behind bs last i) ≡ Some e → all_but (slice_set bs i c) last (suc i) 0 ≡ all_but bs last i p
  step_others [] last i p b c e f lt is new first = absurd (omega arith)
  step_others (x ∷ bs) last zero p b c e f lt is new first =
      ap (λ (l : List X). l ++ all_but bs last 0 0) (new ∙ ap (λ (y : Vec X Global). remove y.items p ++ e ∷ []) (sym is))
      ∙ append_assoc (remove x.items p) (e ∷ []) (all_but bs last 0 0)
      ∙ ap (λ (l : List X). remove x.items p ++ l) (head_goes bs last e f.1 first)
  step_others (x ∷ bs) last (suc i) p b c e f lt is new first =
      ap (λ (l : List X). x.items ++ l) (step_others bs last i p b c e f.1 (omega arith) is new first)

  pub many : (xs : List X) (e : X) → 0 < length (xs ++ e ∷ [])
  many [] e = omega arith
  many (x ∷ xs) e = omega arith

module _ {K X : Type 0} (R : K → K → Ordering) where
  pub ascend_but : (bs : List (Vec (K × X) Global)) (last : List (K × X)) (i p : ℕ) (b : Vec (K × X) Global) → i < length bs → get_or bs i b ≡ b → Ascend R (all_but bs last i p) → Ascend R (remove b.items p)
  ascend_but [] last i p b lt is up = absurd (omega arith)
  ascend_but (x ∷ bs) last zero p b lt is up =
      subst (λ (y : Vec (K × X) Global). Ascend R (remove y.items p)) is (ascend_first R (remove x.items p) (joined bs ++ last) up)
  ascend_but (x ∷ bs) last (suc i) p b lt is up = ascend_but bs last i p b (omega arith) is (ascend_second R x.items (all_but bs last i p) up)

  pub before_block : (bs : List (Vec (K × X) Global)) (last : List (K × X)) (k : K) (i p : ℕ) (b : Vec (K × X) Global) → i < length bs → get_or bs i b ≡ b
      → AllBelow R k (joined (take i bs)) → AllBelow R k (take p b.items) → AllBelow R k (all_before bs last i p)
  before_block [] last k i p b lt is front below = absurd (omega arith)
  before_block (x ∷ bs) last k zero p b lt is front below = subst (λ (y : Vec (K × X) Global). AllBelow R k (take p y.items)) (sym is) below
  before_block (x ∷ bs) last k (suc i) p b lt is front below =
      below_both R k x.items (all_before bs last i p) (below_first R k x.items (joined (take i bs)) front)
      (before_block bs last k i p b (omega arith) is (below_second R k x.items (joined (take i bs)) front) below)

  pub starts_some : (k : K) (es : List (K × X)) (e : K × X) → first_entry es ≡ Some e → R e.0 k ≢ Less → StartsAt R k es
  starts_some k [] e first n = absurd (none-some e first)
  starts_some k (x ∷ es) e first n = subst (λ (y : K × X). R y.0 k ≢ Less) (sym (same x e first)) n

  pub starts_none : (k : K) (es : List (K × X)) → first_entry es ≡ None → StartsAt R k es
  starts_none k [] first = tt
  starts_none k (x ∷ es) first = absurd (none-some x (sym first))

  found_at : (k : K) (x : K × X) (es : List (K × X)) (b : Bool) → cond b (Some x.1) (find R k es) ≡ None → (b ≡ false) × (find R k es ≡ None)
  found_at k x es true none = absurd (none-some x.1 (sym none))
  found_at k x es false none = (refl, none)

  -- a key that has nothing in some entries has nothing in a part of them
  pub none_rest : (k : K) (xs ys : List (K × X)) → find R k (xs ++ ys) ≡ None → find R k ys ≡ None
  none_rest k [] ys none = none
  none_rest k (x ∷ xs) ys none = none_rest k xs ys (found_at k x (xs ++ ys) (is_eq (R k x.0)) none).1

  pub none_behind : (bs : List (Vec (K × X) Global)) (last : List (K × X)) (k : K) (i p : ℕ) → find R k (all_but bs last i p) ≡ None → find R k (all_behind bs last i) ≡ None
  none_behind [] last k i p none = refl
  none_behind (x ∷ bs) last k zero p none = none_rest k (remove x.items p) (joined bs ++ last) none
  none_behind (x ∷ bs) last k (suc i) p none = none_behind bs last k i p (none_rest k x.items (all_but bs last i p) none)

  pub none_without : (k q : K) (es : List (K × X)) → find R k es ≡ None → find R k (without R q es) ≡ None
  none_without k q [] none = refl
  none_without k q (x ∷ es) none =
      let found = found_at k x es (is_eq (R k x.0)) none in
      elim (eq_by_cmp R q x.0) as (λ b. find R k (cond (not b) (x ∷ without R q es) (without R q es)) ≡ None) [
        | true ↦ none_without k q es found.1
        | false ↦ ap (λ b. cond b (Some x.1) (find R k (without R q es))) found.0 ∙ none_without k q es found.1
      ]

  tied_within : (k : K) (es : List (K × X)) (n : ℕ) → ties_first R k (drop n es) ≡ true → n < length es
  tied_within k [] zero at = absurd (false≢true at)
  tied_within k [] (suc n) at = absurd (false≢true at)
  tied_within k (x ∷ es) zero at = omega arith
  tied_within k (x ∷ es) (suc n) at = let lt = tied_within k es n at in omega (arith, lt)

  kept : (k : K) (x : K × X) (es : List (K × X)) → eq_by_cmp R k x.0 ≡ false → without R k (x ∷ es) ≡ x ∷ without R k es
  kept k x es apart = ap (λ b. cond (not b) (x ∷ without R k es) (without R k es)) apart

  dropped : (k : K) (x : K × X) (es : List (K × X)) → eq_by_cmp R k x.0 ≡ true → without R k (x ∷ es) ≡ without R k es
  dropped k x es at = ap (λ b. cond (not b) (x ∷ without R k es) (without R k es)) at

  ordered : (k : K) (v : X) (x : K × X) (es : List (K × X)) (o : Ordering) → R k x.0 ≡ o → put R k v (x ∷ es) ≡ by_order o ((k, v) ∷ x ∷ es) ((x.0, v) ∷ es) (x ∷ put R k v es)
  ordered k v x es o is = ap (λ r. by_order r ((k, v) ∷ x ∷ es) ((x.0, v) ∷ es) (x ∷ put R k v es)) is

module _ {K : Type 0} {R : K → K → Ordering} (total : IsTotalOrder R) where
  not_after : (k q x : K) → R k q ≡ Less → R q x ≢ Greater → eq_by_cmp R k x ≡ false
  not_after k q x less n =
      elim (R k x) as (λ o. R k x ≡ o → is_eq o ≡ false) [
        | Less ↦ λ is. refl
        | Equal ↦ λ is. absurd (n (sym (alike_right total k x q is) ∙ key_after total k q less))
        | Greater ↦ λ is. refl
      ] refl

module _ {K X : Type 0} {R : K → K → Ordering} (total : IsTotalOrder R) where
  pub below_later : (k q : K) (es : List (K × X)) → R k q ≡ Less → AllBelow R k es → AllBelow R q es
  below_later k q [] less below = tt
  below_later k q (x ∷ es) less below = (total.trans x.0 k q below.0 less, below_later k q es less below.1)

  pub step_before : (bs : List (Vec (K × X) Global)) (last : List (K × X)) (k : K) (i p : ℕ) (b c : Vec (K × X) Global) (e : K × X) → AreFilled bs → i < length bs → get_or bs i b ≡ b
      → c.items ≡ remove b.items p ++ e ∷ [] → first_entry (all_behind bs last i) ≡ Some e → R e.0 k ≡ Less → Ascend R (all_but bs last i p)
      → AllBelow R k (all_before bs last i p) → AllBelow R k (all_before (slice_set bs i c) last (suc i) 0)
  step_before [] last k i p b c e f lt is new first less up below = absurd (omega arith)
  step_before (x ∷ bs) last k zero p b c e f lt is new first less up below =
      let items : c.items ≡ remove x.items p ++ e ∷ [] = new ∙ ap (λ (y : Vec (K × X) Global). remove y.items p ++ e ∷ []) (sym is) in
      let whole : Ascend R (remove x.items p ++ e ∷ all_but bs last 0 0) = subst (λ (l : List (K × X)). Ascend R (remove x.items p ++ l)) (sym (head_goes bs last e f.1 first)) up in
      let front : AllBelow R k (remove x.items p) = below_before total k (remove x.items p) e (all_but bs last 0 0) whole less in
      below_both R k c.items (all_before bs last 0 0)
      (subst (AllBelow R k) (sym items) (below_both R k (remove x.items p) (e ∷ []) front (less, tt)))
      (subst (AllBelow R k) (sym (none_before bs last)) tt)
  step_before (x ∷ bs) last k (suc i) p b c e f lt is new first less up below =
      below_both R k x.items (all_before (slice_set bs i c) last (suc i) 0) (below_first R k x.items (all_before bs last i p) below)
      (step_before bs last k i p b c e f.1 (omega arith) is new first less (ascend_second R x.items (all_but bs last i p) up) (below_second R k x.items (all_before bs last i p) below))

  -- a key is put before the others that stand above it
  pub put_ahead : (k : K) (v : X) (xs ys : List (K × X)) → StartsAt R k ys → find R k ys ≡ None → put R k v (xs ++ ys) ≡ put R k v xs ++ ys
  put_ahead k v [] [] at none = refl
  put_ahead k v [] (y ∷ ys) at none =
      let less : R k y.0 ≡ Less = lesser (R k y.0) (key_not_after total y.0 k at) (found_at R k y ys (is_eq (R k y.0)) none).0 in
      ordered R k v y ys Less less
  put_ahead k v (x ∷ xs) ys at none = reaching total k v x xs ys (R k x.0) (λ is. put_ahead k v xs ys at none)

  -- the block that an entry left takes one at a later key
  pub settled : (bs : List (Vec (K × X) Global)) (last : List (K × X)) (k : K) (v : X) (i p : ℕ) (b c : Vec (K × X) Global) → i < length bs → get_or bs i b ≡ b
      → AllBelow R k (all_before bs last i p) → StartsAt R k (all_behind bs last i) → find R k (all_behind bs last i) ≡ None → c.items ≡ put R k v (remove b.items p)
      → joined (slice_set bs i c) ++ last ≡ put R k v (all_but bs last i p)
  settled [] last k v i p b c lt is below at none new = absurd (omega arith)
  settled (x ∷ bs) last k v zero p b c lt is below at none new =
      append_assoc c.items (joined bs) last
      ∙ ap (λ (l : List (K × X)). l ++ (joined bs ++ last)) (new ∙ ap (λ (y : Vec (K × X) Global). put R k v (remove y.items p)) (sym is))
      ∙ sym (put_ahead k v (remove x.items p) (joined bs ++ last) at none)
  settled (x ∷ bs) last k v (suc i) p b c lt is below at none new =
      append_assoc x.items (joined (slice_set bs i c)) last
      ∙ ap (λ (l : List (K × X)). x.items ++ l) (settled bs last k v i p b c (omega arith) is (below_second R k x.items (all_before bs last i p) below) at none new)
      ∙ sym (put_behind total k v x.items (all_but bs last i p) (below_first R k x.items (all_before bs last i p) below))

  -- or the last one does
  pub settled_last : (bs : List (Vec (K × X) Global)) (last new : List (K × X)) (k : K) (v : X) (i p : ℕ) → i ≡ length bs → AllBelow R k (all_before bs last i p) → new ≡ put R k v (remove last p)
      → joined bs ++ new ≡ put R k v (all_but bs last i p)
  settled_last bs last new k v i p e below is =
      ap (λ (l : List (K × X)). joined bs ++ l) is
      ∙ sym (put_behind total k v (joined bs) (remove last p) (below_first R k (joined bs) (take p last) (subst (AllBelow R k) (before_last bs last i p e) below)))
      ∙ ap (put R k v) (sym (but_last bs last i p e))

  -- if a key has something, a search for it ends there
  pub ties_there : (k : K) (es : List (K × X)) (n : ℕ) → (ties_first R k (drop n es) ≡ false → None ≡ find R k es) → is_some (find R k es) ≡ true → ties_first R k (drop n es) ≡ true
  ties_there k es n none some = elim (ties_first R k (drop n es)) as (λ b. ties_first R k (drop n es) ≡ b → ties_first R k (drop n es) ≡ true) [
    | true ↦ λ is. is
    | false ↦ λ is. absurd (false≢true (ap is_some (none is) ∙ some))
  ] refl

  -- so it does in the block for it, and in the last one if that is for it
  pub ties_in_block : (bs : List (Vec (K × X) Global)) (last : List (K × X)) (k : K) (i n : ℕ) (b : Vec (K × X) Global) → i < length bs → get_or bs i b ≡ b
      → IsBlockOf R bs k i → IsCut R b.items k n → Ascend R (joined bs ++ last) → is_some (find R k (joined bs ++ last)) ≡ true → ties_first R k (drop n b.items) ≡ true
  ties_in_block bs last k i n b lt is at cut up there =
      ties_there k b.items n (find_none total b.items k n cut (ascend_at R bs i b (ascend_first R (joined bs) last up) lt is))
      (ap is_some (find_block total bs k i b last lt is at.below at.reaches up) ∙ there)

  pub ties_in_last : (bs : List (Vec (K × X) Global)) (last : List (K × X)) (k : K) (n : ℕ) → AllBelow R k (joined bs) → IsCut R last k n → Ascend R (joined bs ++ last)
      → is_some (find R k (joined bs ++ last)) ≡ true → ties_first R k (drop n last) ≡ true
  ties_in_last bs last k n below cut up there =
      ties_there k last n (find_none total last k n cut (ascend_second R (joined bs) last up)) (sym (ap is_some (find_behind total k (joined bs) last below)) ∙ there)

  pub tied_inside : (k : K) (es : List (K × X)) (n : ℕ) → ties_first R k (drop n es) ≡ true → n < length es
  tied_inside k es n at = tied_within R k es n at

  -- the others are those of the other keys
  pub but_block : (bs : List (Vec (K × X) Global)) (last : List (K × X)) (k : K) (i p : ℕ) (b : Vec (K × X) Global) → i < length bs → get_or bs i b ≡ b
      → AllBelow R k (joined (take i bs)) → StartsReaching R k (drop i bs) → Ascend R (joined bs ++ last) → remove b.items p ≡ without R k b.items
      → all_but bs last i p ≡ without R k (joined bs ++ last)
  but_block [] last k i p b lt is below at up new = absurd (omega arith)
  but_block (x ∷ bs) last k zero p b lt is below at up new =
      let whole = subst (Ascend R) (append_assoc x.items (joined bs) last) up in
      ap (λ (l : List (K × X)). l ++ (joined bs ++ last)) (ap (λ (y : Vec (K × X) Global). remove y.items p) is ∙ new ∙ ap (λ (y : Vec (K × X) Global). without R k y.items) (sym is))
      ∙ ap (λ (l : List (K × X)). without R k x.items ++ l) (sym (without_above R k (joined bs ++ last) (above_rest total k x.items (joined bs ++ last) whole at)))
      ∙ sym (filter-append (λ e. not (eq_by_cmp R k e.0)) x.items (joined bs ++ last))
      ∙ ap (without R k) (sym (append_assoc x.items (joined bs) last))
  but_block (x ∷ bs) last k (suc i) p b lt is below at up new =
      let whole = subst (Ascend R) (append_assoc x.items (joined bs) last) up in
      ap (λ (l : List (K × X)). x.items ++ l) (but_block bs last k i p b (omega arith) is (below_second R k x.items (joined (take i bs)) below) at (ascend_second R x.items (joined bs ++ last) whole) new)
      ∙ ap (λ (l : List (K × X)). l ++ without R k (joined bs ++ last)) (sym (without_below total k x.items (below_first R k x.items (joined (take i bs)) below)))
      ∙ sym (filter-append (λ e. not (eq_by_cmp R k e.0)) x.items (joined bs ++ last))
      ∙ ap (without R k) (sym (append_assoc x.items (joined bs) last))

  pub but_rest : (bs : List (Vec (K × X) Global)) (last : List (K × X)) (k : K) (i p : ℕ) → i ≡ length bs → AllBelow R k (joined bs) → remove last p ≡ without R k last
      → all_but bs last i p ≡ without R k (joined bs ++ last)
  but_rest bs last k i p e below new =
      but_last bs last i p e
      ∙ ap (λ (l : List (K × X)). joined bs ++ l) new
      ∙ ap (λ (l : List (K × X)). l ++ without R k last) (sym (without_below total k (joined bs) below))
      ∙ sym (filter-append (λ e. not (eq_by_cmp R k e.0)) (joined bs) last)

  -- what a key has can be taken before or after another key takes a value
  pub put_without : (k q : K) (v : X) (es : List (K × X)) → R k q ≡ Less → without R k (put R q v es) ≡ put R q v (without R k es)
  put_without k q v [] less = kept R k (q, v) [] (ap is_eq less)
  put_without k q v (x ∷ es) less =
      elim (R q x.0) as (λ o. R q x.0 ≡ o → without R k (by_order o ((q, v) ∷ x ∷ es) ((x.0, v) ∷ es) (x ∷ put R q v es)) ≡ put R q v (without R k (x ∷ es))) [
        | Less ↦ λ is.
            let apart : eq_by_cmp R k x.0 ≡ false = not_after total k q x.0 less (λ g. absurd (less_greater (sym is ∙ g))) in
            kept R k (q, v) (x ∷ es) (ap is_eq less) ∙ ap (λ (l : List (K × X)). (q, v) ∷ l) (kept R k x es apart)
            ∙ sym (ap (put R q v) (kept R k x es apart) ∙ ordered R q v x (without R k es) Less is)
        | Equal ↦ λ is.
            let apart : eq_by_cmp R k x.0 ≡ false = not_after total k q x.0 less (λ g. absurd (equal_greater (sym is ∙ g))) in
            kept R k (x.0, v) es apart
            ∙ sym (ap (put R q v) (kept R k x es apart) ∙ ordered R q v x (without R k es) Equal is)
        | Greater ↦ λ is.
            elim (eq_by_cmp R k x.0) as (λ b. eq_by_cmp R k x.0 ≡ b → without R k (x ∷ put R q v es) ≡ put R q v (without R k (x ∷ es))) [
              | true ↦ λ at. dropped R k x (put R q v es) at ∙ put_without k q v es less ∙ ap (put R q v) (sym (dropped R k x es at))
              | false ↦ λ apart.
                  kept R k x (put R q v es) apart ∙ ap (λ (l : List (K × X)). x ∷ l) (put_without k q v es less)
                  ∙ sym (ap (put R q v) (kept R k x es apart) ∙ ordered R q v x (without R k es) Greater is)
            ] refl
      ] refl
