-- One block more or less, and the same entries.
use Rattle.std.proofs.Common.{◌≡◌, ℕ, zero, suc, ◌<◌, List, [], ◌∷◌, ◌++◌, length, get_or, take, drop, refl, sym, ap, subst, ◌∙◌, arith, Ok, Err}
use Rattle.std.specs.Prelude.{slice_set, OnErr, Result}
use Rattle.std.specs.List.{insert, remove}
use Rattle.std.specs.declared.vec.Vec.{Vec}
use Rattle.std.specs.declared.alloc.Global.{Global}
use Rattle.std.proofs.lemmas.List.{append_assoc, append-nil, take-append-drop}
use Rattle.ft_blocks.specs.Blocks.{joined, AreFilled}

pub on_err_any : {A E P : Type 0} (r : Result A E) → P → OnErr r P
on_err_any (Ok x) p = tt
on_err_any (Err e) p = p

module _ {X : Type 0} where
  pub joined_push : (bs : List (Vec X Global)) (b : Vec X Global) → joined (bs ++ b ∷ []) ≡ joined bs ++ b.items
  joined_push [] b = append-nil b.items
  joined_push (x ∷ bs) b = ap (λ (l : List X). x.items ++ l) (joined_push bs b) ∙ sym (append_assoc x.items (joined bs) b.items)

  pub filled_push : (bs : List (Vec X Global)) (b : Vec X Global) → AreFilled bs → 0 < length b.items → AreFilled (bs ++ b ∷ [])
  filled_push [] b f some = (some, tt)
  filled_push (x ∷ bs) b f some = (f.0, filled_push bs b f.1 some)

  nothing : (es rest : List X) → length es ≡ 0 → rest ≡ es ++ rest
  nothing [] rest e = refl
  nothing (x ∷ es) rest e = absurd (omega arith)

  pub joined_remove : (bs : List (Vec X Global)) (i : ℕ) (b : Vec X Global) → i < length bs → get_or bs i b ≡ b → length b.items ≡ 0 → joined (remove bs i) ≡ joined bs
  joined_remove [] i b lt is e = absurd (omega arith)
  joined_remove (x ∷ bs) zero b lt is e = nothing x.items (joined bs) (ap (λ (y : Vec X Global). length y.items) is ∙ e)
  joined_remove (x ∷ bs) (suc i) b lt is e = ap (λ (l : List X). x.items ++ l) (joined_remove bs i b (omega arith) is e)

  pub filled_back : (bs : List (Vec X Global)) (i : ℕ) (b : Vec X Global) → i < length bs → get_or bs i b ≡ b → AreFilled (remove bs i) → 0 < length b.items → AreFilled bs
  filled_back [] i b lt is f some = absurd (omega arith)
  filled_back (x ∷ bs) zero b lt is f some = (subst (λ (y : Vec X Global). 0 < length y.items) (sym is) some, f)
  filled_back (x ∷ bs) (suc i) b lt is f some = (f.0, filled_back bs i b (omega arith) is f.1 some)

  pub filled_others : (bs : List (Vec X Global)) (i : ℕ) (c : Vec X Global) → AreFilled bs → AreFilled (remove (slice_set bs i c) i)
  filled_others [] zero c f = tt
  filled_others [] (suc i) c f = tt
  filled_others (x ∷ bs) zero c f = f.1
  filled_others (x ∷ bs) (suc i) c f = (f.0, filled_others bs i c f.1)

  parts : (half : ℕ) (x b t m cut : Vec X Global) (rest : List X) → x ≡ b → x ≡ m → t.items ≡ drop half b.items → cut.items ≡ take half m.items → cut.items ++ (t.items ++ rest) ≡ x.items ++ rest
  parts half x b t m cut rest isb ism et etr =
      sym (append_assoc cut.items t.items rest)
      ∙ ap (λ (l : List X). (l ++ t.items) ++ rest) (etr ∙ ap (λ (y : Vec X Global). take half y.items) (sym ism))
      ∙ ap (λ (l : List X). (take half x.items ++ l) ++ rest) (et ∙ ap (λ (y : Vec X Global). drop half y.items) (sym isb))
      ∙ ap (λ (l : List X). l ++ rest) (take-append-drop half x.items)

  pub split_block : (bs : List (Vec X Global)) (i j half : ℕ) (b t m cut : Vec X Global) → j ≡ suc i → i < length bs → get_or bs i b ≡ b → t.items ≡ drop half b.items
      → get_or (insert bs j t) i m ≡ m → cut.items ≡ take half m.items → joined (slice_set (insert bs j t) i cut) ≡ joined bs
  split_block [] i j half b t m cut next lt is et at etr = absurd (omega arith)
  split_block (x ∷ bs) i zero half b t m cut next lt is et at etr = absurd (omega arith)
  split_block (x ∷ bs) zero (suc zero) half b t m cut next lt is et at etr = parts half x b t m cut (joined bs) is at et etr
  split_block (x ∷ bs) zero (suc (suc j)) half b t m cut next lt is et at etr = absurd (omega arith)
  split_block (x ∷ bs) (suc i) (suc j) half b t m cut next lt is et at etr = ap (λ (l : List X). x.items ++ l) (split_block bs i j half b t m cut (omega arith) (omega arith) is et at etr)

  pub split_same : (bs : List (Vec X Global)) (i j : ℕ) (b t m : Vec X Global) → j ≡ suc i → i < length bs → get_or bs i b ≡ b → get_or (insert bs j t) i m ≡ m → m ≡ b
  split_same [] i j b t m next lt is at = absurd (omega arith)
  split_same (x ∷ bs) i zero b t m next lt is at = absurd (omega arith)
  split_same (x ∷ bs) zero (suc j) b t m next lt is at = sym at ∙ is
  split_same (x ∷ bs) (suc i) (suc j) b t m next lt is at = split_same bs i j b t m (omega arith) (omega arith) is at

  pub filled_split : (bs : List (Vec X Global)) (i j : ℕ) (t cut : Vec X Global) → j ≡ suc i → i < length bs → AreFilled bs → 0 < length t.items → 0 < length cut.items → AreFilled (slice_set (insert bs j t) i cut)
  filled_split [] i j t cut next lt f some_right some_left = absurd (omega arith)
  filled_split (x ∷ bs) i zero t cut next lt f some_right some_left = absurd (omega arith)
  filled_split (x ∷ bs) zero (suc zero) t cut next lt f some_right some_left = (some_left, (some_right, f.1))
  filled_split (x ∷ bs) zero (suc (suc j)) t cut next lt f some_right some_left = absurd (omega arith)
  filled_split (x ∷ bs) (suc i) (suc j) t cut next lt f some_right some_left = (f.0, filled_split bs i j t cut (omega arith) (omega arith) f.1 some_right some_left)

pub same_at : {X : Type 0} (xs : List X) (i : ℕ) (a b : X) → i < length xs → get_or xs i a ≡ a → get_or xs i b ≡ b → a ≡ b
same_at [] i a b lt at bt = absurd (omega arith)
same_at (x ∷ xs) zero a b lt at bt = sym at ∙ bt
same_at (x ∷ xs) (suc i) a b lt at bt = same_at xs i a b (omega arith) at bt
