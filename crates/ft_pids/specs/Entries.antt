-- Entries by PID: the entry of a PID stands at the PID's number in a list, if it says itself that it is of that PID. So numbers need not differ, and where nothing was put none is found.
use Rattle.std.specs.Prelude.{◌≡◌, ◌≢◌, ◌⊎◌, ℕ, zero, suc, ℤ, Bool, true, false, List, [], ◌∷◌, ◌++◌, Option, Some, None, length, nat_eq, is_some, slice_get, slice_set, if◌then◌else◌}
use Rattle.std.specs.Ordering.{int_eq}
use Rattle.std.specs.Cmp.{signed_Decides}
use Rattle.std.proofs.Common.{refl, sym, cond, ap, ◌∙◌, inl, inr, true≢false}
use Rattle.std.proofs.lemmas.Bool.Decides.{eqb_tells}

-- an entry, if it is of a PID
abbrev pub own : {E : Type 0} → (E → ℤ) → ℤ → Option E → Option E
own pid_of pid None = None
own pid_of pid (Some entry) = if int_eq (pid_of entry) pid then Some entry else None

-- the entry of a PID
abbrev pub entry_in : {E : Type 0} → (E → ℤ) → (ℤ → ℕ) → List E → ℤ → Option E
entry_in pid_of number entries pid = own pid_of pid (slice_get entries (number pid))

-- ---- what edits do

module _ {E : Type 0} (pid_of : E → ℤ) where
  -- an entry that says of which PID it is
  pub own-its : (pid q : ℤ) (entry : E) → pid_of entry ≡ pid → own pid_of q (Some entry) ≡ cond (int_eq pid q) (Some entry) None
  own-its pid q entry same = ap (λ (p : ℤ). cond (int_eq p q) (Some entry) None) same

  -- an entry of a PID is one, and says so
  pub own-some : (pid : ℤ) (o : Option E) → is_some (own pid_of pid o) ≡ true → is_some o ≡ true
  own-some pid None found = found
  own-some pid (Some entry) found = refl

  pub own-pid : (pid : ℤ) (entry : E) → is_some (own pid_of pid (Some entry)) ≡ true → pid_of entry ≡ pid
  own-pid pid entry found = beside (int_eq (pid_of entry) pid) refl found
    where
      beside : (hit : Bool) → int_eq (pid_of entry) pid ≡ hit → is_some (cond hit (Some entry) None) ≡ true → pid_of entry ≡ pid
      beside true hit found = (signed_Decides (pid_of entry) pid).0 hit
      beside false hit found = absurd (true≢false (sym found))

  -- it is of no other PID
  pub own-no_other : (pid q : ℤ) (o : Option E) → is_some (own pid_of pid o) ≡ true → int_eq pid q ≡ false → own pid_of q o ≡ None
  own-no_other pid q None found other = refl
  own-no_other pid q (Some entry) found other = own-its pid q entry (own-pid pid entry found) ∙ ap (λ b. cond b (Some entry) None) other

  set-here : (entries : List E) (entry : E) (n : ℕ) → is_some (slice_get entries n) ≡ true → slice_get (slice_set entries n entry) n ≡ Some entry
  set-here [] entry n there = absurd (true≢false (sym there))
  set-here (x ∷ entries) entry zero there = refl
  set-here (x ∷ entries) entry (suc n) there = set-here entries entry n there

  set-there : (entries : List E) (entry : E) (n m : ℕ) → n ≢ m → slice_get (slice_set entries n entry) m ≡ slice_get entries m
  set-there [] entry n m other = refl
  set-there (x ∷ entries) entry zero zero other = absurd (other refl)
  set-there (x ∷ entries) entry zero (suc m) other = refl
  set-there (x ∷ entries) entry (suc n) zero other = refl
  set-there (x ∷ entries) entry (suc n) (suc m) other = set-there entries entry n m (λ same. other (ap suc same))

  -- the entry of each PID, once one is put in place of that of a PID
  pub entry_in-set : (number : ℤ → ℕ) (entries : List E) (pid q : ℤ) (entry : E) → is_some (entry_in pid_of number entries pid) ≡ true → pid_of entry ≡ pid
      → entry_in pid_of number (slice_set entries (number pid) entry) q ≡ cond (int_eq pid q) (Some entry) (entry_in pid_of number entries q)
  entry_in-set number entries pid q entry found same = beside (int_eq pid q) refl (eqb_tells (number pid) (number q))
    where
      here : number pid ≡ number q → own pid_of q (slice_get (slice_set entries (number pid) entry) (number q)) ≡ cond (int_eq pid q) (Some entry) None
      here at = ap (λ n. own pid_of q (slice_get (slice_set entries (number pid) entry) n)) (sym at)
          ∙ ap (own pid_of q) (set-here entries entry (number pid) (own-some pid (slice_get entries (number pid)) found)) ∙ own-its pid q entry same

      beside : (hit : Bool) → int_eq pid q ≡ hit → ((nat_eq (number pid) (number q) ≡ true) × (number pid ≡ number q)) ⊎ ((nat_eq (number pid) (number q) ≡ false) × (number pid ≢ number q))
          → own pid_of q (slice_get (slice_set entries (number pid) entry) (number q)) ≡ cond hit (Some entry) (own pid_of q (slice_get entries (number q)))
      beside true hit (inr apart) = absurd (apart.1 (ap number ((signed_Decides pid q).0 hit)))
      beside true hit (inl at) = here at.1 ∙ ap (λ b. cond b (Some entry) None) hit
      beside false hit (inl at) = here at.1 ∙ ap (λ b. cond b (Some entry) None) hit
          ∙ sym (ap (λ n. own pid_of q (slice_get entries n)) (sym at.1) ∙ own-no_other pid q (slice_get entries (number pid)) found hit)
      beside false hit (inr apart) = ap (own pid_of q) (set-there entries entry (number pid) (number q) apart.1)

  push-last : (entries : List E) (entry : E) → slice_get (entries ++ entry ∷ []) (length entries) ≡ Some entry
  push-last [] entry = refl
  push-last (x ∷ entries) entry = push-last entries entry

  push-other : (entries : List E) (entry : E) (q : ℤ) (n : ℕ) → own pid_of q (Some entry) ≡ None → own pid_of q (slice_get (entries ++ entry ∷ []) n) ≡ own pid_of q (slice_get entries n)
  push-other [] entry q zero other = other
  push-other [] entry q (suc n) other = refl
  push-other (x ∷ entries) entry q zero other = refl
  push-other (x ∷ entries) entry q (suc n) other = push-other entries entry q n other

  -- the entry of each PID, once one is put behind the others, and its place is the number of its PID
  pub entry_in-push : (entries : List E) (entry : E) (pid q : ℤ) (was now : ℕ) → pid_of entry ≡ pid → now ≡ cond (int_eq pid q) (length entries) was
      → own pid_of q (slice_get (entries ++ entry ∷ []) now) ≡ cond (int_eq pid q) (Some entry) (own pid_of q (slice_get entries was))
  entry_in-push entries entry pid q was now same is = beside (int_eq pid q) refl is
    where
      beside : (hit : Bool) → int_eq pid q ≡ hit → now ≡ cond hit (length entries) was → own pid_of q (slice_get (entries ++ entry ∷ []) now) ≡ cond hit (Some entry) (own pid_of q (slice_get entries was))
      beside true hit at = ap (λ n. own pid_of q (slice_get (entries ++ entry ∷ []) n)) at ∙ ap (own pid_of q) (push-last entries entry) ∙ own-its pid q entry same ∙ ap (λ b. cond b (Some entry) None) hit
      beside false hit at = ap (λ n. own pid_of q (slice_get (entries ++ entry ∷ []) n)) at ∙ push-other entries entry q was (own-its pid q entry same ∙ ap (λ b. cond b (Some entry) None) hit)
