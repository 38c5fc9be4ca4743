-- Runs of bytes that pass a test, and labels.
use Rattle.std.proofs.Common.{◌≡◌, ℕ, suc, Bool, true, inl, inr, subst, List, [], ◌∷◌, ◌++◌, take, drop, length, refl, sym, ap, ◌∙◌, arith, eqb}
use Rattle.std.proofs.lemmas.Bool.{cases_Bool, and_parts, and_from, eqb-true}
use Rattle.std.specs.List.{prefix_len, list_all}
use Rattle.std.proofs.Math.Numerals.{one-add}
use lib.Pointwise.{pointwise}
use Rattle.ft_text.specs.Cuts.{Stops}

-- a run is as long as it goes
pub run_len : (p : ℕ → Bool) (run rest : List ℕ) → list_all p run ≡ true → Stops p rest → prefix_len p (run ++ rest) ≡ length run
run_len p [] [] passes stops = refl
run_len p [] (b ∷ rest) passes stops = rw stops refl
run_len p (x ∷ run) rest passes stops =
    let both = and_parts (p x) (list_all p run) passes in
    rw (both.0, run_len p run rest both.1 stops) (omega arith)

-- a text is a run, and a rest that the run cannot go on into
pub record IsRun (p : ℕ → Bool) (text run rest : List ℕ) : Type 0 where
  pub joined : text ≡ run ++ rest
  pub passes : list_all p run ≡ true
  pub stops : Stops p rest

-- each text has a run
pub run_splits : (p : ℕ → Bool) (text : List ℕ) → IsRun p text (take (prefix_len p text) text) (drop (prefix_len p text) text)
run_splits p [] = record { joined = refl; passes = refl; stops = tt }
run_splits p (b ∷ text) =
    let R : ℕ → Type 0 = λ n. IsRun p (b ∷ text) (take n (b ∷ text)) (drop n (b ∷ text)) in
    elim (cases_Bool (p b)) [
      | inl hit ↦
          let e : prefix_len p (b ∷ text) ≡ suc (prefix_len p text) = rw (hit, one-add) refl in
          let h = run_splits p text in
          let at_suc : R (suc (prefix_len p text)) = record { joined = ap (λ (t : List ℕ). b ∷ t) h.joined; passes = and_from _ _ hit h.passes; stops = h.stops } in
          subst R (sym e) at_suc
      | inr miss ↦
          let e : prefix_len p (b ∷ text) ≡ 0 = rw miss refl in
          let at_zero : R 0 = record { joined = refl; passes = refl; stops = miss } in
          subst R (sym e) at_zero
    ]

-- a text after a label that it begins with
pub label_joined : (label text : List ℕ) → pointwise eqb label (take (length label) text) ≡ true → text ≡ label ++ drop (length label) text
label_joined [] text h = refl
label_joined (x ∷ label) [] h = absurd cc
label_joined (x ∷ label) (y ∷ text) h =
    let both = and_parts (eqb x y) (pointwise eqb label (take (length label) text)) h in
    let same : x ≡ y = eqb-true x y both.0 in
    ap (λ (z : ℕ). z ∷ text) (sym same) ∙ ap (λ (t : List ℕ). x ∷ t) (label_joined label text both.1)
