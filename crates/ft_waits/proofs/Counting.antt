-- One more event of a CPU.
use Rattle.std.specs.Prelude.{◌≡◌, ◌≢◌, ◌==◌, ◌<◌, ◌≤◌, ℕ, suc, List, ◌∷◌, length}
use Rattle.std.specs.List.{count_by}
use Rattle.std.proofs.Common.{cond, sym, ap, ◌∙◌, set, eqb, inl, inr, arith}
use Rattle.std.proofs.lemmas.Bool.{cases_eq, eq-eqb, false_from_ne_true, eqb-true}
use Rattle.std.proofs.lemmas.List.{get_or-set_other}
use Rattle.std.proofs.lemmas.Grind.{get_or-set_at}
use Rattle.std.proofs.lemmas.List.Sums.{sum_by-cons}
use Rattle.ft_fields.specs.Traced.{Traced}
use Rattle.ft_waits.specs.Reading.{CountsEvents}

-- so many events of a CPU
abbrev pub of_cpu : ℕ → List Traced → ℕ
of_cpu cpu before = count_by (λ e. e.cpu == cpu) before

-- an event counts for its CPU
pub of_own : (e : Traced) (cpu : ℕ) (before : List Traced) → e.cpu ≡ cpu → of_cpu cpu (e ∷ before) ≡ suc (of_cpu cpu before)
of_own e cpu before same =
    let parts = sum_by-cons (λ (x : Traced). cond (eqb x.cpu cpu) 1 0) e before in
    let one : ◌≡◌ {A = ℕ} (cond (eqb e.cpu cpu) 1 0) 1 = ap (λ b. cond b 1 0) (eq-eqb e.cpu cpu same) in
    omega (arith, parts, one)

-- and for no other
pub of_other : (e : Traced) (cpu : ℕ) (before : List Traced) → e.cpu ≢ cpu → of_cpu cpu (e ∷ before) ≡ of_cpu cpu before
of_other e cpu before apart =
    let parts = sum_by-cons (λ (x : Traced). cond (eqb x.cpu cpu) 1 0) e before in
    let none : ◌≡◌ {A = ℕ} (cond (eqb e.cpu cpu) 1 0) 0 = ap (λ b. cond b 1 0) (false_from_ne_true (eqb e.cpu cpu) (λ hit. apart (eqb-true _ _ hit))) in
    omega (arith, parts, none)

-- the counts with the event's own raised
pub counted : (lines : List ℕ) (before : List Traced) (e : Traced) (line : ℕ) → CountsEvents lines before → e.cpu < length lines → line ≡ suc (of_cpu e.cpu before) → CountsEvents (set lines e.cpu line) (e ∷ before)
counted lines before e line counts within is cpu fits = elim (cases_eq e.cpu cpu) [
  | inl same ↦ get_or-set_at lines e.cpu cpu line 0 (sym same) within ∙ is ∙ ap (λ k. suc (of_cpu k before)) same ∙ sym (of_own e cpu before same)
  | inr apart ↦ get_or-set_other lines e.cpu cpu line 0 (λ same. apart (sym same)) ∙ counts cpu fits ∙ sym (of_other e cpu before apart)
]

-- an event more is never less
pub of_more : (e : Traced) (cpu : ℕ) (before : List Traced) → of_cpu cpu before ≤ of_cpu cpu (e ∷ before)
of_more e cpu before =
    let parts = sum_by-cons (λ (x : Traced). cond (eqb x.cpu cpu) 1 0) e before in
    omega (arith, parts)
