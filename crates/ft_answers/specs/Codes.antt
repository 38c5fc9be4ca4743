-- How a proof tells boards apart: by what they show.
use Rattle.std.specs.Prelude.{ℕ, Bool, refl}
use Rattle.std.specs.Coded.{Coded, code_by, coded×, coded_ℕ, coded_bool}
use Rattle.ft_hist.specs.Steps.{Steps}
use Rattle.ft_base.specs.Base.{Base}
use Rattle.ft_base.specs.Codes.{base_code}
use Rattle.ft_answers.specs.Shown.{Shown}

-- counts of steps, stored as two numbers
abbrev pub steps_code : Coded Steps
steps_code = code_by (ℕ × ℕ) (coded× coded_ℕ coded_ℕ) (λ s. (s.evals, s.puts)) (λ p. record { evals = p.0; puts = p.1 }) (λ _. refl)

-- a board, stored as its base, its two flags and its counts
abbrev pub shown_code : Coded Shown
shown_code = code_by
    (Base × (Bool × (Bool × Steps))) (coded× base_code (coded× coded_bool (coded× coded_bool steps_code)))
    (λ s. (s.base, (s.deferred, (s.keeps, s.steps)))) (λ p. record { base = p.0; deferred = p.1.0; keeps = p.1.1.0; steps = p.1.1.1 }) (λ _. refl)
