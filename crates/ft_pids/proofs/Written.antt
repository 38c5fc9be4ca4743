-- What a map of numbers tells after one is put.
use Rattle.std.specs.Prelude.{◌≡◌, ℕ, ℤ, Bool, true, false, Option, Some}
use Rattle.std.specs.BTreeMap.{BTreeMap}
use Rattle.std.specs.Map.{lookup}
use Rattle.std.specs.Option.{unwrap_or}
use Rattle.std.specs.Ordering.{int_cmp, int_eq, is_eq}
use Rattle.std.proofs.Common.{refl, cond, ap, ◌∙◌}
use Rattle.ft_pids.specs.Numbers.{other_number}
use Rattle.ft_pids.specs.declared.numbers.Other.{Other}

-- a choice between a number and what is found, with 0 for nothing
pub unwrap-cond : (b : Bool) (x : ℕ) (o : Option ℕ) → unwrap_or (cond b (Some x) o) 0 ≡ cond b x (unwrap_or o 0)
unwrap-cond true x o = refl
unwrap-cond false x o = refl

-- what a look-up finds in a map
abbrev pub found : BTreeMap Other ℕ → ℤ → Option ℕ
found others pid = lookup (λ other. is_eq (int_cmp pid other.pid)) others.entries

-- the number of each one after a write at one, whose number was stored and read
pub written : (m n : BTreeMap Other ℕ) (stored pid q : ℤ) (number : ℕ) → stored ≡ pid → found n q ≡ cond (int_eq stored q) (Some number) (found m q)
    → other_number n q ≡ cond (int_eq pid q) number (other_number m q)
written m n stored pid q number same h = ap (λ o. unwrap_or o 0) h ∙ unwrap-cond (int_eq stored q) number (found m q) ∙ ap (λ p. cond (int_eq p q) number (other_number m q)) same
