-- Acts on the way, as one more comes or goes.
use Rattle.std.specs.Prelude.{◌≡◌, ◌⊎◌, ℕ, Bool, true, false, List, Some, None}
use Rattle.ft_fields.specs.Traced.{Traced}
use Rattle.ft_fields.specs.declared.key.Part.{Part}
use Rattle.ft_pairs.specs.declared.at.At.{At}
use Rattle.ft_kept.specs.Acts.{Acts}

-- the acts are the same, except at one place, where this act stands on only one side
pub record IsOneAct (at : At) (act : List Part × Traced) (before after : Acts) : Type 0 where
  pub elsewhere : (q : At) → (q ≡ at → ⊥) → after q ≡ before q
  pub here : ((before at ≡ None) × (after at ≡ Some act)) ⊎ ((before at ≡ Some act) × (after at ≡ None))

-- one more trigger is done
pub record IsDoneToo (id : ℕ) (done more : ℕ → Bool) : Type 0 where
  pub was : done id ≡ false
  pub is : more id ≡ true
  pub others : (i : ℕ) → (i ≡ id → ⊥) → more i ≡ done i
