-- What stands after an answer without a fault.
use Rattle.std.proofs.Common.{◌≡◌, Bool, true, false, List, ◌∷◌, Option, Some, None, Result, Ok, Err, refl}
use Rattle.std.specs.Option.{option_map_or}
use Rattle.ft_hist.specs.declared.fault.TriggerFault.{TriggerFault}
use Rattle.ft_head.specs.Draft.{◌>>=◌, unless, given_or}

-- both steps have an answer
pub then_parts : {A B : Type 0} (r : Result A TriggerFault) (next : A → Result B TriggerFault) (b : B) → (r >>= next) ≡ Ok b → (a : A) × (r ≡ Ok a) × (next a ≡ Ok b)
then_parts (Ok a) next b e = (a, refl, e)
then_parts (Err fault) next b e = absurd cc

-- the thing is there
pub given_parts : {A B : Type 0} (fault : TriggerFault) (o : Option A) (next : A → Result B TriggerFault) (b : B) → given_or fault o next ≡ Ok b → (a : A) × (o ≡ Some a) × (next a ≡ Ok b)
given_parts fault (Some a) next b e = (a, refl, e)
given_parts fault None next b e = absurd cc

-- the test is not met
pub unless_parts : {A : Type 0} (test : Bool) (fault : TriggerFault) (rules : List (Bool × TriggerFault)) (next : Result A TriggerFault) (a : A)
    → unless ((test, fault) ∷ rules) next ≡ Ok a → (test ≡ false) × (unless rules next ≡ Ok a)
unless_parts true fault rules next a e = absurd cc
unless_parts false fault rules next a e = (refl, e)

-- no fault is there
pub no_fault : {A : Type 0} (o : Option TriggerFault) (next : Result A TriggerFault) (a : A) → option_map_or Err o next ≡ Ok a → (o ≡ None) × (next ≡ Ok a)
no_fault (Some fault) next a e = absurd cc
no_fault None next a e = (refl, e)
