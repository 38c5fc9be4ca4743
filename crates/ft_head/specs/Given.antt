-- What a step of reading gives: an answer, or out of memory.
use Rattle.std.specs.Prelude.{◌≡◌, ◌⊎◌, Result, Ok, Err}
use Rattle.ft_hist.specs.declared.fault.TriggerFault.{TriggerFault}
use Rattle.ft_hist.specs.declared.fault.TriggerFault.TheVariants.{Memory}

-- a step gives the answer, seen so, or memory ran out
abbrev pub Gives : {A B : Type 0} → (B → A) → Result A TriggerFault → Result B TriggerFault → Type 0
Gives seen answer (Ok made) = answer ≡ Ok (seen made)
Gives seen answer (Err fault) = (fault ≡ Memory) ⊎ (answer ≡ Err fault)
