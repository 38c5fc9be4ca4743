-- What a step of reading leaves: an answer, or out of memory.
use Rattle.std.specs.Prelude.{◌≡◌, ◌⊎◌, Result, Ok, Err}
use Rattle.ft_hist.specs.declared.fault.TriggerFault.{TriggerFault}
use Rattle.ft_hist.specs.declared.fault.TriggerFault.TheVariants.{Memory}

-- a step leaves the answer, or memory ran out
abbrev pub Leaves : {A : Type 0} → Result A TriggerFault → A → Result (Unit {0}) TriggerFault → Type 0
Leaves answer left (Ok done) = answer ≡ Ok left
Leaves answer left (Err fault) = (fault ≡ Memory) ⊎ (answer ≡ Err fault)
