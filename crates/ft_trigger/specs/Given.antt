-- What reading gives: what a relation says, or out of memory.
use Rattle.std.specs.Prelude.{◌≡◌, ◌⊎◌, Result, Ok, Err}
use Rattle.ft_hist.specs.declared.fault.TriggerFault.{TriggerFault}
use Rattle.ft_hist.specs.declared.fault.TriggerFault.TheVariants.{Memory}
use Rattle.ft_hist.specs.Hist.{Hist}

-- R holds for the answer, unless memory ran out
abbrev pub GivesTrigger : (Result Hist TriggerFault → Type 0) → Result Hist TriggerFault → Type 0
GivesTrigger R (Ok hist) = R (Ok hist)
GivesTrigger R (Err fault) = (fault ≡ Memory) ⊎ R (Err fault)
