-- The numbers and places of what may be wrong with a trigger's text.
use Rattle.std.specs.Prelude.{ℕ, Option, Some, None}
use Rattle.ft_hist.specs.declared.fault.TriggerFault.{TriggerFault}
use Rattle.ft_hist.specs.declared.fault.TriggerFault.TheVariants.{Memory, Syntax, NoField, NotNumeric, TooMany, Duplicate, BadSize, BadSort, BadModifier, LeftOut, BadFilter}

-- the number that a refusal prints
abbrev pub trigger_number : TriggerFault → ℕ
trigger_number Memory = 1
trigger_number (Syntax place) = 2
trigger_number NoField = 3
trigger_number NotNumeric = 4
trigger_number TooMany = 5
trigger_number Duplicate = 6
trigger_number BadSize = 7
trigger_number BadSort = 8
trigger_number BadModifier = 9
trigger_number (LeftOut place) = 10
trigger_number (BadFilter fault) = 11

-- the byte that it is at, if it has a place; a filter's fault has its own
abbrev pub trigger_place : TriggerFault → Option ℕ
trigger_place (Syntax place) = Some place
trigger_place (LeftOut place) = Some place
trigger_place fault = None
