-- What a refused command prints. All of it is our own choice.
use Rattle.std.specs.Prelude.{ℕ, List, [], ◌++◌, Option, Some, None, codes, decimal}
use Rattle.ft_event.specs.LineFault.{line_number}
use Rattle.ft_filter.specs.FilterFault.{filter_number, filter_place}
use Rattle.ft_hist.specs.TriggerFault.{trigger_number, trigger_place}
use Rattle.ft_hist.specs.declared.fault.TriggerFault.{TriggerFault}
use Rattle.ft_hist.specs.declared.fault.TriggerFault.TheVariants as faults
use Rattle.ft_base.specs.Refused.{refused_number}
use Rattle.ft_base.specs.declared.refused.Refused.{Refused}
use Rattle.ft_base.specs.declared.refused.Refused.TheVariants.{BadLine, LaneHeld, NoLane, BadTrigger, BadFilter, InUse, NameTaken}

-- where a fault is, in a refusal's line
abbrev pub place_text : Option ℕ → List ℕ
place_text None = []
place_text (Some place) = codes " at " ++ decimal place

-- what a trigger's fault says beside its number: where it is, and of a filter's fault which one and where in the filter's text
abbrev pub fault_detail : TriggerFault → List ℕ
fault_detail (faults.BadFilter fault) = codes " filter " ++ decimal (filter_number fault) ++ place_text (filter_place fault)
fault_detail fault = place_text (trigger_place fault)

-- what a refusal says beside its number; nothing if the number says all
abbrev pub detail : Refused → List ℕ
detail (BadLine line fault) = codes ": line " ++ decimal line ++ codes " fault " ++ decimal (line_number fault)
detail (LaneHeld cpu) = codes ": cpu " ++ decimal cpu
detail (NoLane cpu) = codes ": cpu " ++ decimal cpu
detail (BadTrigger fault) = codes ": fault " ++ decimal (trigger_number fault) ++ fault_detail fault
detail (BadFilter fault) = codes ": filter " ++ decimal (filter_number fault) ++ place_text (filter_place fault)
detail (InUse id) = codes ": trigger " ++ decimal id
detail (NameTaken id) = codes ": trigger " ++ decimal id
detail refused = []

-- the line of a refused command
unfoldable pub refused_text : Refused → List ℕ
refused_text refused = codes "refused " ++ decimal (refused_number refused) ++ detail refused ++ codes "\n"
