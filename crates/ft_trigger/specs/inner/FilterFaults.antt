-- A filter's fault as its trigger's.
use Rattle.ft_filter.specs.declared.fault.FilterFault.{FilterFault}
use Rattle.ft_filter.specs.declared.fault.FilterFault.TheVariants as filters
use Rattle.ft_hist.specs.declared.fault.TriggerFault.{TriggerFault}
use Rattle.ft_hist.specs.declared.fault.TriggerFault.TheVariants.{Memory, BadFilter}

-- the fault of a trigger whose filter has this fault; out of memory is its own
abbrev pub of_filter : FilterFault → TriggerFault
of_filter filters.Memory = Memory
of_filter fault = BadFilter fault
