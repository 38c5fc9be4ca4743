-- A trigger of parts that are given.
use Rattle.std.specs.Prelude.{Option}
use Rattle.ft_fields.specs.declared.event.Name.{Name}
use Rattle.ft_filter.specs.Tree.{Condition}
use Rattle.ft_hist.specs.declared.trigger.TriggerParts.{TriggerParts}
use Rattle.ft_hist.specs.Hist.{Hist, hist_with}

-- the trigger of these parts and this filter that makes no events
abbrev pub hist_of_parts : Name → TriggerParts → Option Condition → Hist
hist_of_parts event parts filter = hist_with event parts.keys.items parts.values.items parts.sort.items parts.variable parts.size filter
