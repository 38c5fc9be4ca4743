-- Refusals as numbers, as C has them, and back. All of it is our own choice.
use Rattle.std.specs.Prelude.{ℕ, ◌-◌, Bool, true, false, ◌&&◌, ◌==◌, if◌then◌else◌, List, [], ◌∷◌, Option, Some, None, slice_get, option_map, option_and_then}
use Rattle.std.specs.Option.{option_flatten}
use Rattle.ft_event.specs.LineFault.{line_number}
use Rattle.ft_event.specs.declared.fault.LineFault.{LineFault}
use Rattle.ft_event.specs.declared.fault.LineFault.TheVariants as lines
use Rattle.ft_filter.specs.FilterFault.{filter_number, filter_place}
use Rattle.ft_filter.specs.declared.fault.FilterFault.{FilterFault}
use Rattle.ft_filter.specs.declared.fault.FilterFault.TheVariants as filters
use Rattle.ft_hist.specs.TriggerFault.{trigger_number, trigger_place}
use Rattle.ft_hist.specs.declared.fault.TriggerFault.{TriggerFault}
use Rattle.ft_hist.specs.declared.fault.TriggerFault.TheVariants as triggers
use Rattle.ft_base.specs.Refused.{refused_number}
use Rattle.ft_base.specs.declared.refused.Refused.{Refused}
use Rattle.ft_base.specs.declared.refused.Refused.TheVariants as refused
use Rattle.ft_layout.specs.declared.refusals.RefusalLayout.{RefusalLayout}

-- nothing was refused
abbrev pub no_refusal : RefusalLayout
no_refusal = record { number = 0; fault = 0; filter_fault = 0; cpu = 0; trigger = 0; has_place = false; line = 0; place = 0 }

-- with the place of a fault, if it has one
abbrev pub with_place : RefusalLayout → Option ℕ → RefusalLayout
with_place layout None = layout
with_place layout (Some at) = record layout { has_place = true; place = at }

-- with the fault of a filter's text
abbrev pub with_filter_fault : RefusalLayout → FilterFault → RefusalLayout
with_filter_fault layout reason = with_place (record layout { filter_fault = filter_number reason }) (filter_place reason)

-- with what a trigger's fault says of its filter
abbrev pub with_reason : RefusalLayout → TriggerFault → RefusalLayout
with_reason layout (triggers.BadFilter reason) = with_filter_fault layout reason
with_reason layout other = layout

-- with the fault of a trigger's text and its place, if it has one; if it is a filter's fault, also which one, and where in the filter's text
abbrev pub with_trigger_fault : RefusalLayout → TriggerFault → RefusalLayout
with_trigger_fault layout reason = with_reason (with_place (record layout { fault = trigger_number reason }) (trigger_place reason)) reason

-- with what a refusal says beside its number; nothing more if the number says all
abbrev pub with_detail : RefusalLayout → Refused → RefusalLayout
with_detail layout (refused.BadLine number reason) = record layout { line = number; fault = line_number reason }
with_detail layout (refused.LaneHeld number) = record layout { cpu = number }
with_detail layout (refused.NoLane number) = record layout { cpu = number }
with_detail layout (refused.BadTrigger reason) = with_trigger_fault layout reason
with_detail layout (refused.BadFilter reason) = with_filter_fault layout reason
with_detail layout (refused.InUse id) = record layout { trigger = id }
with_detail layout (refused.NameTaken id) = record layout { trigger = id }
with_detail layout other = layout

-- only a refusal's number
abbrev pub with_number : Refused → RefusalLayout
with_number why = record no_refusal { number = refused_number why }

-- a refusal, or that nothing was refused
abbrev pub refusal_layout : Option Refused → RefusalLayout
refusal_layout None = no_refusal
refusal_layout (Some why) = with_detail (with_number why) why

-- the item of this number, from 1
abbrev pub numbered : {X : Type 0} → List X → ℕ → Option X
numbered items number = if number == 0 then None else slice_get items (number - 1)

-- the faults of lines by number
abbrev pub line_faults : List LineFault
line_faults = lines.NoTask ∷ lines.BadCpu ∷ lines.BadStamp ∷ lines.BadPayload ∷ lines.NumberRange ∷ lines.NameLong ∷ lines.LineLong ∷ []

-- the faults of filters by number, at the place if they have one
abbrev pub filter_faults : RefusalLayout → List FilterFault
filter_faults layout = filters.Memory ∷ filters.Syntax layout.place ∷ filters.NoField layout.place ∷ filters.WrongKind layout.place ∷ filters.BadGlob layout.place ∷ filters.NumberRange layout.place ∷ filters.TooDeep ∷ []

-- the fault of a filter with the numbers
abbrev pub filter_fault_of : RefusalLayout → Option FilterFault
filter_fault_of layout = numbered (filter_faults layout) layout.filter_fault

-- the faults of triggers by number, at the place if they have one
abbrev pub trigger_faults : RefusalLayout → List (Option TriggerFault)
trigger_faults layout =
    Some triggers.Memory ∷ Some (triggers.Syntax layout.place) ∷ Some triggers.NoField ∷ Some triggers.NotNumeric ∷ Some triggers.TooMany ∷ Some triggers.Duplicate
    ∷ Some triggers.BadSize ∷ Some triggers.BadSort ∷ Some triggers.BadModifier ∷ Some (triggers.LeftOut layout.place) ∷ option_map (λ reason. triggers.BadFilter reason) (filter_fault_of layout) ∷ []

-- the fault of a trigger with the numbers
abbrev pub trigger_fault_of : RefusalLayout → Option TriggerFault
trigger_fault_of layout = option_flatten (numbered (trigger_faults layout) layout.fault)

-- the refusals by number, each with the numbers; `None` in place of one for which these have no fault
abbrev pub refusals : RefusalLayout → List (Option Refused)
refusals layout =
    Some refused.Memory ∷ Some refused.NoFile ∷ option_map (λ reason. refused.BadLine layout.line reason) (numbered line_faults layout.fault)
    ∷ Some (refused.LaneHeld layout.cpu) ∷ Some (refused.NoLane layout.cpu) ∷ Some refused.NoEvent ∷ Some refused.Full
    ∷ option_map (λ reason. refused.BadTrigger reason) (trigger_fault_of layout) ∷ option_map (λ reason. refused.BadFilter reason) (filter_fault_of layout)
    ∷ Some refused.NoTrigger ∷ Some (refused.InUse layout.trigger) ∷ Some (refused.NameTaken layout.trigger)
    ∷ Some refused.NoVariable ∷ Some refused.KeyMismatch ∷ Some refused.TooManyTriggers ∷ Some refused.BadCommand ∷ Some refused.NotReading ∷ []

-- the refusal with the numbers, whatever doesn't belong to its number
abbrev pub likely : RefusalLayout → Option Refused
likely layout = option_flatten (numbered (refusals layout) layout.number)

-- whether two booleans are the same
abbrev pub both : Bool → Bool → Bool
both true b = b
both false true = false
both false false = true

-- whether all numbers are the same
abbrev pub is_same : RefusalLayout → RefusalLayout → Bool
is_same a b = (a.number == b.number) && (a.fault == b.fault) && (a.filter_fault == b.filter_fault) && (a.cpu == b.cpu) && (a.trigger == b.trigger) && both a.has_place b.has_place && (a.line == b.line) && (a.place == b.place)

-- the refusal that C has so: the one with the numbers, if what doesn't belong to its number is 0
abbrev pub refusal_in : RefusalLayout → Option Refused
refusal_in layout = option_and_then (λ why. if is_same layout (refusal_layout (Some why)) then Some why else None) (likely layout)
