-- What texts give as edits. All of it is our own choice.
use Rattle.std.specs.Prelude.{ℕ, ◌+◌, List, [], ◌∷◌, Option, Some, None, Result, Ok, Err}
use Rattle.std.specs.Option.{option_map_or}
use Rattle.std.specs.FinMap as map
use Rattle.ft_fields.specs.Traced.{Traced}
use Rattle.ft_event.specs.Line.{line_of}
use Rattle.ft_fields.specs.declared.event.Name.{Name}
use Rattle.ft_fields.specs.declared.event.Name.TheVariants as names
use Rattle.ft_event.specs.declared.fault.Line.{Line}
use Rattle.ft_event.specs.declared.fault.Line.TheVariants as lines
use Rattle.ft_event.specs.declared.fault.LineFault.{LineFault}
use Rattle.ft_filter.specs.Answers.{filter_of}
use Rattle.ft_filter.specs.Tree.{Tree}
use Rattle.ft_filter.specs.declared.fault.FilterFault.{FilterFault}
use Rattle.ft_filter.specs.declared.fault.FilterFault.TheVariants as filter_faults
use Rattle.ft_trigger.specs.Hist.{Hist}
use Rattle.ft_trigger.specs.TriggerIs.{trigger_of}
use Rattle.ft_hist.specs.declared.fault.TriggerFault.{TriggerFault}
use Rattle.ft_hist.specs.declared.fault.TriggerFault.TheVariants as faults
use Rattle.ft_answers.specs.Base.{Base}
use Rattle.ft_answers.specs.After.{after_load, after_insert, after_attach, after_refilter}
use Rattle.ft_base.specs.declared.refused.Place.{Place}
use Rattle.ft_base.specs.declared.refused.Refused.{Refused}
use Rattle.ft_base.specs.declared.refused.Refused.TheVariants.{Memory, BadLine, NoEvent, BadTrigger, BadFilter, NoTrigger, BadCommand}
use Rattle.ft_text.specs.Lines.{lines_of}

-- a line's event in front of those of the lines after it; if the line cannot be read, all are refused for its fault
abbrev pub line_in_front : ℕ → Result Line LineFault → Result (List Traced) Refused → Result (List Traced) Refused
line_in_front number (Err fault) rest = Err (BadLine number fault)
line_in_front number (Ok lines.Skip) rest = rest
line_in_front number (Ok (lines.Event event)) (Ok events) = Ok (event ∷ events)
line_in_front number (Ok (lines.Event event)) (Err refused) = Err refused

-- the events of lines, the first of which has this number; or the first line that cannot be read
unfoldable pub events_from : ℕ → List (List ℕ) → Result (List Traced) Refused
events_from number [] = Ok []
events_from number (line ∷ lines) = line_in_front number (line_of line) (events_from (number + 1) lines)

-- the events of a trace text, in file order
abbrev pub events_of : List ℕ → Result (List Traced) Refused
events_of text = events_from 1 (lines_of text)

infixl 10 ◌>>=◌
-- what follows a step that was not refused
abbrev pub ◌>>=◌ : {A B : Type 0} → Result A Refused → (A → Result B Refused) → Result B Refused
(Ok x) >>= f = f x
(Err refused) >>= f = Err refused

-- loading a trace text
unfoldable pub after_load_text : Base → List ℕ → Result (Base × ℕ) Refused
after_load_text base text = events_of text >>= after_load base

-- the event of one line as read; what is wrong with it is wrong with line 1, and a line that is skipped has no event
abbrev pub event_or_refused : Result Line LineFault → Result Traced Refused
event_or_refused (Err fault) = Err (BadLine 1 fault)
event_or_refused (Ok lines.Skip) = Err NoEvent
event_or_refused (Ok (lines.Event event)) = Ok event

-- inserting the event of a line
unfoldable pub after_insert_text : Base → List ℕ → Result (Base × Place) Refused
after_insert_text base line = event_or_refused (line_of line) >>= after_insert base

-- a trigger's fault as a refusal; out of memory is a refusal of its own
abbrev pub trigger_refusal : TriggerFault → Refused
trigger_refusal faults.Memory = Memory
trigger_refusal fault = BadTrigger fault

-- a trigger's text as read, or refused
abbrev pub trigger_or_refused : Result Hist TriggerFault → Result Hist Refused
trigger_or_refused (Ok trigger) = Ok trigger
trigger_or_refused (Err fault) = Err (trigger_refusal fault)

-- a trigger's text on an event: on the four named events, and on the one that triggers make
abbrev pub trigger_for : Name → List ℕ → Result Hist Refused
trigger_for names.Waking text = trigger_or_refused (trigger_of names.Waking text)
trigger_for names.Wakeup text = trigger_or_refused (trigger_of names.Wakeup text)
trigger_for names.WakeupNew text = trigger_or_refused (trigger_of names.WakeupNew text)
trigger_for names.Switch text = trigger_or_refused (trigger_of names.Switch text)
trigger_for names.WakeupLatency text = trigger_or_refused (trigger_of names.WakeupLatency text)
trigger_for names.Other text = Err BadCommand

-- attaching a trigger's text to an event
unfoldable pub after_attach_text : Base → Name → List ℕ → Result (Base × ℕ) Refused
after_attach_text base name text = trigger_for name text >>= after_attach base

-- a filter's fault as a refusal; out of memory is a refusal of its own
abbrev pub filter_refusal : FilterFault → Refused
filter_refusal filter_faults.Memory = Memory
filter_refusal fault = BadFilter fault

-- a filter's text as read, or refused
abbrev pub filter_or_refused : Result Tree FilterFault → Result (Option Tree) Refused
filter_or_refused (Ok tree) = Ok (Some tree)
filter_or_refused (Err fault) = Err (filter_refusal fault)

-- a filter's text on an event; no text is no filter
abbrev pub filter_for : Name → Option (List ℕ) → Result (Option Tree) Refused
filter_for event None = Ok None
filter_for event (Some text) = filter_or_refused (filter_of event text)

-- giving an attached trigger the filter of a text on its event, or none; the trigger is looked up before the text is read
unfoldable pub after_refilter_text : Base → ℕ → Option (List ℕ) → Result (Base × ℕ) Refused
after_refilter_text base id text = option_map_or (λ hist. filter_for hist.event text >>= after_refilter base id) (map.get base.triggers id) (Err NoTrigger)
