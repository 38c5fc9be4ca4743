-- Faults of a head's parts, and those that are found after them (kernel: histogram.rst, hist triggers).
use Rattle.std.specs.Prelude.{◌≡◌, ℕ, Bool, true, false, nat_le, List, Err}
use Rattle.ft_fields.specs.declared.event.Name.{Name}
use Rattle.ft_hist.specs.declared.fault.TriggerFault.{TriggerFault}
use Rattle.ft_hist.specs.declared.fault.TriggerFault.TheVariants.{Syntax, NoField, BadSort, BadFilter}
use Rattle.ft_head.specs.Draft.{empty_draft, parts_from}
use Rattle.ft_text.specs.Items.{pieces}

-- parts that stand after `hist:` have this fault, read from the left (kernel: histogram.rst, hist triggers)
abbrev pub PartsFail : Name → List ℕ → TriggerFault → Type 0
PartsFail event parts fault = parts_from event empty_draft (pieces 58 5 parts) ≡ Err fault

-- a fault that may be found after the parts of a head of so many bytes: no keys, a value, a variable that is handed on or a sort item that names nothing, or the tail's
abbrev pub is_late : ℕ → TriggerFault → Bool
is_late head (Syntax place) = nat_le head place
is_late head NoField = true
is_late head BadSort = true
is_late head (BadFilter fault) = true
is_late head fault = false
