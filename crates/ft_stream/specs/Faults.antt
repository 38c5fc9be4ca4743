-- Why a call of a stream is refused, as numbers. All of it is our own choice.
use Rattle.std.specs.Prelude.{ℕ, Option, Some, None}
use Rattle.ft_event.specs.LineFault.{line_number}
use Rattle.ft_waits.specs.declared.fault.WaitsFault.{WaitsFault}
use Rattle.ft_waits.specs.declared.fault.WaitsFault.TheVariants as texts
use Rattle.ft_waits.specs.declared.seam.JoinFault.{JoinFault}
use Rattle.ft_waits.specs.declared.seam.JoinFault.TheVariants as joins
use Rattle.ft_layout.specs.Refusals.{no_refusal, with_filter_fault}
use Rattle.ft_layout.specs.declared.refusals.RefusalLayout.{RefusalLayout}
use Rattle.ft_stream.specs.declared.fault.StreamFault.{StreamFault}
use Rattle.ft_stream.specs.declared.fault.StreamFault.TheVariants as faults

-- the code of a text's refusal; those that the desk has too are the desk's
abbrev pub text_code : WaitsFault → ℕ
text_code texts.Memory = 1
text_code (texts.BadLine bad) = 3
text_code texts.TooLong = 7
text_code (texts.Backwards line) = 18

-- the code of a refusal; those that the desk has too are the desk's
abbrev pub fault_code : StreamFault → ℕ
fault_code (faults.Text fault) = text_code fault
fault_code faults.NoStream = 19
fault_code faults.NoEvent = 16
fault_code (faults.Filter fault) = 9
fault_code (faults.Part fault) = 20

-- the code of a call: 0, or that of its refusal
abbrev pub code_of : Option StreamFault → ℕ
code_of None = 0
code_of (Some fault) = fault_code fault

-- with the line of a text's refusal, and its fault, if it has them
abbrev pub with_text_detail : RefusalLayout → WaitsFault → RefusalLayout
with_text_detail layout texts.Memory = layout
with_text_detail layout (texts.BadLine bad) = record layout { line = bad.line; fault = line_number bad.fault }
with_text_detail layout texts.TooLong = layout
with_text_detail layout (texts.Backwards line) = record layout { line = line }

-- the number of why a part is not joined; a lack of memory is reported as a text's refusal
abbrev pub join_number : JoinFault → ℕ
join_number joins.Failed = 1
join_number joins.Unended = 2
join_number joins.Differs = 3
join_number joins.Summed = 4
join_number joins.TooLong = 5
join_number joins.Overlaps = 6
join_number joins.Torn = 7
join_number joins.Memory = 8

-- with what a refusal says beside its number
abbrev pub with_detail : RefusalLayout → StreamFault → RefusalLayout
with_detail layout (faults.Text fault) = with_text_detail layout fault
with_detail layout faults.NoStream = layout
with_detail layout faults.NoEvent = layout
with_detail layout (faults.Filter fault) = with_filter_fault layout fault
with_detail layout (faults.Part fault) = record layout { fault = join_number fault }

-- a refusal as C has it, or that nothing was refused
abbrev pub refusal_layout : Option StreamFault → RefusalLayout
refusal_layout None = no_refusal
refusal_layout (Some fault) = with_detail (record no_refusal { number = fault_code fault }) fault
