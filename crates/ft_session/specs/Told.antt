-- What a session tells of its desk's answers. All of it is our own choice.
use Rattle.std.specs.Prelude.{◌≡◌, ℕ, Bool, List, length, Vec, Option, Some, None, MatchOption, IfSome, option_map, option_and_then, Result, Ok, Err}
use Rattle.std.specs.declared.alloc.Global.{Global}
use Rattle.ft_base.specs.declared.refused.Refused.{Refused}
use Rattle.ft_base.specs.Refused.{refused_number}
use Rattle.ft_changes.specs.declared.changed.Changed.{Changed}
use Rattle.ft_answers.specs.declared.done.Done.{Done}
use Rattle.ft_answers.specs.declared.edited.Edited.{Edited}
use Rattle.ft_answers.specs.Edited.{kept_of}

-- the code of a call: 0, or the number of its refusal
abbrev pub code_of : Option Refused → ℕ
code_of None = 0
code_of (Some refused) = refused_number refused

-- what an edit answered: its refusal, or its value and whether the tables lack it
abbrev pub edit_told : {T : Type 0} → Option Refused → T → Bool → Result (Done T) Refused
edit_told None value deferred = Ok (record { value = value; kept = kept_of deferred })
edit_told (Some refused) value deferred = Err refused

-- what a question was answered: its refusal, or its value
abbrev pub answer_told : {T : Type 0} → Option Refused → T → Result T Refused
answer_told None value = Ok value
answer_told (Some refused) value = Err refused

-- a value that a call writes is written only if the call is accepted
abbrev pub IsWritten : {T : Type 0} → Option Refused → T → T → Type 0
IsWritten refused before value = IfSome refused (λ _. value ≡ before)

-- the size is that of the answer held from now on; of a refused question neither the size is written nor what was asked for before touched
abbrev pub IsSized : {T : Type 0} → Option Refused → Vec T Global → ℕ → Vec T Global → ℕ → Type 0
IsSized refused old before new size = MatchOption refused (size ≡ length new.items) (λ _. (size ≡ before) × (new ≡ old))

-- the rows of triggers that count held events that an edit of one event told of
abbrev pub rows_told : Option Edited → Option (List Changed)
rows_told edited = option_and_then (λ e. option_map (λ rows. rows.items) e.report) edited

-- the rows of triggers that count made events that an edit of one event told of
abbrev pub made_told : Option Edited → Option (List Changed)
made_told edited = option_and_then (λ e. option_map (λ rows. rows.items) e.made) edited

-- an answer as C has it, or its refusal
abbrev pub shown_as : {S T : Type 0} → (S → T) → Result S Refused → Result T Refused
shown_as layout (Ok answer) = Ok (layout answer)
shown_as layout (Err refused) = Err refused
