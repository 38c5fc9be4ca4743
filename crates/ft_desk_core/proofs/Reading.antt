-- The events of lines, a line at a time.
use Rattle.std.proofs.Common.{◌≡◌, ℕ, ◌+◌, List, [], ◌∷◌, Ok, Err, sym, ap, ◌∙◌, append-nil}
use Rattle.ft_fields.specs.Traced.{Traced}
use Rattle.ft_event.specs.Line.{line_of}
use Rattle.ft_base.specs.declared.refused.Refused.{Refused}
use Rattle.ft_text.specs.Lines.{lines_of}
use Rattle.ft_desk_core.specs.Edits.{events_of, events_from, line_in_front}
use Rattle.ft_desk_core.specs.inner.Reading.{in_front}

-- one line more was read
pub read_more : (text rest line behind : List ℕ) (number : ℕ) (held more : List Traced) → in_front held (events_from number (lines_of rest)) ≡ events_of text → lines_of rest ≡ line ∷ lines_of behind → in_front held (line_in_front number (line_of line) (events_from (number + 1) (lines_of behind))) ≡ in_front more (events_from (number + 1) (lines_of behind)) → in_front more (events_from (number + 1) (lines_of behind)) ≡ events_of text
unfolding events_from
read_more text rest line behind number held more so cut step = sym step ∙ ap (λ lines. in_front held (events_from number lines)) (sym cut) ∙ so

-- all lines were read
pub read_whole : (text rest : List ℕ) (number : ℕ) (held : List Traced) → in_front held (events_from number (lines_of rest)) ≡ events_of text → rest ≡ [] → events_of text ≡ Ok held
unfolding events_from
read_whole text rest number held so end = sym so ∙ ap (λ left. in_front held (events_from number (lines_of left))) end ∙ ap Ok (append-nil held)

-- a line was refused
pub read_refused : (text rest line behind : List ℕ) (number : ℕ) (held : List Traced) (refused : Refused) → in_front held (events_from number (lines_of rest)) ≡ events_of text → lines_of rest ≡ line ∷ lines_of behind → line_in_front number (line_of line) (events_from (number + 1) (lines_of behind)) ≡ Err refused → events_of text ≡ Err refused
unfolding events_from
read_refused text rest line behind number held refused so cut step = sym so ∙ ap (λ lines. in_front held (events_from number lines)) cut ∙ ap (in_front held) step
