-- What an accepted or refused command prints. All of it is our own choice.
use Rattle.std.specs.Prelude.{◌≡◌, ℕ, List, Result, IfOk}
use Rattle.std.specs.declared.alloc.AllocError.{AllocError}
use Rattle.ft_base.specs.declared.refused.Refused.{Refused}
use Rattle.ft_base.specs.declared.refused.Place.{Place}
use Rattle.ft_answers.specs.declared.done.Done.{Done}
use Rattle.ft_answers.specs.declared.edited.Edited.{Edited}
use Rattle.ft_answers.specs.Base.{Base}
use Rattle.ft_answers.specs.Edited.{EditGives, AnswerIs}
use Rattle.ft_answers.specs.Shown.{Shown}
use Rattle.ft_desk.specs.declared.performing.Performed.{Performed}
use Rattle.ft_desk.specs.Output.{Outcome, edit_outcome, answer_outcome}

-- what was printed, whether it was refused, and the base that was left are the outcome; out of memory prints nothing
pub record Prints (outcome : Outcome) (left : Base) (result : Result Performed AllocError) : Type 0 where
  pub text : IfOk result (λ done. done.text.items ≡ outcome.text)
  pub refused : IfOk result (λ done. done.refused ≡ outcome.refused)
  pub base : IfOk result (λ _. left ≡ outcome.base)

-- what was printed is the outcome of any edit that answered so
abbrev pub PrintsEdit : {T : Type 0} → (T → List ℕ) → List ℕ → Result (Done T) Refused → Result Performed AllocError → Type 0
PrintsEdit {T = T} shown word edit result =
    (old new : Shown) (after : Result (Base × T) Refused) → EditGives (λ value. value) after old new edit → Prints (edit_outcome shown old.base word after) new.base result

-- what an edit of one event says by its place, the edit that gives only the place says too
abbrev pub TellsPlace : Result (Done Edited) Refused → Result (Done Place) Refused → Type 0
TellsPlace edit result =
    (old new : Shown) (after : Result (Base × Place) Refused) → EditGives (λ edited. edited.place) after old new edit → EditGives (λ place. place) after old new result

-- what was printed is the outcome of any answer that is this, with the base as it was
abbrev pub PrintsAnswer : {S T : Type 0} → (S → T) → (T → List ℕ) → Result S Refused → Result Performed AllocError → Type 0
PrintsAnswer {T = T} view shown answer result =
    (old new : Base) (expected : Result T Refused) → new ≡ old → AnswerIs view expected answer → Prints (answer_outcome shown old expected) new result
