-- What an edit or an answer of a board says, by what contracts see of the board before and after it.
use Rattle.std.specs.Prelude.{◌≡◌, ◌≢◌, ◌⊎◌, Bool, true, false, Result, Ok, Err}
use Rattle.ft_base.specs.declared.refused.Refused.{Refused}
use Rattle.ft_base.specs.declared.refused.Refused.TheVariants.{Memory}
use Rattle.ft_answers.specs.declared.done.Done.{Done}
use Rattle.ft_answers.specs.declared.done.Kept.{Kept}
use Rattle.ft_answers.specs.declared.done.Kept.TheVariants.{Now, Later}
pub use Rattle.ft_base.specs.Answers.{AnswerIs}
use Rattle.ft_base.specs.Base.{Base}
use Rattle.ft_answers.specs.Shown.{Shown}

-- `Later` if and only if the tables are deferred
abbrev pub kept_of : Bool → Kept
kept_of true = Later
kept_of false = Now

-- An edit did what after says: the new base and the value, as view sees it, or its refusal and nothing changed. Out of memory may stand in place of any answer, and changes nothing either. No edit brings deferred tables up to date.
abbrev pub EditGives : {S T : Type 0} → (S → T) → Result (Base × T) Refused → Shown → Shown → Result (Done S) Refused → Type 0
EditGives view after old new (Ok done) = (after ≡ Ok (new.base, view done.value)) × (done.kept ≡ kept_of new.deferred) × (old.deferred ≡ true → new.deferred ≡ true)
EditGives view after old new (Err refused) = (new.base ≡ old.base) × (new.deferred ≡ old.deferred) × ((refused ≡ Memory) ⊎ (after ≡ Err refused))

-- After an accepted answer the tables are not deferred. Out of memory doesn't make them so, and another refusal leaves the flag as it was.
abbrev pub AnswerKeeps : {S : Type 0} → Bool → Bool → Result S Refused → Type 0
AnswerKeeps deferred_old deferred_new (Ok answer) = deferred_new ≡ false
AnswerKeeps deferred_old deferred_new (Err refused) = (deferred_new ≡ true → deferred_old ≡ true) × (refused ≢ Memory → deferred_new ≡ deferred_old)

-- An answer is the one expected, the base stays, and the tables are not deferred by it.
abbrev pub AnswersFrom : {S T : Type 0} → (S → T) → Result T Refused → Shown → Shown → Result S Refused → Type 0
AnswersFrom view expected old new answer = (new.base ≡ old.base) × AnswerIs view expected answer × AnswerKeeps old.deferred new.deferred answer
