-- What each call of a session does, by what its desk does. All of it is our own choice.
use Rattle.std.specs.Prelude.{◌≡◌, ◌≢◌, ◌<◌, ℕ, Bool, true, List, [], Vec, Some, None, MatchOption, IsSomeAnd, Result, Err}
use Rattle.std.specs.declared.alloc.Global.{Global}
use Rattle.ft_fields.specs.Traced.{Traced}
use Rattle.ft_fields.specs.declared.pos.Pos.{Pos}
use Rattle.ft_replay.specs.declared.pair.Pair.{Pair}
use Rattle.ft_table.specs.Counted.{Counted}
use Rattle.ft_table.specs.declared.row.Totals.{Totals}
use Rattle.ft_base.specs.Base.{Base, empty_base}
use Rattle.ft_base.specs.declared.listed.AttachedTrigger.{AttachedTrigger}
use Rattle.ft_base.specs.declared.refused.Place.{Place}
use Rattle.ft_base.specs.declared.refused.Refused.{Refused}
use Rattle.ft_base.specs.declared.refused.Refused.TheVariants.{Memory}
use Rattle.ft_answers.specs.declared.done.Done.{Done}
use Rattle.ft_answers.specs.declared.edited.Edited.{Edited}
use Rattle.ft_answers.specs.Shown.{Shown}
use Rattle.ft_answers.specs.Edited.{EditGives, AnswersFrom, AnswerIs}
use Rattle.ft_answers.specs.Reporting.{Reports}
use Rattle.ft_layout.specs.Events.{held_event_layout}
use Rattle.ft_layout.specs.Places.{line_layout}
use Rattle.ft_layout.specs.Rows.{totals_layout}
use Rattle.ft_layout.specs.declared.events.EventLayout.{EventLayout}
use Rattle.ft_layout.specs.declared.places.LineLayout.{LineLayout}
use Rattle.ft_layout.specs.declared.places.PlaceLayout.{PlaceLayout}
use Rattle.ft_layout.specs.declared.rows.TotalsLayout.{TotalsLayout}
use Rattle.ft_lines.specs.Layouts.{losses_layout}
use Rattle.ft_lines.specs.Losses.{AreLossesOf}
use Rattle.ft_lines.specs.declared.layouts.LossesLayout.{LossesLayout}
use Rattle.ft_lines.specs.declared.line.TextLine.{TextLine}
use Rattle.ft_stream.specs.Calls.{IsIdle, Holds}
use Rattle.ft_session.specs.declared.session.Session.{Session}
use Rattle.ft_session.specs.Strikes.{after_strikes, ReportsStrikes}
use Rattle.ft_session.specs.Told.{code_of, edit_told, answer_told, shown_as, IsWritten, IsSized}

-- an event at its line, as C has it
abbrev pub line_event_layout : ℕ → Traced → EventLayout
line_event_layout line event = held_event_layout (record { stamp = event.stamp; cpu = event.cpu; line = line }) event

-- nothing was asked for, or all is forgotten
abbrev pub AsksNothing : Session → Type 0
AsksNothing new =
    (new.text.items ≡ []) × (new.rows.items ≡ []) × (new.pairs.items ≡ []) × (new.places.items ≡ []) × (new.attached.items ≡ []) × (new.lines.items ≡ []) × (new.losses.holes.items ≡ []) × (new.losses.buffers ≡ None) × (new.edited ≡ None)

-- a session that holds nothing, was asked for nothing, has refused nothing, and in which no stream has begun
unfoldable pub IsNew : Session → Type 0
IsNew new = (new.desk.base ≡ empty_base) × AsksNothing new × (new.refused ≡ None) × IsIdle new.waits

-- what was asked for is forgotten, and what the last insert or strike told; the desk, the last refusal and the stream of waits stay
unfoldable pub Forgets : Session → Session → Type 0
Forgets old new = AsksNothing new × (new.desk ≡ old.desk) × (new.refused ≡ old.refused) × (new.waits ≡ old.waits)

-- ---- edits

-- an edit that gives a number did what after says, and the code and the number tell it; what was asked for before stays
unfoldable pub Edits : Result (Base × ℕ) Refused → Session → ℕ → ℕ → ℕ → Session → Type 0
Edits after old before code number new =
    EditGives (λ n. n) after old.desk new.desk (edit_told new.refused number new.desk.deferred)
    × (code ≡ code_of new.refused)
    × IsWritten new.refused before number
    × (new ≡ record old { desk = new.desk; refused = new.refused })

-- the same of an edit that never needs memory
unfoldable pub EditsInPlace : Result (Base × ℕ) Refused → Session → ℕ → ℕ → ℕ → Session → Type 0
EditsInPlace after old before code number new = Edits after old before code number new × (new.refused ≢ Some Memory)

-- a desk's edit of one event did what after says, and its reports are right
abbrev pub EditsAndReports : Result (Base × Place) Refused → Shown → Shown → Result (Done Edited) Refused → Type 0
EditsAndReports after old new result = EditGives (λ edited. edited.place) after old new result × Reports old new result

-- the same of an edit of one event; what it tells is held from now on, if it is accepted
unfoldable pub EditsEvent : Result (Base × Place) Refused → Session → ℕ → Session → Type 0
EditsEvent after old code new =
    MatchOption new.refused
    (IsSomeAnd new.edited (λ edited. EditsAndReports after old.desk new.desk (edit_told None edited new.desk.deferred)))
    (λ refused. EditsAndReports after old.desk new.desk (Err refused) × (new.edited ≡ old.edited))
    × (code ≡ code_of new.refused)
    × (new ≡ record old { desk = new.desk; edited = new.edited; refused = new.refused })

-- an insert tells its line as well, if it is accepted
unfoldable pub Inserts : Result (Base × Place) Refused → Session → LineLayout → ℕ → LineLayout → Session → Type 0
Inserts after old before code at new =
    EditsEvent after old code new
    × MatchOption new.refused (IsSomeAnd new.edited (λ edited. at ≡ line_layout edited.place)) (λ _. at ≡ before)

-- a strike never needs memory
unfoldable pub Strikes : Result (Base × Place) Refused → Session → ℕ → Session → Type 0
Strikes after old code new = EditsEvent after old code new × (new.refused ≢ Some Memory)

-- Strikes of the events at places, in their order, did what after_strikes says, and the code and the number tell it. They never need memory, and don't bring deferred tables up to date. What they report, if that is asked for, is held from now on, unless no event was struck: then nothing has changed.
pub record StrikesEvents (places : List PlaceLayout) (reports : Bool) (old : Session) (code struck : ℕ) (new : Session) : Type 0 where
  pub gives : after_strikes old.desk.base places ≡ record { base = new.desk.base; count = struck; refused = new.refused }
  pub memory : new.refused ≢ Some Memory
  pub deferred : old.desk.deferred ≡ true → new.desk.deferred ≡ true
  pub none : struck ≡ 0 → (new.desk.deferred ≡ old.desk.deferred) × (new.edited ≡ old.edited)
  pub some : 0 < struck → IsSomeAnd new.edited (ReportsStrikes reports old.desk new.desk)
  pub answer : code ≡ code_of new.refused
  pub rest : new ≡ record old { desk = new.desk; edited = new.edited; refused = new.refused }

-- ---- questions that the tables answer

-- a question that is answered by totals; what was asked for before stays
unfoldable pub AnswersTotals : Result Totals Refused → Session → TotalsLayout → ℕ → TotalsLayout → Session → Type 0
AnswersTotals expected old before code totals new =
    AnswersFrom (λ t. t) (shown_as totals_layout expected) old.desk new.desk (answer_told new.refused totals)
    × (code ≡ code_of new.refused)
    × IsWritten new.refused before totals
    × (new ≡ record old { desk = new.desk; refused = new.refused })

-- a question that is answered by a list, of which a session holds the last one; the code and the size tell it
abbrev pub IsAnswered : {T : Type 0} → (Session → Vec T Global) → Result (List T) Refused → Session → ℕ → ℕ → ℕ → Session → Type 0
IsAnswered held expected old before code size new =
    AnswersFrom (λ answer. answer.items) expected old.desk new.desk (answer_told new.refused (held new))
    × (code ≡ code_of new.refused)
    × IsSized new.refused (held old) before (held new) size

-- a text, in bytes
unfoldable pub AnswersText : Result (List ℕ) Refused → Session → ℕ → ℕ → ℕ → Session → Type 0
AnswersText expected old before code size new =
    IsAnswered (λ session. session.text) expected old before code size new × (new ≡ record old { desk = new.desk; text = new.text; refused = new.refused })

-- rows
unfoldable pub AnswersRows : Result (List Counted) Refused → Session → ℕ → ℕ → ℕ → Session → Type 0
AnswersRows expected old before code size new =
    IsAnswered (λ session. session.rows) expected old before code size new × (new ≡ record old { desk = new.desk; rows = new.rows; refused = new.refused })

-- what readings found
unfoldable pub AnswersPairs : Result (List Pair) Refused → Session → ℕ → ℕ → ℕ → Session → Type 0
AnswersPairs expected old before code size new =
    IsAnswered (λ session. session.pairs) expected old before code size new × (new ≡ record old { desk = new.desk; pairs = new.pairs; refused = new.refused })

-- ---- questions that are answered by what is held and attached: the desk is as before

-- one that is answered by a list
abbrev pub IsRead : {T : Type 0} → (Session → Vec T Global) → Result (List T) Refused → Session → ℕ → ℕ → ℕ → Session → Type 0
IsRead held expected old before code size new =
    AnswerIs (λ answer. answer.items) expected (answer_told new.refused (held new))
    × (code ≡ code_of new.refused)
    × IsSized new.refused (held old) before (held new) size

-- a text, in bytes
unfoldable pub ReadsText : Result (List ℕ) Refused → Session → ℕ → ℕ → ℕ → Session → Type 0
ReadsText expected old before code size new =
    IsRead (λ session. session.text) expected old before code size new × (new ≡ record old { text = new.text; refused = new.refused })

-- places
unfoldable pub ReadsPlaces : Result (List Pos) Refused → Session → ℕ → ℕ → ℕ → Session → Type 0
ReadsPlaces expected old before code size new =
    IsRead (λ session. session.places) expected old before code size new × (new ≡ record old { places = new.places; refused = new.refused })

-- attached triggers
unfoldable pub ReadsTriggers : Result (List AttachedTrigger) Refused → Session → ℕ → ℕ → ℕ → Session → Type 0
ReadsTriggers expected old before code size new =
    IsRead (λ session. session.attached) expected old before code size new × (new ≡ record old { attached = new.attached; refused = new.refused })

-- one event at its line, exactly as expected: this never needs memory
unfoldable pub ReadsEvent : ℕ → Result Traced Refused → Session → EventLayout → ℕ → EventLayout → Session → Type 0
ReadsEvent line expected old before code event new =
    (shown_as (line_event_layout line) expected ≡ answer_told new.refused event)
    × (code ≡ code_of new.refused)
    × IsWritten new.refused before event
    × (new ≡ record old { refused = new.refused })

-- ---- questions about a text: the desk is as before

-- its lines
unfoldable pub ReadsLines : Result (List TextLine) Refused → Session → ℕ → ℕ → ℕ → Session → Type 0
ReadsLines expected old before code size new =
    IsRead (λ session. session.lines) expected old before code size new × (new ≡ record old { lines = new.lines; refused = new.refused })

-- what its lines report lost is there, and is written; it is refused only for memory, and then what was there stays
unfoldable pub ReadsLosses : List ℕ → Session → LossesLayout → ℕ → LossesLayout → Session → Type 0
ReadsLosses text old before code read new =
    MatchOption new.refused
    (AreLossesOf text new.losses × (read ≡ losses_layout new.losses))
    (λ why. (why ≡ Memory) × (new.losses ≡ old.losses) × (read ≡ before))
    × (code ≡ code_of new.refused)
    × (new ≡ record old { losses = new.losses; refused = new.refused })

-- ---- waits

-- the waits of all held events, by the stream of waits: all else is as before
unfoldable pub HoldsWaits : Session → ℕ → ℕ → ℕ → Session → Type 0
HoldsWaits old before code count new = Holds old.desk.base.lanes old.waits before code count new.waits × (new ≡ record old { waits = new.waits })
