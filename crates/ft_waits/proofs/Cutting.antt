-- The lines of a text that comes in pieces.
use Rattle.std.specs.Prelude.{◌≡◌, ◌==◌, ◌<◌, ℕ, suc, Bool, true, false, ◌||◌, List, [], ◌∷◌, ◌++◌, length, take, reverse, if◌then◌else◌, Option, Some, Result, Ok, Err}
use Rattle.std.specs.List.{list_any}
use Rattle.std.specs.Option.{option_or}
use Rattle.std.proofs.Common.{refl, sym, ap, subst, ◌∙◌, append_assoc, arith, inl, inr}
use Rattle.std.proofs.lemmas.Bool.{cases_lt, lt-ltb}
use Rattle.std.proofs.lemmas.List.{append-nil, reverse-append, reverse-reverse, length-append, length-take, take_all}
use Rattle.ft_event.specs.Line.{line_of}
use Rattle.ft_event.specs.declared.fault.Line.{Line}
use Rattle.ft_event.specs.declared.fault.Line.TheVariants as lines
use Rattle.ft_event.specs.declared.fault.LineFault.{LineFault}
use Rattle.ft_event.specs.declared.fault.LineFault.TheVariants.{LineLong}
use Rattle.ft_text.specs.Lines.{lines_of, onto_first}
use Rattle.ft_waits.specs.Reading.{history, refused, events_of, refusal_of, latest, FailsAt, Fails}
use Rattle.ft_waits.specs.declared.fault.BadLines.{BadLines}
use Rattle.ft_waits.specs.declared.fault.WaitsFault.{WaitsFault}
use Rattle.ft_waits.specs.inner.Streams.{Cuts, IsLike, room}

-- neither holds
pub or-left : (a b : Bool) → (a || b) ≡ false → a ≡ false
or-left true b h = h
or-left false b h = refl

or-right : (a b : Bool) → (a || b) ≡ false → b ≡ false
or-right true b h = absurd (cc)
or-right false b h = h

-- two that fail
pub or-both : (a b : Bool) → a ≡ false → b ≡ false → (a || b) ≡ false
or-both true b h k = h
or-both false b h k = k

-- a test that fails
unless : {A : Type 0} (t : Bool) (x y : A) → t ≡ false → (if t then x else y) ≡ y
unless true x y h = absurd (cc)
unless false x y h = refl

-- a line without a byte 10, in front of one
pub lines_of-line : (line rest : List ℕ) → list_any (λ b. b == 10) line ≡ false → lines_of (line ++ 10 ∷ rest) ≡ line ∷ lines_of rest
lines_of-line [] rest plain = refl
lines_of-line (b ∷ line) rest plain =
    unless (b == 10) ([] ∷ lines_of (line ++ 10 ∷ rest)) (onto_first b (lines_of (line ++ 10 ∷ rest))) (or-left (b == 10) (list_any (λ b. b == 10) line) plain)
    ∙ ap (onto_first b) (lines_of-line line rest (or-right (b == 10) (list_any (λ b. b == 10) line) plain))

-- a text is its one line, if it is not empty
lines_of-open : (b : ℕ) (line : List ℕ) → list_any (λ b. b == 10) (b ∷ line) ≡ false → lines_of (b ∷ line) ≡ (b ∷ line) ∷ []
lines_of-open b [] plain = unless (b == 10) ([] ∷ []) (onto_first b []) (or-left (b == 10) false plain)
lines_of-open b (next ∷ line) plain =
    unless (b == 10) ([] ∷ lines_of (next ∷ line)) (onto_first b (lines_of (next ∷ line))) (or-left (b == 10) (list_any (λ b. b == 10) (next ∷ line)) plain)
    ∙ ap (onto_first b) (lines_of-open next line (or-right (b == 10) (list_any (λ b. b == 10) (next ∷ line)) plain))

lines_of-whole : (line : List ℕ) → 0 < length line → list_any (λ b. b == 10) line ≡ false → lines_of line ≡ line ∷ []
lines_of-whole [] some plain = absurd (omega arith)
lines_of-whole (b ∷ line) some plain = lines_of-open b line plain

-- ---- cuts

pub cuts-nothing : Cuts [] [] []
cuts-nothing = λ later. refl

-- more bytes come
pub cuts-piece : (text : List ℕ) (lines : List (List ℕ)) (rest piece : List ℕ) → Cuts text lines rest → Cuts (text ++ piece) lines (rest ++ piece)
cuts-piece text lines rest piece cuts = λ later.
    ap lines_of (append_assoc text piece later) ∙ cuts (piece ++ later) ∙ ap (λ (t : List ℕ). reverse lines ++ lines_of t) (sym (append_assoc rest piece later))

-- a line ends
pub cuts-line : (text : List ℕ) (lines : List (List ℕ)) (line rest : List ℕ) → list_any (λ b. b == 10) line ≡ false → Cuts text lines (line ++ 10 ∷ rest) → Cuts text (line ∷ lines) rest
cuts-line text lines line rest plain cuts = λ later.
    cuts later
    ∙ ap (λ (t : List ℕ). reverse lines ++ lines_of t) (append_assoc line (10 ∷ rest) later)
    ∙ ap (λ (ls : List (List ℕ)). reverse lines ++ ls) (lines_of-line line (rest ++ later) plain)
    ∙ sym (append_assoc (reverse lines) (line ∷ []) (lines_of (rest ++ later)))
    ∙ ap (λ (ls : List (List ℕ)). ls ++ lines_of (rest ++ later)) (sym (reverse-append (line ∷ []) lines))

-- the history of a text, with what is still to come in front
pub history-cut : (text : List ℕ) (lines : List (List ℕ)) (rest : List ℕ) → Cuts text lines rest → (later : List ℕ) → history (text ++ later) ≡ reverse (lines_of (rest ++ later)) ++ lines
history-cut text lines rest cuts later =
    ap reverse (cuts later) ∙ reverse-append (reverse lines) (lines_of (rest ++ later)) ∙ ap (λ (ls : List (List ℕ)). reverse (lines_of (rest ++ later)) ++ ls) (reverse-reverse lines)

-- at the end: no line has begun
pub history-ended : (text : List ℕ) (lines : List (List ℕ)) (rest : List ℕ) → Cuts text lines rest → rest ≡ [] → history text ≡ lines
history-ended text lines rest cuts none =
    ap history (sym (append-nil text)) ∙ history-cut text lines rest cuts [] ∙ ap (λ (r : List ℕ). reverse (lines_of (r ++ [])) ++ lines) none

-- or the rest is the last line
pub history-last : (text : List ℕ) (lines : List (List ℕ)) (rest : List ℕ) → Cuts text lines rest → list_any (λ b. b == 10) rest ≡ false → 0 < length rest → history text ≡ rest ∷ lines
history-last text lines rest cuts plain some =
    ap history (sym (append-nil text)) ∙ history-cut text lines rest cuts []
    ∙ ap (λ (r : List ℕ). reverse (lines_of r) ++ lines) (append-nil rest)
    ∙ ap (λ (ls : List (List ℕ)). reverse ls ++ lines) (lines_of-whole rest some plain)

-- ---- what is kept of a line that has not ended

-- a line that is cut reads as the whole one
pub line-kept : (line : List ℕ) → line_of (take room line) ≡ line_of line
unfolding line_of
line-kept line = elim (cases_lt room (length line)) [
  | inl long ↦
      let kept = length-take room line in
      let cut = lt-ltb 4096 (length (take room line)) (omega (arith, kept, long)) in
      let whole = lt-ltb 4096 (length line) (omega (arith, long)) in
      rw (cut, whole) refl
  | inr fits ↦ ap line_of (take_all room line fits)
]

-- a line that is longer can't be read, so one that is skipped is whole
long-line : (line : List ℕ) → room < length line → line_of (take room line) ≡ Err LineLong
unfolding line_of
long-line line long =
    let kept = length-take room line in
    let cut = lt-ltb 4096 (length (take room line)) (omega (arith, kept, long)) in
    rw cut refl

pub like-kept : (line : List ℕ) → IsLike (take room line) line
like-kept line = (
  sym (line-kept line),
  λ skipped. elim (cases_lt room (length line)) [
    | inl long ↦
        let wrong : ◌≡◌ {A = Result Line LineFault} (Err LineLong) (Ok lines.Skip) = sym (long-line line long) ∙ skipped in
        absurd (cc wrong)
    | inr fits ↦ sym (take_all room line fits)
  ],
)

-- ---- refusals

-- what refuses lines refuses them with more
refused-front : (policy : BadLines) (more lines : List (List ℕ)) (fault : WaitsFault) → refused policy lines ≡ Some fault → refused policy (more ++ lines) ≡ Some fault
unfolding refused
refused-front policy [] lines fault is = is
refused-front policy (line ∷ more) lines fault is =
    ap (λ (o : Option WaitsFault). option_or o (refusal_of policy (suc (length (more ++ lines))) (latest (events_of (more ++ lines))) (line_of line))) (refused-front policy more lines fault is)

fails-front : (policy : BadLines) (more lines : List (List ℕ)) (fault : WaitsFault) → FailsAt policy lines fault → FailsAt policy (more ++ lines) fault
fails-front policy more lines fault (inl memory) = inl memory
fails-front policy more lines fault (inr (inl long)) =
    let most = long.1 in
    let size = length-append more lines in
    inr (inl (long.0, omega (arith, most, size)))
fails-front policy more lines fault (inr (inr is)) = inr (inr (refused-front policy more lines fault is))

-- what refuses the lines that ended refuses the text, whatever comes
pub fails-cut : (policy : BadLines) (text : List ℕ) (lines : List (List ℕ)) (rest : List ℕ) (fault : WaitsFault) → Cuts text lines rest → FailsAt policy lines fault → Fails policy text fault
fails-cut policy text lines rest fault cuts fails = λ later.
    subst (λ (ls : List (List ℕ)). FailsAt policy ls fault) (sym (history-cut text lines rest cuts later)) (fails-front policy (reverse (lines_of (rest ++ later))) lines fault fails)
