-- One piece more is read.
use Rattle.std.specs.Prelude.{◌≡◌, ◌==◌, ◌<◌, ◌-◌, ◌+◌, ℕ, false, List, [], ◌∷◌, ◌++◌, length, take, Option, Some, None, Result, Ok, Err, OnOk}
use Rattle.std.specs.List.{list_any}
use Rattle.std.proofs.Common.{refl, sym, ap, subst, ◌∙◌, append_assoc, arith, inl, inr, drop}
use Rattle.std.proofs.lemmas.Bool.{cases_lt}
use Rattle.std.proofs.lemmas.List.{append-nil, take_all, length-take, take-append-le, take-append-drop, nil_from_length}
use Rattle.std.proofs.lemmas.List.Folds.{list_any-append}
use Rattle.std.proofs.Math.Seq.{take-append-add}
use Rattle.ft_event.specs.Line.{line_of}
use Rattle.ft_waits.specs.Choice.{Choice}
use Rattle.ft_waits.specs.Reading.{history, FailsAt, Fails}
use Rattle.ft_waits.specs.Streams.{HasRead, HasReadBy}
use Rattle.ft_dispatch.specs.declared.dispatch.Dispatch.{Dispatch}
use Rattle.ft_waits.specs.declared.fault.BadLines.{BadLines}
use Rattle.ft_waits.specs.declared.fault.WaitsFault.{WaitsFault}
use Rattle.ft_waits.specs.declared.reading.Reading.{Reading}
use Rattle.ft_waits.specs.declared.stream.Waits.{Waits}
use Rattle.ft_waits.specs.inner.Streams.{Reads, ReadsOn, TakesLine, FailsLine, FailsIn, Cuts, IsLike, room}
use Rattle.ft_waits.proofs.Cutting.{or-left, or-both, cuts-piece, cuts-line, fails-cut, like-kept}

-- ---- lines of a part

pub reads-nothing : (reading : Reading) (out : List Dispatch) (part : List ℕ) → ReadsOn reading out part reading out part
reads-nothing reading out part = λ text lines told cuts reads. (lines, cuts, reads)

-- one line more of it
pub reads-line : (old on new : Reading) (out out_on out_now : List Dispatch) (part rest line behind : List ℕ)
    → rest ≡ line ++ 10 ∷ behind → list_any (λ b. b == 10) line ≡ false → ReadsOn old out part on out_on rest → TakesLine line on out_on new out_now → ReadsOn old out part new out_now behind
reads-line old on new out out_on out_now part rest line behind cut plain reads takes = λ text lines told cuts before.
    let so_far = reads text lines told cuts before in (
      line ∷ so_far.0,
      cuts-line text so_far.0 line behind plain (subst (λ (r : List ℕ). Cuts text so_far.0 r) cut so_far.1),
      takes line so_far.0 told (refl, λ skipped. refl) so_far.2,
    )

-- or a line that ends the reading
pub fails-line : (old on : Reading) (out out_on : List Dispatch) (part rest line behind : List ℕ) (fault : WaitsFault)
    → rest ≡ line ++ 10 ∷ behind → list_any (λ b. b == 10) line ≡ false → on.bad_lines ≡ old.bad_lines → ReadsOn old out part on out_on rest → FailsLine (line_of line) on fault → FailsIn old out part fault
fails-line old on out out_on part rest line behind fault cut plain same reads fails = λ text lines told cuts before.
    let so_far = reads text lines told cuts before in
    let ended = cuts-line text so_far.0 line behind plain (subst (λ (r : List ℕ). Cuts text so_far.0 r) cut so_far.1) in
    fails-cut old.bad_lines text (line ∷ so_far.0) behind fault ended
    (subst (λ (p : BadLines). FailsAt p (line ∷ so_far.0) fault) same (fails line so_far.0 (told ++ out_on) refl so_far.2))

-- ---- a line that has not ended

-- what is kept of it, with more bytes
pub kept-more : (rest bytes : List ℕ) → take room rest ++ take (room - length (take room rest)) bytes ≡ take room (rest ++ bytes)
kept-more rest bytes = elim (cases_lt room (length rest)) [
  | inl long ↦
      let size : length (take room rest) ≡ room = omega (arith, length-take room rest, long) in
      let none : room - length (take room rest) ≡ 0 = omega (arith, size) in
      ap (λ (n : ℕ). take room rest ++ take n bytes) none ∙ append-nil (take room rest) ∙ sym (take-append-le room rest bytes (omega (arith, long)))
  | inr fits ↦
      let all : take room rest ≡ rest = take_all room rest fits in
      let left : room ≡ length rest + (room - length rest) = omega (arith, fits) in
      ap (λ (r : List ℕ). r ++ take (room - length r) bytes) all
      ∙ sym (take-append-add rest bytes (room - length rest))
      ∙ ap (λ (n : ℕ). take n (rest ++ bytes)) (sym left)
]

pub still-plain : (rest piece : List ℕ) → list_any (λ b. b == 10) rest ≡ false → list_any (λ b. b == 10) piece ≡ false → list_any (λ b. b == 10) (rest ++ piece) ≡ false
still-plain rest piece one other = list_any-append (λ b. b == 10) rest piece ∙ or-both (list_any (λ b. b == 10) rest) (list_any (λ b. b == 10) piece) one other

-- a piece in which no line ends
pub reads-piece : (choice : Choice) (reading : Reading) (old new text piece : List ℕ) (told : List Dispatch)
    → list_any (λ b. b == 10) piece ≡ false → new ≡ old ++ take (room - length old) piece → Reads choice reading old text told → Reads choice reading new (text ++ piece) told
reads-piece choice reading old new text piece told plain is reads = record {
  by_choice = reads.by_choice;
  lines = reads.lines;
  rest = reads.rest ++ piece;
  cuts = cuts-piece text reads.lines reads.rest piece reads.cuts;
  unbroken = still-plain reads.rest piece reads.unbroken plain;
  kept = is ∙ ap (λ (r : List ℕ). r ++ take (room - length r) piece) reads.kept ∙ kept-more reads.rest piece;
  reads = reads.reads;
}

-- a piece in which one ends: the line, and how the text is cut behind it
pub ends-here : (choice : Choice) (reading : Reading) (old text piece front behind : List ℕ) (told : List Dispatch) (reads : Reads choice reading old text told)
    → piece ≡ front ++ 10 ∷ behind → list_any (λ b. b == 10) front ≡ false → Cuts (text ++ piece) ((reads.rest ++ front) ∷ reads.lines) behind
ends-here choice reading old text piece front behind told reads cut plain =
    cuts-line (text ++ piece) reads.lines (reads.rest ++ front) behind (still-plain reads.rest front reads.unbroken plain)
    (subst (λ (r : List ℕ). Cuts (text ++ piece) reads.lines r) (ap (λ (p : List ℕ). reads.rest ++ p) cut ∙ sym (append_assoc reads.rest front (10 ∷ behind))) (cuts-piece text reads.lines reads.rest piece reads.cuts))

-- what is kept of the line reads as the line
pub reads-alike : (choice : Choice) (reading : Reading) (old new text front : List ℕ) (told : List Dispatch) (reads : Reads choice reading old text told)
    → new ≡ old ++ take (room - length old) front → IsLike new (reads.rest ++ front)
reads-alike choice reading old new text front told reads is =
    subst (λ (kept : List ℕ). IsLike kept (reads.rest ++ front)) (sym (is ∙ ap (λ (r : List ℕ). r ++ take (room - length r) front) reads.kept ∙ kept-more reads.rest front)) (like-kept (reads.rest ++ front))

-- ---- the whole stream

-- two facts of a success
pub on_ok_both : {T E P Q S : Type 0} (r : Result T E) → (P → Q → S) → OnOk r P → OnOk r Q → OnOk r S
on_ok_both (Ok x) f p q = f p q
on_ok_both (Err e) f p q = tt

pub read-failed : (choice : Choice) (waits : Waits) (text : List ℕ) (told : List Dispatch) (fault : WaitsFault) → waits.failed ≡ Some fault → HasRead choice waits text told → Fails choice.bad_lines text fault
read-failed choice waits text told fault is read = subst (λ (o : Option WaitsFault). HasReadBy o choice waits text told) is read

pub read-well : (choice : Choice) (waits : Waits) (text : List ℕ) (told : List Dispatch) → waits.failed ≡ None → HasRead choice waits text told → Reads choice waits.reading waits.unended.items text told
read-well choice waits text told is read = subst (λ (o : Option WaitsFault). HasReadBy o choice waits text told) is read

-- a text that is refused stays so
pub fails-on : (policy : BadLines) (text piece : List ℕ) (fault : WaitsFault) → Fails policy text fault → Fails policy (text ++ piece) fault
fails-on policy text piece fault fails = λ later. subst (λ (t : List ℕ). FailsAt policy (history t) fault) (sym (append_assoc text piece later)) (fails (piece ++ later))

pub fails-whole : (policy : BadLines) (text : List ℕ) (fault : WaitsFault) → Fails policy text fault → FailsAt policy (history text) fault
fails-whole policy text fault fails = subst (λ (t : List ℕ). FailsAt policy (history t) fault) (append-nil text) (fails [])

-- ---- parts without a byte 10

pub plain-take : (n : ℕ) (text : List ℕ) → list_any (λ b. b == 10) text ≡ false → list_any (λ b. b == 10) (take n text) ≡ false
plain-take n text plain =
    or-left (list_any (λ b. b == 10) (take n text)) (list_any (λ b. b == 10) (drop n text))
    (sym (list_any-append (λ b. b == 10) (take n text) (drop n text)) ∙ ap (list_any (λ b. b == 10)) (take-append-drop n text) ∙ plain)

-- nothing is kept only if there was nothing
pub none-kept : (rest unended : List ℕ) → unended ≡ take room rest → unended ≡ [] → rest ≡ []
none-kept rest unended kept none =
    let size = length-take room rest in
    let empty : length (take room rest) ≡ 0 = ap length (sym kept ∙ none) in
    nil_from_length rest (omega (arith, size, empty))

pub some-kept : (rest unended : List ℕ) → unended ≡ take room rest → 0 < length unended → 0 < length rest
some-kept rest unended kept some =
    let size = length-take room rest in
    let same : length unended ≡ length (take room rest) = ap length kept in
    omega (arith, size, same, some)

-- what is kept if nothing was kept before
pub kept-first : (old new rest : List ℕ) → old ≡ [] → new ≡ old ++ take (room - length old) rest → new ≡ take room rest
kept-first old new rest none is =
    let all : room - 0 ≡ room = omega arith in
    is ∙ ap (λ (o : List ℕ). o ++ take (room - length o) rest) none ∙ ap (λ (n : ℕ). take n rest) all
