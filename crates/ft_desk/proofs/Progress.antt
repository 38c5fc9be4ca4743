-- What a run has done while it reads a script, and how each ending follows.
use Rattle.std.proofs.Common.{◌≡◌, ◌≢◌, ℕ, ◌+◌, ◌≤◌, Bool, false, List, [], ◌∷◌, ◌++◌, All, Option, None, Some, IfSome, Result, Ok, length, take, refl, sym, ap, subst, ◌∙◌, ⊎_elim, append-nil, length-append, arith}
use Rattle.std.specs.Prelude.{◌||◌}
use Rattle.std.specs.Io.KnownBytes.{Keeps, Appends, Consumes, IsAtEnd}
use Rattle.std.proofs.KnownBytes.{Consumes-nil, Consumes-trans, Appends-nil, Appends-trans}
use Rattle.std.proofs.lemmas.List.{take_all, take-append-le, take-take, length-take, length-take-le}
use Rattle.std.proofs.lemmas.Bool.{cases_lt}
use Rattle.ft_answers.specs.Base.{Base, empty_base}
use Rattle.ft_desk.specs.declared.pieces.Taken.TheVariants as takes
use Rattle.ft_desk.specs.declared.running.RunFault.{RunFault}
use Rattle.ft_text.specs.Lines.{lines_of, ended_lines}
use Rattle.ft_script.specs.Script.{line_limit, asked_by}
use Rattle.ft_desk.specs.Output.{Meaning, output_from, output_of_lines}
use Rattle.ft_desk.specs.Run.{asking_limit, ReadsToEnd, ReadsFront, ReadsTo}
use Rattle.ft_desk.specs.Steps.{AddsPart, TakingGives, LineGives}
use Rattle.ft_desk.proofs.LineLemmas.{last_piece, lines_of-split, lines_of-plain, last_piece-plain, ended_lines-part, ended_lines-line}
use Rattle.ft_desk.proofs.OutputLemmas.{output_from-push, asked_by-kept}

-- the first bytes of a beginning and what follows are those of the whole
take-take-append : (n : ℕ) (xs ys : List ℕ) → take n (take n xs ++ ys) ≡ take n (xs ++ ys)
take-take-append n xs ys =
    ⊎_elim
    (λ less.
    take-append-le n (take n xs) ys (omega (arith, length-take-le n xs (omega arith))) ∙ take-take n n xs (omega arith) ∙ sym (take-append-le n xs ys (omega arith)))
    (λ all. ap (λ l. take n (l ++ ys)) (take_all n xs all))
    (cases_lt n (length xs))

-- a line isn't empty if its kept piece isn't
pub kept-some : (line piece : List ℕ) → piece ≡ take (line_limit + 1) line → piece ≢ [] → line ≢ []
kept-some line piece kept some = λ none. some (kept ∙ ap (take (line_limit + 1)) none ∙ take_all (line_limit + 1) [] (omega arith))

-- and it is empty if the piece is
pub kept-none : (line piece : List ℕ) → piece ≡ take (line_limit + 1) line → piece ≡ [] → line ≡ []
kept-none [] piece kept none = refl
kept-none (byte ∷ bytes) piece kept none = absurd (omega (arith, ap length (sym kept ∙ none), length-take (line_limit + 1) (byte ∷ bytes)))

-- a script of which nothing is left was read to its end
pub all_read : (reader left rest : Option (List ℕ)) (read : List ℕ) → length (ended_lines read) ≤ asking_limit → Consumes reader left read → Keeps left rest → IsAtEnd left → ReadsToEnd reader rest read
all_read None left rest read within consumed kept end = ((tt, within), tt)
all_read (Some script) None rest read within consumed kept end = absurd consumed
all_read (Some script) (Some bytes) None read within consumed kept end = absurd kept
all_read (Some script) (Some bytes) (Some further) read within consumed kept end = ((consumed ∙ ap (λ l. read ++ l) (sym kept), within), kept ∙ end)

-- and one of which something is left was not
pub front_read : (reader left rest : Option (List ℕ)) (read : List ℕ) → length (ended_lines read) ≤ asking_limit → Consumes reader left read → Keeps left rest → IfSome left (λ bytes. bytes ≢ []) → ReadsFront reader rest read
front_read None left rest read within consumed kept some = ((tt, within), tt)
front_read (Some script) None rest read within consumed kept some = absurd consumed
front_read (Some script) (Some bytes) None read within consumed kept some = absurd kept
front_read (Some script) (Some bytes) (Some further) read within consumed kept some = ((consumed ∙ ap (λ l. read ++ l) (sym kept), within), λ end. some (sym kept ∙ end))

-- the lines of a script whose last line has no end
pub last_lines : (read : List ℕ) → last_piece read ≢ [] → lines_of read ≡ ended_lines read ++ last_piece read ∷ []
last_lines read some =
    ap lines_of (sym (append-nil read)) ∙ lines_of-split read [] ∙ ap (λ l. ended_lines read ++ lines_of l) (append-nil (last_piece read)) ∙ ap (λ l. ended_lines read ++ l) (one (last_piece read) (last_piece-plain read) some)
  where
    one : (line : List ℕ) → All (λ byte. byte ≢ 10) line → line ≢ [] → lines_of line ≡ line ∷ []
    one [] plain some = absurd (some refl)
    one (byte ∷ bytes) plain some = lines_of-plain byte bytes plain

-- and of one whose last line has an end
pub whole_lines : (read : List ℕ) → last_piece read ≡ [] → lines_of read ≡ ended_lines read
whole_lines read none =
    ap lines_of (sym (append-nil read)) ∙ lines_of-split read [] ∙ ap (λ l. ended_lines read ++ lines_of (l ++ [])) none ∙ append-nil (ended_lines read)

-- the line after those that are done: its piece asks for what it asks for, and it was read
pub record Next (reader rest : Option (List ℕ)) (read piece : List ℕ) : Type 0 where
  pub line : List ℕ
  pub reads : ReadsTo reader rest (ended_lines read) line
  pub asked : asked_by piece ≡ asked_by line

-- what was read, and what is known by it: the piece is the beginning of the last line, the lines before it are done, and each of them took a turn
pub record Progress (means : Meaning) (reader left before after : Option (List ℕ)) (base : Base) (refused : Bool) (piece : List ℕ) (turns : ℕ) : Type 0 where
  pub read : List ℕ
  pub lines : length (ended_lines read) ≤ turns
  pub consumed : Consumes reader left read
  pub kept : piece ≡ take (line_limit + 1) (last_piece read)
  pub written : Appends before after (output_of_lines means (ended_lines read)).text
  pub held : base ≡ (output_of_lines means (ended_lines read)).base
  pub told : refused ≡ (output_of_lines means (ended_lines read)).refused

module _ (means : Meaning) where
  -- nothing is done
  pub begins : (reader before : Option (List ℕ)) (base : Base) (turns : ℕ) → base ≡ empty_base → Progress means reader reader before before base false [] turns
  unfolding output_from
  begins reader before base turns empty = record {
    read = [];
    lines = omega arith;
    consumed = Consumes-nil reader;
    kept = sym (take_all (line_limit + 1) [] (omega arith));
    written = Appends-nil before;
    held = empty;
    told = refl;
  }

  -- the piece stays short
  pub piece_within : {reader left before after : Option (List ℕ)} {base : Base} {refused : Bool} {piece : List ℕ} {turns : ℕ} → Progress means reader left before after base refused piece turns → length piece ≤ line_limit + 1
  piece_within p = omega (arith, ap length p.kept, length-take (line_limit + 1) (last_piece p.read))

  -- the piece of a line that ends is the beginning of the line
  pub line_kept : (reader left before after : Option (List ℕ)) (base : Base) (refused : Bool) (piece next : List ℕ) (turns : ℕ) (p : Progress means reader left before after base refused piece turns)
      (part : List ℕ) → AddsPart piece next part → next ≡ take (line_limit + 1) (last_piece p.read ++ part)
  line_kept reader left before after base refused piece next turns p part adds = adds.1 ∙ ap (λ l. take (line_limit + 1) (l ++ part)) p.kept ∙ take-take-append (line_limit + 1) (last_piece p.read) part

  module _ (reader left rest before after : Option (List ℕ)) (base : Base) (refused : Bool) (piece next : List ℕ) (turns later_turns : ℕ) (turned : later_turns ≡ turns + 1) (p : Progress means reader left before after base refused piece turns) where
    -- a part of a line was read
    pub reads_part : TakingGives (Ok takes.Part) left rest piece next → Progress means reader rest before after base refused next later_turns
    reads_part took =
        let part = took.0 in
        let same = ended_lines-part p.read part took.2.0 in
        record {
          read = p.read ++ part;
          lines = omega (arith, ap length same.0);
          consumed = Consumes-trans _ _ _ _ _ p.consumed took.1;
          kept = took.2.1 ∙ ap (λ l. take (line_limit + 1) (l ++ part)) p.kept ∙ take-take-append (line_limit + 1) (last_piece p.read) part ∙ ap (take (line_limit + 1)) (sym same.1);
          written = rw same.0 p.written;
          held = rw same.0 p.held;
          told = rw same.0 p.told;
        }

    -- a line was read to its end and done
    pub reads_line : TakingGives (Ok takes.Line) left rest piece next → (later : Option (List ℕ)) (held : Base) (told : Bool)
        → LineGives (means base (asked_by next)) held after later (Ok told) → Progress means reader rest before later held (refused || told) [] later_turns
    reads_line took later held told gives =
        let part = took.0 in
        let line = last_piece p.read ++ part in
        let ended = ended_lines-line p.read part took.2.0 in
        let asked = ap asked_by (line_kept reader left before after base refused piece next turns p part took.2) ∙ asked_by-kept line in
        let pushed = output_from-push means empty_base (ended_lines p.read) line in
        let done = output_of_lines means (ended_lines p.read) in
        let does = means done.base (asked_by line) in
        let same = ap (λ b. means b (asked_by next)) p.held ∙ ap (means done.base) asked in
        record {
          read = p.read ++ (part ++ 10 ∷ []);
          lines = omega (arith, ap length ended.0, length-append (ended_lines p.read) (line ∷ []));
          consumed = Consumes-trans _ _ _ _ _ p.consumed took.1;
          kept = sym (ap (take (line_limit + 1)) ended.1 ∙ take_all (line_limit + 1) [] (omega arith));
          written = rw (ended.0, pushed.0) (Appends-trans _ _ _ _ _ p.written (subst (λ o. Appends after later o.text) same gives.2));
          held = gives.1 ∙ ap (λ o. o.base) same ∙ sym pushed.1 ∙ ap (λ l. (output_of_lines means l).base) (sym ended.0);
          told = ap (λ t. refused || t) gives.0 ∙ ap (λ o. refused || o.refused) same ∙ ap (λ r. r || does.refused) p.told ∙ sym pushed.2 ∙ ap (λ l. (output_of_lines means l).refused) (sym ended.0);
        }

  -- what a line left, if it is the piece
  pub line_of_piece : (base held : Base) (line piece : List ℕ) (after later : Option (List ℕ)) (result : Result Bool RunFault) → line ≡ piece
      → LineGives (means base (asked_by line)) held after later result → LineGives (means base (asked_by piece)) held after later result
  line_of_piece base held line piece after later result same gives = subst (λ l. LineGives (means base (asked_by l)) held after later result) same gives
