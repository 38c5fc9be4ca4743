-- The columns of a line, found from the left.
use Rattle.std.proofs.Common.{◌≡◌, ◌<◌, ◌≤◌, ℕ, ◌+◌, ◌-◌, ◌*◌, true, false, inl, inr, List, [], ◌∷◌, ◌++◌, take, drop, length, get_or, refl, sym, ap, ◌∙◌, append_assoc, arith}
use Rattle.std.proofs.lemmas.Bool.{and_parts, eqb-true}
use Rattle.std.proofs.lemmas.List.{take-append-drop, drop_more, length-take, length-append, append-nil}
use Rattle.std.specs.List.{list_all, list_any}
use Rattle.std.specs.Prelude.{codes}
use Rattle.ft_event.specs.Bytes.{is_in_word, is_colon}
use Rattle.ft_event.specs.LineIs.{IsLetters, IsStamped, Stops}
use Rattle.ft_quick.specs.inner.Columns.{ends_task, IsTask, IsTail, IsLettered}
use Rattle.ft_quick.specs.inner.Cuts.{IsSkip, IsNumbered}

-- a text is cut at a byte
pub cut_at : (text : List ℕ) (at byte : ℕ) → at < length text → get_or text at 0 ≡ byte → text ≡ take at text ++ byte ∷ drop (at + 1) text
cut_at text at byte within here =
    sym (take-append-drop at text) ∙ ap (λ (x : List ℕ). take at text ++ x) (drop_more text at 0 within ∙ ap (λ (b : ℕ). b ∷ drop (at + 1) text) here)

-- TASK is found
pub task_found : (text : List ℕ) (at : ℕ) → at < length text → ends_task text at ≡ true → ((k : ℕ) → k < at → ends_task text k ≡ false)
    → IsTask text (take at text) (drop (at + 1) text)
task_found text at within here before =
    let both = and_parts _ _ here in
    record {
      joined = cut_at text at 45 within (eqb-true _ _ both.0);
      first = λ k below. before k (omega (arith, length-take at text));
    }

-- PID and CPU are found
pub tail_found : (text from_gap behind_gap from_bracket from_cpu from_close rest : List ℕ) (pid cpu : ℕ) → IsNumbered text pid from_gap
    → from_gap ≡ codes " " ++ behind_gap → IsSkip behind_gap from_bracket
    → from_bracket ≡ codes "[" ++ from_cpu → IsNumbered from_cpu cpu from_close → cpu ≤ 8191 → from_close ≡ codes "] " ++ rest → IsTail text pid cpu rest
tail_found text from_gap behind_gap from_bracket from_cpu from_close rest pid cpu pid_is space skip bracket cpu_is within close = record {
  from_gap = from_gap;
  from_cpu = from_cpu;
  gap = 32 ∷ skip.gap;
  from_close = from_close;
  pid_is = pid_is;
  gap_is = (omega arith, skip.spaces);
  gap_joined = space ∙ ap (λ (x : List ℕ). 32 ∷ x) (skip.joined ∙ ap (λ (x : List ℕ). skip.gap ++ x) bracket) ∙ sym (append_assoc (32 ∷ skip.gap) (codes "[") from_cpu);
  cpu_is = cpu_is;
  close = close;
  within = within;
}

-- ---- LETTERS

-- what was read of a word: no space, and no colon
pub record IsBare (word : List ℕ) (at : ℕ) : Type 0 where
  pub in_word : list_all is_in_word (take at word) ≡ true
  pub no_colon : list_any is_colon (take at word) ≡ false

-- no LETTERS stand before the stamp
pub no_letters : (text word : List ℕ) → IsSkip text word → IsLettered text word
no_letters text word skip = record {
  gap = skip.gap;
  column = [];
  joined = skip.joined ∙ ap (λ (x : List ℕ). x ++ word) (sym (append-nil skip.gap));
  before = skip.spaces;
  letters = inl refl;
}

-- LETTERS are passed
pub letters_passed : (text word rest : List ℕ) (at : ℕ) → IsSkip text word → at < length word → get_or word at 0 ≡ 32 → 0 < at → at ≤ 16
    → IsBare word at → IsSkip (drop (at + 1) word) rest → IsLettered text rest
letters_passed text word rest at skip within here some short bare behind =
    let letters : List ℕ = take at word in
    let gap : List ℕ = 32 ∷ behind.gap in
    let len = length-take at word in
    let cut : word ≡ letters ++ (gap ++ rest) = cut_at word at 32 within here ∙ ap (λ (x : List ℕ). letters ++ 32 ∷ x) behind.joined in
    let column : IsLetters (letters ++ gap) = record {
      letters = letters;
      gap = gap;
      joined = refl;
      some = omega arith;
      short = omega arith;
      word = bare.in_word;
      no_colon = bare.no_colon;
      behind = (omega arith, behind.spaces);
    } in
    record {
      gap = skip.gap;
      column = letters ++ gap;
      joined = skip.joined ∙ ap (λ (x : List ℕ). skip.gap ++ x) (cut ∙ sym (append_assoc letters gap rest)) ∙ sym (append_assoc skip.gap (letters ++ gap) rest);
      before = skip.spaces;
      letters = inr column;
    }

-- ---- STAMP

stamp_joined : (gap column seconds micros rest : List ℕ)
    → gap ++ column ++ seconds ++ codes "." ++ micros ++ codes ":" ++ rest ≡ (gap ++ column) ++ (seconds ++ (46 ∷ (micros ++ (58 ∷ rest))))
stamp_joined gap column seconds micros rest = simp append_assoc

-- STAMP is found
pub stamp_found : (text word from_dot from_micros from_colon rest : List ℕ) (seconds micros : ℕ) → IsLettered text word
    → IsNumbered word seconds from_dot → length word - length from_dot ≤ 10 → from_dot ≡ codes "." ++ from_micros
    → IsNumbered from_micros micros from_colon → micros ≤ 999999 → length from_micros - length from_colon ≡ 6 → from_colon ≡ codes ":" ++ rest → Stops is_in_word rest → IsStamped text (seconds * 1000000 + micros) rest
stamp_found text word from_dot from_micros from_colon rest seconds micros lettered s short dot m below six colon ends =
    let s_len = ap length s.joined ∙ length-append s.digits from_dot in
    let m_len = ap length m.joined ∙ length-append m.digits from_colon in
    record {
      gap = lettered.gap;
      column = lettered.column;
      seconds = s.digits;
      micros = m.digits;
      joined = lettered.joined ∙ ap (λ (x : List ℕ). (lettered.gap ++ lettered.column) ++ x) (s.joined ∙ ap (λ (x : List ℕ). s.digits ++ x) (dot ∙ ap (λ (x : List ℕ). 46 ∷ x) (m.joined ∙ ap (λ (x : List ℕ). m.digits ++ x) colon)))
          ∙ sym (stamp_joined lettered.gap lettered.column s.digits m.digits rest);
      before = lettered.before;
      letters = lettered.letters;
      seconds_digits = s.are;
      seconds_short = omega arith;
      seconds_within = omega (arith, s.value, s.below);
      micros_digits = m.are;
      micros_six = omega arith;
      ends = ends;
      value = omega (arith, s.value, m.value);
    }
