-- Places in a line, and what stands from there on.
use Rattle.std.proofs.Common.{◌≡◌, ◌<◌, ◌≤◌, ℕ, zero, suc, ◌+◌, ◌-◌, ◌*◌, inl, inr, true, false, Bool, List, ◌∷◌, ◌++◌, take, drop, length, get_or, refl, sym, ap, ap₂, ◌∙◌, arith, subst, eqb}
use Rattle.std.proofs.lemmas.Bool.{and_from, and_parts, cases_lt, eqb-true}
use Rattle.std.proofs.lemmas.List.{drop_all, drop_more, get_or-drop, get_or_past, drop-drop, length-drop, take-append-drop}
use Rattle.std.proofs.lemmas.List.Folds.{list_all_more, list_any_more}
use Rattle.std.specs.List.{list_all, list_any}
use Rattle.std.specs.Prelude.{not}
use Rattle.ft_event.specs.Bytes.{is_space, is_digit, is_in_word, is_colon}
use Rattle.ft_event.specs.LineIs.{Stops}
use Rattle.ft_quick.specs.inner.Columns.{ends_task, IsTask, IsLettered}
use Rattle.ft_quick.specs.inner.Cuts.{IsSkip, IsNumbered}
use Rattle.ft_quick.proofs.ColumnCuts.{IsBare, task_found, letters_passed}
use Rattle.ft_quick.proofs.Marked.{IsFound, IsEnded}
use Rattle.ft_quick.proofs.Runs.{IsRead, next_digit, numbered}

-- ---- a place, seen from an earlier one

-- the byte at a place
pub byte_at : (line : List ℕ) (from at : ℕ) → from ≤ at → get_or (drop from line) (at - from) 0 ≡ get_or line at 0
byte_at line from at order = let same : from + (at - from) ≡ at = omega arith in get_or-drop from line (at - from) 0 ∙ ap (λ (n : ℕ). get_or line n 0) same

-- what stands from there on
pub rest_at : (line : List ℕ) (from at : ℕ) → from ≤ at → drop (at - from) (drop from line) ≡ drop at line
rest_at line from at order = let same : from + (at - from) ≡ at = omega arith in drop-drop (at - from) from line ∙ ap (λ (n : ℕ). drop n line) same

next_is : (from at : ℕ) → from ≤ at → at - from + 1 ≡ at + 1 - from
next_is from at order = omega arith

-- nothing is read yet
nothing : (n : ℕ) → 0 ≡ n - n
nothing n = omega arith

-- ---- labels

-- a label that is found here
pub label_here : (line label front : List ℕ) (at n : ℕ) → front ≡ take n (drop at line) → front ≡ label → drop at line ≡ label ++ drop (at + n) line
label_here line label front at n cut same = sym (take-append-drop n (drop at line)) ∙ ap₂ (λ (x y : List ℕ). x ++ y) (sym cut ∙ same) (drop-drop n at line)

differ : true ≡ false → ⊥
differ h = cc

-- ---- runs

-- a run whose bytes all pass
run_passes : (p : ℕ → Bool) (text : List ℕ) (n : ℕ) → n ≤ length text → ((k : ℕ) → k < n → p (get_or text k 0) ≡ true) → list_all p (take n text) ≡ true
run_passes p text zero few each = refl
run_passes p text (suc n) few each =
    let next : n + 1 ≡ suc n = omega arith in
    ap (λ (m : ℕ). list_all p (take m text)) (sym next) ∙ list_all_more p text n 0 (omega arith) ∙ and_from _ _ (run_passes p text n (omega arith) (λ k below. each k (omega arith))) (each n (omega arith))

-- a run of which no byte passes
run_fails : (p : ℕ → Bool) (text : List ℕ) (n : ℕ) → n ≤ length text → ((k : ℕ) → k < n → p (get_or text k 0) ≡ false) → list_any p (take n text) ≡ false
run_fails p text zero few each = refl
run_fails p text (suc n) few each =
    let next : n + 1 ≡ suc n = omega arith in
    ap (λ (m : ℕ). list_any p (take m text)) (sym next) ∙ list_any_more p text n 0 (omega arith) ∙ rw (run_fails p text n (omega arith) (λ k below. each k (omega arith)), each n (omega arith)) refl

-- the bytes of a run, seen from where it begins
seen_from : (p : ℕ → Bool) (b : Bool) (line : List ℕ) (from at : ℕ) → ((k : ℕ) → from ≤ k → k < at → p (get_or line k 0) ≡ b)
    → (k : ℕ) → k < at - from → p (get_or (drop from line) k 0) ≡ b
seen_from p b line from at each k below = ap p (get_or-drop from line k 0) ∙ each (from + k) (omega arith) (omega arith)

pub run_at : (p : ℕ → Bool) (line : List ℕ) (from at : ℕ) → at ≤ length line → ((k : ℕ) → from ≤ k → k < at → p (get_or line k 0) ≡ true)
    → list_all p (take (at - from) (drop from line)) ≡ true
run_at p line from at within each = let len = length-drop from line in run_passes p (drop from line) (at - from) (omega arith) (seen_from p true line from at each)

pub no_run_at : (p : ℕ → Bool) (line : List ℕ) (from at : ℕ) → at ≤ length line → ((k : ℕ) → from ≤ k → k < at → p (get_or line k 0) ≡ false)
    → list_any p (take (at - from) (drop from line)) ≡ false
no_run_at p line from at within each = let len = length-drop from line in run_fails p (drop from line) (at - from) (omega arith) (seen_from p false line from at each)

-- a run ends within the line, if a 0, which a read after the line gives, does not pass
pub run_within : (p : ℕ → Bool) (line : List ℕ) (from at : ℕ) → p 0 ≡ false → from ≤ length line → ((k : ℕ) → from ≤ k → k < at → p (get_or line k 0) ≡ true) → at ≤ length line
run_within p line from at none begins each = elim (cases_lt (length line) at) [
  | inl past ↦ let hit : p 0 ≡ true = ap p (sym (get_or_past line (length line) 0 (omega arith))) ∙ each (length line) begins past in absurd (differ (sym hit ∙ none))
  | inr within ↦ within
]

-- what passes stands within the line, if a 0 does not pass
pub stands_within : (p : ℕ → Bool) (line : List ℕ) (at : ℕ) → p 0 ≡ false → p (get_or line at 0) ≡ true → at < length line
stands_within p line at none here = elim (cases_lt at (length line)) [
  | inl within ↦ within
  | inr past ↦ absurd (differ (sym here ∙ ap p (get_or_past line at 0 past) ∙ none))
]

-- ---- spaces

-- what stands here does not pass
stops_at : (p : ℕ → Bool) (line : List ℕ) (at : ℕ) → p (get_or line at 0) ≡ false → Stops p (drop at line)
stops_at p line at here = elim (cases_lt at (length line)) [
  | inl within ↦ let stops : Stops p (get_or line at 0 ∷ drop (at + 1) line) = here in subst (Stops p) (sym (drop_more line at 0 within)) stops
  | inr past ↦ subst (Stops p) (sym (drop_all at line past)) tt
]

-- the rest after spaces, which begins with none
pub skip_at : (line : List ℕ) (from at : ℕ) → from ≤ length line → IsEnded (λ k. is_space (get_or line k 0)) from at → IsSkip (drop from line) (drop at line)
skip_at line from at begins run =
    let within = run_within is_space line from at refl begins run.before in
    record {
      gap = take (at - from) (drop from line);
      joined = sym (take-append-drop (at - from) (drop from line)) ∙ ap (λ (rest : List ℕ). take (at - from) (drop from line) ++ rest) (rest_at line from at run.low);
      spaces = run_at is_space line from at within run.before;
      stops = stops_at is_space line at run.here;
    }

-- ---- digits

pub no_digit_yet : (text : List ℕ) (from : ℕ) → IsRead text (from - from) 0
no_digit_yet text from = subst (λ (n : ℕ). IsRead text n 0) (nothing from) (record { digits = refl; value = refl; below = omega arith })

pub next_digit_at : (line : List ℕ) (from at n : ℕ) → from ≤ at → at < length line → is_digit (get_or line at 0) ≡ true
    → IsRead (drop from line) (at - from) n → IsRead (drop from line) (at + 1 - from) (n * 10 + (get_or line at 0 - 48))
next_digit_at line from at n order within digit read =
    let len = length-drop from line in
    let here = byte_at line from at order in
    let more = next_digit (drop from line) (at - from) n (omega arith) (ap is_digit here ∙ digit) read in
    let value : n * 10 + (get_or (drop from line) (at - from) 0 - 48) ≡ n * 10 + (get_or line at 0 - 48) = ap (λ (b : ℕ). n * 10 + (b - 48)) here in
    subst (λ (k : ℕ). IsRead (drop from line) k (n * 10 + (get_or line at 0 - 48))) (next_is from at order) (subst (IsRead (drop from line) (at - from + 1)) value more)

pub numbered_at : (line : List ℕ) (from at n : ℕ) → from ≤ at → (at ≡ from → ⊥) → at ≤ from + 9 → at ≤ length line
    → IsRead (drop from line) (at - from) n → IsNumbered (drop from line) n (drop at line)
numbered_at line from at n order some few within read =
    let len = length-drop from line in
    let less : from < at = elim (cases_lt from at) [ inl h ↦ h | inr h ↦ absurd (some (omega arith)) ] in
    subst (IsNumbered (drop from line) n) (rest_at line from at order) (numbered (drop from line) (at - from) n (omega arith) (omega arith) (omega arith) read)

-- ---- TASK

pub task_within : (line : List ℕ) (from at : ℕ) → IsFound (ends_task line) from at → at < length line
task_within line from at dash = stands_within (λ b. eqb b 45) line at refl (and_parts _ _ dash.here).0

-- TASK is found
pub task_at : (line : List ℕ) (from at : ℕ) → IsFound (ends_task line) from at → IsTask (drop from line) (take (at - from) (drop from line)) (drop (at + 1) line)
task_at line from at dash =
    let within = task_within line from at dash in
    let len = length-drop from line in
    let order = dash.low in
    let same : (k : ℕ) → from + k + 1 ≡ from + (k + 1) = λ k. omega arith in
    let seen : (k : ℕ) → ends_task (drop from line) k ≡ ends_task line (from + k) =
    λ k. rw (get_or-drop from line k 0, get_or-drop from line (k + 1) 0, same k) refl in
    let place : from + (at - from) ≡ at = omega arith in
    let found = task_found (drop from line) (at - from) (omega arith) (seen (at - from) ∙ ap (ends_task line) place ∙ dash.here) (λ k below. seen k ∙ dash.before (from + k) (omega arith) (omega arith)) in
    let next : at - from + 1 ≡ at + 1 - from = omega arith in
    let rest : drop (at - from + 1) (drop from line) ≡ drop (at + 1) line = ap (λ (n : ℕ). drop n (drop from line)) next ∙ rest_at line from (at + 1) (omega arith) in
    subst (IsTask (drop from line) (take (at - from) (drop from line))) rest found

-- ---- LETTERS

-- LETTERS are passed
pub letters_at : (line text rest : List ℕ) (from at colon : ℕ) → IsSkip text (drop from line) → IsFound (λ k. is_space (get_or line k 0)) from at → (at ≡ from → ⊥) → at - from ≤ 16
    → IsFound (λ k. is_colon (get_or line k 0)) from colon → at ≤ colon → IsSkip (drop (at + 1) line) rest → IsLettered text rest
letters_at line text rest from at colon skip space some short first late behind =
    let within = stands_within is_space line at refl space.here in
    let order = space.low in
    let len = length-drop from line in
    let less : from < at = elim (cases_lt from at) [ inl h ↦ h | inr h ↦ absurd (some (omega arith)) ] in
    let bare : IsBare (drop from line) (at - from) = record {
      in_word = run_at is_in_word line from at (omega arith) (λ k low below. ap not (space.before k low below));
      no_colon = no_run_at is_colon line from at (omega arith) (λ k low below. first.before k low (omega arith));
    } in
    let next : at - from + 1 ≡ at + 1 - from = omega arith in
    let place : drop (at + 1) line ≡ drop (at - from + 1) (drop from line) = sym (ap (λ (n : ℕ). drop n (drop from line)) next ∙ rest_at line from (at + 1) (omega arith)) in
    letters_passed text (drop from line) rest (at - from) skip (omega arith) (byte_at line from at order ∙ eqb-true _ _ space.here) (omega arith) short bare (subst (λ (x : List ℕ). IsSkip x rest) place behind)
