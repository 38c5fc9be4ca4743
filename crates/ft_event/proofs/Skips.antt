-- Lines that hold no event: the test is the relation.
use Rattle.std.proofs.Common.{◌≡◌, ◌⊎◌, ℕ, true, inl, inr, subst, List, [], ◌∷◌, ◌++◌, length, take, Option, Some, None, refl, sym, ap, ◌∙◌, append_assoc, arith, eqb, get_or, suc}
use Rattle.std.proofs.lemmas.Bool.{cases_Bool, eq-eqb, eqb-true, or_cases, or_left, or_right}
use Rattle.std.proofs.lemmas.List.{append-nil, take_all, nil_from_length}
use Prim.Native.Nat.compare
use Rattle.std.specs.Prelude.{codes, unwrap_or}
use Rattle.std.specs.List.{prefix_len, list_all}
use Rattle.std.proofs.Math.Numerals.{one-add}
use Rattle.ft_event.specs.Bytes.{is_space, is_digit, is_blank}
use Rattle.ft_event.specs.Spans.{without_spaces, leading_run, behind}
use Rattle.ft_event.specs.Skipped.{behind_count, behind_lost, is_at_end, is_skipped}
use Rattle.ft_event.specs.LineIs.{IsCount, IsLost, IsSkipped}
use Rattle.ft_event.proofs.Runs.{run_splits, run_len, leading_run-append, leading_run-some, behind-append, behind-some}
use Rattle.ft_event.proofs.Heads.{bind_some}

-- ---- a blank line is one run of blanks

blank_len : (bytes : List ℕ) → list_all is_blank bytes ≡ true → prefix_len is_blank bytes ≡ length bytes
blank_len bytes h = ap (prefix_len is_blank) (sym (append-nil bytes)) ∙ run_len is_blank bytes [] h tt

len_blank : (bytes : List ℕ) → prefix_len is_blank bytes ≡ length bytes → list_all is_blank bytes ≡ true
len_blank bytes e =
    let whole : take (prefix_len is_blank bytes) bytes ≡ bytes = take_all _ bytes (omega arith) in
    subst (λ (t : List ℕ). list_all is_blank t ≡ true) whole (run_splits is_blank bytes).passes

blank_but_spaces : (bytes : List ℕ) → eqb (prefix_len is_blank (without_spaces bytes)) (length (without_spaces bytes)) ≡ eqb (prefix_len is_blank bytes) (length bytes)
blank_but_spaces [] = refl
blank_but_spaces (b ∷ bytes) =
    elim (cases_Bool (is_space b)) [
      | inl space ↦
          let spaces : prefix_len is_space (b ∷ bytes) ≡ suc (prefix_len is_space bytes) = rw (space, one-add) refl in
          let blanks : prefix_len is_blank (b ∷ bytes) ≡ suc (prefix_len is_blank bytes) = rw (space, one-add) refl in
          let both = compare.suc-suc (prefix_len is_blank bytes) (length bytes) in
          rw (spaces, blanks, both) (blank_but_spaces bytes)
      | inr other ↦
          let none : prefix_len is_space (b ∷ bytes) ≡ 0 = rw other refl in
          rw none refl
    ]

-- whether a line is blank shows in its text after the spaces
pub blank_behind : (line text : List ℕ) → text ≡ without_spaces line → eqb (prefix_len is_blank line) (length line) ≡ eqb (prefix_len is_blank text) (length text)
blank_behind line text e = rw e (sym (blank_but_spaces line))

-- ---- lost events

abbrev events_text : List ℕ
events_text = codes "EVENTS]"

-- no digits begin what stands after the count
no_count : behind_count events_text ≡ None
unfolding behind_count leading_run
no_count = refl

count_is : (column : List ℕ) → IsCount column → behind_count (column ++ events_text) ≡ Some events_text
unfolding behind_count
count_is column h =
    let joined : column ++ events_text ≡ h.count ++ 32 ∷ events_text = ap (λ (t : List ℕ). t ++ events_text) h.joined ∙ append_assoc h.count (codes " ") events_text in
    let digits = leading_run-append is_digit h.count (32 ∷ events_text) h.digits.0 h.digits.1 refl in
    let space : behind (codes " ") (32 ∷ events_text) ≡ Some events_text = behind-append (codes " ") events_text in
    rw (joined, digits, space) refl

column_is : (column : List ℕ) → (column ≡ []) ⊎ IsCount column → unwrap_or (behind_count (column ++ events_text)) (column ++ events_text) ≡ events_text
column_is column (inl none) = let e = no_count in rw (none, e) refl
column_is column (inr count) = let e = count_is column count in rw e refl

column_found : (text : List ℕ) → (column : List ℕ) × ((column ≡ []) ⊎ IsCount column) × (text ≡ column ++ unwrap_or (behind_count text) text)
unfolding behind_count
column_found text = from (behind_count text) refl
  where
    from : (o : Option (List ℕ)) → behind_count text ≡ o → (column : List ℕ) × ((column ≡ []) ⊎ IsCount column) × (text ≡ column ++ unwrap_or o text)
    from None e = ([], inl refl, refl)
    from (Some rest) e =
        let digits = bind_some (leading_run is_digit text) _ rest e in
        let d = leading_run-some is_digit text digits.0 digits.1 in
        let s = behind-some (codes " ") digits.0.1 rest digits.2 in
        let joined : text ≡ (digits.0.0 ++ codes " ") ++ rest = d.joined ∙ ap (λ (t : List ℕ). digits.0.0 ++ t) s ∙ sym (append_assoc digits.0.0 (codes " ") rest) in
        (digits.0.0 ++ codes " ", inr (record { count = digits.0.0; joined = refl; digits = (d.some, d.passes) }), joined)

rejoined : (cpu column : List ℕ) → codes "CPU:" ++ cpu ++ codes " [LOST " ++ column ++ codes "EVENTS]" ≡ codes "CPU:" ++ (cpu ++ (codes " [LOST " ++ (column ++ codes "EVENTS]")))
rejoined cpu column = simp append_assoc

lost_is : (bytes : List ℕ) → IsLost bytes → behind_lost bytes ≡ Some []
unfolding behind_lost
lost_is bytes h =
    let behind_cpu : List ℕ = codes " [LOST " ++ (h.column ++ events_text) in
    let joined = h.joined ∙ rejoined h.cpu h.column in
    let label : behind (codes "CPU:") (codes "CPU:" ++ (h.cpu ++ behind_cpu)) ≡ Some (h.cpu ++ behind_cpu) = behind-append (codes "CPU:") (h.cpu ++ behind_cpu) in
    let digits = leading_run-append is_digit h.cpu behind_cpu h.cpu_digits.0 h.cpu_digits.1 refl in
    let lost : behind (codes " [LOST ") behind_cpu ≡ Some (h.column ++ events_text) = behind-append (codes " [LOST ") (h.column ++ events_text) in
    let column = column_is h.column h.count in
    let end : behind (codes "EVENTS]") events_text ≡ Some [] = behind-append (codes "EVENTS]") [] in
    rw (joined, label, digits, lost, column, end) refl

lost_found : (bytes : List ℕ) → behind_lost bytes ≡ Some [] → IsLost bytes
unfolding behind_lost
lost_found bytes e =
    let cpu = bind_some (behind (codes "CPU:") bytes) _ [] e in
    let digits = bind_some (leading_run is_digit cpu.0) _ [] cpu.2 in
    let lost = bind_some (behind (codes " [LOST ") digits.0.1) _ [] digits.2 in
    let c = behind-some (codes "CPU:") bytes cpu.0 cpu.1 in
    let d = leading_run-some is_digit cpu.0 digits.0 digits.1 in
    let l = behind-some (codes " [LOST ") digits.0.1 lost.0 lost.1 in
    let column = column_found lost.0 in
    let end = behind-some (codes "EVENTS]") (unwrap_or (behind_count lost.0) lost.0) [] lost.2 in
    let joined : bytes ≡ codes "CPU:" ++ (digits.0.0 ++ (codes " [LOST " ++ (column.0 ++ codes "EVENTS]"))) =
    c ∙ ap (λ (t : List ℕ). codes "CPU:" ++ t) (d.joined ∙ ap (λ (t : List ℕ). digits.0.0 ++ t) (l ∙ ap (λ (t : List ℕ). codes " [LOST " ++ t) (column.2 ∙ ap (λ (t : List ℕ). column.0 ++ t) end))) in
    record {
      cpu = digits.0.0;
      column = column.0;
      joined = joined ∙ sym (rejoined digits.0.0 column.0);
      cpu_digits = (d.some, d.passes);
      count = column.1;
    }

-- nothing is left
pub at_end : (o : Option (List ℕ)) → is_at_end o ≡ true → o ≡ Some []
at_end None e = absurd cc
at_end (Some rest) e = ap (λ (t : List ℕ). Some t) (nil_from_length rest (eqb-true _ _ e))

-- ---- the test

pub skipped_found : (bytes : List ℕ) → is_skipped bytes ≡ true → IsSkipped bytes
unfolding is_skipped
skipped_found bytes e =
    elim (or_cases (eqb (prefix_len is_blank bytes) (length bytes)) _ e) [
      | inl blank ↦ inl (len_blank bytes (eqb-true _ _ blank))
      | inr other ↦
          elim (or_cases (eqb (get_or bytes 0 0) 35) _ other) [
            | inl comment ↦ inr (inl (eqb-true _ _ comment))
            | inr lost ↦ inr (inr (lost_found bytes (at_end (behind_lost bytes) lost)))
          ]
    ]

pub skipped_is : (bytes : List ℕ) → IsSkipped bytes → is_skipped bytes ≡ true
unfolding is_skipped
skipped_is bytes (inl blank) = or_left _ _ (eq-eqb _ _ (blank_len bytes blank))
skipped_is bytes (inr (inl comment)) = or_right _ _ (or_left _ _ (eq-eqb _ _ comment))
skipped_is bytes (inr (inr lost)) =
    let end : is_at_end (behind_lost bytes) ≡ true = ap is_at_end (lost_is bytes lost) in
    or_right _ _ (or_right _ _ end)
