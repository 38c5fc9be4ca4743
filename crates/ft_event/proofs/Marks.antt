-- Marks: what the reader finds is the relation.
use Rattle.std.proofs.Common.{◌≡◌, ◌⊎◌, ℕ, true, inl, inr, subst, List, [], ◌∷◌, ◌++◌, Option, Some, None, refl, sym, ap, ◌∙◌, append_assoc, arith}
use Rattle.std.proofs.lemmas.List.{append-nil}
use Rattle.std.proofs.lemmas.Option.{same_Some, cond_some}
use Rattle.std.specs.Prelude.{codes, IfSome, IfNone, slice_index}
use Rattle.ft_event.specs.Bytes.{is_digit}
use Rattle.ft_event.specs.Spans.{leading_run, behind, limited_number}
use Rattle.ft_event.specs.Skipped.{is_at_end, is_skipped}
use Rattle.ft_event.specs.LineIs.{Stops, IsCount}
use Rattle.ft_event.specs.Marks.{last_count, Writes, CountIs, ReportsLost, ReportsStart, ReportsOverwritten, ReportsWritten, MarkIs}
use Rattle.ft_event.specs.declared.mark.Mark.{Mark}
use Rattle.ft_event.specs.declared.mark.Mark.TheVariants as marks
use Rattle.ft_event.specs.inner.MarkOf.{leading_number, spaced_count, count_or_none, closed_by, lost_of, started_of, overwritten_of, written_of, first_of, mark_of}
use Rattle.ft_fields.specs.Traced.{last_cpu}
use Rattle.ft_event.proofs.Digits.{limited_number-within, limited_number-some}
use Rattle.ft_event.proofs.Runs.{leading_run-append, leading_run-some, behind-append, behind-some}
use Rattle.ft_event.proofs.Heads.{bind_some}
use Rattle.ft_event.proofs.Skips.{at_end, skipped_is}

-- ---- a number, and what is after it

number_is : (limit : ℕ) (digits rest : List ℕ) (n : ℕ) → Writes limit digits n → Stops is_digit rest → leading_number limit (digits ++ rest) ≡ Some (n, rest)
unfolding leading_number
number_is limit digits rest n h stops =
    let run = leading_run-append is_digit digits rest h.shape.0 h.shape.1 stops in
    let number : limited_number limit digits ≡ Some n = limited_number-within limit digits h.shape.1 (omega (arith, h.value, h.within)) ∙ ap (λ (m : ℕ). Some m) (sym h.value) in
    rw (run, number) refl

record Leads (limit : ℕ) (text : List ℕ) (n : ℕ) (rest : List ℕ) : Type 0 where
  pub digits : List ℕ
  pub joined : text ≡ digits ++ rest
  pub writes : Writes limit digits n
  pub stops : Stops is_digit rest

number_found : (limit : ℕ) (text : List ℕ) (r : ℕ × List ℕ) → leading_number limit text ≡ Some r → Leads limit text r.0 r.1
unfolding leading_number
number_found limit text r e =
    let run = bind_some (leading_run is_digit text) _ r e in
    let number = bind_some (limited_number limit run.0.0) _ r run.2 in
    let d = leading_run-some is_digit text run.0 run.1 in
    let n = limited_number-some limit run.0.0 number.0 number.1 in
    let here : Leads limit text number.0 run.0.1 =
    record {
      digits = run.0.0;
      joined = d.joined;
      writes = record { shape = (d.some, d.passes); value = sym n.value; within = omega (arith, n.within, n.value) };
      stops = d.stops;
    } in
    subst (λ (x : ℕ × List ℕ). Leads limit text x.0 x.1) (same_Some _ _ number.2) here

-- ---- a label at the end

end_is : (label : List ℕ) (mark : Mark) → closed_by label (label ++ []) mark ≡ Some mark
end_is label mark = let e : is_at_end (behind label (label ++ [])) ≡ true = ap is_at_end (behind-append label []) in rw e refl

end_found : (label text : List ℕ) (mark other : Mark) → closed_by label text mark ≡ Some other → (text ≡ label) × (mark ≡ other)
end_found label text mark other e =
    let both = cond_some (is_at_end (behind label text)) mark other e in
    (behind-some label text [] (at_end (behind label text) both.0) ∙ append-nil label, both.1)

-- ---- `CPU:n [LOST k EVENTS]`

abbrev events_text : List ℕ
events_text = codes "EVENTS]"

-- no count begins what stands after it
no_count : spaced_count events_text ≡ None
unfolding spaced_count leading_number leading_run
no_count = refl

column_is : (column : List ℕ) (count : Option ℕ) → CountIs column count → count_or_none (spaced_count (column ++ events_text)) (column ++ events_text) ≡ (count, events_text)
unfolding spaced_count
column_is column None none = let e = no_count in rw (none, e) refl
column_is column (Some n) h =
    let joined : column ++ events_text ≡ h.0 ++ 32 ∷ events_text = ap (λ (t : List ℕ). t ++ events_text) h.1 ∙ append_assoc h.0 (codes " ") events_text in
    let number = number_is last_count h.0 (32 ∷ events_text) n h.2 refl in
    let space : behind (codes " ") (32 ∷ events_text) ≡ Some events_text = behind-append (codes " ") events_text in
    rw (joined, number, space) refl

column_found : (text : List ℕ) → (column : List ℕ) × CountIs column (count_or_none (spaced_count text) text).0 × (text ≡ column ++ (count_or_none (spaced_count text) text).1)
unfolding spaced_count
column_found text = from (spaced_count text) refl
  where
    from : (o : Option (ℕ × List ℕ)) → spaced_count text ≡ o → (column : List ℕ) × CountIs column (count_or_none o text).0 × (text ≡ column ++ (count_or_none o text).1)
    from None e = ([], refl, refl)
    from (Some count) e =
        let number = bind_some (leading_number last_count text) _ count e in
        let space = bind_some (behind (codes " ") number.0.1) _ count number.2 in
        let n = number_found last_count text number.0 number.1 in
        let s = behind-some (codes " ") number.0.1 space.0 space.1 in
        let joined : text ≡ (n.digits ++ codes " ") ++ space.0 = n.joined ∙ ap (λ (t : List ℕ). n.digits ++ t) s ∙ sym (append_assoc n.digits (codes " ") space.0) in
        let R : ℕ × List ℕ → Type 0 = λ c. (column : List ℕ) × CountIs column (Some c.0) × (text ≡ column ++ c.1) in
        let here : R (number.0.0, space.0) = (n.digits ++ codes " ", (n.digits, refl, n.writes), joined) in
        subst R (same_Some _ _ space.2) here

lost_joined : (cpu column : List ℕ) → codes "CPU:" ++ cpu ++ codes " [LOST " ++ column ++ codes "EVENTS]" ≡ codes "CPU:" ++ (cpu ++ (codes " [LOST " ++ (column ++ codes "EVENTS]")))
lost_joined cpu column = simp append_assoc

lost_is : (line : List ℕ) (cpu : ℕ) (count : Option ℕ) → ReportsLost line cpu count → lost_of line ≡ Some (marks.Lost cpu count)
unfolding lost_of
lost_is line cpu count h =
    let behind_cpu : List ℕ = codes " [LOST " ++ (h.column ++ events_text) in
    let joined = h.joined ∙ lost_joined h.digits h.column in
    let label : behind (codes "CPU:") (codes "CPU:" ++ (h.digits ++ behind_cpu)) ≡ Some (h.digits ++ behind_cpu) = behind-append (codes "CPU:") (h.digits ++ behind_cpu) in
    let number = number_is last_cpu h.digits behind_cpu cpu h.cpu_is refl in
    let lost : behind (codes " [LOST ") behind_cpu ≡ Some (h.column ++ events_text) = behind-append (codes " [LOST ") (h.column ++ events_text) in
    let column = column_is h.column count h.count_is in
    let end : closed_by (codes "EVENTS]") events_text (marks.Lost cpu count) ≡ Some (marks.Lost cpu count) = end_is (codes "EVENTS]") (marks.Lost cpu count) in
    rw (joined, label, number, lost, column) end

lost_found : (line : List ℕ) (mark : Mark) → lost_of line ≡ Some mark → MarkIs line mark
unfolding lost_of
lost_found line mark e =
    let front = bind_some (behind (codes "CPU:") line) _ mark e in
    let cpu = bind_some (leading_number last_cpu front.0) _ mark front.2 in
    let rest = bind_some (behind (codes " [LOST ") cpu.0.1) _ mark cpu.2 in
    let f = behind-some (codes "CPU:") line front.0 front.1 in
    let c = number_found last_cpu front.0 cpu.0 cpu.1 in
    let l = behind-some (codes " [LOST ") cpu.0.1 rest.0 rest.1 in
    let found = count_or_none (spaced_count rest.0) rest.0 in
    let column = column_found rest.0 in
    let end = end_found (codes "EVENTS]") found.1 (marks.Lost cpu.0.0 found.0) mark rest.2 in
    let joined : line ≡ codes "CPU:" ++ (c.digits ++ (codes " [LOST " ++ (column.0 ++ codes "EVENTS]"))) =
    f ∙ ap (λ (t : List ℕ). codes "CPU:" ++ t) (c.joined ∙ ap (λ (t : List ℕ). c.digits ++ t) (l ∙ ap (λ (t : List ℕ). codes " [LOST " ++ t) (column.2 ∙ ap (λ (t : List ℕ). column.0 ++ t) end.0))) in
    let here : ReportsLost line cpu.0.0 found.0 = record { digits = c.digits; column = column.0; joined = joined ∙ sym (lost_joined c.digits column.0); cpu_is = c.writes; count_is = column.1 } in
    subst (MarkIs line) end.1 here

-- ---- `##### CPU n buffer started ####`

started_joined : (cpu : List ℕ) → codes "##### CPU " ++ cpu ++ codes " buffer started ####" ≡ codes "##### CPU " ++ (cpu ++ codes " buffer started ####")
started_joined cpu = append_assoc (codes "##### CPU ") cpu (codes " buffer started ####")

started_is : (line : List ℕ) (cpu : ℕ) → ReportsStart line cpu → started_of line ≡ Some (marks.Started cpu)
unfolding started_of
started_is line cpu h =
    let joined = h.joined ∙ started_joined h.digits in
    let label : behind (codes "##### CPU ") (codes "##### CPU " ++ (h.digits ++ codes " buffer started ####")) ≡ Some (h.digits ++ codes " buffer started ####") = behind-append (codes "##### CPU ") (h.digits ++ codes " buffer started ####") in
    let number = number_is last_cpu h.digits (codes " buffer started ####") cpu h.cpu_is refl in
    let end : closed_by (codes " buffer started ####") (codes " buffer started ####") (marks.Started cpu) ≡ Some (marks.Started cpu) = end_is (codes " buffer started ####") (marks.Started cpu) in
    rw (joined, label, number) end

started_found : (line : List ℕ) (mark : Mark) → started_of line ≡ Some mark → MarkIs line mark
unfolding started_of
started_found line mark e =
    let front = bind_some (behind (codes "##### CPU ") line) _ mark e in
    let cpu = bind_some (leading_number last_cpu front.0) _ mark front.2 in
    let f = behind-some (codes "##### CPU ") line front.0 front.1 in
    let c = number_found last_cpu front.0 cpu.0 cpu.1 in
    let end = end_found (codes " buffer started ####") cpu.0.1 (marks.Started cpu.0.0) mark cpu.2 in
    let joined : line ≡ codes "##### CPU " ++ (c.digits ++ codes " buffer started ####") =
    f ∙ ap (λ (t : List ℕ). codes "##### CPU " ++ t) (c.joined ∙ ap (λ (t : List ℕ). c.digits ++ t) end.0) in
    let here : ReportsStart line cpu.0.0 = record { digits = c.digits; joined = joined ∙ sym (started_joined c.digits); cpu_is = c.writes } in
    subst (MarkIs line) end.1 here

-- ---- `# CPU n: k events overwritten`

overwritten_joined : (cpu count : List ℕ) → codes "# CPU " ++ cpu ++ codes ": " ++ count ++ codes " events overwritten" ≡ codes "# CPU " ++ (cpu ++ (codes ": " ++ (count ++ codes " events overwritten")))
overwritten_joined cpu count = simp append_assoc

overwritten_is : (line : List ℕ) (cpu count : ℕ) → ReportsOverwritten line cpu count → overwritten_of line ≡ Some (marks.Overwritten cpu count)
unfolding overwritten_of
overwritten_is line cpu count h =
    let behind_cpu : List ℕ = codes ": " ++ (h.column ++ codes " events overwritten") in
    let joined = h.joined ∙ overwritten_joined h.digits h.column in
    let label : behind (codes "# CPU ") (codes "# CPU " ++ (h.digits ++ behind_cpu)) ≡ Some (h.digits ++ behind_cpu) = behind-append (codes "# CPU ") (h.digits ++ behind_cpu) in
    let number = number_is last_cpu h.digits behind_cpu cpu h.cpu_is refl in
    let colon : behind (codes ": ") behind_cpu ≡ Some (h.column ++ codes " events overwritten") = behind-append (codes ": ") (h.column ++ codes " events overwritten") in
    let column = number_is last_count h.column (codes " events overwritten") count h.count_is refl in
    let end : closed_by (codes " events overwritten") (codes " events overwritten") (marks.Overwritten cpu count) ≡ Some (marks.Overwritten cpu count) = end_is (codes " events overwritten") (marks.Overwritten cpu count) in
    rw (joined, label, number, colon, column) end

overwritten_found : (line : List ℕ) (mark : Mark) → overwritten_of line ≡ Some mark → MarkIs line mark
unfolding overwritten_of
overwritten_found line mark e =
    let front = bind_some (behind (codes "# CPU ") line) _ mark e in
    let cpu = bind_some (leading_number last_cpu front.0) _ mark front.2 in
    let rest = bind_some (behind (codes ": ") cpu.0.1) _ mark cpu.2 in
    let count = bind_some (leading_number last_count rest.0) _ mark rest.2 in
    let f = behind-some (codes "# CPU ") line front.0 front.1 in
    let c = number_found last_cpu front.0 cpu.0 cpu.1 in
    let l = behind-some (codes ": ") cpu.0.1 rest.0 rest.1 in
    let n = number_found last_count rest.0 count.0 count.1 in
    let end = end_found (codes " events overwritten") count.0.1 (marks.Overwritten cpu.0.0 count.0.0) mark count.2 in
    let joined : line ≡ codes "# CPU " ++ (c.digits ++ (codes ": " ++ (n.digits ++ codes " events overwritten"))) =
    f ∙ ap (λ (t : List ℕ). codes "# CPU " ++ t) (c.joined ∙ ap (λ (t : List ℕ). c.digits ++ t) (l ∙ ap (λ (t : List ℕ). codes ": " ++ t) (n.joined ∙ ap (λ (t : List ℕ). n.digits ++ t) end.0))) in
    let here : ReportsOverwritten line cpu.0.0 count.0.0 = record { digits = c.digits; column = n.digits; joined = joined ∙ sym (overwritten_joined c.digits n.digits); cpu_is = c.writes; count_is = n.writes } in
    subst (MarkIs line) end.1 here

-- ---- `# entries-in-buffer/entries-written: a/b`

written_joined : (first second rest : List ℕ) → codes "# entries-in-buffer/entries-written: " ++ first ++ codes "/" ++ second ++ rest ≡ codes "# entries-in-buffer/entries-written: " ++ (first ++ (codes "/" ++ (second ++ rest)))
written_joined first second rest = simp append_assoc

written_is : (line : List ℕ) (held written : ℕ) → ReportsWritten line held written → written_of line ≡ Some (marks.Written held written)
unfolding written_of
written_is line held written h =
    let behind_held : List ℕ = codes "/" ++ (h.second ++ h.rest) in
    let joined = h.joined ∙ written_joined h.first h.second h.rest in
    let label : behind (codes "# entries-in-buffer/entries-written: ") (codes "# entries-in-buffer/entries-written: " ++ (h.first ++ behind_held)) ≡ Some (h.first ++ behind_held) = behind-append (codes "# entries-in-buffer/entries-written: ") (h.first ++ behind_held) in
    let first = number_is last_count h.first behind_held held h.held_is refl in
    let slash : behind (codes "/") behind_held ≡ Some (h.second ++ h.rest) = behind-append (codes "/") (h.second ++ h.rest) in
    let second = number_is last_count h.second h.rest written h.written_is h.ends in
    rw (joined, label, first, slash, second) refl

written_found : (line : List ℕ) (mark : Mark) → written_of line ≡ Some mark → MarkIs line mark
unfolding written_of
written_found line mark e =
    let front = bind_some (behind (codes "# entries-in-buffer/entries-written: ") line) _ mark e in
    let held = bind_some (leading_number last_count front.0) _ mark front.2 in
    let rest = bind_some (behind (codes "/") held.0.1) _ mark held.2 in
    let written = bind_some (leading_number last_count rest.0) _ mark rest.2 in
    let f = behind-some (codes "# entries-in-buffer/entries-written: ") line front.0 front.1 in
    let h = number_found last_count front.0 held.0 held.1 in
    let l = behind-some (codes "/") held.0.1 rest.0 rest.1 in
    let w = number_found last_count rest.0 written.0 written.1 in
    let joined : line ≡ codes "# entries-in-buffer/entries-written: " ++ (h.digits ++ (codes "/" ++ (w.digits ++ written.0.1))) =
    f ∙ ap (λ (t : List ℕ). codes "# entries-in-buffer/entries-written: " ++ t) (h.joined ∙ ap (λ (t : List ℕ). h.digits ++ t) (l ∙ ap (λ (t : List ℕ). codes "/" ++ t) w.joined)) in
    let here : ReportsWritten line held.0.0 written.0.0 =
    record { first = h.digits; second = w.digits; rest = written.0.1; joined = joined ∙ sym (written_joined h.digits w.digits written.0.1); held_is = h.writes; written_is = w.writes; ends = w.stops } in
    subst (MarkIs line) (same_Some _ _ written.2) here

-- ---- the mark

-- lines that begin apart
no_lost_start : (line : List ℕ) (cpu : ℕ) → ReportsStart line cpu → lost_of line ≡ None
unfolding lost_of behind
no_lost_start line cpu h = rw h.joined refl

no_other_overwritten : (line : List ℕ) (cpu count : ℕ) → ReportsOverwritten line cpu count → (lost_of line ≡ None) × (started_of line ≡ None)
unfolding lost_of started_of behind
no_other_overwritten line cpu count h = (rw h.joined refl, rw h.joined refl)

no_other_written : (line : List ℕ) (held written : ℕ) → ReportsWritten line held written → (lost_of line ≡ None) × (started_of line ≡ None) × (overwritten_of line ≡ None)
unfolding lost_of started_of overwritten_of behind
no_other_written line held written h = (rw h.joined refl, rw h.joined refl, rw h.joined refl)

mark_is : (line : List ℕ) (mark : Mark) → MarkIs line mark → mark_of line ≡ Some mark
unfolding mark_of
mark_is line (marks.Lost cpu count) h = rw (lost_is line cpu count h) refl
mark_is line (marks.Started cpu) h = rw (no_lost_start line cpu h, started_is line cpu h) refl
mark_is line (marks.Overwritten cpu count) h =
    let others = no_other_overwritten line cpu count h in
    let lost = others.0 in
    let started = others.1 in
    rw (lost, started, overwritten_is line cpu count h) refl
mark_is line (marks.Written held written) h =
    let others = no_other_written line held written h in
    let lost = others.0 in
    let started = others.1 in
    let overwritten = others.2 in
    rw (lost, started, overwritten) (written_is line held written h)

first_found : (o later : Option Mark) (mark : Mark) → first_of o later ≡ Some mark → (o ≡ Some mark) ⊎ (later ≡ Some mark)
first_found None later mark e = inr e
first_found (Some found) later mark e = inl e

mark_found : (line : List ℕ) (mark : Mark) → mark_of line ≡ Some mark → MarkIs line mark
unfolding mark_of
mark_found line mark e =
    elim (first_found (lost_of line) _ mark e) [
      | inl lost ↦ lost_found line mark lost
      | inr later ↦
          elim (first_found (started_of line) _ mark later) [
            | inl started ↦ started_found line mark started
            | inr last ↦
                elim (first_found (overwritten_of line) _ mark last) [
                  | inl overwritten ↦ overwritten_found line mark overwritten
                  | inr written ↦ written_found line mark written
                ]
          ]
    ]

-- ---- the answer

pub marked : (line : List ℕ) (o : Option Mark) → o ≡ mark_of line → IfSome o (λ mark. MarkIs line mark)
marked line None e = tt
marked line (Some mark) e = mark_found line mark (sym e)

pub unmarked : (line : List ℕ) (o : Option Mark) → o ≡ mark_of line → IfNone o ((mark : Mark) → MarkIs line mark → ⊥)
unmarked line None e = λ mark is. let same : None ≡ Some mark = e ∙ mark_is line mark is in cc
unmarked line (Some found) e = tt

-- ---- laws

pub same_mark : (line : List ℕ) (mark other : Mark) → MarkIs line mark → MarkIs line other → mark ≡ other
same_mark line mark other is also = same_Some _ _ (sym (mark_is line mark is) ∙ mark_is line other also)

-- a count of any value is digits and a space
count_shape : (column : List ℕ) (count : Option ℕ) → CountIs column count → (column ≡ []) ⊎ IsCount column
count_shape column None none = inl none
count_shape column (Some n) h = inr (record { count = h.0; joined = h.1; digits = h.2.shape })

pub mark_skipped : (line : List ℕ) (mark : Mark) → MarkIs line mark → is_skipped line ≡ true
mark_skipped line (marks.Lost cpu count) h = skipped_is line (inr (inr (record { cpu = h.digits; column = h.column; joined = h.joined; cpu_digits = h.cpu_is.shape; count = count_shape h.column count h.count_is })))
mark_skipped line (marks.Started cpu) h = skipped_is line (inr (inl (ap (λ (t : List ℕ). slice_index t 0) h.joined)))
mark_skipped line (marks.Overwritten cpu count) h = skipped_is line (inr (inl (ap (λ (t : List ℕ). slice_index t 0) h.joined)))
mark_skipped line (marks.Written held written) h = skipped_is line (inr (inl (ap (λ (t : List ℕ). slice_index t 0) h.joined)))
