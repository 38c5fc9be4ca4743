-- What a run has written is a beginning of what lines print.
use Rattle.std.proofs.Common.{◌≡◌, ℕ, List, [], ◌∷◌, ◌++◌, Option, None, Some, Result, Ok, Err, length, take, drop, inl, inr, refl, sym, ap, subst, ◌∙◌, append_assoc, append-nil, take-append-drop}
use Rattle.std.specs.Io.{StartsWith}
use Rattle.std.proofs.KnownBytes.{starts_with_rest}
use Rattle.std.proofs.Transfers.{starts_with_of_append, starts_with_of_eq}
use Rattle.ft_answers.specs.Base.{Base, empty_base}
use Rattle.ft_desk.specs.declared.running.Status.{Status}
use Rattle.ft_desk.specs.declared.running.RunFault.{RunFault}
use Rattle.ft_desk.specs.declared.running.RunFault.TheVariants as faults
use Rattle.ft_text.specs.Lines.{lines_of, ended_lines}
use Rattle.ft_desk.specs.Output.{Meaning, output_from, output_by, output_of_lines}
use Rattle.ft_desk.specs.Run.{ReadsTo, ReadsLines, WritesFront, WritesInOrder, text_behind, RunEnds}
use Rattle.ft_desk.proofs.LineLemmas.{last_piece, lines_of-split}
use Rattle.ft_desk.proofs.OutputLemmas.{output_from-append, output_from-push}

-- what first lines print is a beginning of what they and further ones print
first_part : (means : Meaning) (base : Base) (lines more : List (List ℕ)) → StartsWith (output_from means base (lines ++ more)).text (output_from means base lines).text
first_part means base lines more = starts_with_of_append _ (output_from means base lines).text _ (output_from-append means base lines more).0

-- the output of the first lines of a script is a beginning of the whole script's output
pub first_lines_first : (means : Meaning) (script : List ℕ) (n : ℕ) → StartsWith (output_by means script).text (output_of_lines means (take n (lines_of script))).text
first_lines_first means script n =
    let lines = lines_of script in
    subst (λ l. StartsWith (output_of_lines means l).text (output_of_lines means (take n lines)).text) (take-append-drop n lines) (first_part means empty_base (take n lines) (drop n lines))

-- the lines up to the last one that was read are the lines that were read
all_to : (reader rest : Option (List ℕ)) (lines : List (List ℕ)) (last : List ℕ) → ReadsTo reader rest lines last → ReadsLines reader rest (lines ++ last ∷ [])
all_to reader rest lines last reads = elim reads.1 [
  | inl ended ↦ (reads.0 ++ 10 ∷ [], inl (ended.0, sym ended.1))
  | inr whole ↦ (reads.0, inr (whole.0, sym whole.1))
]

-- a beginning of the last line's text after what the lines before it print is a beginning of what they all print
last_front : (means : Meaning) (lines : List (List ℕ)) (last front left : List ℕ) → text_behind means lines last ≡ front ++ left
    → StartsWith (output_of_lines means (lines ++ last ∷ [])).text ((output_of_lines means lines).text ++ front)
last_front means lines last front left text =
    let done = output_of_lines means lines in
    starts_with_of_append _ (done.text ++ front) left
    ((output_from-push means empty_base lines last).0 ∙ ap (λ t. done.text ++ t) text ∙ sym (append_assoc done.text front left))

-- however a run ends, what was written is a beginning of the output of the lines that were read
pub in_order : (means : Meaning) (result : Result Status RunFault) (reader rest before after : Option (List ℕ))
    → RunEnds means result reader rest before after → WritesInOrder means reader rest before after
in_order means (Ok status) reader rest before after ends =
    (lines_of ends.0, (ends.0, inr (ends.1, refl)), ((output_by means ends.0).text, ends.2, starts_with_of_eq _ _ refl))
in_order means (Err faults.Memory) reader rest before after ends = elim ends [
  | inl at ↦ (at.0 ++ at.1 ∷ [], all_to reader rest at.0 at.1 at.2, ((output_of_lines means at.0).text, at.3, first_part means empty_base at.0 (at.1 ∷ [])))
  | inr within ↦ (ended_lines within.0, (within.0, inl (within.1.0, refl)), ((output_of_lines means (ended_lines within.0)).text, within.2, starts_with_of_eq _ _ refl))
]
in_order means (Err faults.Read) reader rest before after ends =
    (ended_lines ends.0, (ends.0, inl (ends.1, refl)), ((output_of_lines means (ended_lines ends.0)).text, ends.2, starts_with_of_eq _ _ refl))
in_order means (Err faults.Write) reader rest before after ends = elim ends [
  | inl at ↦ (at.0 ++ at.1 ∷ [], all_to reader rest at.0 at.1 at.2, ((output_of_lines means at.0).text ++ at.3.0, at.3.2, last_front means at.0 at.1 at.3.0 at.3.1 at.3.3))
  | inr flush ↦ (lines_of flush.0, (flush.0, inr (flush.1, refl)), ((output_by means flush.0).text, flush.2, starts_with_of_eq _ _ refl))
]

-- the lines that were read are the first ones of the script
lines_first : (script : List ℕ) (rest : Option (List ℕ)) (lines : List (List ℕ)) → ReadsLines (Some script) rest lines → (more : List (List ℕ)) × (lines_of script ≡ lines ++ more)
lines_first script None lines reads = elim reads.1 [ inl ended ↦ absurd ended.0.0 | inr whole ↦ absurd whole.0.0.0 ]
lines_first script (Some left) lines reads = elim reads.1 [
  | inl ended ↦ (lines_of (last_piece reads.0 ++ left), ap lines_of ended.0.0 ∙ lines_of-split reads.0 left ∙ ap (λ l. l ++ lines_of (last_piece reads.0 ++ left)) (sym ended.1))
  | inr whole ↦ ([], ap lines_of (whole.0.0.0 ∙ ap (λ l. reads.0 ++ l) whole.0.1 ∙ append-nil reads.0) ∙ sym whole.1 ∙ sym (append-nil lines))
]

-- a beginning of a beginning
front_of_front : (all first written : List ℕ) → StartsWith all first → StartsWith first written → StartsWith all written
front_of_front all first written starts begins =
    starts_with_of_append all written _
    (starts_with_rest all first starts ∙ ap (λ t. t ++ drop (length first) all) (starts_with_rest first written begins) ∙ append_assoc written (drop (length written) first) (drop (length first) all))

-- so it is a beginning of the whole script's output
pub of_script : (means : Meaning) (result : Result Status RunFault) (script : List ℕ) (rest before after : Option (List ℕ))
    → RunEnds means result (Some script) rest before after → WritesFront before after (output_by means script).text
of_script means result script rest before after ends =
    let wrote = in_order means result (Some script) rest before after ends in
    let lines = wrote.0 in
    let split = lines_first script rest lines wrote.1 in
    let starts = subst (λ l. StartsWith (output_of_lines means l).text (output_of_lines means lines).text) (sym split.1) (first_part means empty_base lines split.0) in
    (wrote.2.0, wrote.2.1, front_of_front (output_by means script).text (output_of_lines means lines).text wrote.2.0 starts wrote.2.2)
