-- What was done of a script in memory, a line at a time.
use Rattle.std.proofs.Common.{◌≡◌, ℕ, Bool, false, List, [], ◌∷◌, ◌++◌, sym, ap, ◌∙◌, append_assoc, append-nil}
use Rattle.std.specs.Prelude.{◌||◌}
use Rattle.std.proofs.Math.Bool.{or_assoc, or-false}
use Rattle.ft_answers.specs.Base.{Base, empty_base}
use Rattle.ft_text.specs.Lines.{lines_of}
use Rattle.ft_script.specs.Script.{asked_by}
use Rattle.ft_desk.specs.Output.{Meaning, output_by, output_from}

-- what was printed and what the rest prints are the whole output, and so with what was refused
pub record SoFar (means : Meaning) (script rest : List ℕ) (base : Base) (printed : List ℕ) (refused : Bool) : Type 0 where
  pub text : printed ++ (output_from means base (lines_of rest)).text ≡ (output_by means script).text
  pub told : (refused || (output_from means base (lines_of rest)).refused) ≡ (output_by means script).refused

module _ (means : Meaning) (script : List ℕ) where
  -- nothing is done
  pub so_far-none : (base : Base) → base ≡ empty_base → SoFar means script script base [] false
  so_far-none base empty = record {
    text = ap (λ b. (output_from means b (lines_of script)).text) empty;
    told = ap (λ b. (output_from means b (lines_of script)).refused) empty;
  }

  module _ (rest : List ℕ) (base : Base) (printed : List ℕ) (refused : Bool) (so : SoFar means script rest base printed refused) where
    -- a line more is done
    pub so_far-more : (line behind : List ℕ) → lines_of rest ≡ line ∷ lines_of behind → (held : Base) (text : List ℕ) (told : Bool)
        → held ≡ (means base (asked_by line)).base → text ≡ (means base (asked_by line)).text → told ≡ (means base (asked_by line)).refused
        → SoFar means script behind held (printed ++ text) (refused || told)
    unfolding output_from
    so_far-more line behind cut held text told base-is text-is told-is =
        let first = means base (asked_by line) in
        let further = output_from means first.base (lines_of behind) in
        record {
          text =
              ap (λ b. (printed ++ text) ++ (output_from means b (lines_of behind)).text) base-is
              ∙ ap (λ t. (printed ++ t) ++ further.text) text-is
              ∙ append_assoc printed first.text further.text
              ∙ ap (λ lines. printed ++ (output_from means base lines).text) (sym cut)
              ∙ so.text;
          told =
              ap (λ b. (refused || told) || (output_from means b (lines_of behind)).refused) base-is
              ∙ ap (λ t. (refused || t) || further.refused) told-is
              ∙ or_assoc refused first.refused further.refused
              ∙ ap (λ lines. refused || (output_from means base lines).refused) (sym cut)
              ∙ so.told;
        }

    -- all lines are done
    pub so_far-all : rest ≡ [] → (printed ≡ (output_by means script).text) × (refused ≡ (output_by means script).refused)
    unfolding output_from
    so_far-all none = (
      sym (append-nil printed) ∙ ap (λ r. printed ++ (output_from means base (lines_of r)).text) (sym none) ∙ so.text,
      sym (or-false refused) ∙ ap (λ r. refused || (output_from means base (lines_of r)).refused) (sym none) ∙ so.told,
    )
