-- What a script prints. All of it is our own choice.
use Rattle.std.specs.Prelude.{ℕ, ◌-◌, Bool, true, false, ◌||◌, List, [], ◌∷◌, ◌++◌, Option, None, Result, Ok, Err, ◌==◌, if◌then◌else◌, codes, decimal, slice_get}
use Rattle.std.specs.Option.{option_map_or}
use Rattle.ft_base.specs.declared.refused.Refused.{Refused}
use Rattle.ft_base.specs.declared.refused.Refused.TheVariants.{NoFile, BadCommand}
use Rattle.ft_answers.specs.Base.{Base, empty_base}
use Rattle.ft_answers.specs.After.{after_unload, after_strike, after_remove}
use Rattle.ft_answers.specs.Answers.{hist_text, totals, latencies, list_text}
use Rattle.ft_text.specs.Lines.{lines_of}
use Rattle.ft_script.specs.Script.{Asked, asked_by}
use Rattle.ft_script.specs.declared.script.Numbered.{Numbered}
use Rattle.ft_script.specs.declared.script.Numbered.TheVariants as numbers
use Rattle.ft_script.specs.Answered.{totals_line, lane_place_text, latency_lines}
use Rattle.ft_script.specs.Refusals.{refused_text}
use Rattle.ft_desk_core.specs.Edits.{after_load_text, after_insert_text, after_attach_text, after_refilter_text}

-- the Nth file, from 1
abbrev pub file_at : List (List ℕ) → ℕ → Option (List ℕ)
file_at files n = if n == 0 then None else slice_get files (n - 1)

-- loading the Nth file
unfoldable pub after_load_file : List (List ℕ) → Base → ℕ → Result (Base × ℕ) Refused
after_load_file files base n = option_map_or (after_load_text base) (file_at files n) (Err NoFile)

-- what lines of a script print and make of the base, and whether one was refused
pub record Outcome : Type 0 where
  pub text : List ℕ
  pub base : Base
  pub refused : Bool

-- an edit prints its word and what its value shows as, or its refusal, which keeps the base
abbrev pub edit_outcome : {T : Type 0} → (T → List ℕ) → Base → List ℕ → Result (Base × T) Refused → Outcome
edit_outcome shown base word (Ok done) = record { text = word ++ shown done.1 ++ codes "\n"; base = done.0; refused = false }
edit_outcome shown base word (Err refused) = record { text = refused_text refused; base = base; refused = true }

-- an answer prints what its text shows, or its refusal
abbrev pub answer_outcome : {T : Type 0} → (T → List ℕ) → Base → Result T Refused → Outcome
answer_outcome shown base (Ok answer) = record { text = shown answer; base = base; refused = false }
answer_outcome shown base (Err refused) = record { text = refused_text refused; base = base; refused = true }

-- what a command about one number does: a lane's CPU, or a trigger's id
unfoldable pub outcome_about : Base → Numbered → ℕ → Outcome
outcome_about base numbers.Unload cpu = edit_outcome decimal base (codes "unloaded ") (after_unload base cpu)
outcome_about base numbers.Remove id = edit_outcome decimal base (codes "removed ") (after_remove base id)
outcome_about base numbers.Hist id = answer_outcome (λ text. text) base (hist_text base id)
outcome_about base numbers.Totals id = answer_outcome totals_line base (totals base id)
outcome_about base numbers.Latencies id = answer_outcome latency_lines base (latencies base id)
outcome_about base numbers.Lane cpu = answer_outcome (λ text. text) base (list_text base cpu)

-- what a command does
unfoldable pub outcome : List (List ℕ) → Base → Asked → Outcome
outcome files base Asked.Nothing = record { text = []; base = base; refused = false }
outcome files base (Asked.Load n) = edit_outcome decimal base (codes "loaded ") (after_load_file files base n)
outcome files base (Asked.Insert line) = edit_outcome lane_place_text base (codes "inserted ") (after_insert_text base line)
outcome files base (Asked.Strike cpu line) = edit_outcome lane_place_text base (codes "struck ") (after_strike base cpu line)
outcome files base (Asked.Attach name text) = edit_outcome decimal base (codes "attached ") (after_attach_text base name text)
outcome files base (Asked.Refilter id text) = edit_outcome decimal base (codes "refiltered ") (after_refilter_text base id text)
outcome files base (Asked.About what number) = outcome_about base what number
outcome files base Asked.NoForm = record { text = refused_text BadCommand; base = base; refused = true }

-- what commands mean: what each prints of a base and makes of it
abbrev pub Meaning : Type 0
Meaning = Base → Asked → Outcome

-- what lines of a script do, one after the other, from a base on
unfoldable pub output_from : Meaning → Base → List (List ℕ) → Outcome
output_from means base [] = record { text = []; base = base; refused = false }
output_from means base (line ∷ lines) =
    let first = means base (asked_by line) in
    let rest = output_from means first.base lines in
    record { text = first.text ++ rest.text; base = rest.base; refused = first.refused || rest.refused }

-- what the first lines of a script do
abbrev pub output_of_lines : Meaning → List (List ℕ) → Outcome
output_of_lines means lines = output_from means empty_base lines

-- what a script does
abbrev pub output_by : Meaning → List ℕ → Outcome
output_by means script = output_of_lines means (lines_of script)

-- what a script does of a desk, with the trace files that it may load
abbrev pub output : List (List ℕ) → List ℕ → Outcome
output files script = output_by (outcome files) script
