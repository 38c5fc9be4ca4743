-- How the text of a table is made of its rows' texts, and which of them a key's row has.
use Rattle.std.specs.Prelude.{◌≡◌, ℕ, List, [], ◌∷◌, ◌++◌, codes, Option, Some, None, Ok, if◌then◌else◌}
use Rattle.std.specs.List.{flat_map}
use Rattle.std.specs.FinMap as map
use Rattle.ft_hist.specs.Hist.{Hist}
use Rattle.ft_fields.specs.declared.key.Part.{Part}
use Rattle.ft_fields.specs.Parts.{same_key}
use Rattle.ft_table.specs.Keyed.{KeyedText}
use Rattle.ft_table.specs.declared.row.Totals.{Totals}
use Rattle.ft_table.specs.Text.{heading, totals_text}
use Rattle.ft_base.specs.Base.{Base}
use Rattle.ft_answers.specs.Answers.{hist_text, row_texts_shown, row_text_shown, totals}

-- the texts of rows, each with a line break
abbrev pub row_lines : List KeyedText → List ℕ
row_lines rows = flat_map (λ row. row.text ++ codes "\n") rows

-- the text of a trigger's table is the lines above its rows, the texts of its rows, each with a line break, and its totals (kernel: histogram.rst, the `hist` file)
abbrev pub RowsMakeText : Type 0
RowsMakeText = (base : Base) (id : ℕ) (hist : Hist) (rows : List KeyedText) (told : Totals)
    → map.get base.triggers id ≡ Some hist → row_texts_shown base id ≡ Ok rows → totals base id ≡ Ok told
    → hist_text base id ≡ Ok (heading hist ++ (row_lines rows ++ totals_text told))

-- the text of a key's row among rows, if there is one
abbrev pub text_among : List Part → List KeyedText → Option (List ℕ)
text_among key [] = None
text_among key (row ∷ rows) = if same_key key row.key then Some row.text else text_among key rows

-- the text of a key's row is the one that it has among all rows of the table, and there is none for a key without a row there (kernel: histogram.rst, the `hist` file)
abbrev pub RowIsAmong : Type 0
RowIsAmong = (base : Base) (id : ℕ) (key : List Part) (rows : List KeyedText) → row_texts_shown base id ≡ Ok rows → row_text_shown base id key ≡ Ok (text_among key rows)
