-- What is told of tables that are watched. All of it is our own choice.
use Rattle.std.specs.Prelude.{◌≡◌, ⊤, ℕ, ◌+◌, Bool, false, List, ◌++◌, length, Option, None, Some, is_some, option_map, IfSome, if◌then◌else◌, codes, decimal, refl}
use Rattle.std.specs.Coded.{Coded, code_by, coded×, coded_ℕ, coded_list}
use Rattle.std.specs.List.{flat_map, sum_by, AllByRecursion}
use Rattle.std.specs.Option.{option_map_or}
use Rattle.std.specs.Ordering.{nat_cmp}
use Rattle.std.specs.FinMap as map
use Rattle.std.specs.FinMap.{FinMap}
use Rattle.ft_fields.specs.contracts.key.Part as part
use Rattle.ft_fields.specs.declared.key.Part.{Part}
use Rattle.ft_fields.specs.Parts.{key_cmp}
use Rattle.ft_changes.specs.Reports.{is_reported}
use Rattle.ft_answers.specs.declared.edited.Edited.{Edited}
use Rattle.ft_answers.specs.Base.{Base}
use Rattle.ft_script.specs.Script.{Asked}
use Rattle.ft_script.specs.declared.script.Numbered.TheVariants as numbers
use Rattle.ft_watch.specs.declared.known_tables.Known.{Known}
use Rattle.ft_watch.specs.declared.known_tables.Known.TheVariants as knowns
use Rattle.ft_watch.specs.ChangedRows.{Texts, texts_at, is_same_row, change_lines, changed_keys, table_lines}

-- ---- lines

-- lines of rows that changed, and how many rows these are
pub record ChangedLines : Type 0 where
  pub lines : List ℕ
  pub count : ℕ

-- lines and a count, stored as a pair
abbrev pub changed_lines_code : Coded ChangedLines
changed_lines_code = code_by (List ℕ × ℕ) (coded× (coded_list coded_ℕ) coded_ℕ) (λ t. (t.lines, t.count)) (λ p. record { lines = p.0; count = p.1 }) (λ _. refl)

-- with a row, by its text before and now
abbrev pub with_row : ℕ → Option (List ℕ) → Option (List ℕ) → ChangedLines → ChangedLines
with_row id before now told = if is_same_row before now then told else record { lines = told.lines ++ change_lines id before now; count = told.count + 1 }

-- with the rows that differ of a trigger's table, by its rows before and now
abbrev pub with_table : ℕ → Texts → Texts → ChangedLines → ChangedLines
with_table id before now told = record { lines = told.lines ++ table_lines id before now; count = told.count + length (changed_keys before now) }

-- ---- tables

-- texts by key, stored as their list
abbrev pub texts_code : Coded Texts
texts_code = map.code (coded_list part.the_row.coded) (coded_list coded_ℕ)

-- rows in which a key's row has this text, or is not there
abbrev pub with_text : List Part → Option (List ℕ) → Texts → Texts
with_text key text texts = option_map_or (map.insert texts key) text (map.remove texts key)

-- the keys of all rows that differ are among some
abbrev pub AreAmong : FinMap key_cmp (Unit {0}) → Texts → Texts → Type 0
AreAmong keys before now = (key : List Part) → map.get keys key ≡ None → map.get now key ≡ map.get before key

-- the rows of tables by the trigger's id
abbrev pub TextsById : Type 0
TextsById = FinMap nat_cmp Texts

-- what is printed of tables by their rows before and in a base, in order of id
abbrev pub lines_since : List (ℕ × Texts) → Base → List ℕ
lines_since tables base = flat_map (λ t. table_lines t.0 t.1 (texts_at base t.0)) tables

-- how many of their rows differ
abbrev pub count_since : List (ℕ × Texts) → Base → ℕ
count_since tables base = sum_by (λ t. length (changed_keys t.1 (texts_at base t.0))) tables

-- if an edit gives both `report` and `made`, the rows of a table that it doesn't name are as they were
abbrev pub NamesRows : Edited → Base → ℕ × Texts → Type 0
NamesRows edited base table =
    IfSome edited.report (λ held. IfSome edited.made (λ made. (key : List Part) → is_reported held.items table.0 key ≡ false → is_reported made.items table.0 key ≡ false → map.get (texts_at base table.0) key ≡ map.get table.1 key))

-- the rows of the triggers that are attached in a base
abbrev pub AreShown : Base → TextsById → Type 0
AreShown base tables = (id : ℕ) → map.get tables id ≡ option_map (λ _. texts_at base id) (map.get base.triggers id)

-- tables of the triggers that are attached in a base, whatever their rows
abbrev pub AreAttached : Base → TextsById → Type 0
AreAttached base tables = (id : ℕ) → is_some (map.get tables id) ≡ is_some (map.get base.triggers id)

-- tables are what is known of them
abbrev pub AreKnown : Known → Base → TextsById → Type 0
AreKnown knowns.Shown base tables = AreShown base tables
AreKnown knowns.Attached base tables = AreAttached base tables
AreKnown knowns.Nothing base tables = ⊤

-- what is known after an edit: at most that each attached trigger has a table
abbrev pub attached_at_most : Known → Known
attached_at_most knowns.Shown = knowns.Attached
attached_at_most knowns.Attached = knowns.Attached
attached_at_most knowns.Nothing = knowns.Nothing

-- ---- commands

-- an edit is asked for that attaches nothing, removes nothing, and neither inserts nor strikes
abbrev pub KeepsIds : Asked → Type 0
KeepsIds (Asked.Load n) = ⊤
KeepsIds (Asked.Refilter id text) = ⊤
KeepsIds (Asked.About numbers.Unload cpu) = ⊤
KeepsIds asked = ⊥

-- no edit is asked for
abbrev pub AsksNoEdit : Asked → Type 0
AsksNoEdit (Asked.Load n) = ⊥
AsksNoEdit (Asked.Insert line) = ⊥
AsksNoEdit (Asked.Strike cpu line) = ⊥
AsksNoEdit (Asked.Attach name text) = ⊥
AsksNoEdit (Asked.Refilter id text) = ⊥
AsksNoEdit (Asked.About numbers.Unload cpu) = ⊥
AsksNoEdit (Asked.About numbers.Remove id) = ⊥
AsksNoEdit asked = ⊤
