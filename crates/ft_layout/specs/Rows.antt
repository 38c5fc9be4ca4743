-- Rows of tables, their keys and totals, and which rows an edit may have changed, as C has them. All of it is our own choice.
use Rattle.std.specs.Prelude.{ℕ, pos, List, [], ◌∷◌, length, Option, is_some, slice_get}
use Rattle.std.specs.Option.{option_map_or}
use Rattle.ft_fields.specs.declared.key.Part.{Part}
use Rattle.ft_fields.specs.declared.key.Part.TheVariants.{Num, Log2, Bucket, Text}
use Rattle.ft_changes.specs.declared.changed.Changed.{Changed}
use Rattle.ft_table.specs.Counted.{Counted}
use Rattle.ft_table.specs.declared.row.Totals.{Totals}
use Rattle.ft_layout.specs.Names.{name_layout}
use Rattle.ft_layout.specs.declared.rows.TotalsLayout.{TotalsLayout}
use Rattle.ft_layout.specs.declared.rows.PartLayout.{PartLayout}
use Rattle.ft_layout.specs.declared.rows.KeyLayout.{KeyLayout}
use Rattle.ft_layout.specs.declared.rows.RowLayout.{RowLayout}
use Rattle.ft_layout.specs.declared.rows.ChangedLayout.{ChangedLayout}
use Rattle.ft_layout.specs.declared.rows.ReportLayout.{ReportLayout}

-- the totals of a table
abbrev pub totals_layout : Totals → TotalsLayout
totals_layout totals = record { hits = totals.hits; entries = totals.entries; dropped = totals.dropped }

-- a part that a key doesn't have
abbrev pub no_part : PartLayout
no_part = record { number = pos 0; bucket = 0; text = name_layout []; kind = 0 }

-- a part of a key, by its kind
abbrev pub part_layout : Part → PartLayout
part_layout (Num z) = record { number = z; bucket = 0; text = name_layout []; kind = 0 }
part_layout (Log2 n) = record { number = pos n; bucket = 0; text = name_layout []; kind = 1 }
part_layout (Bucket n) = record { number = pos 0; bucket = n; text = name_layout []; kind = 2 }
part_layout (Text bytes) = record { number = pos 0; bucket = 0; text = name_layout bytes; kind = 3 }

-- a key's part of this number, from 0
abbrev pub part_at : List Part → ℕ → PartLayout
part_at key number = option_map_or part_layout (slice_get key number) no_part

-- a key: how many parts it has, and the parts
abbrev pub key_layout : List Part → KeyLayout
key_layout key = record { parts = length key; part = part_at key 0 ∷ part_at key 1 ∷ part_at key 2 ∷ [] }

-- a row
abbrev pub row_layout : Counted → RowLayout
row_layout row = record { key = key_layout row.key; hitcount = row.hitcount; sums = row.sums }

-- a row that an edit may have changed
abbrev pub changed_layout : Changed → ChangedLayout
changed_layout changed = record { id = changed.id; key = key_layout changed.key }

-- how many rows are told of, if they are; else 0
abbrev pub count_of : Option (List Changed) → ℕ
count_of rows = option_map_or (λ told. length told) rows 0

-- how many rows an edit may have changed, if that is told
abbrev pub report_layout : Option (List Changed) → Option (List Changed) → ReportLayout
report_layout rows made = record { has_rows = is_some rows; has_made = is_some made; rows = count_of rows; made = count_of made }
