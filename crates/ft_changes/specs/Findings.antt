-- How what readings find changes.
use Rattle.std.specs.Prelude.{◌≡◌, ◌==◌, ℕ, List, [], ◌∷◌, Option, if◌then◌else◌}
use Rattle.std.specs.Ordering.{eq_by_cmp}
use Rattle.ft_fields.specs.Places.{pos_cmp}
use Rattle.ft_fields.specs.declared.pos.Pos.{Pos}
use Rattle.ft_changes.specs.declared.changed.ReadingChange.{ReadingChange}

-- what readings find: by the trigger that reads and the place of the reading, the place of the saving (kernel: histogram.rst, inter-event hist triggers)
abbrev pub Findings : Type 0
Findings = ℕ → Pos → Option Pos

-- what they find once one of them has changed
abbrev pub after_change : ReadingChange → Findings → Findings
after_change change found id pos = if id == change.id then (if eq_by_cmp pos_cmp pos change.pos then change.after else found id pos) else found id pos

-- changes, one after the other, lead from what readings found to what they find: each had found what its change says
abbrev pub Lead : List ReadingChange → Findings → Findings → Type 0
Lead [] found now = (id : ℕ) (pos : Pos) → now id pos ≡ found id pos
Lead (change ∷ more) found now = (found change.id change.pos ≡ change.before) × Lead more (after_change change found) now
