-- The report of several edits as one: rows by trigger and key, each once.
use Rattle.std.specs.Prelude.{◌≡◌, ◌<◌, ◌||◌, ⊤, ℕ, Bool, true, false, List, Vec, Option, Some, None, MatchOption, IfSome, IsSome, IsSomeAnd, is_some, map as list_map}
use Rattle.std.specs.declared.cmp.Ordering.{Ordering}
use Rattle.std.specs.Ordering.{nat_cmp, on, then_cmp}
use Rattle.std.specs.declared.alloc.Global.{Global}
use Rattle.std.specs.BTreeMap.{BTreeMap}
use Rattle.std.specs.Cmp.{IsTotalOrder, on_total, then_total, nat_cmp_total}
use Rattle.std.specs.FinMap as map
use Rattle.std.specs.FinMap.{IsAntisymmetric}
use Rattle.std.proofs.Common.{ap}
use Rattle.std.proofs.lemmas.Map.Lookups.{exact_pairs, exact_unsigned}
use Rattle.ft_fields.specs.declared.key.Part.{Part}
use Rattle.ft_fields.specs.Parts.{key_cmp}
use Rattle.ft_fields.specs.Orders.{key_cmp_total}
use Rattle.ft_fields.specs.Ties.{key_same}
use Rattle.ft_maps.specs.Seen.{seen}
use Rattle.ft_changes.specs.declared.changed.Changed.{Changed}
use Rattle.ft_changes.specs.Reports.{is_reported}
use Rattle.ft_hist.specs.Hist.{Hist}
use Rattle.ft_hist.specs.Made.{counts_made}
use Rattle.ft_table.specs.Counted.{Counted}
use Rattle.ft_base.specs.Base.{Base}
use Rattle.ft_answers.specs.Reporting.{row_in, made_row_in}
use Rattle.ft_answers.specs.Held.{event_at}
use Rattle.ft_answers.specs.Shown.{Shown}
use Rattle.ft_answers.specs.declared.edited.Edited.{Edited}
use Rattle.ft_session.specs.Strikes.{HasGone}
use Rattle.ft_session.specs.declared.joint_report.JointReport.{JointReport}
use Rattle.ft_session.specs.declared.joint_report.NamedRow.{NamedRow}

-- rows in order: by their trigger's id, then by their key
abbrev pub row_cmp : NamedRow → NamedRow → Ordering
row_cmp = then_cmp (on (λ r. r.id) nat_cmp) (on (λ r. r.key) key_cmp)

-- the order of rows is total
pub row_cmp_total : IsTotalOrder row_cmp
row_cmp_total = then_total (on_total (λ r. r.id) nat_cmp_total) (on_total (λ r. r.key) key_cmp_total)

-- rows that tie are equal
pub row_same : IsAntisymmetric row_cmp
row_same a b h =
    ap (λ (p : ℕ × List Part). record { id = p.0; key = p.1 })
    (exact_pairs nat_cmp key_cmp exact_unsigned key_same (a.id, a.key) (b.id, b.key) h)

-- rows as code has them
abbrev pub RowTree : Type 0
RowTree = BTreeMap NamedRow (Unit {0})

-- whether they have a trigger's row of a key
abbrev pub names : RowTree → ℕ → List Part → Bool
names rows id key = is_some (map.get (seen row_cmp rows) (record { id = id; key = key }))

-- the row of an entry, as reports have it
abbrev pub row_of : NamedRow × Unit {0} → Changed
row_of entry = record { id = entry.0.id; key = entry.0.key }

-- no row is named, and if nothing is to be reported, there is no report
abbrev pub NamesNothing : Bool → Option RowTree → Type 0
NamesNothing reports rows = IfSome rows (λ rows. (id : ℕ) (key : List Part) → names rows id key ≡ false) × (reports ≡ false → rows ≡ None)

-- rows are named before or by an edit's report; a report that is missing stays so
abbrev pub Adds : Option RowTree → Option (Vec Changed Global) → Option RowTree → Type 0
Adds old report None = ⊤
Adds None report (Some new) = ⊥
Adds old None (Some new) = ⊥
Adds (Some old) (Some report) (Some new) = (id : ℕ) (key : List Part) → names new id key ≡ (names old id key || is_reported report.items id key)

-- a list has the rows, in order; there is none of rows that are missing
abbrev pub Lists : Option RowTree → Option (Vec Changed Global) → Type 0
Lists rows None = ⊤
Lists None (Some list) = ⊥
Lists (Some rows) (Some list) = list.items ≡ list_map row_of (map.entries (seen row_cmp rows))

-- what edits report together is held in place of what was held before, if there was an edit
abbrev pub IsHeld : JointReport → Option Edited → Option Edited → Type 0
IsHeld joint old new = MatchOption joint.last (new ≡ old) (λ place. IsSomeAnd new (λ edited. (edited.place ≡ place) × Lists joint.rows edited.report × Lists joint.made edited.made))

-- rows that are named cover what differs between two bases of the triggers that count made events, or of those that don't: each is of one that is attached, and all that differ are among them
pub record Covers (made : Bool) (row_of_base : Base → ℕ → List Part → Option Counted) (old new : Base) (named : ℕ → List Part → Bool) : Type 0 where
  pub held : (id : ℕ) (key : List Part) → named id key ≡ true → (hist : Hist) × ((map.get old.triggers id ≡ Some hist) × (counts_made hist ≡ made))
  pub all : (id : ℕ) (hist : Hist) → map.get old.triggers id ≡ Some hist → counts_made hist ≡ made → (key : List Part) → named id key ≡ false → row_of_base new id key ≡ row_of_base old id key

-- nothing is reported
abbrev pub IsSilent : JointReport → Type 0
IsSilent joint = (joint.rows ≡ None) × (joint.made ≡ None)

-- so many strikes made this of a desk, and report this
pub record Joins (reports : Bool) (old new : Shown) (count : ℕ) (joint : JointReport) : Type 0 where
  pub triggers : new.base.triggers ≡ old.base.triggers
  pub fewer : (cpu line : ℕ) → event_at old.base.lanes cpu line ≡ None → event_at new.base.lanes cpu line ≡ None
  pub place : IfSome joint.last (HasGone old.base new.base)
  pub rows : IfSome joint.rows (λ rows. Covers false row_in old.base new.base (names rows))
  pub made : IfSome joint.made (λ rows. Covers true made_row_in old.base new.base (names rows))
  pub silent : reports ≡ false → IsSilent joint
  pub later : old.deferred ≡ true → new.deferred ≡ true
  pub none : count ≡ 0 → (new.deferred ≡ old.deferred) × (joint.last ≡ None)
  pub some : 0 < count → (new.deferred ≡ true → IsSilent joint) × IsSome joint.last
