-- Striking several events, one after the other. All of it is our own choice.
use Rattle.std.specs.Prelude.{◌≡◌, ℕ, ◌+◌, false, true, Bool, List, [], ◌∷◌, Option, Some, None, IfSome, IsSome, Result, Ok, Err}
use Rattle.std.specs.List.{IsDistinct}
use Rattle.std.specs.FinMap as map
use Rattle.ft_fields.specs.declared.key.Part.{Part}
use Rattle.ft_hist.specs.Hist.{Hist}
use Rattle.ft_hist.specs.Made.{counts_made}
use Rattle.ft_changes.specs.declared.changed.Changed.{Changed}
use Rattle.ft_changes.specs.Reports.{same_row, is_reported}
use Rattle.ft_base.specs.Base.{Base}
use Rattle.ft_base.specs.declared.refused.Place.{Place}
use Rattle.ft_base.specs.declared.refused.Refused.{Refused}
use Rattle.ft_answers.specs.After.{after_strike}
use Rattle.ft_answers.specs.Held.{event_at}
use Rattle.ft_answers.specs.Reporting.{row_in, IsMadeReport}
use Rattle.ft_answers.specs.Shown.{Shown}
use Rattle.ft_answers.specs.declared.edited.Edited.{Edited}
use Rattle.ft_layout.specs.declared.places.PlaceLayout.{PlaceLayout}

-- what the strikes make of a base, how many events they take, and why the next one is refused, if one is
pub record StrikesEnd : Type 0 where
  pub base : Base
  pub count : ℕ
  pub refused : Option Refused

-- what follows a first strike: the others, if it is accepted
abbrev pub struck_then : Base → (Base → StrikesEnd) → Result (Base × Place) Refused → StrikesEnd
struck_then base others (Ok done) = let rest = others done.0 in record rest { count = rest.count + 1 }
struck_then base others (Err refused) = record { base = base; count = 0; refused = Some refused }

-- striking the events at the CPUs and lines of places, in their order, up to the first one that is refused
unfoldable pub after_strikes : Base → List PlaceLayout → StrikesEnd
after_strikes base [] = record { base = base; count = 0; refused = None }
after_strikes base (place ∷ places) = struck_then base (λ new. after_strikes new places) (after_strike base place.cpu place.line)

-- a report of the rows that several edits may have changed: none twice, each of an attached trigger that counts held events, and all that differ of these
pub record IsJointReport (old new : Base) (report : List Changed) : Type 0 where
  pub once : IsDistinct same_row report
  pub held : (id : ℕ) (key : List Part) → is_reported report id key ≡ true → (hist : Hist) × ((map.get old.triggers id ≡ Some hist) × (counts_made hist ≡ false))
  pub all : (id : ℕ) (hist : Hist) → map.get old.triggers id ≡ Some hist → counts_made hist ≡ false → (key : List Part) → is_reported report id key ≡ false → row_in new id key ≡ row_in old id key

-- an event was held at a place before, and is gone
abbrev pub HasGone : Base → Base → Place → Type 0
HasGone old new place = IsSome (event_at old.lanes place.cpu place.line) × (event_at new.lanes place.cpu place.line ≡ None)

-- what strikes report, from the desk before the first of them to the one after the last: rows that may have changed, and those of made events; nothing if that isn't asked for, or if the tables lack an edit; the place is that of one of the struck events
pub record ReportsStrikes (reports : Bool) (old new : Shown) (edited : Edited) : Type 0 where
  pub place : HasGone old.base new.base edited.place
  pub rows : IfSome edited.report (λ rows. IsJointReport old.base new.base rows.items)
  pub made : IfSome edited.made (λ rows. IsMadeReport old.base new.base rows.items)
  pub silent : reports ≡ false → (edited.report ≡ None) × (edited.made ≡ None)
  pub deferred : new.deferred ≡ true → (edited.report ≡ None) × (edited.made ≡ None)
