-- The bases before and after an event comes or goes.
use Rattle.std.specs.Prelude.{◌≡◌, ℕ, None, IfSome}
use Rattle.ft_fields.specs.declared.pos.Pos.{Pos}
use Rattle.ft_base.specs.Base.{Base}
use Rattle.ft_base.specs.declared.refused.Place.{Place}
use Rattle.ft_replay.specs.Merged.{merged}
use Rattle.ft_answers.specs.Reporting.{IsReport, IsMadeReport}
use Rattle.ft_answers.specs.declared.edited.Edited.{Edited}
use Rattle.ft_shelves.specs.declared.sign.Sign.{Sign}
use Rattle.ft_board.specs.declared.views.Views.{Views}
use Rattle.ft_repair.specs.OneEvent.{events_before, events_after}
use Rattle.ft_board.specs.inner.Views.{AreOf}

-- the bases before and after an event comes or goes
pub record Edit : Type 0 where
  pub old : Base
  pub new : Base

-- the place of a line in the merged order, by its event's stamp
abbrev pub pos_at : Place → ℕ → Pos
pos_at place stamp = record { stamp = stamp; cpu = place.cpu; line = place.line }

-- an edit of this sign, by which the event that a base holds at a place comes or goes
pub record IsEdit (sign : Sign) (base : Base) (pos : Pos) (edit : Edit) : Type 0 where
  pub same_before : edit.old.triggers ≡ base.triggers
  pub same_after : edit.new.triggers ≡ base.triggers
  pub was : merged edit.old.lanes ≡ events_before sign (merged base.lanes) pos
  pub is : merged edit.new.lanes ≡ events_after sign (merged base.lanes) pos

-- what is kept is that of a base's triggers and of its events before this one comes or goes
abbrev pub AreBefore : Sign → Base → Pos → Views → Type 0
AreBefore sign base pos views = AreOf base.triggers (events_before sign (merged base.lanes) pos) views

-- and of those afterwards
abbrev pub AreAfter : Sign → Base → Pos → Views → Type 0
AreAfter sign base pos views = AreOf base.triggers (events_after sign (merged base.lanes) pos) views

-- the rows that are named are reports of the bases before and after; if no shelves are left, none are named
abbrev pub ReportsEdit : Edit → Views → Edited → Type 0
ReportsEdit edit views edited =
    (IfSome edited.report (λ rows. IsReport edit.old edit.new rows.items) × (views.shelves ≡ None → edited.report ≡ None))
    × (IfSome edited.made (λ rows. IsMadeReport edit.old edit.new rows.items) × (views.shelves ≡ None → edited.made ≡ None))
