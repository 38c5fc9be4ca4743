-- What is kept of a base, as edits and answers find it.
use Rattle.std.specs.Prelude.{◌≡◌, ℕ, List, Option, None, IfSome}
use Rattle.std.specs.Option.{is_none}
use Rattle.std.specs.Ordering.{nat_cmp}
use Rattle.std.specs.FinMap as map
use Rattle.ft_changes.specs.declared.changed.ReadingChange.{ReadingChange}
use Rattle.ft_kept.specs.Shelves.{Shelves}
use Rattle.ft_made.specs.MadeTables.{IsMadeTable, found_in}
use Rattle.ft_maps.specs.Seen.{seen}
use Rattle.ft_base.specs.Base.{Base, Triggers}
use Rattle.ft_replay.specs.Found.{saving_found}
use Rattle.ft_replay.specs.Merged.{Events, merged}
use Rattle.ft_hist.specs.Steps.{StepsGrow}
use Rattle.ft_answers.specs.Edited.{kept_of}
use Rattle.ft_answers.specs.declared.done.Kept.{Kept}
use Rattle.ft_repair.specs.KeptShelves.{AreKept, AreKeptOf}
use Rattle.ft_board.specs.Makers.{LeavesMakers}
use Rattle.ft_board.specs.MadeShelves.{MadeTables, AreMadeBy, OfEachCounted, made_on}
use Rattle.ft_board.specs.declared.views.Views.{Views}
use Rattle.ft_board.specs.inner.Mending.{CanMendTo}
use Rattle.ft_board.specs.inner.Readings.{readings_on}

-- the tables of made events, by the trigger's id
abbrev pub made_in : Views → MadeTables
made_in views = seen nat_cmp views.made

-- if there are shelves, they are kept of triggers and events, and so are the tables of made events
abbrev pub AreOf : Triggers → Events → Views → Type 0
AreOf triggers events views = IfSome views.shelves (AreKept triggers events) × IfSome views.shelves (λ _. AreMadeBy triggers events (saving_found triggers events) (made_in views))

-- what is kept is that of a base
abbrev pub AreFresh : Base → Views → Type 0
AreFresh base views = AreOf base.triggers (merged base.lanes) views

-- each attached trigger that counts made events, except one, has the table of all that a base's readings make
abbrev pub AreMadeBut : ℕ → Base → MadeTables → Type 0
AreMadeBut id base made = OfEachCounted base.triggers (λ other hist.
    (other ≡ id → ⊥) → IsMadeTable base.triggers (merged base.lanes) (saving_found base.triggers (merged base.lanes)) hist (made_on made other hist))

-- if there are shelves, and the trigger with an id leaves alone those that make events, then once it has its shelf, whatever that is, all tables of made events except its own are right
abbrev pub AwaitTrigger : ℕ → Base → Views → Type 0
AwaitTrigger id base views = IfSome views.shelves (λ _. LeavesMakers base.triggers id → (shelves : Shelves) → AreKeptOf base shelves → AreMadeBut id base (made_in views))

-- if there are shelves, the tables of made events can be mended by what was told of their readings
abbrev pub CanBeMended : Base → Option (List ReadingChange) → Views → Type 0
CanBeMended base told views = IfSome views.shelves (λ shelves. CanMendTo base.triggers (merged base.lanes) told (found_in (readings_on shelves)) (made_in views))

-- how an edit ends: it answers whether there are shelves; if there were none, there are none; no count of steps falls; if there are none, no table of made events is kept either
abbrev pub EndsAs : Kept → Views → Views → Type 0
EndsAs kept old new = (kept ≡ kept_of (is_none new.shelves)) × ((old.shelves ≡ None → new.shelves ≡ None) × (StepsGrow old.work new.work × (new.shelves ≡ None → made_in new ≡ map.empty)))
