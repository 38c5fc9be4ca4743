-- What is kept before and after one event comes or goes, and what that costs.
use Rattle.std.specs.FinMap as map
use Rattle.ft_fields.specs.Traced.{Traced}
use Rattle.ft_fields.specs.declared.pos.Pos.{Pos}
use Rattle.ft_hist.specs.Steps.{Steps}
use Rattle.ft_kept.specs.Shelves.{Shelves}
use Rattle.ft_shelves.specs.declared.sign.Sign.{Sign}
use Rattle.ft_shelves.specs.declared.sign.Sign.TheVariants.{Insert, Retract}
use Rattle.ft_base.specs.Base.{Base, Triggers}
use Rattle.ft_replay.specs.Costs.{CostsOf}
use Rattle.ft_hist.specs.Hit.{IsNoHit}
use Rattle.ft_base.specs.PlainHits.{IsPlainHit}
use Rattle.ft_replay.specs.Merged.{Events, merged}
use Rattle.ft_repair.specs.KeptShelves.{AreKept}

-- the ones among these events that are kept before the one at a place comes or goes
abbrev pub events_before : Sign → Events → Pos → Events
events_before Insert events pos = map.remove events pos
events_before Retract events pos = events

-- and those that are kept afterwards
abbrev pub events_after : Sign → Events → Pos → Events
events_after Insert events pos = events
events_after Retract events pos = map.remove events pos

-- the shelves are kept of a base's triggers, of all its events except the one at a place, and of that one if it has still to go
abbrev pub AreKeptBefore : Sign → Base → Pos → Shelves → Type 0
AreKeptBefore sign base pos shelves = AreKept base.triggers (events_before sign (merged base.lanes) pos) shelves

-- and of that one if it has come
abbrev pub AreKeptAfter : Sign → Base → Pos → Shelves → Type 0
AreKeptAfter sign base pos shelves = AreKept base.triggers (events_after sign (merged base.lanes) pos) shelves

-- what it costs if an event that a base holds at a place comes to tables or goes from them
abbrev pub ChangeCosts : Sign → Base → Pos → Traced → Steps → Steps → Type 0
ChangeCosts sign base pos event old new = CostsOf base.triggers event (events_before sign (merged base.lanes) pos) (events_after sign (merged base.lanes) pos) old new

-- no memory is needed for an event: one that comes is no hit of any trigger, one that goes is a hit only of triggers without a variable
abbrev pub EventNeedsNoMemory : Sign → Triggers → Traced → Type 0
EventNeedsNoMemory Insert triggers event = IsNoHit triggers event
EventNeedsNoMemory Retract triggers event = IsPlainHit triggers event
