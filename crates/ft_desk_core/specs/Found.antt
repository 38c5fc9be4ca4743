-- Where the held events that a desk is asked for stand.
use Rattle.std.specs.Prelude.{ℕ, List, Result, Ok, Err}
use Rattle.std.specs.Option.{option_map_or}
use Rattle.std.specs.FinMap as map
use Rattle.ft_fields.specs.Traced.{Traced}
use Rattle.ft_fields.specs.declared.event.Name.{Name}
use Rattle.ft_fields.specs.declared.event.Name.TheVariants as names
use Rattle.ft_fields.specs.declared.pos.Pos.{Pos}
use Rattle.ft_filter.specs.Answers.{filter_of}
use Rattle.ft_filter.specs.Tree.{Tree}
use Rattle.ft_filter.specs.declared.fault.FilterFault.{FilterFault}
use Rattle.ft_answers.specs.Places.{lane_places, matching_places}
use Rattle.ft_answers.specs.Base.{Base}
use Rattle.ft_base.specs.declared.refused.Refused.{Refused}
use Rattle.ft_base.specs.declared.refused.Refused.TheVariants.{NoLane, NoEvent, BadCommand}
use Rattle.ft_desk_core.specs.Edits.{◌>>=◌, filter_refusal}

-- the event of a CPU's line; refused if no such lane is held, or if it has no such line
unfoldable pub event_found : Base → ℕ → ℕ → Result Traced Refused
event_found base cpu line = option_map_or (λ lane. option_map_or (λ event. Ok event) (map.get lane.events line) (Err NoEvent)) (map.get base.lanes cpu) (Err (NoLane cpu))

-- the places of a CPU's events from a line on; refused if no such lane is held
unfoldable pub lane_found : Base → ℕ → ℕ → Result (List Pos) Refused
lane_found base cpu line = option_map_or (λ _. Ok (lane_places base.lanes cpu line)) (map.get base.lanes cpu) (Err (NoLane cpu))

-- a filter as read, or refused
abbrev pub tree_or_refused : Result Tree FilterFault → Result Tree Refused
tree_or_refused (Ok tree) = Ok tree
tree_or_refused (Err fault) = Err (filter_refusal fault)

-- a filter's text on a name; an event without a name has no filters
abbrev pub tree_for : Name → List ℕ → Result Tree Refused
tree_for names.Other text = Err BadCommand
tree_for name text = tree_or_refused (filter_of name text)

-- the places of the held events of a name on which the filter of a text holds, in merged order; refused if the text can't be read (kernel: events.rst, event filtering)
unfoldable pub matching_found : Base → Name → List ℕ → Result (List Pos) Refused
matching_found base name text = tree_for name text >>= (λ tree. Ok (matching_places base.lanes name tree))
