-- How replaying goes on: counters of the attached triggers, and the variables that are set.
use Rattle.std.specs.Prelude.{◌≡◌, ℕ, ℤ, List, [], ◌∷◌, ◌++◌, Option, Some, None, if◌then◌else◌, fold, IsSome}
use Rattle.std.specs.declared.cmp.Ordering.TheVariants.{Less}
use Rattle.std.specs.Option.{option_map_or}
use Rattle.std.specs.FinMap as map
use Rattle.std.specs.FinMap.{FinMap}
use Rattle.ft_fields.specs.Traced.{Traced}
use Rattle.ft_fields.specs.declared.pos.Pos.{Pos}
use Rattle.ft_hist.specs.Hist.{Hist}
use Rattle.ft_hist.specs.Hit.{hit}
use Rattle.ft_fields.specs.declared.key.Part.{Part}
use Rattle.ft_maps.specs.Mapped.{map_by}
use Rattle.ft_pairs.specs.Order.{at_cmp}
use Rattle.ft_pairs.specs.declared.at.At.{At}
use Rattle.ft_table.specs.Growth.{with_hit}
use Rattle.ft_table.specs.Spots.{traced}
use Rattle.ft_table.specs.Tabled.{is_in}
use Rattle.ft_hits.specs.declared.mark.Mark.{Mark}
use Rattle.ft_base.specs.Base.{Triggers}
use Rattle.ft_replay.specs.Counters.{Counting, Counters, tally_in}
use Rattle.ft_replay.specs.Replay.{State}
use Rattle.ft_table.specs.Values.{values_at}
use Rattle.ft_base.specs.Roles.{role_of}
use Rattle.ft_pairs.specs.Variables.{variable_cmp}
use Rattle.ft_replay.specs.declared.pair.Pair.{Pair}
use Rattle.ft_pairs.specs.declared.role.Role.{Role}
use Rattle.ft_pairs.specs.declared.role.Role.TheVariants.{Plain, Saves, Reads}

-- the variables that are set, each to the place of the saving event (kernel: histogram.rst, inter-event hist triggers)
abbrev pub Saved : Type 0
Saved = FinMap variable_cmp Pos

-- how far replaying has come, by counters and variables
abbrev pub state_in : Counters × Saved → State
state_in (counters, saved) = record { tallies = map_by tally_in counters; variables = saved }

-- the counter of a trigger without hits
abbrev pub new_counter : Triggers → Hist → Counting
new_counter triggers hist = record { role = role_of triggers hist.variable; table = record { hits = map.empty; size = hist.size }; pairs = [] }

-- counters, and a new one for a trigger
abbrev pub with_counter : Triggers → Counters → ℕ × Hist → Counters
with_counter triggers counters attached = map.insert counters attached.0 (new_counter triggers attached.1)

-- a counter without hits for each attached trigger
unfoldable pub new_counters : Triggers → Counters
new_counters triggers = fold (with_counter triggers) map.empty (map.entries triggers)

-- ---- a hit

-- pairs, and one more if the hit at a place read
abbrev pub pairs_with : Pos → Option Pos → List Pair → List Pair
pairs_with at None pairs = pairs
pairs_with at (Some saved) pairs = pairs ++ record { saved = saved; read = at } ∷ []

-- a counter with one more hit, and its pair if it read
abbrev pub counter_with : Mark → Option Pos → List ℤ → Counting → Counting
counter_with mark read values counter = record counter { table = with_hit counter.table mark values; pairs = pairs_with mark.spot.pos read counter.pairs }

-- a counter and the variables after a hit of a key (kernel: histogram.rst, inter-event hist triggers)
abbrev pub after_hit : (Option Pos → List ℤ) → Role → At → List Part → Counting × Saved → Counting × Saved
after_hit values Plain at key (counter, saved) = (counter_with (record { spot = traced at.pos; key = key }) None (values None) counter, saved)
after_hit values Saves at key (counter, saved) =
    let after = counter_with (record { spot = traced at.pos; key = key }) None (values None) counter in
    (after, if is_in after.table key then map.insert saved (record { saver = at.trigger; key = key }) at.pos else saved)
after_hit values (Reads saver) at key (counter, saved) =
    option_map_or (λ place. (
      counter_with (record { spot = traced at.pos; key = key }) (Some place) (values (Some place)) counter,
      map.remove saved (record { saver = saver; key = key }),
    )) (map.get saved (record { saver = saver; key = key })) (counter, saved)

-- counters and variables after a hit of a key, if the trigger has a counter
abbrev pub after_key : Hist → Traced → At → Counters × Saved → List Part → Counters × Saved
after_key hist event at (counters, saved) key =
    option_map_or (λ counter.
    let after = after_hit (values_at hist at.pos event) counter.role at key (counter, saved) in
    (map.insert counters at.trigger after.0, after.1)
    ) (map.get counters at.trigger) (counters, saved)

-- counters and variables after an event at one attached trigger
unfoldable pub after_act : Hist → Traced → At → Counters × Saved → Counters × Saved
after_act hist event at held = option_map_or (after_key hist event at held) (hit hist event) held

-- ---- what holds along a replay

-- no hit stands at an act's place in the trigger's counter
abbrev pub IsFree : At → Counters → Type 0
IsFree at counters = (counter : Counting) (key : List Part) → map.get counters at.trigger ≡ Some counter → map.get counter.table.hits (record { spot = traced at.pos; key = key }) ≡ None

-- all hits of a counter stand before an act
abbrev pub StandBefore : At → ℕ → Counting → Type 0
StandBefore at id counter = (m : Mark) → IsSome (map.get counter.table.hits m) → at_cmp (record { pos = m.spot.pos; trigger = id }) at ≡ Less

-- all hits of all counters stand before an act
abbrev pub AllBefore : At → Counters → Type 0
AllBefore at counters = (id : ℕ) (counter : Counting) → map.get counters id ≡ Some counter → StandBefore at id counter

-- all hits of all counters stand before all acts at a place
abbrev pub AllBeforePlace : Pos → Counters → Type 0
AllBeforePlace pos counters = (id : ℕ) → AllBefore (record { pos = pos; trigger = id }) counters
