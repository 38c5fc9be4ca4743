-- Replaying: events in merged order go past the attached triggers (kernel: histogram.rst, hist triggers; replaying held events is our own choice).
use Rattle.std.specs.Prelude.{ℕ, List, Some, None, unwrap_or, fold, if◌then◌else◌}
use Rattle.std.specs.Option.{option_map_or}
use Rattle.std.specs.Ordering.{nat_cmp}
use Rattle.std.specs.FinMap as map
use Rattle.std.specs.FinMap.{FinMap}
use Rattle.ft_fields.specs.Traced.{Traced}
use Rattle.ft_fields.specs.declared.pos.Pos.{Pos}
use Rattle.ft_fields.specs.declared.key.Part.{Part}
use Rattle.ft_hist.specs.Hist.{Hist}
use Rattle.ft_hist.specs.Hit.{hit}
use Rattle.ft_pairs.specs.declared.at.At.{At}
use Rattle.ft_table.specs.Growth.{grown, empty_row}
use Rattle.ft_pairs.specs.declared.role.Role.{Role}
use Rattle.ft_pairs.specs.declared.role.Role.TheVariants.{Plain, Saves, Reads}
use Rattle.ft_base.specs.Base.{Triggers}
use Rattle.ft_replay.specs.Merged.{Events}
use Rattle.ft_base.specs.Roles.{role_of}
use Rattle.ft_replay.specs.Tally.{Tally, RowGrowth, empty_tally, has_place, tell}
use Rattle.ft_table.specs.Values.{values_at}
use Rattle.ft_pairs.specs.Variables.{variable_cmp}

-- the tallies of triggers by id
abbrev pub Tallies : Type 0
Tallies = FinMap nat_cmp Tally

-- what replaying has come to: each trigger's tally, and the variables that are set, each to the place of the saving event (kernel: histogram.rst, inter-event hist triggers)
pub record State : Type 0 where
  pub tallies : Tallies
  pub variables : FinMap variable_cmp Pos

-- ---- one trigger at one event

-- a trigger with this tally acts at a hit of a key: a saver sets its variable if the hit is counted; a reader has no hit if its variable is unset, and otherwise unsets it (kernel: histogram.rst, inter-event hist triggers; that a reading unsets is our own choice)
abbrev pub act_as : ℕ → RowGrowth → Role → State → At → List Part → Tally → State
act_as size growth Plain state at key tally = record state { tallies = map.insert state.tallies at.trigger (tell size growth at.pos key None tally) }
act_as size growth Saves state at key tally = record {
  tallies = map.insert state.tallies at.trigger (tell size growth at.pos key None tally);
  variables = if has_place size tally.table key then map.insert state.variables (record { saver = at.trigger; key = key }) at.pos else state.variables;
}
act_as size growth (Reads saver) state at key tally =
    option_map_or (λ saved. record {
      tallies = map.insert state.tallies at.trigger (tell size growth at.pos key (Some saved) tally);
      variables = map.remove state.variables (record { saver = saver; key = key });
    }) (map.get state.variables (record { saver = saver; key = key })) state

-- a trigger acts at a hit of a key, if it has a tally
unfoldable pub act : ℕ → Role → RowGrowth → State → At → List Part → State
act size role growth state at key = option_map_or (act_as size growth role state at key) (map.get state.tallies at.trigger) state

-- ---- what a hit adds

-- a row with a trigger's hit, whether the key has a row or none yet (kernel: histogram.rst, `hitcount` and `values`)
abbrev pub growth_by : Hist → Pos → Traced → List Part → RowGrowth
growth_by hist at event key saved row = grown (values_at hist at event saved) (unwrap_or row (empty_row key))

-- ---- all triggers, all events

-- one event at one attached trigger: the trigger acts if the event is a hit (kernel: histogram.rst, hist triggers)
unfoldable pub act_at : Triggers → Pos × Traced → State → ℕ × Hist → State
act_at triggers entry state attached =
    option_map_or (λ key.
    act attached.1.size (role_of triggers attached.1.variable) (growth_by attached.1 entry.0 entry.1 key) state (record { pos = entry.0; trigger = attached.0 }) key
    ) (hit attached.1 entry.1) state

-- one event: the attached triggers act in order of id
unfoldable pub step : Triggers → State → Pos × Traced → State
step triggers state entry = fold (act_at triggers entry) state (map.entries triggers)

-- nothing counted yet at each attached trigger (kernel: histogram.rst, hist triggers)
unfoldable pub started : Triggers → Tallies
started triggers = fold (λ tallies attached. map.insert tallies attached.0 empty_tally) map.empty (map.entries triggers)

-- what replaying events in merged order gives, for each attached trigger (kernel: histogram.rst, hist triggers; replaying held events is our own choice)
unfoldable pub replay : Triggers → Events → State
replay triggers events = fold (step triggers) (record { tallies = started triggers; variables = map.empty }) (map.entries events)
