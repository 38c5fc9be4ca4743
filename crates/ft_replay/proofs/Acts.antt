-- The replay as one list of acts: what each trigger counts, and what becomes of each variable.
use Rattle.std.proofs.Common.{ℕ, Bool, cond, List, Some, None, Option}
use Rattle.std.specs.Prelude.{fold, filter, option_map}
use Rattle.std.specs.List.{flat_map, filter_map}
use Rattle.std.specs.Option.{option_map_or}
use Rattle.std.specs.Ordering.{nat_cmp, eq_by_cmp, is_lt}
use Rattle.std.specs.FinMap as map
use Rattle.ft_fields.specs.Traced.{Traced}
use Rattle.ft_fields.specs.declared.pos.Pos.{Pos}
use Rattle.ft_fields.specs.declared.key.Part.{Part}
use Rattle.ft_hist.specs.Hist.{Hist}
use Rattle.ft_hist.specs.Hit.{hit}
use Rattle.ft_pairs.specs.declared.at.At.{At}
use Rattle.ft_pairs.specs.Order.{at_cmp}
use Rattle.ft_table.specs.Growth.{empty_row}
use Rattle.ft_pairs.specs.declared.role.Role.{Role}
use Rattle.ft_pairs.specs.declared.role.Role.TheVariants.{Plain, Saves, Reads}
use Rattle.ft_pairs.specs.declared.role.Variable.{Variable}
use Rattle.ft_base.specs.Base.{Triggers}
use Rattle.ft_replay.specs.Merged.{Events}
use Rattle.ft_replay.specs.Hits.{read_as}
use Rattle.ft_replay.specs.Replay.{State, act, growth_by}
use Rattle.ft_replay.specs.Tally.{Tally, RowGrowth, empty_tally, tell}
use Rattle.ft_pairs.specs.Variables.{variable_cmp}

-- a trigger at an event that has a key for it
pub record Act : Type 0 where
  pub at : At
  pub key : List Part
  pub event : Traced

-- ---- the acts of a replay

abbrev pub made : Pos × Traced → ℕ → List Part → Act
made entry id key = record { at = record { pos = entry.0; trigger = id }; key = key; event = entry.1 }

abbrev pub act_of : Pos × Traced → ℕ × Hist → Option Act
act_of entry attached = option_map (made entry attached.0) (hit attached.1 entry.1)

abbrev pub acts_at : Triggers → Pos × Traced → List Act
acts_at triggers entry = filter_map (act_of entry) (map.entries triggers)

-- all acts, by the event's place and then by the trigger's id
unfoldable pub acts_in : Triggers → Events → List Act
acts_in triggers events = flat_map (acts_at triggers) (map.entries events)

-- the acts before a place
abbrev pub is_before : At → Act → Bool
is_before at a = is_lt (at_cmp a.at at)

-- ---- what triggers are, by their ids

unfoldable pub size_at : Triggers → ℕ → ℕ
size_at triggers id = option_map_or (λ hist. hist.size) (map.get triggers id) 0

unfoldable pub growth_at : Triggers → Act → RowGrowth
growth_at triggers a = option_map_or (λ hist. growth_by hist a.at.pos a.event a.key) (map.get triggers a.at.trigger) (λ saved row. empty_row a.key)

-- ---- what a list of acts comes to, whatever the triggers are

module _ (size : ℕ → ℕ) (role : ℕ → Role) (growth : Act → RowGrowth) where
  abbrev pub run : State → List Act → State
  run = fold (λ state a. act (size a.at.trigger) (role a.at.trigger) (growth a) state a.at a.key)

module _ (size : ℕ → ℕ) (growth : Act → RowGrowth) where
  -- a tally with one more hit
  abbrev pub tell_act : Act → Option Pos → Tally → Tally
  tell_act a saved tally = tell (size a.at.trigger) (growth a) a.at.pos a.key saved tally

  -- what an act tells the trigger with an id, which reads nothing
  abbrev pub told_plain : ℕ → Tally → Act → Tally
  told_plain id tally a = cond (eq_by_cmp nat_cmp id a.at.trigger) (tell_act a None tally) tally

-- ---- the same told without a state: of each trigger and each variable, from the acts before

module _ (size : ℕ → ℕ) (role : ℕ → Role) (growth : Act → RowGrowth) (acts : List Act) where
  -- the key is in the table of the trigger with an id, which reads nothing, at the end
  unfoldable pub admits : ℕ → List Part → Bool
  admits id key = map.contains_key (fold (told_plain size growth id) empty_tally acts).table key

  -- what an act leaves of a variable
  abbrev pub left_as : Role → Variable → Option Pos → Act → Option Pos
  left_as Plain variable old a = old
  left_as Saves variable old a =
      cond (eq_by_cmp variable_cmp variable (record { saver = a.at.trigger; key = a.key })) (cond (admits a.at.trigger a.key) (Some a.at.pos) old) old
  left_as (Reads saver) variable old a = cond (eq_by_cmp variable_cmp variable (record { saver = saver; key = a.key })) None old

  abbrev pub left : Variable → Option Pos → Act → Option Pos
  left variable old a = left_as (role a.at.trigger) variable old a

  -- what the acts before a place leave of a variable
  unfoldable pub left_before : Variable → At → Option Pos
  left_before variable at = fold (left variable) None (filter (is_before at) acts)

  abbrev pub read_by : Role → Act → Option (Option Pos)
  read_by r a = read_as r (λ variable. left_before variable a.at) a.key

  -- what an act tells the trigger with an id
  unfoldable pub told : ℕ → Tally → Act → Tally
  told id tally a =
      cond (eq_by_cmp nat_cmp id a.at.trigger) (option_map_or (λ saved. tell_act size growth a saved tally) (read_by (role a.at.trigger) a) tally) tally
