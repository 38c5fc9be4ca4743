-- What a reading makes, and how the attached triggers count it.
use Rattle.std.specs.Prelude.{◌≡◌, ℕ, List, Option, Some, None, fold, option_map, option_and_then}
use Rattle.std.specs.Option.{option_map_or}
use Rattle.std.specs.FinMap as map
use Rattle.ft_fields.specs.Traced.{Traced}
use Rattle.ft_fields.specs.declared.pos.Pos.{Pos}
use Rattle.ft_fields.specs.declared.key.Part.{Part}
use Rattle.ft_hist.specs.Hist.{Hist}
use Rattle.ft_hist.specs.Hit.{hit}
use Rattle.ft_hist.specs.Made.{made_of}
use Rattle.ft_hits.specs.declared.spot.Spot.{Spot}
use Rattle.ft_pairs.specs.declared.role.Role.{Role}
use Rattle.ft_pairs.specs.declared.role.Variable.{Variable}
use Rattle.ft_hist.specs.Triggers.{Triggers}
use Rattle.ft_base.specs.Roles.{role_of}
use Rattle.ft_replay.specs.Hits.{read_as}
use Rattle.ft_replay.specs.Replay.{Tallies, growth_by}
use Rattle.ft_replay.specs.Tally.{Tally, tell}

-- ---- what a reading makes

-- the place of the saving that a hit of a key reads, if it reads one (kernel: histogram.rst, inter-event hist triggers)
abbrev pub saving_read : Role → (Variable → Option Pos) → List Part → Option Pos
saving_read role found key = option_and_then (λ saved. saved) (read_as role found key)

-- the place of the saving that a trigger reads at an event, if the variables are these (kernel: histogram.rst, inter-event hist triggers)
abbrev pub saving_now : Triggers → (Variable → Option Pos) → Pos × Traced → ℕ × Hist → Option Pos
saving_now triggers found entry attached = option_and_then (saving_read (role_of triggers attached.1.variable) found) (hit attached.1 entry.1)

-- the event that it then makes of the saving, with its spot (kernel: histogram.rst, `onmatch`)
abbrev pub made_now : Triggers → (Variable → Option Pos) → Pos × Traced → ℕ × Hist → Option (Spot × Traced)
made_now triggers found entry attached =
    option_map (λ made. (record { pos = entry.0; maker = attached.0 }, made)) (option_and_then (made_of attached.1 entry.0 entry.1) (saving_now triggers found entry attached))

-- no attached trigger makes events of its readings
abbrev pub MakeNone : Triggers → Type 0
MakeNone triggers = (id : ℕ) (hist : Hist) → map.get triggers id ≡ Some hist → hist.onmatch ≡ None

-- ---- how it is counted

-- a tally with a made event, which is a hit of this key: it reads no variable (kernel: histogram.rst, synthetic events)
abbrev pub tell_made : Hist → Spot × Traced → List Part → Tally → Tally
tell_made hist made key tally = tell hist.size (growth_by hist made.0.pos made.1 key) made.0.pos key None tally

-- a tally with a made event, if that is a hit (kernel: histogram.rst, synthetic events)
abbrev pub count_made : Hist → Tally → Spot × Traced → Tally
count_made hist tally made = option_map_or (λ key. tell_made hist made key tally) (hit hist made.1) tally

-- a made event at one attached trigger: it is counted if it is a hit and the trigger has a tally (kernel: histogram.rst, synthetic events)
unfoldable pub count_at : Spot × Traced → Tallies → ℕ × Hist → Tallies
count_at made tallies attached =
    option_map_or (λ key. option_map_or (λ tally. map.insert tallies attached.0 (tell_made attached.1 made key tally)) (map.get tallies attached.0) tallies)
    (hit attached.1 made.1) tallies

-- a made event goes past the attached triggers, in order of id (kernel: histogram.rst, synthetic events; the order is our own choice)
unfoldable pub goes_past : Triggers → Tallies → Spot × Traced → Tallies
goes_past triggers tallies made = fold (count_at made) tallies (map.entries triggers)
