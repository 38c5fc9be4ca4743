-- What a desk answers: functions of what replaying its base gives.
use Rattle.std.specs.Prelude.{ℕ, ◌-◌, List, ◌++◌, unwrap_or, option_map, Option, Some, Result, Ok, Err, map as list_map, if◌then◌else◌}
use Rattle.std.specs.Option.{option_map_or}
use Rattle.std.specs.FinMap as map
use Rattle.ft_fields.specs.declared.pos.Pos.{Pos}
use Rattle.ft_hist.specs.Hist.{Hist}
use Rattle.ft_fields.specs.declared.key.Part.{Part}
use Rattle.ft_hist.specs.declared.label.Var.{Var}
use Rattle.ft_hist.specs.declared.label.Var.TheVariants as vars
use Rattle.ft_table.specs.declared.row.Totals.{Totals}
use Rattle.ft_table.specs.Counted.{Counted}
use Rattle.ft_table.specs.Keyed.{KeyedText}
use Rattle.ft_table.specs.Text.{heading, rows_text, row_text, keyed_text}
use Rattle.ft_base.specs.declared.latency.Latency.{Latency}
use Rattle.ft_base.specs.declared.refused.Place.{Place}
use Rattle.ft_base.specs.declared.refused.Refused.{Refused}
use Rattle.ft_base.specs.declared.refused.Refused.TheVariants.{NoTrigger, NotReading}
use Rattle.ft_replay.specs.declared.pair.Pair.{Pair}
pub use Rattle.ft_base.specs.Answers.{list_text}
use Rattle.ft_base.specs.Base.{Triggers, Base}
use Rattle.ft_replay.specs.Merged.{Events, merged}
use Rattle.ft_replay.specs.Tally.{Tally, empty_tally, rows_in, totals_in}
use Rattle.ft_made.specs.ReplayMaking.{replay_making}
use Rattle.ft_hist.specs.Made.{counts_made}

-- what the trigger with an id has counted of the held events, from replaying events (kernel: histogram.rst, hist triggers)
abbrev pub tally_at : Triggers → Events → ℕ → Tally
tally_at triggers events id = unwrap_or (map.get (replay_making triggers events).first.tallies id) empty_tally

-- what the trigger with an id has counted of the events that readings make, from replaying events (kernel: histogram.rst, synthetic events)
abbrev pub tally_made : Triggers → Events → ℕ → Tally
tally_made triggers events id = unwrap_or (map.get (replay_making triggers events).made id) empty_tally

-- what the table of the trigger with an id shows: held events, or made ones, by the name that it is on (kernel: histogram.rst, synthetic events)
abbrev pub tally_shown : Triggers → Events → ℕ → Hist → Tally
tally_shown triggers events id hist = if counts_made hist then tally_made triggers events id else tally_at triggers events id

-- an answer about the attached trigger with an id; refused if no trigger has the id
abbrev pub of_attached : {T : Type 0} → Triggers → ℕ → (Hist → Result T Refused) → Result T Refused
of_attached triggers id answer = option_map_or answer (map.get triggers id) (Err NoTrigger)

-- the text of a trigger with a tally (kernel: histogram.rst, the `hist` file; the layout is our own choice)
unfoldable pub tally_text : Hist → Tally → List ℕ
tally_text hist tally = heading hist ++ rows_text hist (rows_in hist.sort tally) (totals_in tally)

-- the text of the table of the trigger with an id, from replaying events (kernel: histogram.rst, the `hist` file)
abbrev pub hist_from : Triggers → Events → ℕ → Result (List ℕ) Refused
hist_from triggers events id = of_attached triggers id (λ hist. Ok (tally_text hist (tally_shown triggers events id hist)))

-- the rows of a trigger with a tally, in the order of its text: the key of each, and its text without the line break (kernel: histogram.rst, the `hist` file)
unfoldable pub tally_row_texts : Hist → Tally → List KeyedText
tally_row_texts hist tally = list_map (keyed_text hist) (rows_in hist.sort tally)

-- the rows of a trigger with a tally in numbers, in the order of its text (kernel: histogram.rst, the `hist` file)
unfoldable pub tally_rows : Hist → Tally → List Counted
tally_rows hist tally = rows_in hist.sort tally

-- the text of a key's row of a trigger with a tally, without the line break; none if the key isn't in the table (kernel: histogram.rst, the `hist` file)
unfoldable pub tally_row_text : Hist → Tally → List Part → Option (List ℕ)
tally_row_text hist tally key = option_map (row_text hist) (map.get tally.table key)

-- the rows of the table of the trigger with an id, from replaying events (kernel: histogram.rst, the `hist` file)
abbrev pub row_texts_from : Triggers → Events → ℕ → Result (List KeyedText) Refused
row_texts_from triggers events id = of_attached triggers id (λ hist. Ok (tally_row_texts hist (tally_shown triggers events id hist)))

-- the rows of the table of the trigger with an id in numbers, from replaying events (kernel: histogram.rst, the `hist` file)
abbrev pub rows_from : Triggers → Events → ℕ → Result (List Counted) Refused
rows_from triggers events id = of_attached triggers id (λ hist. Ok (tally_rows hist (tally_shown triggers events id hist)))

-- the text of a key's row of the table of the trigger with an id, from replaying events (kernel: histogram.rst, the `hist` file)
abbrev pub row_text_from : Triggers → Events → ℕ → List Part → Result (Option (List ℕ)) Refused
row_text_from triggers events id key = of_attached triggers id (λ hist. Ok (tally_row_text hist (tally_shown triggers events id hist) key))

-- the totals of the trigger with an id, from replaying events (kernel: histogram.rst, `Hits`, `Entries` and `Dropped`)
abbrev pub totals_from : Triggers → Events → ℕ → Result Totals Refused
totals_from triggers events id = of_attached triggers id (λ hist. Ok (totals_in (tally_shown triggers events id hist)))

-- the line that stands at a place in the merged order
abbrev pub line_at : Pos → Place
line_at at = record { cpu = at.cpu; line = at.line }

-- a pair as a latency: the microseconds from the saving to the reading (kernel: histogram.rst, wakeup latencies)
abbrev pub latency_of : Pair → Latency
latency_of pair = record { saved = line_at pair.saved; read = line_at pair.read; micros = pair.read.stamp - pair.saved.stamp }

-- the latencies of a trigger, by its variable; refused if the trigger reads none
abbrev pub latencies_as : Option Var → Tally → Result (List Latency) Refused
latencies_as (Some (vars.Reads own source)) tally = Ok (list_map latency_of tally.pairs)
latencies_as variable tally = Err NotReading

-- the latencies of the trigger with an id, in merged order of the reading, from replaying events (kernel: histogram.rst, wakeup latencies)
abbrev pub latencies_from : Triggers → Events → ℕ → Result (List Latency) Refused
latencies_from triggers events id = of_attached triggers id (λ hist. latencies_as hist.variable (tally_at triggers events id))

-- what the readings of a trigger found, by its variable; refused if the trigger reads none (kernel: histogram.rst, inter-event hist triggers)
abbrev pub pairs_as : Option Var → Tally → Result (List Pair) Refused
pairs_as (Some (vars.Reads own source)) tally = Ok tally.pairs
pairs_as variable tally = Err NotReading

-- what the readings of the trigger with an id found, in merged order of the reading, from replaying events (kernel: histogram.rst, inter-event hist triggers)
abbrev pub pairs_from : Triggers → Events → ℕ → Result (List Pair) Refused
pairs_from triggers events id = of_attached triggers id (λ hist. pairs_as hist.variable (tally_at triggers events id))

-- ---- of a base

-- the text of a trigger's table (kernel: histogram.rst, the `hist` file)
unfoldable pub hist_text : Base → ℕ → Result (List ℕ) Refused
hist_text base = hist_from base.triggers (merged base.lanes)

-- the rows of a trigger's table (kernel: histogram.rst, the `hist` file)
unfoldable pub row_texts_shown : Base → ℕ → Result (List KeyedText) Refused
row_texts_shown base = row_texts_from base.triggers (merged base.lanes)

-- the rows of a trigger's table in numbers (kernel: histogram.rst, the `hist` file)
unfoldable pub rows_shown : Base → ℕ → Result (List Counted) Refused
rows_shown base = rows_from base.triggers (merged base.lanes)

-- the text of a key's row of a trigger's table (kernel: histogram.rst, the `hist` file)
unfoldable pub row_text_shown : Base → ℕ → List Part → Result (Option (List ℕ)) Refused
row_text_shown base = row_text_from base.triggers (merged base.lanes)

-- a trigger's totals (kernel: histogram.rst, `Hits`, `Entries` and `Dropped`)
unfoldable pub totals : Base → ℕ → Result Totals Refused
totals base = totals_from base.triggers (merged base.lanes)

-- a trigger's latencies (kernel: histogram.rst, wakeup latencies)
unfoldable pub latencies : Base → ℕ → Result (List Latency) Refused
latencies base = latencies_from base.triggers (merged base.lanes)

-- what a trigger's readings found (kernel: histogram.rst, inter-event hist triggers)
unfoldable pub pairs_shown : Base → ℕ → Result (List Pair) Refused
pairs_shown base = pairs_from base.triggers (merged base.lanes)
