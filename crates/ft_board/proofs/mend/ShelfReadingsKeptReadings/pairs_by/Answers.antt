-- Without a shelf there is no reading.
use Rattle.std.proofs.Common.{ap, sym, ◌∙◌, List, Option, map as list_map}
use Rattle.std.specs.Option.{option_map_or}
use Rattle.std.specs.FinMap as map
use Rattle.ft_maps.specs.Entries.{entries-empty}
use Rattle.ft_fields.specs.Places.{pos_cmp}
use Rattle.ft_fields.specs.declared.pos.Pos.{Pos}
use Rattle.ft_kept.specs.Shelves.{Shelved}
use Rattle.ft_replay.specs.Found.{pairs_in}
use Rattle.ft_replay.specs.declared.pair.Pair.{Pair}
use Rattle.ft_board.proofs.mend.ShelfReadingsKeptReadings.pairs_by.Goals as goal

pub returns-in-None : goal.returns-in-None
returns-in-None c =
    c.new.ensures.items
    ∙ sym (ap list_of (entries-empty pos_cmp))
    ∙ ap (λ (o : Option Shelved). pairs_in (option_map_or (λ (s : Shelved). s.readings) o map.empty)) c.in-None.ensures
  where
    list_of : List (Pos × Pos) → List Pair
    list_of es = list_map (λ (e : Pos × Pos). let pair : Pair = record { saved = e.1; read = e.0 } in pair) es
