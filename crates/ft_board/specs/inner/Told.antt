-- What is told of a trigger: by its shelf, and as an answer.
use Rattle.std.specs.Prelude.{◌≡◌, ℕ, List, Some, unwrap_or}
use Rattle.std.specs.Option.{option_copied}
use Rattle.std.specs.FinMap as map
use Rattle.ft_hist.specs.Hist.{Hist}
use Rattle.ft_kept.specs.Shelves.{Shelved}
use Rattle.ft_table.specs.Rows.{AllFit}
use Rattle.ft_table.specs.Tabled.{Tabled}
use Rattle.ft_base.specs.Base.{Base}
use Rattle.ft_answers.specs.Answers.{tally_at, tally_shown}
use Rattle.ft_replay.specs.declared.pair.Pair.{Pair}
use Rattle.ft_replay.specs.Found.{pairs_in}
use Rattle.ft_replay.specs.Merged.{merged}
use Rattle.ft_replay.specs.Tally.{tally_of}
use Rattle.ft_board.specs.declared.kept.TableOf.{TableOf}

-- what is kept of a trigger tells what replaying tells of it, and its hits' keys fit its key items
pub record ShelfTells (base : Base) (id : ℕ) (hist : Hist) (shelf : Shelved) : Type 0 where
  pub tally : tally_at base.triggers (merged base.lanes) id ≡ tally_of shelf.table (pairs_in shelf.readings)
  pub fit : AllFit shelf.table hist

-- the table that is kept, or else the one without hits
abbrev pub tabled_in : TableOf → Tabled
tabled_in told = unwrap_or (option_copied told.kept) told.bare

-- a table tells what is shown of the attached trigger with an id, and its hits' keys fit the trigger's key items
pub record TableTells (base : Base) (id : ℕ) (told : TableOf) : Type 0 where
  pub attached : map.get base.triggers id ≡ Some told.trigger.now
  pub pairs : List Pair
  pub tally : tally_of (tabled_in told) pairs ≡ tally_shown base.triggers (merged base.lanes) id told.trigger.now
  pub fit : AllFit (tabled_in told) told.trigger.now
