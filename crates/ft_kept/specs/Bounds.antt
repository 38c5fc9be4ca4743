-- How many steps a repair takes.
use Rattle.std.specs.Prelude.{◌≡◌, ℕ, Option, Some, None, option_map}
use Rattle.std.specs.Option.{option_map_or}
use Rattle.std.specs.FinMap as map
use Rattle.ft_fields.specs.Traced.{Traced}
use Rattle.ft_fields.specs.declared.pos.Pos.{Pos}
use Rattle.ft_hist.specs.Hist.{Hist}
use Rattle.ft_hist.specs.Triggers.{Triggers}
use Rattle.ft_hist.specs.Hit.{hit}
use Rattle.ft_table.specs.Growth.{with_hit}
use Rattle.ft_table.specs.OneKey.{without_hit}
use Rattle.ft_table.specs.Spots.{traced}
use Rattle.ft_table.specs.Tabled.{Tabled, is_in}
use Rattle.ft_table.specs.Values.{values_at}
use Rattle.ft_pairs.specs.declared.role.Role.TheVariants.{Saves}
use Rattle.ft_shelves.specs.Switches.{HasMoved}
use Rattle.ft_shelves.specs.Shelves.{Shelves, role_on}

-- what becomes of a trigger's table
abbrev pub TableEdit : Type 0
TableEdit = Hist → Tabled → Tabled

-- a saver's table as an event comes: with its hit, if it is one (kernel: histogram.rst, hist triggers)
abbrev pub with_hit_of : Pos → Traced → TableEdit
with_hit_of pos event hist table = option_map_or (λ key. with_hit table (record { spot = traced pos; key = key }) (values_at hist pos event None)) (hit hist event) table

-- a table as an event goes: without its hit, if it was one (kernel: histogram.rst, hist triggers)
abbrev pub without_hit_of : Pos → Traced → TableEdit
without_hit_of pos event hist table = option_map_or (λ key. without_hit table (record { spot = traced pos; key = key })) (hit hist event) table

-- a trigger's table, if it has a shelf
abbrev pub table_on : Shelves → ℕ → Option Tabled
table_on shelves id = option_map (λ shelf. shelf.table) (map.get shelves id)

-- some key comes into a trigger's table or goes out, as the table changes so
abbrev pub TableMoves : (Tabled → Tabled) → Shelves → ℕ → Type 0
TableMoves edit shelves id = (table : Tabled) × ((table_on shelves id ≡ Some table) × HasMoved (is_in table) (is_in (edit table)))

-- the trigger with an id saves, and some key comes into its table or goes out, as tables change so
abbrev pub SaverMoves : TableEdit → Hist → Shelves → ℕ → Type 0
SaverMoves edit hist shelves id = (role_on shelves id ≡ Saves) × TableMoves (edit hist) shelves id

-- some key comes into an attached saver's table or goes out, as tables change so
pub record SomeSaverMoves (edit : TableEdit) (triggers : Triggers) (shelves : Shelves) : Type 0 where
  pub id : ℕ
  pub hist : Hist
  pub attached : map.get triggers id ≡ Some hist
  pub moves : SaverMoves edit hist shelves id

-- the tables of all savers stay, except that of one trigger
abbrev pub OtherSaversStay : ℕ → Shelves → Shelves → Type 0
OtherSaversStay id old new = (other : ℕ) → (other ≡ id → ⊥) → role_on old other ≡ Saves → table_on new other ≡ table_on old other
