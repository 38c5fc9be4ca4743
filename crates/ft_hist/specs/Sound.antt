-- What holds of every trigger that some text gives (kernel: histogram.rst, hist triggers).
use Rattle.std.specs.Prelude.{ℕ, Bool, true, false, not, ◌&&◌, ◌||◌, nat_lt, ◌≡◌, length, Option, Some}
use Rattle.std.specs.List.{list_all}
use Rattle.std.specs.Option.{is_some, option_map_or}
use Rattle.ft_fields.specs.declared.event.Name.{Name}
use Rattle.ft_fields.specs.declared.event.Name.TheVariants as names
use Rattle.ft_fields.specs.declared.field.Field.{Field}
use Rattle.ft_fields.specs.Fields.{has_field, is_text}
use Rattle.ft_fields.specs.Names.{is_traced}
use Rattle.ft_hist.specs.declared.item.KeyItem.{KeyItem}
use Rattle.ft_hist.specs.declared.item.Item.{Item}
use Rattle.ft_hist.specs.declared.item.Item.TheVariants as items
use Rattle.ft_hist.specs.declared.item.SortBy.{SortBy}
use Rattle.ft_hist.specs.declared.item.SortBy.TheVariants as sorts
use Rattle.ft_hist.specs.declared.label.Var.{Var}
use Rattle.ft_hist.specs.declared.label.Var.TheVariants as vars
use Rattle.ft_hist.specs.declared.onmatch.Onmatch.{Onmatch}
use Rattle.ft_hist.specs.Hist.{Hist}
use Rattle.ft_hist.specs.Hit.{same_name}
use Rattle.ft_hist.specs.Modifiers.{mode_suits}

-- a key item is of a field that the event has, and its modifier suits the field (kernel: histogram.rst, `keys`)
abbrev pub key_suits : Name → KeyItem → Bool
key_suits event key = has_field event key.field && mode_suits (is_text key.field) key.mode

-- a field of numbers that the event has (kernel: histogram.rst, `values`)
abbrev pub number_suits : Name → Field → Bool
number_suits event field = has_field event field && not (is_text field)

-- a value item is a field of numbers that the event has, or the own variable if there is one (kernel: histogram.rst, `values`)
abbrev pub value_suits : Name → Option Var → Item → Bool
value_suits event variable (items.Num field) = number_suits event field
value_suits event variable items.Own = is_some variable

-- what rows are sorted by is there, with so many keys and values (kernel: histogram.rst, `sort`)
abbrev pub by_suits : ℕ → ℕ → SortBy → Bool
by_suits keys values sorts.Hits = true
by_suits keys values (sorts.Key n) = nat_lt n keys
by_suits keys values (sorts.Value n) = nat_lt n values

-- a trigger with this variable reads one, and so has latencies (kernel: histogram.rst, inter-event hist triggers)
abbrev pub is_reader : Option Var → Bool
is_reader (Some (vars.Reads own source)) = true
is_reader variable = false

-- events are made of latencies, of a stamp saved at an event of the kernel, and of fields of numbers that the event has (kernel: histogram.rst, the `onmatch` handler)
abbrev pub onmatch_suits : Name → Option Var → Onmatch → Bool
onmatch_suits event variable onmatch = is_reader variable && (is_traced onmatch.event && (number_suits event onmatch.pid && number_suits event onmatch.prio))

-- a trigger on the event that triggers make has no variable, and makes none itself (our own choice)
abbrev pub is_last : Hist → Bool
is_last hist = not (same_name hist.event names.WakeupLatency) || (not (is_some hist.variable) && not (is_some hist.onmatch))

-- a trigger's items are its event's, its sort items its own, and what it makes events of is its own (kernel: histogram.rst, hist triggers)
pub record IsSound (hist : Hist) : Type 0 where
  pub keys : list_all (key_suits hist.event) hist.keys ≡ true
  pub values : list_all (value_suits hist.event hist.variable) hist.values ≡ true
  pub sort : list_all (λ item. by_suits (length hist.keys) (length hist.values) item.what) hist.sort ≡ true
  pub onmatch : option_map_or (onmatch_suits hist.event hist.variable) hist.onmatch true ≡ true
  pub last : is_last hist ≡ true
