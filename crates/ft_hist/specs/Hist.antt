-- Hist triggers (kernel: histogram.rst, hist triggers).
use Rattle.std.specs.Prelude.{ℕ, ◌≤◌, ◌<◌, List, length, Option, None, option_map}
use Rattle.ft_fields.specs.declared.event.Name.{Name}
use Rattle.ft_filter.specs.Tree.{Tree, Condition}
use Rattle.ft_hist.specs.declared.item.KeyItem.{KeyItem}
use Rattle.ft_hist.specs.declared.item.Item.{Item}
use Rattle.ft_hist.specs.declared.item.SortItem.{SortItem}
use Rattle.ft_hist.specs.declared.label.Var.{Var}
use Rattle.ft_hist.specs.declared.onmatch.Onmatch.{Onmatch}

-- a trigger: its event, what it counts under, what it sums, how its rows are sorted, its variable, the most keys of its table, what it makes events of, and its filter (kernel: histogram.rst, hist triggers)
pub record Hist : Type 0 where
  pub event : Name
  pub keys : List KeyItem
  pub values : List Item
  pub sort : List SortItem
  pub variable : Option Var
  pub size : ℕ
  pub onmatch : Option Onmatch
  pub filter : Option Tree

-- the trigger of these parts, with its filter as a tree, that makes no events
abbrev pub hist_with : Name → List KeyItem → List Item → List SortItem → Option Var → ℕ → Option Condition → Hist
hist_with event keys values sort variable size filter =
    record { event = event; keys = keys; values = values; sort = sort; variable = variable; size = size; onmatch = None; filter = option_map (λ f. f.tree) filter }

-- the trigger with this onmatch part, or none, in place of its own
abbrev pub hist_with_onmatch : Hist → Option Onmatch → Hist
hist_with_onmatch hist onmatch = record hist { onmatch = onmatch }

-- the trigger with this filter, or none, in place of its own
abbrev pub with_filter : Hist → Option Tree → Hist
with_filter hist filter = record hist { filter = filter }

-- a trigger is within its limits: 1 to 3 keys, at most 3 values, 1 or 2 sort items, a size of 128 to 131,072 (kernel: histogram.rst, hist triggers; 3 values besides `hitcount` is our own choice)
pub record IsWithin (hist : Hist) : Type 0 where
  pub some_keys : 0 < length hist.keys
  pub few_keys : length hist.keys ≤ 3
  pub few_values : length hist.values ≤ 3
  pub some_sort : 0 < length hist.sort
  pub few_sort : length hist.sort ≤ 2
  pub least_size : 128 ≤ hist.size
  pub most_size : hist.size ≤ 131072
