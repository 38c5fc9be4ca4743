-- How a proof tells triggers apart: by their parts.
use Rattle.std.specs.Prelude.{ℕ, List, Option, refl}
use Rattle.std.specs.FinMap as map
use Rattle.std.specs.Coded.{Coded, code_by, coded×, coded_ℕ, coded_list, coded_option}
use Rattle.ft_fields.specs.declared.event.Name.{Name}
use Rattle.ft_fields.specs.contracts.event.Name as name
use Rattle.ft_filter.specs.Tree.{Tree}
use Rattle.ft_filter.specs.Codes.{tree_code}
use Rattle.ft_hist.specs.declared.item.KeyItem.{KeyItem}
use Rattle.ft_hist.specs.contracts.item.KeyItem as key_item
use Rattle.ft_hist.specs.declared.item.Item.{Item}
use Rattle.ft_hist.specs.contracts.item.Item as item
use Rattle.ft_hist.specs.declared.item.SortItem.{SortItem}
use Rattle.ft_hist.specs.contracts.item.SortItem as sort_item
use Rattle.ft_hist.specs.declared.label.Var.{Var}
use Rattle.ft_hist.specs.contracts.label.Var as var
use Rattle.ft_hist.specs.declared.onmatch.Onmatch.{Onmatch}
use Rattle.ft_hist.specs.contracts.onmatch.Onmatch as onmatch
use Rattle.ft_hist.specs.Hist.{Hist}
use Rattle.ft_hist.specs.Triggers.{Triggers}

-- a trigger, stored as its parts
abbrev pub hist_code : Coded Hist
hist_code = code_by
    (Name × (List KeyItem × (List Item × (List SortItem × (Option Var × (ℕ × (Option Onmatch × Option Tree)))))))
    (coded× name.the_row.coded (coded× (coded_list key_item.the_row.coded) (coded× (coded_list item.the_row.coded) (coded× (coded_list sort_item.the_row.coded)
    (coded× (coded_option var.the_row.coded) (coded× coded_ℕ (coded× (coded_option onmatch.the_row.coded) (coded_option tree_code))))))))
    (λ t. (t.event, (t.keys, (t.values, (t.sort, (t.variable, (t.size, (t.onmatch, t.filter))))))))
    (λ p. record { event = p.0; keys = p.1.0; values = p.1.1.0; sort = p.1.1.1.0; variable = p.1.1.1.1.0; size = p.1.1.1.1.1.0; onmatch = p.1.1.1.1.1.1.0; filter = p.1.1.1.1.1.1.1 })
    (λ _. refl)

-- attached triggers, stored as their list
abbrev pub triggers_code : Coded Triggers
triggers_code = map.code coded_ℕ hist_code
