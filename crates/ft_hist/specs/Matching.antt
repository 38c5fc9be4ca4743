-- Whether the keys of two triggers can be the same, as those of a trigger that reads a variable and of the one that saves it (kernel: histogram.rst, variables).
use Rattle.std.specs.Prelude.{Bool, true, false, ◌&&◌, List, [], ◌∷◌, if◌then◌else◌}
use Rattle.ft_fields.specs.Fields.{is_text}
use Rattle.ft_hist.specs.declared.item.KeyItem.{KeyItem}
use Rattle.ft_hist.specs.Modifiers.{Kind, Texts, number_kind, same_kind}

-- what a key item makes (kernel: histogram.rst, `keys` and their modifiers)
abbrev pub item_kind : KeyItem → Kind
item_kind item = if is_text item.field then Texts else number_kind item.mode

-- two lists have the same number of key items, and the two of each pair are of the same kind
abbrev pub keys_match : List KeyItem → List KeyItem → Bool
keys_match [] [] = true
keys_match (x ∷ xs) (y ∷ ys) = same_kind (item_kind x) (item_kind y) && keys_match xs ys
keys_match xs ys = false
