-- What a hit adds to a trigger's sums (kernel: histogram.rst, `values`).
use Rattle.std.specs.Prelude.{ℕ, List, [], ◌∷◌, Option, Some, None, ℤ, pos, slice_get}
use Rattle.std.specs.Option.{option_map_or}
use Rattle.ft_fields.specs.declared.field.Value.{Value}
use Rattle.ft_fields.specs.declared.field.Value.TheVariants as values
use Rattle.ft_fields.specs.Traced.{Traced}
use Rattle.ft_fields.specs.Fields.{field_of}
use Rattle.ft_hist.specs.declared.item.Item.{Item}
use Rattle.ft_hist.specs.declared.item.Item.TheVariants as items
use Rattle.ft_hist.specs.Hist.{Hist}

-- the number that a field holds, or 0 if the event doesn't have it or it holds a text (our own choice: sums are of numbers)
abbrev pub number_of_field : Option Value → ℤ
number_of_field (Some (values.Num z)) = z
number_of_field (Some (values.Text text)) = pos 0
number_of_field None = pos 0

-- what a value item is in an event, if the trigger's own variable holds `own` (kernel: histogram.rst, `values`)
abbrev pub value_of : Traced → ℤ → Item → ℤ
value_of event own (items.Num field) = number_of_field (field_of event field)
value_of event own items.Own = own

-- the value of this number in the trigger's order, from 0, or 0 if there is none (kernel: histogram.rst, `values`; 0 for none is our own choice)
abbrev pub value_at : Hist → Traced → ℤ → ℕ → ℤ
value_at hist event own n = option_map_or (value_of event own) (slice_get hist.values n) (pos 0)

-- the three values of an event (kernel: histogram.rst, `values`; 3 values besides `hitcount` is our own choice)
abbrev pub values_of : Hist → Traced → ℤ → List ℤ
values_of hist event own = value_at hist event own 0 ∷ value_at hist event own 1 ∷ value_at hist event own 2 ∷ []
