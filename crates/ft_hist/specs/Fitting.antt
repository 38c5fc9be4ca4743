-- Which keys the key items of a trigger can make (kernel: histogram.rst, `keys` and their modifiers).
use Rattle.std.specs.Prelude.{List, [], ◌∷◌}
use Rattle.ft_hist.specs.declared.item.KeyItem.{KeyItem}
use Rattle.ft_fields.specs.declared.key.Part.{Part}
use Rattle.ft_hist.specs.Matching.{item_kind}
use Rattle.ft_hist.specs.Modifiers.{IsOfKind}

-- the part is one that the key item can make (kernel: histogram.rst, `keys` and their modifiers)
abbrev pub PartFits : KeyItem → Part → Type 0
PartFits item = IsOfKind (item_kind item)

-- the parts are as many as the key items, and fit them one by one (kernel: histogram.rst, `keys`)
abbrev pub KeyFits : List KeyItem → List Part → Type 0
KeyFits [] [] = Unit {0}
KeyFits (item ∷ items) (part ∷ parts) = PartFits item part × KeyFits items parts
KeyFits items parts = ⊥
