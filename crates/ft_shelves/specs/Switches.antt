-- Which keys come into a table or go out.
use Rattle.std.specs.Prelude.{◌≡◌, Bool, true, false, not, List}
use Rattle.ft_fields.specs.declared.key.Part.{Part}

-- two truth values differ
abbrev pub differ : Bool → Bool → Bool
differ true now = not now
differ false now = now

-- which keys are in a table before and after
abbrev pub Members : Type 0
Members = List Part → Bool

-- some key came in or went out
abbrev pub HasMoved : Members → Members → Type 0
HasMoved was now = (k : List Part) × (differ (was k) (now k) ≡ true)
