-- What a walk over events or lanes shows.
use Rattle.std.specs.Prelude.{ℕ}
use Rattle.ft_fields.specs.Traced.{Traced}
use Rattle.ft_store.specs.Stored.{held}
use Rattle.ft_store.specs.declared.stored.Stored.{Stored}

-- a line number, and the event that a reference into a store points to
abbrev pub traced_line : ℕ × Stored → ℕ × Traced
traced_line p = (p.0, held p.1)

-- what is given by value
abbrev pub itself : {X : Type 0} → X → X
itself x = x
