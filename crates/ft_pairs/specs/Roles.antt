-- What a trigger does with a variable at a hit (kernel: histogram.rst, inter-event hist triggers).
use Rattle.std.specs.Prelude.{ℕ, Bool, List, Option, Some, None, if◌then◌else◌}
use Rattle.std.specs.Ordering.{eq_by_cmp}
use Rattle.ft_fields.specs.declared.key.Part.{Part}
use Rattle.ft_pairs.specs.declared.at.Op.{Op}
use Rattle.ft_pairs.specs.declared.at.Op.TheVariants.{Save, Read}
use Rattle.ft_pairs.specs.declared.role.Role.{Role}
use Rattle.ft_pairs.specs.declared.role.Role.TheVariants.{Plain, Saves, Reads}
use Rattle.ft_pairs.specs.declared.role.Variable.{Variable}
use Rattle.ft_pairs.specs.Variables.{variable_cmp}

-- which keys the tables of savers have
abbrev pub Admits : Type 0
Admits = ℕ → List Part → Bool

-- what a trigger with this role does to a variable at an event with this key: a saver saves its own if the key is admitted, a reader reads its saver's (kernel: histogram.rst, inter-event hist triggers)
abbrev pub op_as : Admits → Role → Variable → ℕ → List Part → Option Op
op_as admitted Plain variable id key = None
op_as admitted Saves variable id key =
    if eq_by_cmp variable_cmp variable (record { saver = id; key = key }) then (if admitted id key then Some Save else None) else None
op_as admitted (Reads saver) variable id key = if eq_by_cmp variable_cmp variable (record { saver = saver; key = key }) then Some Read else None

-- the variable that a hit of a trigger with this role is about (kernel: histogram.rst, inter-event hist triggers)
abbrev pub variable_of : Role → ℕ → List Part → Option Variable
variable_of Plain id key = None
variable_of Saves id key = Some (record { saver = id; key = key })
variable_of (Reads saver) id key = Some (record { saver = saver; key = key })
