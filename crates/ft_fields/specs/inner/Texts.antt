-- What structs of the code point to.
use Rattle.ft_fields.specs.Fields.{Row}
use Rattle.ft_fields.specs.declared.field.Row as declared_row

-- the row that a `Row` of the code says
abbrev pub as_row : declared_row.Row → Row
as_row r = record { name = r.name.now; owner = r.owner; kind = r.kind }
