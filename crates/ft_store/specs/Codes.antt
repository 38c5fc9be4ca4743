-- How a proof tells stores apart: by the list of their events.
use Rattle.std.specs.Prelude.{List}
use Rattle.std.specs.Coded.{Coded, coded_list}
use Rattle.ft_fields.specs.Traced.{Traced}
use Rattle.ft_fields.specs.Codes.{traced_code}

-- a store, stored as the list of its events
abbrev pub store_code : Coded (List Traced)
store_code = coded_list traced_code
