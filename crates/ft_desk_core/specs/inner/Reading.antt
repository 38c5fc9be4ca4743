-- Reading a trace text line by line. All of it is our own choice.
use Rattle.std.specs.Prelude.{List, ◌++◌, Result, Ok, Err}
use Rattle.ft_fields.specs.Traced.{Traced}
use Rattle.ft_base.specs.declared.refused.Refused.{Refused}

-- events that were read already, in front of those of the lines after
abbrev pub in_front : List Traced → Result (List Traced) Refused → Result (List Traced) Refused
in_front read (Ok events) = Ok (read ++ events)
in_front read (Err refused) = Err refused
