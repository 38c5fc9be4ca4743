-- The numbers of refusals.
use Rattle.std.specs.Prelude.{ℕ}
use Rattle.ft_base.specs.declared.refused.Refused.{Refused}
use Rattle.ft_base.specs.declared.refused.Refused.TheVariants.{Memory, NoFile, BadLine, LaneHeld, NoLane, NoEvent, Full, BadTrigger, BadFilter, NoTrigger, InUse, NameTaken, NoVariable, KeyMismatch, TooManyTriggers, BadCommand, NotReading}

-- the number that a refused command prints
abbrev pub refused_number : Refused → ℕ
refused_number Memory = 1
refused_number NoFile = 2
refused_number (BadLine line fault) = 3
refused_number (LaneHeld cpu) = 4
refused_number (NoLane cpu) = 5
refused_number NoEvent = 6
refused_number Full = 7
refused_number (BadTrigger fault) = 8
refused_number (BadFilter fault) = 9
refused_number NoTrigger = 10
refused_number (InUse id) = 11
refused_number (NameTaken id) = 12
refused_number NoVariable = 13
refused_number KeyMismatch = 14
refused_number TooManyTriggers = 15
refused_number BadCommand = 16
refused_number NotReading = 17
