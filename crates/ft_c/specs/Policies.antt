-- What is done with lines that can't be read, as C says it. All of it is our own choice.
use Rattle.std.specs.Prelude.{Bool, true, false}
use Rattle.ft_waits.specs.declared.fault.BadLines.{BadLines}
use Rattle.ft_waits.specs.declared.fault.BadLines.TheVariants.{Refuse, Skip}

-- they are skipped, or the first one is refused
abbrev pub bad_lines : Bool → BadLines
bad_lines true = Skip
bad_lines false = Refuse
