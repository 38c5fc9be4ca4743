-- How a text is read.
use Rattle.std.specs.Prelude.{Bool, true, false, List, [], ◌∷◌, ◌++◌}
use Rattle.ft_waits.specs.declared.fault.BadLines.{BadLines}
use Rattle.ft_waits.specs.declared.left_out.Without.{Without}

-- what is done with lines that can't be read, which events are left out, and whether tasks and CPUs are summed up
pub record Choice : Type 0 where
  pub bad_lines : BadLines
  pub without : List Without
  pub sums : Bool

-- no event is left out, and nothing is summed up
abbrev pub all_events : BadLines → Choice
all_events bad_lines = record { bad_lines = bad_lines; without = []; sums = false }

-- these events are left out as well
abbrev pub and_without : Choice → Without → Choice
and_without choice without = record choice { without = choice.without ++ without ∷ [] }

-- tasks and CPUs are summed up as well
abbrev pub and_sums : Choice → Choice
and_sums choice = record choice { sums = true }
