-- Attached triggers (kernel: events.rst, the `trigger` file of an event).
use Rattle.std.specs.Ordering.{nat_cmp}
use Rattle.std.specs.FinMap.{FinMap}
use Rattle.ft_hist.specs.Hist.{Hist}

-- attached triggers by id
abbrev pub Triggers : Type 0
Triggers = FinMap nat_cmp Hist
