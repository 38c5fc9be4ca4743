use Rattle.std.proofs.Common.{◌≡◌, take}
use Rattle.std.specs.List.{flat_map}
use Rattle.ft_script.specs.Answered.{latency_line}
use Rattle.ft_script.proofs.answered.latency_lines.Given as goal

-- the lines so far are there
abbrev pub invariant-loop-latency : goal.invariant-loop-latency
invariant-loop-latency l = l.lines.items ≡ flat_map latency_line (take l.latency-index l.latencies)
