use Rattle.std.proofs.Common.{◌≡◌, ◌≤◌, ◌+◌, ℕ}
use Rattle.std.specs.Prelude.{min, nat_lt, vec_len, slice_index, if◌then◌else◌}
use Rattle.ft_fields.specs.Traced.{last_cpu}
use Rattle.ft_waits.proofs.joining.add_lines.Given as goal

abbrev pub invariant-loop-cpu : goal.invariant-loop-cpu
invariant-loop-cpu l = (vec_len l.lines ≡ 8192) × ((cpu : ℕ) → cpu ≤ last_cpu → slice_index l.lines.items cpu
    ≡ if nat_lt cpu l.cpu then min (slice_index l.fn.lines.items cpu + slice_index l.fn.part cpu) 4294967295 else slice_index l.fn.lines.items cpu)
