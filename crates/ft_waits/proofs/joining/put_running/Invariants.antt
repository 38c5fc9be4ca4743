use Rattle.std.proofs.Common.{◌≡◌, ◌≤◌, ℕ}
use Rattle.std.specs.Prelude.{None, nat_lt, vec_len, slice_index_or, if◌then◌else◌}
use Rattle.std.specs.Option.{option_or}
use Rattle.ft_fields.specs.Traced.{last_cpu}
use Rattle.ft_waits.proofs.joining.put_running.Given as goal

abbrev pub invariant-loop-cpu : goal.invariant-loop-cpu
invariant-loop-cpu l = (vec_len l.running ≡ 8192) × ((cpu : ℕ) → cpu ≤ last_cpu → slice_index_or l.running.items cpu None
    ≡ if nat_lt cpu l.cpu then option_or (slice_index_or l.fn.part cpu None) (slice_index_or l.fn.running.items cpu None) else slice_index_or l.fn.running.items cpu None)
