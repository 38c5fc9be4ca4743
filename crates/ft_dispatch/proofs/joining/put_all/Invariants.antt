use Rattle.std.proofs.Common.{◌≡◌, ℤ, cond, nat_lt}
use Rattle.ft_pids.specs.Numbers.{number_of}
use Rattle.ft_dispatch.specs.Telling.{known}
use Rattle.ft_dispatch.specs.Joining.{place_behind, since_behind, over}
use Rattle.ft_dispatch.proofs.joining.put_all.Given as goal

-- what the entries below a number say is put over what was known
abbrev pub invariant-loop-number : goal.invariant-loop-number
invariant-loop-number l = (pid : ℤ) → known l.tasks pid
    ≡ cond (nat_lt (number_of l.fn.part.numbers pid) l.number) (over (since_behind (place_behind l.fn.counts) (known l.fn.part pid)) (known l.fn.tasks pid)) (known l.fn.tasks pid)
