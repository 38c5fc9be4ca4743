use Rattle.std.proofs.Common.{◌≡◌, length}
use Rattle.ft_script.specs.Script.{is_space, drop_while}
use Rattle.ft_script.proofs.script.trim_start.Given as goal

abbrev pub invariant-loop-rest : goal.invariant-loop-rest
invariant-loop-rest l = drop_while is_space l.rest ≡ drop_while is_space l.fn.text

abbrev pub decreases-loop-rest : goal.decreases-loop-rest
decreases-loop-rest l = length l.rest
