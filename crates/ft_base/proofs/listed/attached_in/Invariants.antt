use Rattle.std.proofs.Common.{◌≡◌, ◌++◌, map as list_map}
use Rattle.ft_base.specs.Answers.{attached_of, attached_in}
use Rattle.ft_base.proofs.listed.attached_in.Given as goal

-- with those that are left it is all
abbrev pub invariant-loop-id : goal.invariant-loop-id
invariant-loop-id l = l.attached.items ++ list_map attached_of l.id-iterator ≡ attached_in l.triggers
