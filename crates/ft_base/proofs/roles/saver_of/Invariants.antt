use Rattle.std.proofs.Common.{◌≡◌}
use Rattle.ft_base.specs.Roles.{saver_of}
use Rattle.ft_base.proofs.Savers.{saver_among}
use Rattle.ft_base.proofs.roles.saver_of.Given as goal

-- the saver among the triggers that are left is that of all
abbrev pub invariant-loop-id : goal.invariant-loop-id
invariant-loop-id l = saver_among l.name l.id-iterator ≡ saver_of l.triggers l.name
