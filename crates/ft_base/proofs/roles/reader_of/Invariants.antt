use Rattle.std.proofs.Common.{◌≡◌}
use Rattle.ft_base.specs.Roles.{reader_of}
use Rattle.ft_base.proofs.Savers.{reader_among}
use Rattle.ft_base.proofs.roles.reader_of.Given as goal

-- the reader among the triggers that are left is that of all
abbrev pub invariant-loop-id : goal.invariant-loop-id
invariant-loop-id l = reader_among l.name l.id-iterator ≡ reader_of l.triggers l.name
