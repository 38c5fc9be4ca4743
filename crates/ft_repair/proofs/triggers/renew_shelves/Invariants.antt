use Rattle.ft_repair.proofs.Putting.{AreRenewedBut}
use Rattle.ft_repair.specs.inner.Joining.{family_of}
use Rattle.ft_repair.proofs.triggers.renew_shelves.Given as goal

-- all of the family, except those that are left, have new shelves
abbrev pub invariant-loop-id : goal.invariant-loop-id
invariant-loop-id l = AreRenewedBut l.triggers (family_of l.triggers l.head) l.fn.tables l.id-iterator l.tables
