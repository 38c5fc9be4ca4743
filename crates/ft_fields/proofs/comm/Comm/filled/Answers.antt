use Rattle.ft_fields.proofs.Filled.{filled}
use Rattle.ft_fields.proofs.comm.Comm.filled.Goals as goal

pub invariant_of-result : goal.invariant_of-result
invariant_of-result c = filled c.args.text.now c.copy_from_slice.new.self c.requires c.copy_from_slice.ensures.after
