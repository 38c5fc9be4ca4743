use Rattle.std.proofs.Common.{ap, ◌∙◌}
use Rattle.ft_base.proofs.Savers.{reader_among, reader_of-among}
use Rattle.ft_base.proofs.roles.reader_of.Goals as goal

pub loop-id-init : goal.loop-id-init
loop-id-init c =
    ap (reader_among c.args.name.now) (c.into_iter-id-iterator.ensures.into_iter_gives ∙ c.iter-id-items.ensures.rest)
    ∙ reader_of-among c.args.triggers.now c.args.name.now
