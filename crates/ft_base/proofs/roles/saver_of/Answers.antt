use Rattle.std.proofs.Common.{ap, ◌∙◌}
use Rattle.ft_base.proofs.Savers.{saver_among, saver_of-among}
use Rattle.ft_base.proofs.roles.saver_of.Goals as goal

pub loop-id-init : goal.loop-id-init
loop-id-init c =
    ap (saver_among c.args.name.now) (c.into_iter-id-iterator.ensures.into_iter_gives ∙ c.iter-id-items.ensures.rest)
    ∙ saver_of-among c.args.triggers.now c.args.name.now
