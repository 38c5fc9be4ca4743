use Rattle.std.proofs.Common.{refl}
use Rattle.ft_waits.proofs.SeamTexts.{texts-joined}
use Rattle.ft_waits.proofs.stream.Waits.join_met.Goals as goal

pub returns-in-Ok-clause-joins : goal.returns-in-Ok-clause-joins
returns-in-Ok-clause-joins c =
    let can = c.requires in
    texts-joined c.args.self.now c.args.part _ c.args.out.now.items c.join.new.out.items c.args.ones.now c.join.new.ones can c.in-Ok.ensures refl can.well
