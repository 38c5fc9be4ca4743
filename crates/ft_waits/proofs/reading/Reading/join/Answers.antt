use Rattle.std.proofs.Common.{refl}
use Rattle.ft_waits.proofs.SeamReadings.{readings-joined}
use Rattle.ft_waits.proofs.reading.Reading.join.Goals as goal

pub returns : goal.returns
returns c = λ before own told apart reads reads_own same fit of.
    readings-joined c.args.self.now c.args.part _ c.args.out.now.items c.join-2.new.out.items c.args.ones.now c.join-2.new.ones c.in_ok-join.ensures c.in_ok-join-2.ensures.0 c.in_ok-join-2.ensures.1 c.lines_with-self.ensures refl
    before own told apart reads reads_own same fit of
