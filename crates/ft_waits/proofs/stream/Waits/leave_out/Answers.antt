use Rattle.std.proofs.Common.{refl}
use Rattle.ft_waits.specs.Choice.{and_without}
use Rattle.ft_waits.proofs.SoFar.{added, well-read}
use Rattle.ft_waits.proofs.Streaming.{read-well}
use Rattle.ft_waits.proofs.stream.Waits.leave_out.Goals as goal

pub returns-in-Ok-clause-adds : goal.returns-in-Ok-clause-adds
returns-in-Ok-clause-adds c = λ choice text told read.
    let begun = c.if-has_begun.ensures in
    let well = begun.failed refl in (
      begun.no refl choice text told read,
      well-read (and_without choice c.args.without) _ text told well
          (added choice c.args.self.now _ c.args.without text told (record { bad_lines = refl; read = refl; losses = refl; lines = refl; first = refl; latest = refl; acts = refl; running = refl; missing = refl; starts = refl; sums = refl }) (begun.lines refl) c.in-Ok.ensures.ok (read-well choice c.args.self.now text told well read)),
    )
