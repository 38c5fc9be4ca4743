use Rattle.std.proofs.Common.{refl}
use Rattle.ft_waits.specs.Choice.{and_sums}
use Rattle.ft_waits.proofs.SoFar.{summed, well-read}
use Rattle.ft_waits.proofs.Streaming.{read-well}
use Rattle.ft_waits.proofs.stream.Waits.sum_up.Goals as goal

pub returns-clause-adds : goal.returns-clause-adds
returns-clause-adds c = λ choice text told read.
    let begun = c.if-has_begun.ensures in
    let well = begun.failed refl in (
      begun.no refl choice text told read,
      well-read (and_sums choice) _ text told well
          (summed choice c.args.self.now _ c.new.result text told (record { bad_lines = refl; read = refl; losses = refl; lines = refl; first = refl; latest = refl; acts = refl; running = refl; missing = refl; starts = refl; left_out = refl }) (begun.lines refl) refl c.new.ensures (read-well choice c.args.self.now text told well read)),
    )
