use Rattle.std.proofs.Common.{◌≡◌, ◌<◌, ◌∙◌, length, arith, to_z, of_z, w32}
use Rattle.std.proofs.lemmas.Grind.{common_steps}
use Rattle.std.proofs.lemmas.Int.{to_z-of_z}
use Rattle.ft_fields.specs.Borrowed.{event_told}
use Rattle.ft_waits.proofs.Noticing.{runs-more}
use Rattle.ft_waits.proofs.missing.notice.Goals as goal

pub returns-clause-running : goal.returns-clause-running
returns-clause-running c = λ before runs.
    let within : c.args.event.now.cpu < length c.args.running.now.items = grind (arith, common_steps) in
    let same : to_z w32 (of_z w32 c.runs_after.result) ≡ c.runs_after.result = grind (arith, to_z-of_z, c.runs_after.type_inv) in
    runs-more c.args.running.now.items before (event_told c.args.event.now) (to_z w32 (of_z w32 c.runs_after.result)) runs within (same ∙ c.runs_after.ensures)
