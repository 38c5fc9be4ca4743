use Rattle.std.proofs.Common.{refl, sym, ap, ◌∙◌, ℕ}
use Rattle.std.specs.Prelude.{None, Option, slice_index_or}
use Rattle.ft_fields.specs.declared.pos.Pos.{Pos}
use Rattle.ft_dispatch.specs.Joining.{place_behind}
use Rattle.ft_waits.specs.declared.ran.Ran.{Ran}
use Rattle.ft_waits.specs.inner.Starts.{Seam, seam_after, seam}
use Rattle.ft_waits.proofs.SeamStates.{seam-more}
use Rattle.ft_waits.proofs.joining.take_starts.Goals as goal

pub loop-number-init : goal.loop-number-init
unfolding seam
loop-number-init c = refl

pub loop-number-preserved : goal.loop-number-preserved
loop-number-preserved c =
    let ran : ℕ → Option Ran = λ cpu. slice_index_or c.args.running.now cpu None in
    let move : Pos → Pos = place_behind c.args.counts.now in
    let first : Seam = record { missing = c.args.missing.now; starts = c.args.starts.now.items } in
    let so_far : Seam = record { missing = c.loop-number.missing; starts = c.loop-number.starts.items } in
    let i = c.loop-number.number in
    let one = c.start_at-start.result in
    c.in_ok-take_start.ensures
    ∙ ap (λ (o : Option Ran). seam_after o c.place_behind-place.result one so_far) c.running_on-ran.ensures
    ∙ ap (λ (p : Pos). seam_after (ran one.place.cpu) p one so_far) c.place_behind-place.ensures
    ∙ ap (seam_after (ran one.place.cpu) (move one.place) one) c.loop-number.invariant
    ∙ sym (seam-more ran move first c.args.part.now i one c.loop-number-test.true c.start_at-start.ensures)
