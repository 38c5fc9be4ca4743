-- A whole text that is summed up as well.
use Rattle.std.specs.Prelude.{◌≡◌, ℕ, List, []}
use Rattle.std.proofs.Common.{refl, ◌∙◌}
use Rattle.ft_dispatch.specs.declared.dispatch.Dispatch.{Dispatch}
use Rattle.ft_waits.specs.Choice.{Choice, and_sums}
use Rattle.ft_waits.specs.Streams.{HasRead}
use Rattle.ft_waits.specs.declared.stream.Waits.{Waits}
use Rattle.ft_stream.specs.Summing.{SumsThemUp}
use Rattle.ft_stream.specs.Telling.{HasTold}
use Rattle.ft_stream.specs.declared.phase.Phase.TheVariants as phases

pub summed-running : (old new : Waits) → ((choice : Choice) (text : List ℕ) (told : List Dispatch) → HasRead choice old text told → (text ≡ []) × HasRead (and_sums choice) new text told) → new.failed ≡ old.failed → SumsThemUp (phases.Running old) (phases.Running new)
summed-running old new adds same = (
  refl,
  λ kind choice text told was.
      let had : HasTold choice old text told = was.1 in
      let now = adds choice text had.dispatches had.has_read in
      (now.0, (was.0, record { dispatches = had.dispatches; has_read = now.1; well = same ∙ had.well; are_waits = had.are_waits })),
)
