-- What was traced keeps its numbers.
use Rattle.std.proofs.Common.{ℕ, List, sym, ap, ◌∙◌}
use Rattle.ft_fields.specs.declared.event.Body.TheVariants as bodies
use Rattle.ft_store.specs.declared.packed.PackedBody.{PackedBody}
use Rattle.ft_store.specs.inner.Packing.{body_of}
use Rattle.ft_store.specs.Stored.{bare_body}
use Rattle.ft_store.proofs.packed.PackedBody.bare.Goals as goal

pub returns-in-Waking : goal.returns-in-Waking
returns-in-Waking c = λ (names : List ℕ). ap bodies.Waking (c.bare.ensures names) ∙ ap (λ (body : PackedBody). bare_body (body_of names body)) (sym c.in-Waking.is)

pub returns-in-Wakeup : goal.returns-in-Wakeup
returns-in-Wakeup c = λ (names : List ℕ). ap bodies.Wakeup (c.bare-in-Wakeup.ensures names) ∙ ap (λ (body : PackedBody). bare_body (body_of names body)) (sym c.in-Wakeup.is)

pub returns-in-WakeupNew : goal.returns-in-WakeupNew
returns-in-WakeupNew c = λ (names : List ℕ). ap bodies.WakeupNew (c.bare-in-WakeupNew.ensures names) ∙ ap (λ (body : PackedBody). bare_body (body_of names body)) (sym c.in-WakeupNew.is)

pub returns-in-Switch : goal.returns-in-Switch
returns-in-Switch c = λ (names : List ℕ). ap bodies.Switch (c.bare-in-Switch.ensures names) ∙ ap (λ (body : PackedBody). bare_body (body_of names body)) (sym c.in-Switch.is)
