-- Events that are left out, by where a stream stands.
use Rattle.std.specs.Prelude.{◌≡◌, ℕ, List, None, Result, Ok, Err, IfErr}
use Rattle.std.proofs.Common.{refl, sym, ap, subst, ◌∙◌, inl, inr}
use Rattle.ft_dispatch.specs.Holding.{Holds}
use Rattle.ft_fields.specs.declared.event.Name.{Name}
use Rattle.ft_waits.specs.declared.stream.Waits.{Waits}
use Rattle.ft_stream.specs.Leaving.{LeavesThemOut, GoesOn, HasBegun, IsRefused}
use Rattle.ft_stream.specs.Telling.{HasTold, HoldsBack, refused_at}
use Rattle.ft_stream.specs.inner.Leaving.{AreLeftOut, AreNotLeftOut, ReadsTheSame, HasReadSome}
use Rattle.ft_stream.specs.declared.apart.Part.{Part}
use Rattle.ft_stream.specs.declared.fault.StreamFault.{StreamFault}
use Rattle.ft_stream.specs.declared.phase.Phase.{Phase}
use Rattle.ft_stream.specs.declared.phase.Phase.TheVariants as phases

pub if-err : {T E : Type 0} {P Q : E → Type 0} (r : Result T E) → ((fault : E) → P fault → Q fault) → IfErr r P → IfErr r Q
if-err (Ok value) f p = p
if-err (Err fault) f p = f fault p

-- ---- of a whole text

pub left-running : (name : Name) (filter : List ℕ) (old new : Waits) → AreLeftOut name filter old new → new.failed ≡ old.failed → LeavesThemOut name filter (phases.Running old) (phases.Running new)
left-running name filter old new left same = (
  left.0,
  left.1,
  left.2,
  refl,
  λ kind choice text told was.
      let had : HasTold choice old text told = was.1 in
      let now = left.3 choice text had.dispatches had.has_read in
      (now.0, (was.0, record { dispatches = had.dispatches; has_read = now.1; well = same ∙ had.well; are_waits = had.are_waits })),
)

on-running : (old new : Waits) → ReadsTheSame old new → new.failed ≡ old.failed → GoesOn (phases.Running old) (phases.Running new)
on-running old new reads same kind choice text told was =
    let had : HasTold choice old text told = was.1 in
    (was.0, record { dispatches = had.dispatches; has_read = reads choice text had.dispatches had.has_read; well = same ∙ had.well; are_waits = had.are_waits })

begun-running : (waits : Waits) → HasReadSome waits → HasBegun (phases.Running waits)
begun-running waits some kind choice text told was =
    let had : HasTold choice waits text told = was.1 in
    some had.well choice text had.dispatches had.has_read

-- ---- of a part

pub left-part : (name : Name) (filter : List ℕ) (old new : Part) → AreLeftOut name filter old.waits new.waits → new.waits.failed ≡ old.waits.failed → new.firsts ≡ old.firsts → LeavesThemOut name filter (phases.Part old) (phases.Part new)
left-part name filter old new left same firsts = (
  left.0,
  left.1,
  left.2,
  refl,
  λ kind choice text told was.
      let had : HoldsBack choice old text told = was.1 in
      let now = left.3 choice text had.dispatches had.has_read in
      (now.0, (was.0, record { dispatches = had.dispatches; has_read = now.1; well = same ∙ had.well; held = subst (λ f. Holds f had.dispatches) (sym firsts) had.held; are_waits = had.are_waits })),
)

on-part : (old new : Part) → ReadsTheSame old.waits new.waits → new.waits.failed ≡ old.waits.failed → new.firsts ≡ old.firsts → GoesOn (phases.Part old) (phases.Part new)
on-part old new reads same firsts kind choice text told was =
    let had : HoldsBack choice old text told = was.1 in
    (was.0, record { dispatches = had.dispatches; has_read = reads choice text had.dispatches had.has_read; well = same ∙ had.well; held = subst (λ f. Holds f had.dispatches) (sym firsts) had.held; are_waits = had.are_waits })

begun-part : (part : Part) → HasReadSome part.waits → HasBegun (phases.Part part)
begun-part part some kind choice text told was =
    let had : HoldsBack choice part text told = was.1 in
    some had.well choice text had.dispatches had.has_read

-- ---- why they are not left out

refused-at : (name : Name) (filter : List ℕ) (old new : Waits) (was now : Phase) (why : StreamFault) → refused_at now ≡ None → (ReadsTheSame old new → GoesOn was now) → (new ≡ old → now ≡ was) → (HasReadSome old → HasBegun was)
    → AreNotLeftOut name filter old new why → IsRefused name filter was now why
refused-at name filter old new was now why runs on same begun (inl memory) = inl (memory.0, runs, on memory.1)
refused-at name filter old new was now why runs on same begun (inr other) = inr (
  same other.0,
  elim other.1 [
    | inl late ↦ inl (late.0, begun late.1)
    | inr rest ↦ inr rest
  ],
)

pub refused-running : (name : Name) (filter : List ℕ) (old new : Waits) → new.failed ≡ old.failed → (why : StreamFault) → AreNotLeftOut name filter old new why → IsRefused name filter (phases.Running old) (phases.Running new) why
refused-running name filter old new same why = refused-at name filter old new (phases.Running old) (phases.Running new) why refl (λ reads. on-running old new reads same) (ap phases.Running) (begun-running old)

pub refused-part : (name : Name) (filter : List ℕ) (part : Part) (new : Waits) → new.failed ≡ part.waits.failed → (why : StreamFault) → AreNotLeftOut name filter part.waits new why → IsRefused name filter (phases.Part part) (phases.Part (record part { waits = new })) why
refused-part name filter part new same why = refused-at name filter part.waits new (phases.Part part) (phases.Part (record part { waits = new })) why refl (λ reads. on-part part (record part { waits = new }) reads same refl) (ap (λ (waits : Waits). phases.Part (record part { waits = waits }))) (begun-part part)
