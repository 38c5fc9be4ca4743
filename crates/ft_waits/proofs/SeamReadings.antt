-- What was read of a part and of the lines before it.
use Rattle.std.specs.Prelude.{◌≡◌, ◌≤◌, ◌<◌, ◌+◌, ℕ, List, ◌++◌, length, None}
use Rattle.std.specs.List.{AllByRecursion}
use Rattle.std.proofs.Common.{sym, ap, subst, ◌∙◌, arith}
use Rattle.ft_fields.specs.Traced.{Traced}
use Rattle.ft_dispatch.specs.Joining.{AreOfTasks}
use Rattle.ft_dispatch.specs.declared.dispatch.Dispatch.{Dispatch}
use Rattle.ft_losses.specs.Joining.{Joins as JoinsLosses}
use Rattle.ft_waits.specs.Choice.{Choice}
use Rattle.ft_waits.specs.Joining.{Fit}
use Rattle.ft_waits.specs.Reading.{events_of, first_stamp, latest, lines_read, number_limit, refused, CountsEvents}
use Rattle.ft_waits.specs.declared.fault.BadLines.{BadLines}
use Rattle.ft_waits.specs.declared.fault.LinesRead.{LinesRead}
use Rattle.ft_waits.specs.declared.reading.Reading.{Reading}
use Rattle.ft_waits.specs.inner.Known.{Follows, left_out_by}
use Rattle.ft_waits.specs.inner.Lines.{lines_with}
use Rattle.ft_waits.specs.inner.Seams.{Meets, JoinsMisses, JoinsStates, told_behind}
use Rattle.ft_waits.specs.inner.Streams.{choice_of, ReadsLines}
use Rattle.ft_waits.proofs.Noticing.{passed-is}
use Rattle.ft_waits.proofs.ReadingLines.{all-fit, as-many}
use Rattle.ft_waits.proofs.SeamLines.{events-behind, events-on, notes-behind, refused-behind, rises-on, all-later, no-earlier, read-behind}

pub readings-joined : (old part new : Reading) (out out_now ones ones_now : List Dispatch) → JoinsLosses old.read.lines old.losses part.losses new.losses → JoinsStates old.state part.state out ones new.state out_now ones_now → JoinsMisses old.state part.state new.state
    → new.read ≡ lines_with old.read part.read → new.bad_lines ≡ old.bad_lines
    → (before own : List (List ℕ)) (told apart : List Dispatch) → ReadsLines old before (told ++ out) → ReadsLines part own apart → choice_of old ≡ choice_of part → Fit old part → AreOfTasks apart ones
    → ReadsLines new (own ++ before) ((told ++ out_now) ++ told_behind old.state.lines.items (left_out_by old.state.left_out.items) (events_of before) apart)
    × (ones_now ≡ told_behind old.state.lines.items (left_out_by old.state.left_out.items) (events_of before) ones) × (choice_of new ≡ choice_of old)
unfolding lines_read
readings-joined old part new out out_now ones ones_now losses states misses read policy before own told apart reads reads_own same fit of =
    let size : old.read.lines ≡ length before = ap (λ (r : LinesRead). r.lines) reads.read in
    let size_own : part.read.lines ≡ length own = ap (λ (r : LinesRead). r.lines) reads_own.read in
    let bound = fit.fits in
    let fits : length own + length before ≤ number_limit = omega (arith, size, size_own, bound) in
    let few = all-fit before in
    let few_own = all-fit own in
    let policy_own : part.bad_lines ≡ old.bad_lines = ap (λ (c : Choice). c.bad_lines) (sym same) in
    let taken : refused old.bad_lines own ≡ None = ap (λ (p : BadLines). refused p own) (sym policy_own) ∙ reads_own.unrefused in
    let rises = rises-on old.bad_lines own taken in
    let later : AllByRecursion (λ (e : Traced). latest (events_of before) < e.stamp) (events_of own) =
    all-later (latest (events_of before)) (events_of own) (λ first is.
    let under = fit.later first (reads_own.state.first ∙ is) in
    omega (arith, under, reads.state.last)) rises in
    let meets : Meets (events_of before) (events_of own) = record {
      fits = omega (arith, fits, few, few_own);
      cpus = events-on own reads_own.notes reads_own.noted reads_own.losses.cpus;
      later = later;
      rises = rises;
    } in
    let joined = states (events_of before) (events_of own) told apart reads.state reads_own.state (ap (λ (c : Choice). c.without) same) fit.unsummed meets of in
    let same_before = passed-is before reads.notes reads.noted in
    let same_own = passed-is own reads_own.notes reads_own.noted in
    let size_before = ap (λ (es : List Traced). length es) same_before in
    let size_passed = ap (λ (es : List Traced). length es) same_own in
    let many = as-many before reads.notes reads.noted in
    let many_own = as-many own reads_own.notes reads_own.noted in (
      record {
        unrefused = ap (λ (p : BadLines). refused p (own ++ before)) policy ∙ refused-behind old.bad_lines own before reads.unrefused taken (no-earlier (latest (events_of before)) (events_of own) later);
        read = read ∙ (λ i. lines_with (reads.read i) (reads_own.read i)) ∙ sym (read-behind own before fits);
        notes = reads_own.notes ++ reads.notes;
        noted = notes-behind own before reads_own.notes reads.notes reads_own.noted reads.noted;
        misses = misses reads.notes reads_own.notes (subst (CountsEvents old.state.lines.items) (sym same_before) reads.state.counts)
            (reads_own.state.first ∙ ap first_stamp (sym same_own)) reads.misses reads_own.misses (omega (arith, fits, few, few_own, size_before, size_passed)) reads_own.losses.cpus;
        losses = losses reads.notes reads_own.notes reads.losses reads_own.losses (many ∙ sym size) (omega (arith, many_own, size, fits)) (fit.whole reads.notes reads.losses);
        state = subst (λ (es : List Traced). Follows new.state es ((told ++ out_now) ++ told_behind old.state.lines.items (left_out_by old.state.left_out.items) (events_of before) apart)) (sym (events-behind own before)) joined.0;
      },
      joined.1,
      (λ i. record { bad_lines = policy i; without = joined.2 i; sums = joined.3 i }),
    )
