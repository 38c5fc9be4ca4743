use Rattle.std.proofs.Common.{refl, sym, subst}
use Rattle.std.proofs.lemmas.Result.{on_ok_weaker}
use Rattle.std.specs.Prelude.{OnOk, IfErr, IfNone}
use Rattle.ft_stream.specs.Leaving.{LeavesThemOut, IsRefused}
use Rattle.ft_stream.specs.Telling.{refused_at}
use Rattle.ft_stream.specs.declared.apart.Part.{Part as Behind}
use Rattle.ft_stream.specs.declared.phase.Phase.{Phase}
use Rattle.ft_stream.specs.declared.phase.Phase.TheVariants.{Running, Part}
use Rattle.ft_stream.proofs.Leaves.{left-running, left-part, if-err, refused-running, refused-part}
use Rattle.ft_stream.proofs.leaving.leave_out_phase.Goals as goal

pub returns-in-Running-clause-leaves : goal.returns-in-Running-clause-leaves
returns-in-Running-clause-leaves c =
    let new : Phase = Running c.leave_out.new.waits in
    subst (λ (phase : Phase). IfNone (refused_at phase) (OnOk c.leave_out.result (LeavesThemOut c.args.name c.args.filter.now phase new))) (sym c.in-Running.is)
    (on_ok_weaker c.leave_out.result (λ left. left-running c.args.name c.args.filter.now c.in-Running.running c.leave_out.new.waits left c.leave_out.ensures.failed) c.leave_out.ensures.leaves)

pub returns-in-Running-clause-refused : goal.returns-in-Running-clause-refused
returns-in-Running-clause-refused c =
    let new : Phase = Running c.leave_out.new.waits in
    subst (λ (phase : Phase). IfNone (refused_at phase) (IfErr c.leave_out.result (IsRefused c.args.name c.args.filter.now phase new))) (sym c.in-Running.is)
    (if-err c.leave_out.result (refused-running c.args.name c.args.filter.now c.in-Running.running c.leave_out.new.waits c.leave_out.ensures.failed) c.leave_out.ensures.refused)

pub returns-in-Part-clause-leaves : goal.returns-in-Part-clause-leaves
returns-in-Part-clause-leaves c =
    let new : Behind = record c.in-Part.part { waits = c.leave_out-in-Part.new.waits } in
    subst (λ (phase : Phase). IfNone (refused_at phase) (OnOk c.leave_out-in-Part.result (LeavesThemOut c.args.name c.args.filter.now phase (Part new)))) (sym c.in-Part.is)
    (on_ok_weaker c.leave_out-in-Part.result (λ left. left-part c.args.name c.args.filter.now c.in-Part.part new left c.leave_out-in-Part.ensures.failed refl) c.leave_out-in-Part.ensures.leaves)

pub returns-in-Part-clause-refused : goal.returns-in-Part-clause-refused
returns-in-Part-clause-refused c =
    let new : Behind = record c.in-Part.part { waits = c.leave_out-in-Part.new.waits } in
    subst (λ (phase : Phase). IfNone (refused_at phase) (IfErr c.leave_out-in-Part.result (IsRefused c.args.name c.args.filter.now phase (Part new)))) (sym c.in-Part.is)
    (if-err c.leave_out-in-Part.result (refused-part c.args.name c.args.filter.now c.in-Part.part c.leave_out-in-Part.new.waits c.leave_out-in-Part.ensures.failed) c.leave_out-in-Part.ensures.refused)
