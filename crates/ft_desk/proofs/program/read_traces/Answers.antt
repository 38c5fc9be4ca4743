use Rattle.std.proofs.lemmas.Grind.{common_steps}
use Rattle.std.proofs.Common.{◌∙◌, List, ℕ, Vec, Global, Err, map, ap, sym, subst, take, ◌+◌, ◌∷◌, [], arith}
use Rattle.std.proofs.lemmas.List.{map-append}
use Rattle.ft_desk.specs.declared.program.Fault.{Fault}
use Rattle.ft_desk.specs.Program.{TellsFiles, FilesGive}
use Rattle.ft_desk.proofs.Ends.{texts_at, tells_more, fails_at}
use Rattle.ft_desk.proofs.program.read_traces.Goals as goal

pub returns-in-Err : goal.returns-in-Err
returns-in-Err g c =
    subst (λ (fault : Fault). FilesGive (g.P.Paths.told c.args.files.now) (texts_at c.args.paths.now) (Err fault)) (sym c.at.ensures)
    (fails_at _ c.args.paths.now c.loop-path.path-index _ _ c.in-Err.fault c.loop-path-test.true c.loop-path.invariant)

-- the files' bytes
abbrev bytes_of : List (Vec ℕ Global) → List (List ℕ)
bytes_of traces = map (λ trace. trace.items) traces

pub loop-path-preserved : goal.loop-path-preserved
loop-path-preserved g c =
    let i = c.loop-path.path-index in
    let trace = c.in-Ok.trace in
    let grown = ap bytes_of c.in_ok-push-in-Ok.ensures.items ∙ map-append (λ file. file.items) c.loop-path.traces.items (trace ∷ []) in
    subst (λ (files : List (List ℕ)). TellsFiles (g.P.Paths.told c.args.files.now) (texts_at (take (i + 1) c.args.paths.now)) files) (sym grown)
    (tells_more _ c.args.paths.now i _ (bytes_of c.loop-path.traces.items) trace.items c.loop-path-test.true c.loop-path.invariant c.in-Ok.ensures.whole)

pub returns : goal.returns
returns g c = grind (arith, common_steps)
