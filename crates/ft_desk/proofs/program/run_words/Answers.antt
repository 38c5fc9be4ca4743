use Rattle.std.proofs.Common.{Vec, Global, Bor, Option, Some, None, Err, ℕ, List, map, option_map, ap, sym, subst}
use Rattle.ft_script.specs.Files.{Untold}
use Rattle.ft_script.specs.Words.{Named, named_of_words}
use Rattle.ft_desk.specs.declared.program.Fault.{Fault}
use Rattle.ft_desk.specs.Program.{TellsFiles, FilesGive}
use Rattle.ft_desk.specs.inner.Ends.{RunTells, ProgramEnds}
use Rattle.ft_desk.proofs.Ends.{texts_at, fault_ends, script_ends, run_ends}
use Rattle.ft_desk.proofs.program.run_words.Goals as goal

-- the files' bytes
abbrev bytes_of : List (Vec ℕ Global) → List (List ℕ)
bytes_of traces = map (λ trace. trace.items) traces

-- the text of a path
abbrev text_of : Option (Bor (List ℕ)) → Option (List ℕ)
text_of path = option_map (λ path. path.now) path

pub returns-in_err-traces : goal.returns-in_err-traces
returns-in_err-traces g c =
    let told = g.P.Paths.told c.args.rt.now in
    let result = c.from_residual-in_err-traces.result in
    let passed = c.from_residual-in_err-traces.ensures in
    let gives = subst (λ (paths : List (Bor (List ℕ))). FilesGive told (texts_at paths) (Err c.in_err-traces.field-0.0)) c.as_slice.ensures.value c.in_err-traces.ensures in
    subst (λ (named : Option Named). ProgramEnds g.S.Interpreter.means told named result) (sym c.in_ok-words.ensures)
    (fault_ends g.S.Interpreter.means told (named_of_words c.in_ok-words.words) c.in_err-traces.field-0.0 result passed.0 passed.1 gives)

pub returns-in_default : goal.returns-in_default
returns-in_default g c =
    let told = g.P.Paths.told c.args.rt.now in
    let result = c.run_script.result in
    let files = bytes_of c.in_ok-traces.traces.items in
    let tells = subst (λ (paths : List (Bor (List ℕ))). TellsFiles told (texts_at paths) files) c.as_slice.ensures.value c.in_ok-traces.ensures in
    let ran = subst (λ (traces : List (Vec ℕ Global)). RunTells (g.S.Interpreter.means (bytes_of traces)) Untold result) c.as_slice-in_default.ensures.value (c.run_script.ensures Untold tt) in
    subst (λ (named : Option Named). ProgramEnds g.S.Interpreter.means told named result) (sym c.in_ok-words.ensures)
    (run_ends g.S.Interpreter.means told (named_of_words c.in_ok-words.words) None files result (ap text_of c.in_default.is) tells ran)

pub returns-in-Ok : goal.returns-in-Ok
returns-in-Ok g c =
    let told = g.P.Paths.told c.args.rt.now in
    let result = c.run_script-in-Ok.result in
    let path = c.in-Some.path.now in
    let files = bytes_of c.in_ok-traces.traces.items in
    let tells = subst (λ (paths : List (Bor (List ℕ))). TellsFiles told (texts_at paths) files) c.as_slice.ensures.value c.in_ok-traces.ensures in
    let ran = subst (λ (traces : List (Vec ℕ Global)). RunTells (g.S.Interpreter.means (bytes_of traces)) (told path) result) c.as_slice-in-Ok.ensures.value (c.run_script-in-Ok.ensures (told path) c.in-Ok.ensures) in
    subst (λ (named : Option Named). ProgramEnds g.S.Interpreter.means told named result) (sym c.in_ok-words.ensures)
    (run_ends g.S.Interpreter.means told (named_of_words c.in_ok-words.words) (Some path) files result (ap text_of c.in-Some.is) tells ran)

pub returns : goal.returns
returns g c =
    let told = g.P.Paths.told c.args.rt.now in
    let files = bytes_of c.in_ok-traces.traces.items in
    let tells = subst (λ (paths : List (Bor (List ℕ))). TellsFiles told (texts_at paths) files) c.as_slice.ensures.value c.in_ok-traces.ensures in
    let ends = script_ends g.S.Interpreter.means told (named_of_words c.in_ok-words.words) c.in-Some.path files c.from.result (ap text_of c.in-Some.is) tells in
    subst (λ (named : Option Named). ProgramEnds g.S.Interpreter.means told named (Err c.at.result)) (sym c.in_ok-words.ensures)
    (subst (λ (fault : Fault). ProgramEnds g.S.Interpreter.means told (Some (named_of_words c.in_ok-words.words)) (Err fault)) (sym c.at.ensures) ends)
