-- The files at the paths that were gone over.
use Rattle.std.proofs.Common.{map, take}
use Rattle.ft_desk.specs.Program.{TellsFiles}
use Rattle.ft_desk.proofs.program.read_traces.Given as goal

abbrev pub invariant-loop-path : goal.invariant-loop-path
invariant-loop-path g l = TellsFiles (g.P.Paths.told l.files) (map (λ path. path.now) (take l.path-index l.paths)) (map (λ trace. trace.items) l.traces.items)
