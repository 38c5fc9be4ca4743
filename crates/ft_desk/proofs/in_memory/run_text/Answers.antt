use Rattle.std.proofs.Common.{map, ap, ◌∙◌, List, ℕ, Vec, Global}
use Rattle.ft_desk.specs.Output.{Meaning, outcome}
use Rattle.ft_desk.specs.Run.{status_of}
use Rattle.ft_desk.proofs.InMemory.{so_far-more, so_far-all}
use Rattle.ft_desk.proofs.in_memory.run_text.Goals as goal

-- what commands mean, with these files
abbrev means : List (Vec ℕ Global) → Meaning
means files = outcome (map (λ f. f.items) files)

pub loop-line-preserved : goal.loop-line-preserved
loop-line-preserved g c =
    let line = c.in-Some.line.now in
    let behind = c.in-Some.behind.now in
    let done = c.in_ok-done.done in
    let more = so_far-more (means c.args.files.now) c.args.script.now c.loop-line.rest.now c.loop-line.desk.base c.loop-line.output.items c.loop-line.refused c.loop-line.invariant line behind c.in-Some.ensures.cut
    c.perform.new.desk.base done.text.items done.refused c.in_ok-done.ensures.base c.in_ok-done.ensures.text c.in_ok-done.ensures.refused in
    rw (c.in_ok-extend_from_slice.ensures.items, c.deref.ensures.value) more

pub returns-clause-output : goal.returns-clause-output
returns-clause-output g c = (so_far-all (means c.args.files.now) c.args.script.now c.loop-line.rest.now _ _ _ c.loop-line.invariant c.in_default.ensures.cut).0

pub returns-clause-status : goal.returns-clause-status
returns-clause-status g c = c.status_from.ensures ∙ ap status_of (so_far-all (means c.args.files.now) c.args.script.now c.loop-line.rest.now _ _ _ c.loop-line.invariant c.in_default.ensures.cut).1
