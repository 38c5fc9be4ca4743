use Rattle.std.proofs.Common.{◌≤◌, ◌<◌, ◌≡◌, ◌+◌, length, arith, ap, ◌∙◌, add-one, get_or, refl, eqb}
use Rattle.std.proofs.lemmas.Grind.{get_or_default_zero, common_steps}
use Rattle.std.proofs.lemmas.List.Sums.{count_by-le-length}
use Rattle.ft_fields.specs.Borrowed.{event_told}
use Rattle.ft_fields.specs.Traced.{Traced, last_cpu}
use Rattle.ft_waits.proofs.Counting.{counted}
use Rattle.ft_waits.proofs.events.count.Goals as goal

pub returns-clause-counts : goal.returns-clause-counts
returns-clause-counts c = λ before counts.
    let fits : c.args.event.now.cpu ≤ last_cpu = c.args.event.now.cpu_within in
    let at = counts c.args.event.now.cpu fits in
    let within : c.args.event.now.cpu < length c.args.lines.now.items = grind (arith, common_steps) in
    let line : c.in-Some.line ≡ get_or c.args.lines.now.items c.args.event.now.cpu 0 + 1 = c.in-Some.ensures.1 ∙ ap (λ n. n + 1) (c.index.ensures ∙ get_or_default_zero c.args.lines.now.items c.args.event.now.cpu c.index.result.now within) in
    counted c.args.lines.now.items before (event_told c.args.event.now) c.in-Some.line counts within (line ∙ ap (λ n. n + 1) at ∙ add-one _)

pub returns-in_default-clause-full : goal.returns-in_default-clause-full
returns-in_default-clause-full c = (
  refl,
  λ before counts.
      let fits : c.args.event.now.cpu ≤ last_cpu = c.args.event.now.cpu_within in
      let at = counts c.args.event.now.cpu fits in
      let within : c.args.event.now.cpu < length c.args.lines.now.items = grind (arith, common_steps) in
      let line = c.index.ensures ∙ get_or_default_zero c.args.lines.now.items c.args.event.now.cpu c.index.result.now within in
      let most = count_by-le-length (λ (e : Traced). eqb e.cpu c.args.event.now.cpu) before in
      let full = c.in_default.ensures in
      omega (arith, at, line, most, full),
)
