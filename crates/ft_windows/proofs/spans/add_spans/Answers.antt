use Rattle.std.proofs.Common.{sym, ap, ◌∙◌}
use Rattle.std.specs.Prelude.{is_some, ◌||◌}
use Rattle.std.specs.FinMap.{find, get-entries}
use Rattle.std.proofs.Math.Bool.{or-false}
use Rattle.ft_maps.specs.Seen.{seen}
use Rattle.ft_windows.specs.Showings.{span_cmp, span_same}
use Rattle.ft_windows.specs.Telling.{has_span}
use Rattle.ft_windows.proofs.Stretches.{span-moves}
use Rattle.ft_windows.proofs.spans.add_spans.Goals as goal

pub put-requires : goal.put-requires
put-requires c = span_same

pub loop-span-init : goal.loop-span-init
loop-span-init c q =
    ap (λ es. has_span c.args.spans.now q || is_some (find span_cmp q es)) (c.into_iter-span-iterator.ensures.into_iter_gives ∙ c.entries-span-items.ensures.rest)
    ∙ ap (λ o. has_span c.args.spans.now q || is_some o) (sym (get-entries (seen span_cmp c.args.part.now) q))

pub loop-span-preserved : goal.loop-span-preserved
loop-span-preserved c q =
    span-moves (seen span_cmp c.loop-span.spans) (seen span_cmp c.put.new.map) (c.in-Some.span.now, c.in-Some._mark.now) c.loop-span.span-iterator c.next.new.self c.in-Some.ensures.steps c.in_ok-put.ensures.ok q
    ∙ c.loop-span.invariant q

pub returns : goal.returns
returns c q =
    sym (ap (λ es. has_span c.loop-span.spans q || is_some (find span_cmp q es)) c.in-None.ensures.steps.0 ∙ or-false (has_span c.loop-span.spans q)) ∙ c.loop-span.invariant q
