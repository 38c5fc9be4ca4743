use Rattle.std.proofs.Common.{List, ◌++◌, ap, sym, ◌∙◌}
use Rattle.std.proofs.lemmas.List.{append-nil}
use Rattle.std.proofs.lemmas.Map.Iter.{rest_more, rest_all}
use Rattle.ft_fields.specs.declared.pos.Pos.{Pos}
use Rattle.ft_lanes.specs.Walks.{traced_line}
use Rattle.ft_maps.specs.Mapped.{entries_by}
use Rattle.ft_store.specs.Stored.{held}
use Rattle.ft_store.specs.declared.stored.Stored.{Stored}
use Rattle.ft_repair.proofs.EventLists.{placed, no_lines_listed, lines_listed, listed_more}
use Rattle.ft_repair.proofs.lane.events_of.Goals as goal

pub returns-in_default : goal.returns-in_default
returns-in_default c =
    ap (λ (es : List (Pos × Stored)). entries_by held es) c.new-events.ensures.items
    ∙ no_lines_listed c.args.lanes.now c.args.cpu c.in_default.ensures.rest

pub loop-line-init : goal.loop-line-init
loop-line-init c =
    ap (λ (es : List (Pos × Stored)). entries_by held es ++ placed c.args.cpu c.into_iter-line-iterator.result) c.new-events.ensures.items
    ∙ ap (placed c.args.cpu) c.into_iter-line-iterator.ensures.into_iter_gives
    ∙ lines_listed c.args.lanes.now c.args.cpu c.in-Some.lines c.in-Some.ensures.rest

pub loop-line-preserved : goal.loop-line-preserved
loop-line-preserved c =
    let more = rest_more traced_line _ _ _ _ c.in-Some-2.is c.next.ensures.steps in
    ap (λ (es : List (Pos × Stored)). entries_by held es ++ placed c.args.cpu c.next.new.self) c.in_ok-push.ensures.items
    ∙ listed_more c.args.cpu c.loop-line.events.items c.in-Some-2.line c.in-Some-2.stored c.stamp-stamp.result c.next.new.self c.stamp-stamp.ensures.value
    ∙ ap (λ lines. entries_by held c.loop-line.events.items ++ placed c.args.cpu lines) (sym more)
    ∙ c.loop-line.invariant

pub returns : goal.returns
returns c =
    sym (ap (λ lines. entries_by held c.loop-line.events.items ++ placed c.args.cpu lines) (rest_all traced_line _ _ _ c.in-None.is c.next.ensures.steps)
    ∙ append-nil (entries_by held c.loop-line.events.items))
    ∙ c.loop-line.invariant
