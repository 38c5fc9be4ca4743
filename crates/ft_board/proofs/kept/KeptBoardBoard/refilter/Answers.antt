-- A filter for the trigger's event is one for the event of the trigger that the base has.
use Rattle.std.proofs.Common.{inl, sym, ap, subst, ◌∙◌, arith}
use Rattle.std.specs.FinMap as map
use Rattle.ft_board.specs.Makers.{makes}
use Rattle.ft_board.proofs.Makers.{refiltered_as, refiltered_nothing}
use Rattle.ft_board.proofs.MadeStays.{filter_await}
use Rattle.ft_answers.specs.Counting.{MakesNothing}
use Rattle.ft_answers.specs.Deferral.{ReadsNothing}
use Rattle.ft_answers.specs.Shown.{Shown}
use Rattle.ft_base.specs.Base.{Base}
use Rattle.ft_board.specs.inner.Views.{made_in}
use Rattle.ft_hist.specs.Steps.{Steps}
use Rattle.ft_board.proofs.kept.KeptBoardBoard.refilter.Goals as goal

pub refilter-requires : goal.refilter-requires
refilter-requires c = λ hist is x given. c.requires hist (ap (λ (shown : Shown). map.get shown.base.triggers c.args.id) (sym c.self.view_is) ∙ is) x given

-- if no made event is counted, the tables of made events take no step
pub returns-clause-costs : goal.returns-clause-costs
returns-clause-costs c nothing reads =
    let base : Base = c.self.inside.content in
    let before : MakesNothing base.triggers = subst (λ (s : Shown). MakesNothing s.base.triggers) (sym c.self.view_is) nothing in
    let unread : ReadsNothing base.triggers c.args.id = subst (λ (s : Shown). ReadsNothing s.base.triggers c.args.id) (sym c.self.view_is) reads in
    let gets = c.in_ok-value.ensures.filters in
    let none : MakesNothing c.refilter.new.self.triggers = refiltered_nothing c.args.id base c.refilter.new.self gets _ (refiltered_as base c.refilter.new.self c.args.id c.in_ok-value.value _ c.in_ok-value.ensures.gives gets) before in
    omega (arith, ap (λ (s : Steps). s.evals) (c.make_way.ensures.none unread), ap (λ (s : Shown). s.steps.evals) c.self.view_is, c.join-kept.ensures.evals (inl none))

-- the tables of made events are those of before
pub join-kept-requires-clause-made : goal.join-kept-requires-clause-made
join-kept-requires-clause-made c =
    let old : Base = c.self.inside.content in
    let new : Base = c.refilter.new.self in
    filter_await c.made_events_stay.ensures.events c.args.id old new c.in_ok-value.ensures.filters
    (ap makes (refiltered_as old new c.args.id c.in_ok-value.value _ c.in_ok-value.ensures.gives c.in_ok-value.ensures.filters))
    c.self.inside.views.shelves c.make_way.new.kept (made_in c.self.inside.views) c.make_way.ensures.deferred c.self.invariant
