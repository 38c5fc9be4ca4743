use Rattle.std.proofs.Common.{◌≡◌, ◌≤◌, ℕ, List, Option, Vec, Global, sym, ap, subst, ◌∙◌, arith}
use Rattle.std.specs.Option.{IfSome}
use Rattle.std.specs.FinMap as map
use Rattle.ft_answers.specs.Costs.{count_on_all}
use Rattle.ft_repair.specs.SomeLanes.{count_coming}
use Rattle.ft_board.proofs.CountComing.{coming_few}
use Rattle.ft_board.proofs.Makers.{loaded_triggers}
use Rattle.ft_board.proofs.Changes.{loaded_of}
use Rattle.ft_answers.specs.Counting.{MakesNothing}
use Rattle.ft_answers.specs.Shown.{Shown}
use Rattle.ft_base.specs.Base.{Base, Triggers}
use Rattle.ft_lanes.specs.Held.{Lanes}
use Rattle.ft_board.proofs.kept.KeptBoardBoard.load_store.Goals as goal

pub let_lanes_come-kept-requires : goal.let_lanes_come-kept-requires
let_lanes_come-kept-requires c =
    let base : Base = c.self.inside.content in
    let cpus : List ℕ = c.deref.result.now in
    let before : c.in-Ok-Some.before.items ≡ map.keys c.lanes.result.now =
    subst (λ (o : Option (Vec ℕ Global)). IfSome o (λ held. held.items ≡ map.keys c.lanes.result.now)) c.in-Ok-Some.field-0-is c.in-Ok-Some.ensures.cpus in
    let keys : cpus ≡ map.keys base.lanes = c.deref.ensures.value ∙ before ∙ ap (λ (lanes : Lanes). map.keys lanes) c.lanes.ensures.lanes in
    loaded_of base c.load.new.self c.args.events c.in_ok-value.value c.in_ok-value.ensures cpus keys c.self.inside.views c.self.invariant

-- the tables of made events take no step
pub returns-in-Ok-Some-clause-repairs : goal.returns-in-Ok-Some-clause-repairs
returns-in-Ok-Some-clause-repairs c nothing few =
    let base : Base = c.self.inside.content in
    let new : Base = c.load.new.self in
    let start = ap (λ (s : Shown). s.steps.evals) c.self.view_is in
    let triggers : base.triggers ≡ c.args.self.now.base.triggers = ap (λ (s : Shown). s.base.triggers) c.self.view_is in
    let none : MakesNothing new.triggers = subst MakesNothing (sym triggers ∙ loaded_triggers base new c.args.events c.in_ok-value.value c.in_ok-value.ensures) nothing in
    let cpus : List ℕ = c.deref.result.now in
    let before : c.in-Ok-Some.before.items ≡ map.keys c.lanes.result.now =
    subst (λ (o : Option (Vec ℕ Global)). IfSome o (λ held. held.items ≡ map.keys c.lanes.result.now)) c.in-Ok-Some.field-0-is c.in-Ok-Some.ensures.cpus in
    let keys : cpus ≡ map.keys base.lanes = c.deref.ensures.value ∙ before ∙ ap (λ (lanes : Lanes). map.keys lanes) c.lanes.ensures.lanes in
    let tests : count_coming cpus new ≤ count_on_all base.triggers c.args.events = coming_few base new c.args.events c.in_ok-value.value c.in_ok-value.ensures cpus keys in
    let all : count_on_all base.triggers c.args.events ≡ count_on_all c.args.self.now.base.triggers c.args.events = ap (λ (t : Triggers). count_on_all t c.args.events) triggers in
    omega (arith, start, tests, all, c.let_lanes_come-kept.ensures.evals none)
