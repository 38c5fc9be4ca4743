use Rattle.std.proofs.Common.{◌≡◌, ◌∙◌, List, Result, Ok, sym, ap}
use Rattle.std.proofs.lemmas.Result.{err_from_is_err_and}
use Rattle.ft_base.specs.declared.latency.Latency.{Latency}
use Rattle.ft_answers.specs.Answers.{latencies}
use Rattle.ft_answers.proofs.Answering.{latencies-measured, measured, unmeasured}
use Rattle.ft_base.specs.declared.refused.Refused.{Refused}
use Rattle.ft_replay.specs.declared.pair.Pair.{Pair}
use Rattle.ft_board.proofs.kept.KeptBoardBoard.latencies.Goals as goal

pub returns-in_err-pairs-clause-gives : goal.returns-in_err-pairs-clause-gives
returns-in_err-pairs-clause-gives c =
    let p = err_from_is_err_and c.from_residual.result c.from_residual.ensures.1 in
    unmeasured (λ l. l.items) c.args.self.now c.pairs.new.self c.args.id c.in_err-pairs.field-0.0 c.from_residual.result
    c.in_err-pairs.ensures.gives.0 c.in_err-pairs.ensures.gives.1 c.in_err-pairs.ensures.gives.2 (cc (p.1, p.2))

pub returns-clause-gives : goal.returns-clause-gives
returns-clause-gives c =
    let gives : latencies c.args.self.now.base c.args.id ≡ Ok c.in_ok-latencies_of.field-0.items =
    latencies-measured c.args.self.now.base c.args.id ∙ ap measured c.in_ok-pairs.ensures.gives.1
    ∙ ap (λ (pairs : List Pair). measured (Ok pairs)) (sym c.deref.ensures.value)
    ∙ ap (λ (l : List Latency). let given : Result (List Latency) Refused = Ok l in given) (sym c.in_ok-latencies_of.ensures) in
    (c.in_ok-pairs.ensures.gives.0, gives, c.in_ok-pairs.ensures.gives.2)
