use Rattle.std.proofs.Common.{sym, ap, ◌∙◌, ◌++◌, ◌∷◌, [], cond}
use Rattle.ft_dispatch.specs.Joining.{completed_by, joined}
use Rattle.ft_dispatch.proofs.Firsts.{joined-more, firsts-joined, firsts-of}
use Rattle.ft_dispatch.proofs.Others.{others-joined, firsts-behind, others-behind, all-counted}
use Rattle.ft_dispatch.proofs.laws.first_ones_join.Goals as goal

pub returns-clause-stays : goal.returns-clause-stays
returns-clause-stays c = λ known told one has. joined-more known told one ∙ ap (λ b. joined known told ++ cond b one (completed_by (known one.pid) one) ∷ []) has

pub returns-clause-completed : goal.returns-clause-completed
returns-clause-completed c = λ known told one has. joined-more known told one ∙ ap (λ b. joined known told ++ cond b one (completed_by (known one.pid) one) ∷ []) has

pub returns-clause-firsts : goal.returns-clause-firsts
returns-clause-firsts c = λ known told. sym (firsts-joined known told)

pub returns-clause-tasks : goal.returns-clause-tasks
returns-clause-tasks c = λ told pid. firsts-of told pid

pub returns-clause-others : goal.returns-clause-others
returns-clause-others c = others-joined

pub returns-clause-firsts_behind : goal.returns-clause-firsts_behind
returns-clause-firsts_behind c = firsts-behind

pub returns-clause-others_behind : goal.returns-clause-others_behind
returns-clause-others_behind c = others-behind

pub returns-clause-all : goal.returns-clause-all
returns-clause-all c = all-counted
