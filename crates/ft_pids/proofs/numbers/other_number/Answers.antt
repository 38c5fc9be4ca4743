use Rattle.std.proofs.Common.{ap, ◌∙◌, w32}
use Rattle.std.proofs.lemmas.Int.{to_z-of_z}
use Rattle.std.specs.Option.{unwrap_or}
use Rattle.ft_pids.specs.Numbers.{other_number}
use Rattle.ft_pids.proofs.numbers.other_number.Goals as goal

pub returns-in-Some : goal.returns-in-Some
returns-in-Some c = ap (λ o. unwrap_or o 0) c.in-Some.ensures.value ∙ ap (other_number c.args.others.now) (to_z-of_z w32 c.args.pid c.ranges.pid)

pub returns-in-None : goal.returns-in-None
returns-in-None c = ap (λ o. unwrap_or o 0) c.in-None.ensures.value ∙ ap (other_number c.args.others.now) (to_z-of_z w32 c.args.pid c.ranges.pid)
