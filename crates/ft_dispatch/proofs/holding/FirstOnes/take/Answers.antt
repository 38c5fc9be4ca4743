use Rattle.std.proofs.Common.{◌≡◌, rules, sym, ap, ◌∙◌, true}
use Rattle.std.specs.Prelude.{ℤ}
use Rattle.ft_dispatch.specs.Holding.{has_task}
use Rattle.ft_dispatch.proofs.Held.{given-more, held-more, pushed}
use Rattle.ft_dispatch.proofs.holding.FirstOnes.take.Goals as goal

pub returns-then-has_task : goal.returns-then-has_task
returns-then-has_task c =
    let found : has_task c.args.one.now.pid c.args.self.now.tasks ≡ true = ap (λ (p : ℤ). has_task p c.args.self.now.tasks) (search rules) ∙ sym c.has_task.ensures ∙ c.if-has_task.true in
    λ told given holds is.
    pushed _ _ given c.args.out.now.items c.push.new.self.items c.args.one.now c.in_ok-push.ensures.items
    (given-more c.args.self.now told given c.args.out.now.items c.args.one.now holds is found)

pub returns : goal.returns
returns c = λ told given holds is.
    held-more c.args.self.now _ told given c.args.out.now.items c.args.one.now holds is (search rules) c.in_ok-push-2.ensures.items (λ pid. search rules)
