use Rattle.std.proofs.Common.{◌≡◌, [], None, arith, rules}
use Rattle.std.proofs.lemmas.Grind.{common_steps}
use Rattle.ft_waits.proofs.SoFar.{nothing-read, some-read}
use Rattle.ft_waits.proofs.Streaming.{read-well}
use Rattle.ft_waits.proofs.stream.Waits.has_begun.Goals as goal

pub returns-then-self-gt0-clause-yes : goal.returns-then-self-gt0-clause-yes
returns-then-self-gt0-clause-yes c = λ hit well choice text told read none.
    let zero = (some-read choice c.args.self.now text told (read-well choice c.args.self.now text told well read) none).0 in
    omega (arith, zero)

pub returns-clause-yes : goal.returns-clause-yes
returns-clause-yes c = λ hit well choice text told read none.
    let empty = (some-read choice c.args.self.now text told (read-well choice c.args.self.now text told well read) none).1 in
    grind (arith, common_steps, empty, hit)

pub returns-clause-no : goal.returns-clause-no
returns-clause-no c = λ missed choice text told read.
    let well : c.args.self.now.failed ≡ None = search rules in
    let empty : c.args.self.now.unended.items ≡ [] = grind (arith, common_steps, missed) in
    nothing-read choice c.args.self.now text told (read-well choice c.args.self.now text told well read) (omega arith) empty
