use Rattle.std.proofs.Common.{map, subst, ℕ, List, Vec, Global}
use Rattle.ft_script.specs.Script.{Asked}
use Rattle.ft_desk.specs.Output.{outcome}
use Rattle.ft_desk.specs.inner.Printed.{Prints}
use Rattle.ft_watch.specs.Watched.{watched}
use Rattle.ft_watch.proofs.watch.Watch.obey.Goals as goal

abbrev texts_of : List (Vec ℕ Global) → List (List ℕ)
texts_of files = map (λ f. f.items) files

pub returns-in-Insert : goal.returns-in-Insert
unfolding outcome
returns-in-Insert g c = subst (λ (a : Asked). Prints (watched (texts_of c.args.files.now) c.args.self.now.base a) c.insert.new.self.base c.insert.result) c.in-Insert.ensures c.insert.ensures

pub returns-in-Strike : goal.returns-in-Strike
unfolding outcome
returns-in-Strike g c = subst (λ (a : Asked). Prints (watched (texts_of c.args.files.now) c.args.self.now.base a) c.strike.new.self.base c.strike.result) c.in-Strike.ensures c.strike.ensures

pub returns-in-Attach : goal.returns-in-Attach
unfolding outcome
returns-in-Attach g c = subst (λ (a : Asked). Prints (watched (texts_of c.args.files.now) c.args.self.now.base a) c.attach.new.self.base c.attach.result) c.in-Attach.ensures c.attach.ensures
