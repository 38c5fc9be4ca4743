use Rattle.std.proofs.Common.{ap, ◌∙◌}
use Rattle.std.specs.FinMap as map
use Rattle.std.proofs.lemmas.Result.{on_ok_weaker}
use Rattle.ft_shelves.specs.Shelves.{Shelves}
use Rattle.ft_kept.proofs.tables.Tables.add.Goals as goal

pub returns-clause-ok : goal.returns-clause-ok
returns-clause-ok c =
    on_ok_weaker c.put.result (λ e. (c.new.result, (e ∙ ap (λ (m : Shelves). map.insert m c.args.id c.new.result) c.self.view_is, c.new.ensures))) c.put.ensures.ok
