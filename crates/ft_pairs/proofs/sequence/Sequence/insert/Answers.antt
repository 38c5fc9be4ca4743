use Rattle.std.proofs.Common.{sym, ap, ◌∙◌}
use Rattle.std.specs.FinMap as map
use Rattle.std.proofs.lemmas.Result.{on_ok_weaker}
use Rattle.ft_pairs.specs.declared.at.Op.TheVariants.{Save, Read}
use Rattle.ft_pairs.specs.ByKey.{KeyOps}
use Rattle.ft_pairs.specs.inner.Sides.{both}
use Rattle.ft_pairs.proofs.Sides.{both-read, both-save}
use Rattle.ft_pairs.proofs.sequence.Sequence.insert.Goals as goal

pub returns-in-Read-clause-ok : goal.returns-in-Read-clause-ok
returns-in-Read-clause-ok c =
    let s = c.self.inside in
    on_ok_weaker c.insert.result (λ put. ap (both s.saves) put ∙ both-read s.saves s.reads c.args.at _
    ∙ ap (λ (ops : KeyOps). map.insert ops c.args.at Read) c.self.view_is ∙ ap (map.insert c.args.self.now c.args.at) (sym c.in-Read.is)) c.insert.ensures.ok

pub returns-in_ok-insert-in-Save-clause-ok : goal.returns-in_ok-insert-in-Save-clause-ok
returns-in_ok-insert-in-Save-clause-ok c =
    let s = c.self.inside in
    (λ i. both (c.in_ok-insert-in-Save.ensures.ok i) (c.remove.ensures.left i)) ∙ both-save s.saves s.reads c.args.at _
    ∙ ap (λ (ops : KeyOps). map.insert ops c.args.at Save) c.self.view_is ∙ ap (map.insert c.args.self.now c.args.at) (sym c.in-Save.is)
