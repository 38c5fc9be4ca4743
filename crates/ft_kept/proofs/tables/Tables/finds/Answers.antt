-- It is the place of the source, if the saver has a shelf.
use Rattle.std.proofs.Common.{rules, ◌≡◌, ◌∙◌, Some, None, ap, option_map, sym, subst, inl, refl}
use Rattle.std.specs.Option.{option_copied}
use Rattle.ft_pairs.specs.ByKey.{OpsByKey, ops_of}
use Rattle.ft_pairs.specs.Source.{Ops}
use Rattle.ft_pairs.specs.declared.at.At.{At}
use Rattle.ft_shelves.specs.Shelves.{kept_on}
use Rattle.ft_shelves.specs.declared.sign.Sign.TheVariants as sign
use Rattle.ft_kept.specs.Signs.{FindsBy}
use Rattle.ft_kept.proofs.Forms.{ops_by, ops_whole}
use Rattle.ft_kept.proofs.tables.Tables.finds.Goals as goal

pub returns-in-Insert-Some : goal.returns-in-Insert-Some
returns-in-Insert-Some c =
    let variable = c.args.variable.now in
    let place : c.map.result ≡ option_map (λ (saved : At). saved.pos) c.source.result = search rules in
    subst (λ sign. FindsBy sign ((kept_on c.args.self.now).ops variable) c.args.at c.map.result) (sym c.in-Insert-Some.is-0)
    (subst (λ (ops : Ops). FindsBy sign.Insert ops c.args.at c.map.result) (ap (λ (ops : OpsByKey). ops_of ops variable.key) c.ops.ensures ∙ sym (ops_whole c.args.self.now variable.saver (Some c.in-Insert-Some.shelf.now) (sym c.in-Insert-Some.ensures) variable.key)) (c.source.result, (c.source.ensures, place)))

pub returns-in-Insert-None : goal.returns-in-Insert-None
returns-in-Insert-None c =
    let variable = c.args.variable.now in
    subst (λ sign. FindsBy sign ((kept_on c.args.self.now).ops variable) c.args.at None) (sym c.in-Insert-None.is-0)
    (None, (inl (λ q _. ops_by c.args.self.now variable.saver None (sym c.shelf.ensures ∙ ap option_copied c.in-Insert-None.is-1) variable.key q), refl))
