use Rattle.std.proofs.Common.{◌⊎◌, ⊎_elim, sym, subst, ◌∙◌}
use Rattle.std.specs.Ordering.{nat_cmp}
use Rattle.std.proofs.lemmas.Bool.{true≢false}
use Rattle.std.proofs.lemmas.Option.{IfSome_then}
use Rattle.ft_maps.specs.Seen.{seen-empty}
use Rattle.ft_board.proofs.MadeShelves.{made_anew, nothing_made}
use Rattle.ft_answers.specs.Counting.{CountNone}
use Rattle.ft_base.specs.Base.{Base, Triggers}
use Rattle.ft_board.specs.MadeShelves.{AreMade}
use Rattle.ft_made.specs.Making.{MakeNone}
use Rattle.ft_replay.specs.Found.{saving_found}
use Rattle.ft_replay.specs.Merged.{merged}
use Rattle.ft_board.proofs.views.Views.remake.Goals as goal

pub returns-then-not-are_made-clause-fresh : goal.returns-then-not-are_made-clause-fresh
returns-then-not-are_made-clause-fresh c =
    let base : Base = c.args.content.now in (
      c.requires,
      IfSome_then c.args.self.now.shelves c.requires (λ shelves kept. subst (AreMade base) (sym (seen-empty nat_cmp c.new.result c.new.ensures.empty))
          (⊎_elim
          (nothing_made base.triggers (merged base.lanes) (saving_found base.triggers (merged base.lanes)))
          (λ none id hist there counts. absurd (true≢false (sym counts ∙ none id hist there)))
          (subst (λ (triggers : Triggers). MakeNone triggers ⊎ CountNone triggers) c.triggers.ensures (c.are_made.ensures.none c.if-not-are_made.true)))),
    )

pub returns-in-Ok-clause-fresh : goal.returns-in-Ok-clause-fresh
returns-in-Ok-clause-fresh c = made_anew c.kept_shelves.ensures.readings c.args.content.now c.args.self.now.shelves c.in-Some.tables _ (sym c.in-Some.is) c.requires c.in-Ok.ensures.made
