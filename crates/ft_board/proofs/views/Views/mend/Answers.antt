use Rattle.std.proofs.Common.{rules, ◌≡◌, ◌⊎◌, false, List, [], length, Some, sym, ap, subst, ◌∙◌}
use Rattle.std.specs.Option.{IfSome, is_none}
use Rattle.std.proofs.lemmas.Bool.{eqb-true}
use Rattle.std.proofs.lemmas.List.{nil_from_length}
use Rattle.std.proofs.lemmas.Option.{IfSome_then}
use Rattle.ft_board.proofs.MadeRows.{made_of_any, still_made}
use Rattle.ft_board.proofs.MadeShelves.{can_update}
use Rattle.ft_answers.specs.Counting.{CountNone}
use Rattle.ft_base.specs.Base.{Triggers}
use Rattle.ft_board.specs.inner.Readings.{readings_on}
use Rattle.ft_changes.specs.Findings.{Lead}
use Rattle.ft_changes.specs.declared.changed.ReadingChange.{ReadingChange}
use Rattle.ft_made.specs.MadeTables.{found_in}
use Rattle.ft_made.specs.Making.{MakeNone}
use Rattle.ft_board.proofs.views.Views.mend.Goals as goal

pub returns-then-not-are_made-clause-made : goal.returns-then-not-are_made-clause-made
returns-then-not-are_made-clause-made c =
    IfSome_then c.args.self.now.shelves c.requires (λ shelves can. made_of_any _ _ _ can.found _
    (subst (λ (triggers : Triggers). MakeNone triggers ⊎ CountNone triggers) c.triggers.ensures (c.are_made.ensures.none c.if-not-are_made.true)) can.made)

pub returns-then-is_empty-clause-made : goal.returns-then-is_empty-clause-made
returns-then-is_empty-clause-made c =
    let none : c.in-Some.changes.now ≡ [] = nil_from_length c.in-Some.changes.now (eqb-true (length c.in-Some.changes.now) 0 (sym c.is_empty.ensures ∙ c.if-is_empty.true)) in
    IfSome_then c.args.self.now.shelves c.requires (λ shelves can. still_made _ _ _ can.found _
    (subst (λ told. IfSome told (λ changes. Lead changes can.found (found_in (readings_on shelves)))) (sym c.in-Some.ensures ∙ ap (λ (changes : List ReadingChange). Some changes) none) can.lead) can.made)

pub update_all-requires : goal.update_all-requires
update_all-requires c =
    let up : is_none c.args.self.now.shelves ≡ false = search rules in
    can_update _ _ _ _ c.args.self.now.shelves _ up (sym c.in-Some.ensures) c.requires

pub returns-in-Ok-clause-made : goal.returns-in-Ok-clause-made
returns-in-Ok-clause-made c =
    IfSome_then c.args.self.now.shelves c.requires (λ shelves can id hist there counts. c.in-Ok.ensures.made id hist there counts can.found (found_in (readings_on shelves))
    (subst (λ told. IfSome told (λ changes. Lead changes can.found (found_in (readings_on shelves)))) (sym c.in-Some.ensures) can.lead) (can.made id hist there counts))
