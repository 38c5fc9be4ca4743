use Rattle.std.proofs.Common.{refl, sym, ap, subst, ◌∙◌}
use Rattle.std.specs.FinMap as map
use Rattle.std.specs.Ordering.{nat_cmp}
use Rattle.std.proofs.lemmas.Option.{none-some, same_Some}
use Rattle.ft_repair.proofs.Repaired.{there_if}
use Rattle.ft_board.proofs.MadeShelves.{found_table}
use Rattle.ft_board.proofs.MadeStays.{refitted}
use Rattle.ft_board.proofs.Makers.{nothing_if}
use Rattle.ft_answers.specs.Counting.{MakesNothing}
use Rattle.ft_base.specs.Base.{Base, Triggers}
use Rattle.ft_board.specs.MadeShelves.{made_on}
use Rattle.ft_board.specs.Makers.{LeavesMakers}
use Rattle.ft_board.specs.inner.Views.{made_in}
use Rattle.ft_hist.specs.Hist.{Hist}
use Rattle.ft_hist.specs.Made.{counts_made}
use Rattle.ft_made.specs.MadeTables.{IsMadeTable}
use Rattle.ft_maps.specs.Seen.{seen}
use Rattle.ft_repair.specs.KeptShelves.{AreKeptOf}
use Rattle.ft_replay.specs.Found.{saving_found}
use Rattle.ft_replay.specs.Merged.{merged}
use Rattle.ft_board.proofs.views.Views.refit.Goals as goal

pub returns-then-not-are_made-clause-apart : goal.returns-then-not-are_made-clause-apart
returns-then-not-are_made-clause-apart c leaves = c.remake.ensures.nothing (subst MakesNothing c.triggers-triggers.ensures (nothing_if _ (c.are_made.ensures.none c.if-not-are_made.true)))

pub returns-in-None-clause-fresh : goal.returns-in-None-clause-fresh
returns-in-None-clause-fresh c =
    let leaves = subst (λ (triggers : Triggers). LeavesMakers triggers c.args.id) c.triggers-triggers.ensures (c.bears_on_makers.ensures.none c.if-bears_on_makers.false) in
    let gone = ap (λ (triggers : Triggers). map.get triggers c.args.id) (sym c.triggers-triggers.ensures) ∙ sym c.in-None.ensures in
    refitted c.args.content.now c.args.id (made_in c.args.self.now) (made_in c.args.self.now) _ _ (sym c.in-Some.is) leaves c.requires.kept c.requires.made (λ _ _. refl) (λ hist attached _. absurd (none-some hist (sym gone ∙ attached)))

pub returns-in-Ok-clause-fresh : goal.returns-in-Ok-clause-fresh
returns-in-Ok-clause-fresh c =
    let base : Base = c.args.content.now in
    let there = sym c.in-Some.is in
    let leaves = subst (λ (triggers : Triggers). LeavesMakers triggers c.args.id) c.triggers-triggers.ensures (c.bears_on_makers.ensures.none c.if-bears_on_makers.false) in
    let its = ap (λ (triggers : Triggers). map.get triggers c.args.id) (sym c.triggers-triggers.ensures) ∙ sym c.in-Some-get.ensures in
    refitted base c.args.id (made_in c.args.self.now) (seen nat_cmp c.update_counted.new.made) _ _ there leaves c.requires.kept c.requires.made c.in-Ok.ensures.others (λ hist attached counts.
    let same = same_Some _ _ (sym its ∙ attached) in
    subst (λ (h : Hist). IsMadeTable base.triggers (merged base.lanes) (saving_found base.triggers (merged base.lanes)) h (made_on (seen nat_cmp c.update_counted.new.made) c.args.id h)) same
    (found_table c.kept_shelves.ensures.readings base.triggers (merged base.lanes) _ (there_if (AreKeptOf base) _ _ there c.requires.kept) _ _ (c.in-Ok.ensures.updated (ap counts_made same ∙ counts))))
