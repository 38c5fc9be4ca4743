use Rattle.std.proofs.Common.{◌≡◌, is_some, unwrap_or, refl, sym, ap, subst, ◌∙◌, Some}
use Rattle.std.specs.FinMap as map
use Rattle.std.proofs.lemmas.Bool.{true≢false}
use Rattle.ft_table.specs.Rows.{AllFit}
use Rattle.ft_answers.proofs.Answering.{shown-held}
use Rattle.ft_board.specs.declared.kept.TableOf.{TableOf}
use Rattle.ft_board.specs.inner.Told.{TableTells}
use Rattle.ft_board.proofs.KeptBoardTold.{if_there, made-tells}
use Rattle.ft_answers.specs.Shown.{Shown}
use Rattle.ft_base.specs.Base.{Base, Triggers}
use Rattle.ft_board.specs.inner.Views.{made_in}
use Rattle.ft_hist.specs.Hist.{Hist}
use Rattle.ft_replay.specs.Found.{pairs_in}
use Rattle.ft_replay.specs.Merged.{merged}
use Rattle.ft_replay.specs.Tally.{tally_of}
use Rattle.ft_table.specs.Tabled.{Tabled}
use Rattle.ft_board.proofs.kept.KeptBoard.told.Goals as goal

-- the trigger is attached
pub returns-in_err-trigger : goal.returns-in_err-trigger
returns-in_err-trigger c = absurd (true≢false (sym c.requires ∙ ap (λ (s : Shown). is_some (map.get s.base.triggers c.args.id)) (sym c.self.view_is)
    ∙ ap is_some (ap (λ (t : Triggers). map.get t c.args.id) (sym c.triggers.ensures) ∙ c.in_err-trigger.ensures.refused.1)))

pub returns-then-counts_made-clause-tells : goal.returns-then-counts_made-clause-tells
returns-then-counts_made-clause-tells c =
    let base : Base = c.self.inside.content in
    let hist : Hist = c.in_ok-trigger.trigger.now in
    let there = ap (λ (t : Triggers). map.get t c.args.id) (sym c.triggers.ensures) ∙ c.in_ok-trigger.ensures.there in
    let told : TableOf = record { trigger = c.in_ok-trigger.trigger; kept = c.get.result; bare = c.new-bare.result } in
    let bare : ◌≡◌ {A = Tabled} c.new-bare.result (record { hits = map.empty; size = hist.size }) = c.new-bare.ensures ∙ (λ i. record { hits = map.empty; size = c.size.ensures.value i }) in
    subst (λ (b : Base). TableTells b c.args.id told) (ap (λ (s : Shown). s.base) c.self.view_is)
    (made-tells c.made_tables.ensures.tally c.made_tables.ensures.fit base c.args.id hist (made_in c.self.inside.views) there (sym c.counts_made.ensures ∙ c.if-counts_made.true)
    (if_there c.self.inside.views.shelves c.in_ok-shelf.ensures.there c.self.invariant.1) told refl (λ i. unwrap_or (c.get.ensures i) (bare i)))

pub returns-clause-tells : goal.returns-clause-tells
returns-clause-tells c =
    let base : Base = c.self.inside.content in
    let hist : Hist = c.in_ok-trigger.trigger.now in
    let there = ap (λ (t : Triggers). map.get t c.args.id) (sym c.triggers.ensures) ∙ c.in_ok-trigger.ensures.there in
    let its = c.in_ok-shelf.ensures.tells base hist c.self.invariant there in
    let told : TableOf = record { trigger = c.in_ok-trigger.trigger; kept = Some c.table.result; bare = c.new-bare.result } in
    subst (λ (b : Base). TableTells b c.args.id told) (ap (λ (s : Shown). s.base) c.self.view_is) (record {
      attached = there;
      pairs = pairs_in c.in_ok-shelf.shelf.now.readings;
      tally = ap (λ (t : Tabled). tally_of t (pairs_in c.in_ok-shelf.shelf.now.readings)) c.table.ensures ∙ sym its.tally ∙ sym (shown-held base.triggers (merged base.lanes) c.args.id hist (sym c.counts_made.ensures ∙ c.if-counts_made.false));
      fit = subst (λ (t : Tabled). AllFit t hist) (sym c.table.ensures) its.fit;
    })
