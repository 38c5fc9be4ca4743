use Rattle.std.proofs.Common.{◌≡◌, sym, ap, subst, ◌∙◌}
use Rattle.std.specs.Prelude.{codes}
use Rattle.std.specs.Ordering.{nat_cmp}
use Rattle.ft_maps.specs.Seen.{seen}
use Rattle.ft_answers.specs.Shown.{Shown}
use Rattle.ft_answers.specs.Base.{Base}
use Rattle.ft_answers.specs.After.{after_strike}
use Rattle.ft_script.specs.Answered.{lane_place_text}
use Rattle.ft_desk.specs.Output.{edit_outcome}
use Rattle.ft_desk.specs.inner.Printed.{Prints}
use Rattle.ft_watch.specs.Watched.{told}
use Rattle.ft_watch.specs.declared.known_tables.Known.{Known}
use Rattle.ft_watch.specs.inner.Told.{AreKnown, AreShown}
use Rattle.ft_watch.proofs.Bases.{stayed, strike_stays}
use Rattle.ft_watch.proofs.Shown.{names_rows}
use Rattle.ft_watch.proofs.Edited.{edit_told, edit_known}
use Rattle.ft_watch.proofs.watch.Watch.strike.Goals.{in-Some-2, in-None-2}
use Rattle.ft_watch.proofs.watch.Watch.strike.Goals as goal

pub tell-requires : goal.tell-requires
tell-requires g c =
    let old = c.look.new.desk.base in
    let new = c.strike.new.self.base in
    let tables = seen nat_cmp c.look.new.self.by_id in
    let shown : AreShown old tables = subst (λ (k : Known). AreKnown k old tables) c.in_ok-look.ensures.shown c.look.ensures.known in
    let same = stayed old new c.in-Ok.done.value.place _ c.in-Ok.ensures.gives.0 (strike_stays old c.args.cpu c.args.number) in
    names_rows c.rows_make_the_text.ensures.row old new c.in-Ok.done.value tables same shown c.in-Ok.ensures.reports.0.0 c.in-Ok.ensures.reports.1.0

pub invariant_of-self-in-Ok : goal.invariant_of-self-in-Ok
invariant_of-self-in-Ok g c =
    let old = c.look.new.desk.base in
    let new = c.strike.new.self.base in
    let tables = seen nat_cmp c.look.new.self.by_id in
    let shown : AreShown old tables = subst (λ (k : Known). AreKnown k old tables) c.in_ok-look.ensures.shown c.look.ensures.known in
    let same = stayed old new c.in-Ok.done.value.place _ c.in-Ok.ensures.gives.0 (strike_stays old c.args.cpu c.args.number) in
    subst (λ (b : Base). AreKnown c.tell.new.self.known b (seen nat_cmp c.tell.new.self.by_id)) (sym c.tell.ensures.base)
    (edit_known old new tables (seen nat_cmp c.tell.new.self.by_id) c.tell.new.self.known c.tell.result same shown c.tell.ensures.tables c.tell.ensures.known c.tell.ensures.failed)

pub invariant_of-self-in-Ok-2 : goal.invariant_of-self-in-Ok-2
invariant_of-self-in-Ok-2 g c =
    let old = c.look.new.desk.base in
    let new = c.strike.new.self.base in
    let tables = seen nat_cmp c.look.new.self.by_id in
    let shown : AreShown old tables = subst (λ (k : Known). AreKnown k old tables) c.in_ok-look.ensures.shown c.look.ensures.known in
    let same = stayed old new c.in-Ok.done.value.place _ c.in-Ok.ensures.gives.0 (strike_stays old c.args.cpu c.args.number) in
    subst (λ (b : Base). AreKnown c.tell.new.self.known b (seen nat_cmp c.tell.new.self.by_id)) (sym c.tell.ensures.base)
    (edit_known old new tables (seen nat_cmp c.tell.new.self.by_id) c.tell.new.self.known c.tell.result same shown c.tell.ensures.tables c.tell.ensures.known c.tell.ensures.failed)

pub returns-in-Ok : goal.returns-in-Ok
returns-in-Ok g c =
    let old = c.look.new.desk.base in
    let new = c.strike.new.self.base in
    let tables = seen nat_cmp c.look.new.self.by_id in
    let shown : AreShown old tables = subst (λ (k : Known). AreKnown k old tables) c.in_ok-look.ensures.shown c.look.ensures.known in
    let at_first : old ≡ c.args.self.now.base = c.in_ok-look.ensures.base ∙ ap (λ (s : Shown). s.base) c.self.view_is in
    let prints = edit_told old new c.tell.new.desk.base (codes "struck ") c.in-Ok.done.value.place (after_strike old c.args.cpu c.args.number) tables c.tell.result shown c.in-Ok.ensures.gives.0 c.tell.ensures.base c.tell.ensures.text c.tell.ensures.refused in
    let left = subst (λ (b : Base). Prints (told b (edit_outcome lane_place_text b (codes "struck ") (after_strike b c.args.cpu c.args.number))) c.tell.new.desk.base c.tell.result) at_first prints in
    elim c.match-done-2.branch [
      | in-Some-2 w ↦ subst (λ (s : Shown). Prints (told c.args.self.now.base (edit_outcome lane_place_text c.args.self.now.base (codes "struck ") (after_strike c.args.self.now.base c.args.cpu c.args.number))) s.base c.tell.result) (sym w.self-is) left
      | in-None-2 w ↦ subst (λ (s : Shown). Prints (told c.args.self.now.base (edit_outcome lane_place_text c.args.self.now.base (codes "struck ") (after_strike c.args.self.now.base c.args.cpu c.args.number))) s.base c.tell.result) (sym w.self-is) left
    ]
