use Rattle.std.proofs.Common.{sym, ap, ◌∙◌, ◌++◌, ℤ, List}
use Rattle.std.proofs.lemmas.Result.{on_ok_weaker}
use Rattle.std.specs.List.{flat_map}
use Rattle.ft_dispatch.specs.Dispatches.{runnable_since}
use Rattle.ft_dispatch.specs.Showings.{showing_at, ready_since, first_at, shown_by, first_by}
use Rattle.ft_dispatch.specs.Telling.{known}
use Rattle.ft_dispatch.specs.declared.dispatch.Since.{Since}
use Rattle.ft_dispatch.specs.declared.showing.FirstWaking.{FirstWaking}
use Rattle.ft_dispatch.specs.declared.showing.Showing.{Showing}
use Rattle.ft_dispatch.proofs.Unsaid.{same-firsts}
use Rattle.ft_dispatch.proofs.tasks.Tasks.show_firsts.Goals as goal

pub returns : goal.returns
returns c =
    let old = c.args.shown.now in
    let now : ℤ → Since = known c.args.self.now.since in
    on_ok_weaker c.show_all.result (λ both. λ before part told tells are.
    let then : ℤ → Since = λ pid. runnable_since pid before in (
      both.0 ∙ ap (λ (ss : List Showing). old.showings.items ++ ss)
          (ap (flat_map (shown_by now)) are ∙ same-firsts (λ since first. showing_at first.at (ready_since since)) now then part tells.knows ∙ ap (flat_map (shown_by then)) (sym are)),
      both.1 ∙ ap (λ (fs : List FirstWaking). old.firsts.items ++ fs)
          (ap (flat_map (first_by now)) are ∙ same-firsts (λ since first. first_at first.at first.pid since) now then part tells.knows ∙ ap (flat_map (first_by then)) (sym are)),
    )) c.show_all.ensures
