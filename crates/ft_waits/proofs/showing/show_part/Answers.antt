use Rattle.std.specs.Prelude.{◌++◌, ℤ, List, Vec}
use Rattle.std.specs.declared.alloc.Global.{Global}
use Rattle.std.specs.List.{flat_map}
use Rattle.std.proofs.Common.{ap, subst, ◌∙◌}
use Rattle.ft_dispatch.specs.Dispatches.{runnable_since}
use Rattle.ft_dispatch.specs.Showings.{showings, shown_by, first_by}
use Rattle.ft_dispatch.specs.declared.dispatch.Since.{Since}
use Rattle.ft_dispatch.specs.declared.showing.FirstWaking.{FirstWaking}
use Rattle.ft_dispatch.specs.declared.showing.Showing.{Showing}
use Rattle.ft_windows.specs.Telling.{Keeps}
use Rattle.ft_waits.proofs.showing.show_part.Goals as goal

pub returns-clause-shows : goal.returns-clause-shows
returns-clause-shows c = λ events own before acts told showed tells shown are keeps.
    let known : ℤ → Since = λ pid. runnable_since pid before in
    let shows = c.in_ok-show_firsts.ensures before acts told tells are in
    let given = shows.0 ∙ ap (λ (ss : List Showing). ss ++ flat_map (shown_by known) c.args.firsts.now) shown.given in (
      subst (λ (ss : List Showing). Keeps c.give.new.windows (own ++ events) ((showings before ++ showed) ++ ss)) given
          (c.in_ok-give.ensures.windows (own ++ events) (showings before ++ showed) (c.in_ok-join.ensures events own (showings before) showed shown.windows keeps)),
      c.in_ok-give.ensures.none,
      ap (λ (fs : Vec FirstWaking Global). fs.items) c.give.ensures.firsts ∙ shows.1 ∙ ap (λ (fs : List FirstWaking). fs ++ flat_map (first_by known) c.args.firsts.now) shown.firsts,
    )
