use Rattle.std.specs.Prelude.{◌≡◌, ◌++◌, ◌||◌, ℤ, ◌<◌, List, slice_index, map as list_map}
use Rattle.std.specs.List.{flat_map, list_any}
use Rattle.std.proofs.Common.{sym, ap, subst, ◌∙◌}
use Rattle.ft_fields.specs.declared.pos.Pos.{Pos}
use Rattle.ft_dispatch.specs.Acts.{Act}
use Rattle.ft_dispatch.specs.Dispatches.{runnable_since}
use Rattle.ft_dispatch.specs.Joining.{place_behind, act_behind, Joins}
use Rattle.ft_dispatch.specs.Showings.{showings, first_wakings, shown_by, first_by}
use Rattle.ft_dispatch.specs.declared.dispatch.Since.{Since}
use Rattle.ft_dispatch.specs.declared.showing.FirstWaking.{FirstWaking}
use Rattle.ft_dispatch.specs.declared.showing.Showing.{Showing}
use Rattle.ft_dispatch.specs.declared.tasks.Tasks.{Tasks}
use Rattle.ft_windows.specs.Telling.{Keeps}
use Rattle.ft_waits.specs.Moving.{moved}
use Rattle.ft_waits.proofs.AllShown.{moved-in-order, acts-in-order, all-shown}
use Rattle.ft_waits.proofs.Together.{stamps-behind}
use Rattle.ft_waits.proofs.joining.join_acts.Goals as goal

pub returns-clause-shows : goal.returns-clause-shows
returns-clause-shows c = λ stamp events own before acts told tells shown shown_own up after fits.
    let counts = c.args.counts.now in
    let known : ℤ → Since = λ pid. runnable_since pid before in
    let part : List (Pos × Act) = list_map (act_behind (place_behind counts)) acts in
    let in_order : part ≡ list_map (act_behind (moved (slice_index counts))) acts = acts-in-order counts acts fits in
    let own_showings : showings part ≡ showings acts = ap showings in_order ∙ c.showings_move.ensures.showings (moved (slice_index counts)) (moved-in-order (slice_index counts)) acts in
    let own_firsts : first_wakings part ≡ first_wakings acts = ap first_wakings in_order ∙ c.showings_move.ensures.firsts (moved (slice_index counts)) (moved-in-order (slice_index counts)) acts in
    let kept : c.deref.result.now ≡ first_wakings part = c.deref.ensures.value ∙ shown_own.firsts ∙ sym own_firsts in
    let shows = c.in_ok-show_part.ensures.shows events own before acts told (showings acts) tells shown (c.deref.ensures.value ∙ shown_own.firsts) shown_own.windows in
    let all = all-shown (showings before) (showings acts) (flat_map (shown_by known) (first_wakings part)) (showings (part ++ before))
    (λ p. c.first_wakings_join.ensures.showings stamp part before (stamps-behind counts (λ n. stamp < n) acts after) up p
    ∙ ap (λ (ss : List Showing). list_any p (flat_map (shown_by known) (first_wakings part)) || (list_any p ss || list_any p (showings before))) own_showings) in
    let windows : Keeps c.show_part.new.acts.windows (own ++ events) ((showings before ++ showings acts) ++ flat_map (shown_by known) (first_wakings part)) =
    subst (λ (fs : List FirstWaking). Keeps c.show_part.new.acts.windows (own ++ events) ((showings before ++ showings acts) ++ flat_map (shown_by known) fs)) kept shows.0 in
    record {
      windows = c.showings_in_any_order.ensures _ (own ++ events) _ (showings (part ++ before)) all windows;
      given = shows.1;
      firsts = shows.2 ∙ ap (λ (fs : List FirstWaking). first_wakings before ++ flat_map (first_by known) fs) kept ∙ sym (c.first_wakings_join.ensures.firsts part before);
    }

pub returns-clause-joins : goal.returns-clause-joins
returns-clause-joins c = subst (λ (tasks : Tasks). Joins (place_behind c.args.counts.now) tasks c.args.part.tasks c.args.ones.now c.join.new.self c.join.new.dispatches) c.show_part.ensures.tasks c.in_ok-join.ensures
