use Rattle.std.specs.Prelude.{◌++◌, ◌+◌, min, ℕ, List, reverse, map as list_map, Option, Some, None, slice_index, slice_index_or, get_or}
use Rattle.std.specs.Option.{option_or}
use Rattle.std.proofs.Common.{refl, sym, ap, subst, ◌∙◌}
use Rattle.ft_dispatch.specs.Joining.{place_behind, Joins}
use Rattle.ft_dispatch.specs.declared.act.PlacedAct.{PlacedAct}
use Rattle.ft_waits.specs.inner.Seams.{held_behind, left_out_with, ShowsBoth}
use Rattle.ft_waits.specs.inner.Starts.{seam, missing_with}
use Rattle.ft_waits.specs.declared.left_out.LeftOut.{LeftOut}
use Rattle.ft_waits.specs.declared.starts.Start.{Start}
use Rattle.ft_waits.specs.Missing.{passed}
use Rattle.ft_waits.specs.declared.ran.Ran.{Ran}
use Rattle.ft_waits.proofs.Shifted.{no-events}
use Rattle.ft_waits.proofs.SeamStates.{all-joined, nothing-joined, nothing-missed}
use Rattle.ft_waits.proofs.state.State.join.Goals as goal

pub returns : goal.returns
returns c =
    let old = c.args.self.now in
    let part = c.args.part in
    let counts : List ℕ = old.lines.items in
    all-joined old part _ c.args.out.now.items c.settle.new.out.items c.args.ones.now c.join_acts.new.ones c.in-Some.first (record {
      before = c.settle.new.acts;
      starts_with = c.in-Some.is;
      settles = c.in_ok-settle.ensures;
      joins = subst (λ (cs : List ℕ). Joins (place_behind cs) c.settle.new.acts.tasks part.acts.tasks c.args.ones.now c.join_acts.new.acts.tasks c.join_acts.new.ones) c.deref-2.ensures.value c.in_ok-join_acts.ensures.joins;
      shows = subst (λ (cs : List ℕ). ShowsBoth cs c.settle.new.acts part.acts c.join_acts.new.acts) c.deref-2.ensures.value c.in_ok-join_acts.ensures.shows;
      held = c.in_ok-join_acts.ensures.held
          ∙ ap (λ (hs : List PlacedAct). hs ++ list_map (held_behind (place_behind c.deref-2.result.now)) part.acts.held.items) c.in_ok-settle.ensures.none
          ∙ ap (λ (cs : List ℕ). list_map (held_behind (place_behind cs)) part.acts.held.items) c.deref-2.ensures.value;
      seam_missing = c.take_starts.new.missing;
      seam_is = c.in_ok-take_starts.ensures
          ∙ ap (λ (rs : List (Option Ran)). seam (λ cpu. slice_index_or rs cpu None) (place_behind c.deref-4.result.now) (record { missing = old.missing; starts = old.starts.items }) (reverse c.deref-5.result.now)) c.deref-3.ensures.value
          ∙ ap (λ (cs : List ℕ). seam (λ cpu. slice_index_or old.running.items cpu None) (place_behind cs) (record { missing = old.missing; starts = old.starts.items }) (reverse c.deref-5.result.now)) c.deref-4.ensures.value
          ∙ ap (λ (ss : List Start). seam (λ cpu. slice_index_or old.running.items cpu None) (place_behind counts) (record { missing = old.missing; starts = old.starts.items }) (reverse ss)) c.deref-5.ensures.value;
      missing = c.add.ensures ∙ ap (λ (cs : List ℕ). missing_with (place_behind cs) c.take_starts.new.missing part.missing) c.deref-6.ensures.value;
      running = λ cpu low. c.put_running-2.ensures.at cpu low ∙ ap (λ (rs : List (Option Ran)). option_or (slice_index_or rs cpu None) (slice_index_or old.running.items cpu None)) c.deref-7.ensures.value;
      size = c.add_left_out.ensures.len;
      left_out = λ i d within. c.add_left_out.ensures.at i d within ∙ ap (λ (ls : List LeftOut). left_out_with (get_or old.left_out.items i d) (get_or ls i d)) c.deref-8.ensures.value;
      first_is = ap (λ (n : ℕ). Some n) c.unwrap_or.ensures;
      latest_is = refl;
      lines = λ cpu low. c.add_lines.ensures.at cpu low ∙ ap (λ (ls : List ℕ). min (slice_index counts cpu + slice_index ls cpu) 4294967295) c.deref-9.ensures.value;
    })

pub returns-in_default : goal.returns-in_default
returns-in_default c = (
  λ before own told apart follows follows_own same unsummed meets of.
      let joined = nothing-joined c.args.self.now c.args.part c.args.out.now.items c.args.ones.now c.in_default.is before own told apart follows follows_own of in (
        record { counts = joined.0.counts; first = joined.0.first; last = joined.0.last; left_out = joined.0.left_out; orders = joined.0.orders },
        joined.1,
        joined.2,
        joined.3,
      ),
  λ before own counted is misses misses_own fits cpus.
      nothing-missed c.args.self.now c.args.part _
      (λ cpu low. c.put_running.ensures.at cpu low ∙ ap (λ (rs : List (Option Ran)). option_or (slice_index_or rs cpu None) (slice_index_or c.args.self.now.running.items cpu None)) c.deref.ensures.value)
      refl refl before own (no-events (passed own) (sym is ∙ c.in_default.is)) misses misses_own,
)
