use Rattle.std.proofs.Common.{sym, ap, subst, ◌∙◌, ◌≡◌, ℕ, Bool, List, Vec, Global, Option, map}
use Rattle.std.specs.Prelude.{option_map}
use Rattle.ft_dispatch.specs.Showings.{showings}
use Rattle.ft_windows.specs.Telling.{Keeps}
use Rattle.ft_waits.specs.Reading.{dispatches_of_lines, events_of, history, latest, refused, CountsEvents}
use Rattle.ft_waits.specs.Choice.{Choice}
use Rattle.ft_waits.specs.Summing.{acts_in, AreSumsIf}
use Rattle.ft_waits.specs.LeftOut.{left_out_of}
use Rattle.ft_waits.specs.declared.left_out.LeftOut.{LeftOut}
use Rattle.ft_waits.specs.declared.left_out.Without.{Without}
use Rattle.ft_waits.specs.inner.Known.{left_out_by}
use Rattle.ft_waits.proofs.ReadingLines.{last-known}
use Rattle.ft_waits.proofs.pieces.end.Goals as goal

pub returns-clause-reads : goal.returns-clause-reads
returns-clause-reads c = λ choice text told reads.
    let ends = c.in_ok-take_last.ensures.reads choice text told reads in
    let events = events_of (history text) in
    let same : left_out_by c.take_last.new.reading.state.left_out.items ≡ choice.without = ap (λ (by : Choice). by.without) ends.by_choice in
    record {
      dispatches = c.in_ok-finish.ensures.told events told ends.reads.state ∙ ap (λ (without : List Without). dispatches_of_lines without (history text)) same;
      lines = ends.reads.read;
      first = c.in_ok-finish.ensures.first ∙ ends.reads.state.first;
      last = c.last_stamp.ensures
          ∙ ap (λ (stamp : ℕ). option_map (λ (s : ℕ). stamp) c.finish.new.self.first) (c.in_ok-finish.ensures.latest ∙ ends.reads.state.last)
          ∙ ap (λ (first : Option ℕ). option_map (λ (s : ℕ). latest (events_of (history text))) first) (c.in_ok-finish.ensures.first ∙ ends.reads.state.first)
          ∙ last-known (events_of (history text));
      events = subst (λ (lines : Vec ℕ Global). CountsEvents lines.items (events_of (history text))) (sym c.in_ok-finish.ensures.lines) ends.reads.state.counts;
      cpus = sym c.finish.new.self.lines.ok.0 ∙ c.finish.new.self.all_cpus;
      missing = c.in_ok-finish.ensures.missing ∙ ends.reads.misses.missing;
      left_out = ap (λ (counts : Vec LeftOut Global). counts.items) c.in_ok-finish.ensures.left_out ∙ ends.reads.state.left_out ∙ ap (λ (without : List Without). map (left_out_of events) without) same;
      sums = subst (λ (by : Choice). AreSumsIf by.sums (acts_in by.without text) c.in_ok-sums_of.field-0) ends.by_choice
          (subst (λ (wanted : Bool). AreSumsIf wanted (acts_in (left_out_by c.take_last.new.reading.state.left_out.items) text) c.in_ok-sums_of.field-0) c.in_ok-finish.ensures.wanted
          (c.in_ok-sums_of.ensures (acts_in (left_out_by c.take_last.new.reading.state.left_out.items) text) (c.in_ok-finish.ensures.sums events told ends.reads.state)));
      notes = ends.reads.notes;
      noted = ends.reads.noted;
      losses = c.in_ok-losses.ensures ends.reads.notes events (showings (acts_in choice.without text)) ends.reads.losses
          (subst (λ (without : List Without). Keeps c.finish.new.self.acts.windows events (showings (acts_in without text))) same (c.in_ok-finish.ensures.windows events told ends.reads.state));
      unrefused = ap (λ (by : Choice). refused by.bad_lines (history text)) (sym ends.by_choice) ∙ ends.reads.unrefused;
    }
