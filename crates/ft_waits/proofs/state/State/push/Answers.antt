use Rattle.std.proofs.lemmas.Result.{err_from_is_err_and}
use Rattle.std.specs.Option.{option_or}
use Rattle.std.specs.Prelude.{None, slice_index_or}
use Rattle.std.proofs.Common.{inr, ℕ, Bool, List, sym, subst, Option, Some, ◌≡◌, ◌++◌, ◌∷◌, refl, ap, ◌∙◌}
use Rattle.ft_fields.specs.Borrowed.{event_told}
use Rattle.ft_fields.specs.declared.pos.Pos.{Pos}
use Rattle.ft_dispatch.specs.Acts.{act_of}
use Rattle.ft_waits.specs.LeftOut.{act_unless, act_without}
use Rattle.ft_waits.specs.Reading.{acts_of, act_at, first_stamp, place_after}
use Rattle.ft_dispatch.specs.Telling.{entries_of}
use Rattle.ft_waits.specs.declared.left_out.Without.{Without}
use Rattle.ft_waits.specs.inner.Known.{left_out_by, Orders}
use Rattle.ft_waits.proofs.Leaving.{still-by, all-more, full-counts}
use Rattle.ft_waits.proofs.Noticing.{noticed, full-missing}
use Rattle.ft_waits.proofs.ReadingLines.{first-or}
use Rattle.ft_waits.proofs.SeamStarts.{starts-more}
use Rattle.ft_waits.specs.Missing.{passed, running}
use Rattle.ft_waits.specs.declared.ran.Ran.{Ran}
use Rattle.ft_waits.specs.inner.Starts.{started, start_of}
use Rattle.ft_waits.proofs.Places.{acts-distinct}
use Rattle.ft_waits.proofs.Ordering.{held-more}
use Rattle.ft_waits.proofs.state.State.push.Goals as goal

pub returns-clause-follows : goal.returns-clause-follows
unfolding acts_of first_stamp
returns-clause-follows c = λ events told follows.
    let event = event_told c.args.event.now in
    let without = left_out_by c.args.self.now.left_out.items in
    let by : left_out_by c.count_left_out.new.all.items ≡ without = ap left_out_by c.in_ok-is_left_out.ensures.counts ∙ still-by event c.args.self.now.left_out.items in
    let act = act_without without event in
    let place : c.in_ok-place.place ≡ place_after events event = c.in_ok-place.ensures.place events follows.counts in
    record {
      counts = c.in_ok-place.ensures.counts events follows.counts;
      first = ap (λ f. Some f) c.unwrap_or.ensures ∙ first-or c.args.self.now.first event.stamp ∙ ap (λ (f : Option ℕ). option_or f (Some event.stamp)) follows.first;
      last = refl;
      left_out = all-more event events c.args.self.now.left_out.items c.count_left_out.new.all.items follows.left_out c.in_ok-is_left_out.ensures.counts;
      orders = subst (λ (all : List Without). Orders (record c.advance.new.acts { held = c.hold.new.held; windows = c.take.new.self }) c.advance.new.sums c.args.event.now.stamp (event ∷ events) (acts_of all (event ∷ events)) (told ++ c.advance.new.out.items)) (sym by)
          (held-more c.advance.new.acts c.advance.new.sums c.hold.new.held c.take.new.self c.args.event.now.stamp events (event ∷ events) (place_after events event) act (acts_of without events) (told ++ c.advance.new.out.items)
          (c.in_ok-hold.ensures
          ∙ ap (λ (p : Pos). entries_of c.advance.new.acts.held.items ++ act_at p (act_unless c.in_ok-is_left_out.is_left_out (act_of event.pid event.body))) place
          ∙ ap (λ (out : Bool). entries_of c.advance.new.acts.held.items ++ act_at (place_after events event) (act_unless out (act_of event.pid event.body))) c.in_ok-is_left_out.ensures.left_out)
          refl (acts-distinct without (event ∷ events)) (c.in_ok-take.ensures events)
          (c.in_ok-advance.ensures.orders c.args.self.now.latest c.args.event.now.stamp c.requires refl events (acts_of without events) told follows.orders));
    }

pub returns-clause-misses : goal.returns-clause-misses
returns-clause-misses c = λ notes counts misses.
    let event = event_told c.args.event.now in
    let place : c.in_ok-place.place ≡ place_after (passed notes) event = c.in_ok-place.ensures.place (passed notes) counts in
    let ran : slice_index_or c.deref.result.now event.cpu None ≡ running event.cpu notes =
    ap (λ (ts : List (Option Ran)). slice_index_or ts event.cpu None) c.deref.ensures.value ∙ misses.runs event.cpu c.args.event.now.cpu_within in
    record {
      runs = c.in_ok-notice.ensures.running notes misses.runs;
      missing = noticed event notes c.in_ok-place.place c.notice.new.missing c.args.self.now.missing place misses.missing (c.in_ok-notice.ensures.missing notes misses.runs);
      starts = c.in_ok-note_start.ensures
          ∙ (λ i. misses.starts i ++ started (ran i) (start_of event.pid (place i) (misses.missing i)))
          ∙ sym (starts-more notes event);
    }

pub returns-in_err-notice-clause-fails : goal.returns-in_err-notice-clause-fails
returns-in_err-notice-clause-fails c =
    let p = err_from_is_err_and c.from_residual-in_err-notice.result c.from_residual-in_err-notice.ensures.1 in
    let full = c.in_err-notice.ensures.full in
    rw (p.1, p.2) (inr (full.0, λ notes told follows misses. full-missing c.args.self.now.missing notes misses.missing full.1))

pub returns-in_err-is_left_out-clause-fails : goal.returns-in_err-is_left_out-clause-fails
returns-in_err-is_left_out-clause-fails c =
    let p = err_from_is_err_and c.from_residual-in_err-is_left_out.result c.from_residual-in_err-is_left_out.ensures.1 in
    let full = c.in_err-is_left_out.ensures.full in
    rw (p.1, p.2) (inr (full.0, λ notes told follows misses. full-counts (passed notes) c.args.self.now.left_out.items follows.left_out full.1))

pub returns-clause-left_out : goal.returns-clause-left_out
returns-clause-left_out c = ap left_out_by c.in_ok-is_left_out.ensures.counts ∙ still-by (event_told c.args.event.now) c.args.self.now.left_out.items
