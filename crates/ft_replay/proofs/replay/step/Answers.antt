use Rattle.std.proofs.Common.{ℕ, ◌≡◌, List, ◌∷◌, sym, ap, subst, ◌∙◌, Some}
use Rattle.std.specs.Prelude.{fold}
use Rattle.std.specs.Ordering.{nat_cmp}
use Rattle.std.specs.Cmp.{nat_cmp_total}
use Rattle.std.specs.List.{AllByRecursion}
use Rattle.std.specs.List.Sorted.{IsStrictlySortedBy}
use Rattle.std.specs.Map.{keys_of}
use Rattle.std.specs.FinMap as map
use Rattle.std.specs.FinMap.{entries_sorted}
use Rattle.std.specs.Map.Iter.{deref_pair}
use Rattle.std.proofs.lemmas.Map.Iter.{rest_more, rest_all}
use Rattle.std.proofs.lemmas.Map.Keys.{sorted_head, sorted_tail}
use Rattle.ft_fields.specs.Traced.{Traced}
use Rattle.ft_fields.specs.declared.pos.Pos.{Pos}
use Rattle.ft_hist.specs.Hist.{Hist}
use Rattle.ft_maps.specs.Entries.{strictly_sorted}
use Rattle.ft_maps.specs.Seen.{seen}
use Rattle.ft_pairs.specs.declared.at.At.{At}
use Rattle.ft_base.specs.Base.{Triggers}
use Rattle.ft_replay.specs.Replay.{State, act_at}
use Rattle.ft_replay.specs.Counters.{Counters, HaveCounters}
use Rattle.ft_replay.specs.inner.Replaying.{Saved, state_in, after_act, AllBefore}
use Rattle.ft_pairs.specs.Variables.{variable_cmp}
use Rattle.ft_replay.proofs.Earlier.{act_of, earlier_place, lower_id, all_above}
use Rattle.ft_base.proofs.Apart.{all_of, entries_found}
use Rattle.ft_replay.proofs.Counters.{after_act-acts, step-fold}
use Rattle.ft_replay.proofs.Standing.{free_before, before_later, after_act-before, after_act-complete}
use Rattle.ft_replay.proofs.Stepping.{grow_none, grow_more}
use Rattle.ft_replay.proofs.replay.step.Goals as goal

pub loop-id-init : goal.loop-id-init
loop-id-init c =
    let triggers : Triggers = c.args.triggers.now in
    let counters : Counters = seen nat_cmp c.args.counters.now in
    let all : c.into_iter-id-iterator.result ≡ map.entries triggers = c.into_iter-id-iterator.ensures.into_iter_gives ∙ c.iter-id-items.ensures.rest in
    record {
      rest = ap (fold (act_at triggers (c.args.pos, c.args.event.now)) (state_in (counters, seen variable_cmp c.args.saved.now))) all;
      sorted = subst (λ (es : List (ℕ × Hist)). IsStrictlySortedBy nat_cmp (keys_of es)) (sym all) (strictly_sorted nat_cmp (map.entries triggers) (entries_sorted triggers));
      attached = subst (AllByRecursion (λ (e : ℕ × Hist). map.get triggers e.0 ≡ Some e.1)) (sym all) (entries_found nat_cmp nat_cmp_total triggers);
      complete = c.requires.complete;
      before = all_of (λ (e : ℕ × Hist). AllBefore (act_of c.args.pos e.0) counters) (λ e. c.requires.before e.0) c.into_iter-id-iterator.result;
      later = λ next less id. before_later (act_of c.args.pos id) counters (c.requires.before id) (act_of next id) (earlier_place c.args.pos next id id less);
      grow = grow_none _;
    }

pub replay-requires-clause-free : goal.replay-requires-clause-free
replay-requires-clause-free c =
    let more : c.loop-id.id-iterator ≡ (c.in-Some.id.now, c.in-Some.trigger.now) ∷ c.next.new.self = rest_more (deref_pair {K = ℕ} {X = Hist}) _ _ _ _ c.in-Some.is c.next.ensures.steps in
    let counters : Counters = seen nat_cmp c.loop-id.counters in
    free_before (act_of c.args.pos c.in-Some.id.now) counters (subst (AllByRecursion (λ (e : ℕ × Hist). AllBefore (act_of c.args.pos e.0) counters)) more c.loop-id.invariant.before).0

pub loop-id-preserved : goal.loop-id-preserved
loop-id-preserved c =
    let triggers : Triggers = c.args.triggers.now in
    let entry : Pos × Traced = (c.args.pos, c.args.event.now) in
    let counters : Counters = seen nat_cmp c.loop-id.counters in
    let saved : Saved = seen variable_cmp c.loop-id.saved in
    let e : ℕ × Hist = (c.in-Some.id.now, c.in-Some.trigger.now) in
    let at : At = act_of c.args.pos e.0 in
    let more : c.loop-id.id-iterator ≡ e ∷ c.next.new.self = rest_more (deref_pair {K = ℕ} {X = Hist}) _ _ _ _ c.in-Some.is c.next.ensures.steps in
    let sorted : IsStrictlySortedBy nat_cmp (keys_of (e ∷ c.next.new.self)) = subst (λ (es : List (ℕ × Hist)). IsStrictlySortedBy nat_cmp (keys_of es)) more c.loop-id.invariant.sorted in
    let attached : AllByRecursion (λ (e : ℕ × Hist). map.get triggers e.0 ≡ Some e.1) (e ∷ c.next.new.self) = subst (AllByRecursion (λ (e : ℕ × Hist). map.get triggers e.0 ≡ Some e.1)) more c.loop-id.invariant.attached in
    let before : AllBefore at counters = (subst (AllByRecursion (λ (e : ℕ × Hist). AllBefore (act_of c.args.pos e.0) counters)) more c.loop-id.invariant.before).0 in
    let acted = c.in_ok-replay.ensures.acts in
    let after : seen nat_cmp c.replay.new.counters ≡ (after_act e.1 entry.1 at (counters, saved)).0 = ap (λ (p : Counters × Saved). p.0) acted in
    record {
      rest =
          ap (λ (p : Counters × Saved). fold (act_at triggers entry) (state_in p) c.next.new.self) acted
          ∙ ap (λ (s : State). fold (act_at triggers entry) s c.next.new.self)
          (after_act-acts c.one_more_hit.ensures.rows c.one_more_hit.ensures.totals c.one_more_hit.ensures.members triggers e.1 entry.1 at counters saved attached.0 c.loop-id.invariant.complete before)
          ∙ sym (ap (fold (act_at triggers entry) (state_in (counters, saved))) more) ∙ c.loop-id.invariant.rest;
      sorted = sorted_tail nat_cmp e.0 (keys_of c.next.new.self) sorted;
      attached = attached.1;
      complete = subst (HaveCounters triggers) (sym after) (after_act-complete c.fitting_parts.ensures.fits triggers counters c.loop-id.invariant.complete e.1 entry.1 at saved attached.0);
      before = subst (λ (s : Counters). AllByRecursion (λ (x : ℕ × Hist). AllBefore (act_of c.args.pos x.0) s) c.next.new.self) (sym after)
          (all_above nat_cmp e.0 (λ id. AllBefore (act_of c.args.pos id) (after_act e.1 entry.1 at (counters, saved)).0)
          (λ id less. after_act-before at counters before e.1 entry.1 saved (act_of c.args.pos id) (lower_id c.args.pos e.0 id less)) c.next.new.self
          (sorted_head nat_cmp e.0 (keys_of c.next.new.self) sorted));
      later = λ next less id. subst (AllBefore (act_of next id)) (sym after)
          (after_act-before at counters before e.1 entry.1 saved (act_of next id) (earlier_place c.args.pos next e.0 id less));
      grow = grow_more _ _ _ c.loop-id.invariant.grow c.in_ok-replay.ensures.grow;
    }

pub returns-clause-state : goal.returns-clause-state
returns-clause-state c =
    let triggers : Triggers = c.args.triggers.now in
    let entry : Pos × Traced = (c.args.pos, c.args.event.now) in
    sym (ap (fold (act_at triggers entry) (state_in (seen nat_cmp c.loop-id.counters, seen variable_cmp c.loop-id.saved))) (rest_all (deref_pair {K = ℕ} {X = Hist}) _ _ _ c.in-None.is c.next.ensures.steps))
    ∙ c.loop-id.invariant.rest
    ∙ step-fold triggers (state_in (seen nat_cmp c.args.counters.now, seen variable_cmp c.args.saved.now)) entry
