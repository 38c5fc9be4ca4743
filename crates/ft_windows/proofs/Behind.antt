-- Events of a part behind those before it.
use Rattle.std.specs.Prelude.{◌≡◌, ◌≤◌, ◌==◌, ◌||◌, ◌&&◌, ℕ, ℤ, Bool, true, false, not, List, [], ◌∷◌, ◌++◌, Option, Some, None, nat_lt}
use Rattle.std.specs.Option.{option_or}
use Rattle.std.specs.Ordering.{eq_by_cmp}
use Rattle.std.proofs.Common.{refl, sym, ap, ◌∙◌, cond}
use Rattle.std.proofs.lemmas.List.Folds.{list_any-append}
use Rattle.ft_fields.specs.Traced.{Traced, last_cpu}
use Rattle.ft_windows.specs.Naming.{names, next_by, first_edge, last_edge}
use Rattle.ft_windows.specs.Showings.{span_cmp, span_of}
use Rattle.ft_windows.specs.declared.spans.Span.{Span}
use Rattle.ft_windows.specs.Telling.{lane_in, named_in, begins_before, ends_after, is_before, is_from, has_span, Keeps}
use Rattle.ft_windows.specs.declared.lanes.Edge.{Edge}
use Rattle.ft_windows.specs.declared.lanes.Lane.{Lane}
use Rattle.ft_dispatch.specs.declared.showing.Showing.{Showing}
use Rattle.ft_windows.specs.declared.windows.Windows.{Windows}

or-assoc : {T : Type 0} (a b c : Option T) → option_or (option_or a b) c ≡ option_or a (option_or b c)
or-assoc None b c = refl
or-assoc (Some x) b c = refl

or-none : {T : Type 0} (o : Option T) → option_or o None ≡ o
or-none None = refl
or-none (Some x) = refl

-- a choice of what is put behind
some-or : {T : Type 0} (b : Bool) (s : T) (l o : Option T) → cond b (Some s) (option_or l o) ≡ option_or (cond b (Some s) l) o
some-or true s l o = refl
some-or false s l o = refl

or-choice : {T : Type 0} (b : Bool) (s l o : Option T) → cond b (option_or (option_or o l) s) (option_or o l) ≡ option_or o (cond b (option_or l s) l)
or-choice true s l o = or-assoc o l s
or-choice false s l o = refl

first-behind : (cpu : ℕ) (own events : List Traced) → first_edge cpu (own ++ events) ≡ option_or (first_edge cpu events) (first_edge cpu own)
unfolding first_edge
first-behind cpu [] events = sym (or-none (first_edge cpu events))
first-behind cpu (event ∷ own) events =
    ap (λ (o : Option Edge). cond (event.cpu == cpu) (option_or o (Some (record { stamp = event.stamp; pid = event.pid }))) o) (first-behind cpu own events)
    ∙ or-choice (event.cpu == cpu) (Some (record { stamp = event.stamp; pid = event.pid })) (first_edge cpu own) (first_edge cpu events)

last-behind : (cpu : ℕ) (own events : List Traced) → last_edge cpu (own ++ events) ≡ option_or (last_edge cpu own) (last_edge cpu events)
unfolding last_edge
last-behind cpu [] events = refl
last-behind cpu (event ∷ own) events =
    ap (λ (o : Option Edge). cond (event.cpu == cpu) (Some (record { stamp = event.stamp; pid = next_by event.pid event.body })) o) (last-behind cpu own events)
    ∙ some-or (event.cpu == cpu) (record { stamp = event.stamp; pid = next_by event.pid event.body }) (last_edge cpu own) (last_edge cpu events)

-- what is kept of both
pub joined : (old part new : Windows) (events own : List Traced) (showings more : List Showing)
    → ((cpu : ℕ) → cpu ≤ last_cpu → lane_in new.lanes.items cpu ≡ record { first = option_or (lane_in old.lanes.items cpu).first (lane_in part.lanes.items cpu).first; last = option_or (lane_in part.lanes.items cpu).last (lane_in old.lanes.items cpu).last })
    → ((q : ℤ) (stamp : ℕ) → begins_before (named_in new.tasks q) stamp ≡ (begins_before (named_in part.tasks q) stamp || begins_before (named_in old.tasks q) stamp))
    → ((q : ℤ) (stamp : ℕ) → ends_after (named_in new.tasks q) stamp ≡ (ends_after (named_in part.tasks q) stamp || ends_after (named_in old.tasks q) stamp))
    → ((span : Span) → has_span new.spans span ≡ (has_span old.spans span || has_span part.spans span))
    → ((stamp : ℕ) → is_before new.least_at stamp ≡ (is_before old.least_at stamp || is_before part.least_at stamp))
    → ((stamp : ℕ) → is_from new.greatest_from stamp ≡ (is_from old.greatest_from stamp || is_from part.greatest_from stamp))
    → Keeps old events showings → Keeps part own more → Keeps new (own ++ events) (showings ++ more)
joined old part new events own showings more at before after all shown from keeps kept = record {
  first = λ cpu fits. ap (λ (l : Lane). l.first) (at cpu fits) ∙ (λ i. option_or (keeps.first cpu fits i) (kept.first cpu fits i)) ∙ sym (first-behind cpu own events);
  last = λ cpu fits. ap (λ (l : Lane). l.last) (at cpu fits) ∙ (λ i. option_or (kept.last cpu fits i) (keeps.last cpu fits i)) ∙ sym (last-behind cpu own events);
  before = λ pid stamp. before pid stamp ∙ (λ i. kept.before pid stamp i || keeps.before pid stamp i) ∙ sym (list_any-append (λ (e : Traced). names pid e && nat_lt e.stamp stamp) own events);
  after = λ pid stamp. after pid stamp ∙ (λ i. kept.after pid stamp i || keeps.after pid stamp i) ∙ sym (list_any-append (λ (e : Traced). names pid e && nat_lt stamp e.stamp) own events);
  shown = λ stamp. shown stamp ∙ (λ i. keeps.shown stamp i || kept.shown stamp i) ∙ sym (list_any-append (λ (s : Showing). nat_lt s.at stamp) showings more);
  from = λ stamp. from stamp ∙ (λ i. keeps.from stamp i || kept.from stamp i) ∙ sym (list_any-append (λ (s : Showing). not (nat_lt s.from stamp)) showings more);
  all = λ span. all span ∙ (λ i. keeps.all span i || kept.all span i) ∙ sym (list_any-append (λ (s : Showing). eq_by_cmp span_cmp span (span_of s)) showings more);
}
