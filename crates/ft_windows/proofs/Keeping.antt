-- What is kept after one more event.
use Rattle.std.specs.Prelude.{◌≡◌, ◌≤◌, ◌<◌, ◌+◌, ◌==◌, length, take, ◌&&◌, ◌||◌, ℕ, ℤ, Bool, true, false, not, List, [], ◌∷◌, ◌++◌, Option, Some, None, Vec, nat_lt, if◌then◌else◌}
use Rattle.std.specs.List.{list_any}
use Rattle.std.specs.Ordering.{int_eq, eq_by_cmp}
use Rattle.std.specs.Option.{option_or, unwrap_or}
use Rattle.std.proofs.Common.{refl, sym, ap, ◌∙◌, cond, append_assoc, get_or}
use Rattle.std.proofs.lemmas.Bool.{eqb-true}
use Rattle.std.proofs.lemmas.List.{take_more}
use Rattle.std.proofs.lemmas.List.Folds.{list_any-append}
use Rattle.std.specs.declared.alloc.Global.{Global}
use Rattle.ft_fields.specs.Traced.{Traced, last_cpu}
use Rattle.ft_windows.specs.Showings.{span_cmp, span_of}
use Rattle.ft_windows.specs.declared.spans.Span.{Span}
use Rattle.ft_windows.specs.Naming.{says, next_by, first_edge, last_edge}
use Rattle.ft_windows.specs.Telling.{lane_in, named_in, begins_before, ends_after, is_before, is_from, has_span, Keeps}
use Rattle.ft_windows.specs.declared.lanes.Edge.{Edge}
use Rattle.ft_windows.specs.declared.lanes.Lane.{Lane}
use Rattle.ft_dispatch.specs.declared.showing.Showing.{Showing}
use Rattle.ft_windows.specs.declared.windows.Windows.{Windows}
use Rattle.ft_windows.proofs.Noting.{two-named}

-- a part of the lane that was chosen
part-of : {T : Type 0} (f : Lane → T) (b : Bool) (x y : Lane) (p q : T) → (b ≡ true → f x ≡ p) → f y ≡ q → f (cond b x y) ≡ cond b p q
part-of f true x y p q one other = one refl
part-of f false x y p q one other = other

pub or-some : {T : Type 0} (o : Option T) (x : T) → Some (unwrap_or o x) ≡ option_or o (Some x)
or-some None x = refl
or-some (Some y) x = refl

-- a test of one showing more
one-behind : (p : Showing → Bool) (showings : List Showing) (showing : Showing) → (p showing || list_any p showings) ≡ list_any p (showings ++ showing ∷ [])
one-behind p showings showing = turned (p showing) (list_any p showings) ∙ sym (list_any-append p showings (showing ∷ []))
  where
    turned : (a b : Bool) → (a || b) ≡ (b || (a || false))
    turned true true = refl
    turned true false = refl
    turned false true = refl
    turned false false = refl

pub taken : (old new : Windows) (event : Traced) (events : List Traced) (showings : List Showing) (lane : Lane)
    → ((other : ℕ) → other ≤ last_cpu → lane_in new.lanes.items other ≡ if event.cpu == other then lane else lane_in old.lanes.items other)
    → lane.first ≡ option_or (lane_in old.lanes.items event.cpu).first (Some (record { stamp = event.stamp; pid = event.pid })) → lane.last ≡ Some (record { stamp = event.stamp; pid = next_by event.pid event.body })
    → ((q : ℤ) (stamp : ℕ) → begins_before (named_in new.tasks q) stamp ≡ ((says q event.body && nat_lt event.stamp stamp) || ((int_eq event.pid q && nat_lt event.stamp stamp) || begins_before (named_in old.tasks q) stamp)))
    → ((q : ℤ) (stamp : ℕ) → ends_after (named_in new.tasks q) stamp ≡ ((says q event.body && nat_lt stamp event.stamp) || ((int_eq event.pid q && nat_lt stamp event.stamp) || ends_after (named_in old.tasks q) stamp)))
    → new.spans ≡ old.spans → new.least_at ≡ old.least_at → new.greatest_from ≡ old.greatest_from → Keeps old events showings → Keeps new (event ∷ events) showings
unfolding first_edge last_edge
taken old new event events showings lane at first last before after all shown from keeps =
    let edge : Edge = record { stamp = event.stamp; pid = event.pid } in
    let lanes = old.lanes.items in
    record {
      first = λ cpu fits. ap (λ (l : Lane). l.first) (at cpu fits)
          ∙ part-of (λ (l : Lane). l.first) (event.cpu == cpu) lane (lane_in lanes cpu) (option_or (first_edge cpu events) (Some edge)) (first_edge cpu events)
          (λ hit. first ∙ ap (λ (k : ℕ). option_or (lane_in lanes k).first (Some edge)) (eqb-true event.cpu cpu hit) ∙ ap (λ (o : Option Edge). option_or o (Some edge)) (keeps.first cpu fits)) (keeps.first cpu fits);
      last = λ cpu fits. ap (λ (l : Lane). l.last) (at cpu fits)
          ∙ part-of (λ (l : Lane). l.last) (event.cpu == cpu) lane (lane_in lanes cpu) (Some (record { stamp = event.stamp; pid = next_by event.pid event.body })) (last_edge cpu events) (λ hit. last) (keeps.last cpu fits);
      before = λ pid stamp. before pid stamp ∙ two-named (int_eq event.pid pid) (says pid event.body) (nat_lt event.stamp stamp) (begins_before (named_in old.tasks pid) stamp)
          ∙ ap (λ b. ((int_eq event.pid pid || says pid event.body) && nat_lt event.stamp stamp) || b) (keeps.before pid stamp);
      after = λ pid stamp. after pid stamp ∙ two-named (int_eq event.pid pid) (says pid event.body) (nat_lt stamp event.stamp) (ends_after (named_in old.tasks pid) stamp)
          ∙ ap (λ b. ((int_eq event.pid pid || says pid event.body) && nat_lt stamp event.stamp) || b) (keeps.after pid stamp);
      shown = λ stamp. ap (λ (o : Option ℕ). is_before o stamp) shown ∙ keeps.shown stamp;
      from = λ stamp. ap (λ (o : Option ℕ). is_from o stamp) from ∙ keeps.from stamp;
      all = λ span. ap (λ s. has_span s span) all ∙ keeps.all span;
    }

-- one showing more
pub shown-more : (old new : Windows) (events : List Traced) (showings : List Showing) (showing : Showing) → new.lanes ≡ old.lanes → new.tasks ≡ old.tasks
    → ((span : Span) → has_span new.spans span ≡ (eq_by_cmp span_cmp span (span_of showing) || has_span old.spans span))
    → ((stamp : ℕ) → is_before new.least_at stamp ≡ (nat_lt showing.at stamp || is_before old.least_at stamp))
    → ((stamp : ℕ) → is_from new.greatest_from stamp ≡ (not (nat_lt showing.from stamp) || is_from old.greatest_from stamp))
    → Keeps old events showings → Keeps new events (showings ++ showing ∷ [])
shown-more old new events showings showing lanes tasks all shown from keeps = record {
  first = λ cpu fits. ap (λ (ls : Vec Lane Global). (lane_in ls.items cpu).first) lanes ∙ keeps.first cpu fits;
  last = λ cpu fits. ap (λ (ls : Vec Lane Global). (lane_in ls.items cpu).last) lanes ∙ keeps.last cpu fits;
  before = λ pid stamp. ap (λ ts. begins_before (named_in ts pid) stamp) tasks ∙ keeps.before pid stamp;
  after = λ pid stamp. ap (λ ts. ends_after (named_in ts pid) stamp) tasks ∙ keeps.after pid stamp;
  shown = λ stamp. shown stamp ∙ ap (λ b. nat_lt showing.at stamp || b) (keeps.shown stamp) ∙ one-behind (λ (s : Showing). nat_lt s.at stamp) showings showing;
  from = λ stamp. from stamp ∙ ap (λ b. not (nat_lt showing.from stamp) || b) (keeps.from stamp) ∙ one-behind (λ (s : Showing). not (nat_lt s.from stamp)) showings showing;
  all = λ span. all span ∙ ap (λ b. eq_by_cmp span_cmp span (span_of showing) || b) (keeps.all span) ∙ one-behind (λ (s : Showing). eq_by_cmp span_cmp span (span_of s)) showings showing;
}

-- the next of some showings behind the others
pub next-showing : (showings more : List Showing) (i : ℕ) (d : Showing) → i < length more → (showings ++ take i more) ++ get_or more i d ∷ [] ≡ showings ++ take (i + 1) more
next-showing showings more i d within =
    append_assoc showings (take i more) (get_or more i d ∷ []) ∙ ap (λ (ss : List Showing). showings ++ ss) (sym (take_more more i d within))
