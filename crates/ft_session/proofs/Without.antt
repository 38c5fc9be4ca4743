-- Bases without the events at some places, in whatever order these were struck.
use Rattle.std.proofs.Common.{rules, ◌≡◌, ℕ, Bool, true, false, cond, Option, Some, None, Result, Ok, Err, refl, sym, ap, subst, ◌∙◌}
use Rattle.std.specs.Prelude.{◌||◌, IsSome, option_and_then, if◌then◌else◌}
use Rattle.std.specs.Option.{option_map_or}
use Rattle.std.specs.Ordering.{eq_by_cmp, nat_cmp}
use Rattle.std.specs.Cmp.{eq_by_cmp_equiv, nat_cmp_total}
use Rattle.std.specs.FinMap as map
use Rattle.std.specs.FinMap.{same_map, get-insert, get-remove, nat_cmp-IsAntisymmetric}
use Rattle.std.proofs.lemmas.Bool.{true≢false}
use Rattle.ft_fields.specs.Traced.{Traced}
use Rattle.ft_fields.specs.Places.{pos_cmp, pos_cmp_total, pos_same}
use Rattle.ft_fields.specs.declared.pos.Pos.{Pos}
use Rattle.ft_maps.specs.Entries.{same_from_tie}
use Rattle.ft_base.specs.Base.{Base}
use Rattle.ft_base.specs.declared.refused.Place.{Place}
use Rattle.ft_base.specs.declared.refused.Refused.{Refused}
use Rattle.ft_base.specs.declared.refused.Refused.TheVariants.{NoLane, NoEvent}
use Rattle.ft_answers.specs.After.{after_strike}
use Rattle.ft_answers.specs.Edits.{lanes_without, lane_without}
use Rattle.ft_answers.specs.Held.{Lane, event_at}
use Rattle.ft_session.specs.Strikes.{HasGone}
use Rattle.ft_session.specs.inner.Fronts.{IsLaneWithout, IsWithout}

abbrev pub same_pos : Pos → Pos → Bool
same_pos = eq_by_cmp pos_cmp

-- ---- one base at most is without the events at some places

module _ (gone : Pos → Bool) where
  one_lane : (cpu : ℕ) (old a b : Option Lane) → IsLaneWithout gone cpu old a → IsLaneWithout gone cpu old b → a ≡ b
  one_lane cpu None None None first second = refl
  one_lane cpu None None (Some b) first second = absurd second
  one_lane cpu None (Some a) b first second = absurd first
  one_lane cpu (Some old) None b first second = absurd first
  one_lane cpu (Some old) (Some a) None first second = absurd second
  one_lane cpu (Some old) (Some a) (Some b) first second =
      let events = same_map nat_cmp_total nat_cmp-IsAntisymmetric a.events b.events (λ line. first.1 line ∙ sym (second.1 line)) in
      λ i. Some (record { events = events i; next = (first.0 ∙ sym second.0) i })

  pub one_base : (old a b : Base) → IsWithout gone old a → IsWithout gone old b → a ≡ b
  one_base old a b first second =
      let lanes = same_map nat_cmp_total nat_cmp-IsAntisymmetric a.lanes b.lanes (λ cpu. one_lane cpu (map.get old.lanes cpu) (map.get a.lanes cpu) (map.get b.lanes cpu) (first.lanes cpu) (second.lanes cpu)) in
      λ i. record { lanes = lanes i; triggers = (first.triggers ∙ sym second.triggers) i; next_id = (first.next_id ∙ sym second.next_id) i }

-- without none, it is the same
pub without_none : (base : Base) → IsWithout (λ _. false) base base
without_none base = record { triggers = refl; next_id = refl; lanes = λ cpu. by cpu (map.get base.lanes cpu) }
  where
    kept : (o : Option Traced) → o ≡ option_and_then (λ event. Some event) o
    kept None = refl
    kept (Some event) = refl

    by : (cpu : ℕ) (lane : Option Lane) → IsLaneWithout (λ _. false) cpu lane lane
    by cpu None = tt
    by cpu (Some lane) = (refl, λ line. kept (map.get lane.events line))

-- ---- one more event is struck

-- the event of a lane's line
abbrev in_line : ℕ → Option Lane → Option Traced
in_line line lane = option_and_then (λ l. map.get l.events line) lane

-- an event, unless it is gone
abbrev unless : (Pos → Bool) → ℕ → ℕ → Traced → Option Traced
unless gone cpu line event = if gone (record { stamp = event.stamp; cpu = cpu; line = line }) then None else Some event

-- what is held in a base without the events at some places
event_without : {gone : Pos → Bool} {old new : Base} → IsWithout gone old new → (cpu line : ℕ) → event_at new.lanes cpu line ≡ option_and_then (unless gone cpu line) (event_at old.lanes cpu line)
event_without {gone} {old} {new} without cpu line = by (map.get old.lanes cpu) (map.get new.lanes cpu) (without.lanes cpu)
  where
    by : (o n : Option Lane) → IsLaneWithout gone cpu o n → in_line line n ≡ option_and_then (unless gone cpu line) (in_line line o)
    by None None is = refl
    by None (Some n) is = absurd is
    by (Some o) None is = absurd is
    by (Some o) (Some n) is = is.1 line

-- a base without one event
abbrev pub struck : Base → Pos → Base
struck base pos = record base { lanes = lanes_without base.lanes pos.cpu pos.line }

-- a held event can be struck
pub strike_held : (base : Base) (cpu line : ℕ) (event : Traced) → event_at base.lanes cpu line ≡ Some event → after_strike base cpu line ≡ Ok (record base { lanes = lanes_without base.lanes cpu line }, record { cpu = cpu; line = line })
unfolding after_strike
strike_held base cpu line event there = by (map.get base.lanes cpu) there
  where
    done : Result (Base × Place) Refused
    done = Ok (record base { lanes = lanes_without base.lanes cpu line }, record { cpu = cpu; line = line })

    by : (lane : Option Lane) → in_line line lane ≡ Some event → option_map_or (λ l. option_map_or (λ _. done) (map.get l.events line) (Err NoEvent)) lane (Err (NoLane cpu)) ≡ done
    by None none = absurd cc
    by (Some lane) is = ap (λ o. option_map_or (λ _. done) o (Err NoEvent)) is

module _ {gone : Pos → Bool} {old mid : Base} (without : IsWithout gone old mid) (pos : Pos) (event : Traced)
    (there : event_at old.lanes pos.cpu pos.line ≡ Some event) (stamp : event.stamp ≡ pos.stamp) (left : gone pos ≡ false) where
  abbrev with_stamp : ℕ → Pos
  with_stamp s = record { stamp = s; cpu = pos.cpu; line = pos.line }

  its_pos : with_stamp event.stamp ≡ pos
  its_pos = ap with_stamp stamp

  -- it is still there
  pub still_there : event_at mid.lanes pos.cpu pos.line ≡ Some event
  still_there =
      event_without without pos.cpu pos.line
      ∙ ap (option_and_then (unless gone pos.cpu pos.line)) there
      ∙ ap (λ b. if b then None else Some event) (ap gone its_pos ∙ left)

  module _ (more : Pos → Bool) (both : (q : Pos) → more q ≡ (same_pos q pos || gone q)) where
    -- elsewhere nothing goes
    elsewhere : (cpu line : ℕ) → ((stamp : ℕ) → same_pos (record { stamp = stamp; cpu = cpu; line = line }) pos ≡ false) → (o : Option Traced)
        → option_and_then (unless gone cpu line) o ≡ option_and_then (unless more cpu line) o
    elsewhere cpu line apart None = refl
    elsewhere cpu line apart (Some e) =
        let q : Pos = record { stamp = e.stamp; cpu = cpu; line = line } in
        ap (λ b. if b then None else Some e) (sym (both q ∙ ap (λ t. t || gone q) (apart e.stamp)))

    apart_by : (q : Pos) → (q ≡ pos → ⊥) → same_pos q pos ≡ false
    apart_by q differ = by (same_pos q pos) refl
      where
        by : (b : Bool) → same_pos q pos ≡ b → b ≡ false
        by true tie = absurd (differ (same_from_tie pos_same q pos tie))
        by false tie = refl

    other_cpu : (cpu : ℕ) → eq_by_cmp nat_cmp cpu pos.cpu ≡ false → (o m : Option Lane) → IsLaneWithout gone cpu o m → IsLaneWithout more cpu o m
    other_cpu cpu other None None is = tt
    other_cpu cpu other None (Some m) is = absurd is
    other_cpu cpu other (Some o) None is = absurd is
    other_cpu cpu other (Some o) (Some m) is = (
      is.0,
      λ line. is.1 line ∙ elsewhere cpu line (λ stamp. apart_by _ (λ same. true≢false (sym ((eq_by_cmp_equiv nat_cmp_total).refl pos.cpu) ∙ ap (λ (q : Pos). eq_by_cmp nat_cmp q.cpu pos.cpu) (sym same) ∙ other))) (map.get o.events line),
    )

    own_cpu : (o m : Option Lane) → in_line pos.line o ≡ Some event → IsLaneWithout gone pos.cpu o m → IsLaneWithout more pos.cpu o (option_map_or (λ (l : Lane). Some (lane_without l pos.line)) m None)
    own_cpu None m none is = absurd cc
    own_cpu (Some o) None here is = absurd is
    own_cpu (Some o) (Some m) here is = (is.0, λ line. get-remove nat_cmp_total m.events pos.line line ∙ by line (eq_by_cmp nat_cmp line pos.line) refl)
      where
        by : (line : ℕ) (b : Bool) → eq_by_cmp nat_cmp line pos.line ≡ b → cond b None (map.get m.events line) ≡ option_and_then (unless more pos.cpu line) (map.get o.events line)
        by line true tie =
            let same : line ≡ pos.line = same_from_tie nat_cmp-IsAntisymmetric line pos.line tie in
            sym (ap (λ (n : ℕ). option_and_then (unless more pos.cpu n) (map.get o.events n)) same
            ∙ ap (option_and_then (unless more pos.cpu pos.line)) here
            ∙ ap (λ b. if b then None else Some event) (ap more its_pos ∙ both pos ∙ ap (λ t. t || gone pos) ((eq_by_cmp_equiv pos_cmp_total).refl pos)))
        by line false other = is.1 line ∙ elsewhere pos.cpu line (λ stamp. apart_by _ (λ same. true≢false (sym ((eq_by_cmp_equiv nat_cmp_total).refl pos.line) ∙ ap (λ (q : Pos). eq_by_cmp nat_cmp q.line pos.line) (sym same) ∙ other))) (map.get o.events line)

    -- the base without it, too
    pub without_more : IsWithout more old (struck mid pos)
    without_more = record { triggers = without.triggers; next_id = without.next_id; lanes = λ cpu. subst (IsLaneWithout more cpu (map.get old.lanes cpu)) (sym (its_lane cpu)) (by cpu (eq_by_cmp nat_cmp cpu pos.cpu) refl) }
      where
        -- the lane of a CPU afterwards
        after : Bool → ℕ → Option Lane
        after own cpu = cond own (option_map_or (λ (l : Lane). Some (lane_without l pos.line)) (map.get mid.lanes pos.cpu) None) (map.get mid.lanes cpu)

        its_lane : (cpu : ℕ) → map.get (struck mid pos).lanes cpu ≡ after (eq_by_cmp nat_cmp cpu pos.cpu) cpu
        its_lane cpu = at (map.get mid.lanes pos.cpu) still_there
          where
            at : (m : Option Lane) → in_line pos.line m ≡ Some event
                → map.get (option_map_or (λ (l : Lane). map.insert mid.lanes pos.cpu (lane_without l pos.line)) m mid.lanes) cpu
                ≡ cond (eq_by_cmp nat_cmp cpu pos.cpu) (option_map_or (λ (l : Lane). Some (lane_without l pos.line)) m None) (map.get mid.lanes cpu)
            at None none = absurd cc
            at (Some m) is = get-insert nat_cmp_total mid.lanes pos.cpu (lane_without m pos.line) cpu

        by : (cpu : ℕ) (own : Bool) → eq_by_cmp nat_cmp cpu pos.cpu ≡ own → IsLaneWithout more cpu (map.get old.lanes cpu) (after own cpu)
        by cpu true tie =
            let same : cpu ≡ pos.cpu = same_from_tie nat_cmp-IsAntisymmetric cpu pos.cpu tie in
            subst (λ (c : ℕ). IsLaneWithout more c (map.get old.lanes c) (option_map_or (λ (l : Lane). Some (lane_without l pos.line)) (map.get mid.lanes pos.cpu) None)) (sym same)
            (own_cpu (map.get old.lanes pos.cpu) (map.get mid.lanes pos.cpu) there (without.lanes pos.cpu))
        by cpu false other = other_cpu cpu other (map.get old.lanes cpu) (map.get mid.lanes cpu) (without.lanes cpu)

-- ---- a strike that was accepted

-- what was held at its place
struck_event : (base : Base) (cpu line : ℕ) (done : Base × Place) → after_strike base cpu line ≡ Ok done → (event : Traced) × (event_at base.lanes cpu line ≡ Some event)
unfolding after_strike
struck_event base cpu line done is = by (map.get base.lanes cpu) is
  where
    given : Base × Place
    given = (record base { lanes = lanes_without base.lanes cpu line }, record { cpu = cpu; line = line })

    at : (o : Option Traced) → option_map_or (λ _. Ok given) o (Err NoEvent) ≡ Ok done → (event : Traced) × (o ≡ Some event)
    at None is = search (is, rules)
    at (Some event) is = (event, refl)

    by : (lane : Option Lane) → option_map_or (λ l. option_map_or (λ _. Ok given) (map.get l.events line) (Err NoEvent)) lane (Err (NoLane cpu)) ≡ Ok done → (event : Traced) × (in_line line lane ≡ Some event)
    by None is = search (is, rules)
    by (Some lane) is = at (map.get lane.events line) is

-- what an accepted edit did
abbrev pub done_or : Base × Place → Result (Base × Place) Refused → Base × Place
done_or other (Ok done) = done
done_or other (Err refused) = other

some_event : (o : Option Traced) (event : Traced) → o ≡ Some event → IsSome o
some_event None event is = search (is, rules)
some_event (Some e) event is = refl

-- its event was held and is gone, and no other has come
pub struck_goes : (base : Base) (cpu line : ℕ) (new : Base) (place : Place) → after_strike base cpu line ≡ Ok (new, place)
    → HasGone base new place × ((c l : ℕ) → event_at base.lanes c l ≡ None → event_at new.lanes c l ≡ None)
struck_goes base cpu line new place is =
    let event = struck_event base cpu line (new, place) is in
    let pos : Pos = record { stamp = event.0.stamp; cpu = cpu; line = line } in
    let without : IsWithout (λ q. same_pos q pos || false) base (struck base pos) = without_more (without_none base) pos event.0 event.1 refl refl (λ q. same_pos q pos || false) (λ q. refl) in
    let done : ◌≡◌ {A = Base × Place} (struck base pos, record { cpu = cpu; line = line }) (new, place) = ap (done_or (new, place)) (sym (strike_held base cpu line event.0 event.1) ∙ is) in
    subst (λ (d : Base × Place). HasGone base d.0 d.1 × ((c l : ℕ) → event_at base.lanes c l ≡ None → event_at d.0.lanes c l ≡ None)) done (
      (
        some_event (event_at base.lanes cpu line) event.0 event.1,
        event_without without cpu line
            ∙ ap (option_and_then (unless (λ q. same_pos q pos || false) cpu line)) event.1
            ∙ ap (λ b. if b || false then None else Some event.0) ((eq_by_cmp_equiv pos_cmp_total).refl pos),
      ),
      λ c l none. event_without without c l ∙ ap (option_and_then (unless (λ q. same_pos q pos || false) c l)) none,
    )
