-- The merged events as one event comes to the lanes or is struck.
use Rattle.std.proofs.Common.{◌≡◌, ℕ, Bool, true, false, cond, refl, sym, ap, ◌∙◌, Option, Some, None, unwrap_or, arith}
use Rattle.std.specs.Prelude.{◌==◌, ◌&&◌, if◌then◌else◌, option_and_then}
use Rattle.std.specs.FinMap as map
use Rattle.std.proofs.lemmas.Bool.{and_parts, eq-eqb}
use Rattle.ft_lanes.specs.Edits.{new_lane, lane_or_new, lane_with, lanes_with, lane_without, lanes_without}
use Rattle.ft_base.specs.Base.{Base}
use Rattle.ft_fields.specs.Places.{pos_cmp, pos_cmp_total, pos_same}
use Rattle.ft_fields.specs.Traced.{Traced}
use Rattle.ft_fields.specs.declared.pos.Pos.{Pos}
use Rattle.ft_lanes.specs.Held.{event_at, Lane, Lanes}
use Rattle.ft_maps.specs.Entries.{same_from_tie}
use Rattle.ft_replay.proofs.Places.{merged_at}
use Rattle.ft_replay.specs.Merged.{held_at, merged}
use Rattle.std.specs.Cmp.{eq_by_cmp_equiv, nat_cmp_total, nat_eq_equiv, tied_then, unsigned_tied}
use Rattle.std.specs.FinMap.{get-empty, get-insert, get-remove, nat_cmp-IsAntisymmetric, same_map}
use Rattle.std.specs.Option.{option_map_or}
use Rattle.std.specs.Ordering.{eq_by_cmp, is_eq, nat_cmp, ordering_then}
use Rattle.ft_base.specs.Reachable.{IsReachable}

-- numbers that tie are one
pub tie_nat : (a b : ℕ) → eq_by_cmp nat_cmp a b ≡ true → a ≡ b
tie_nat = same_from_tie nat_cmp-IsAntisymmetric

-- ---- what lines have after an edit

-- the event of a line, by the lane
abbrev pub in_lane : ℕ → Option Lane → Option Traced
in_lane line lane = option_and_then (λ (l : Lane). map.get l.events line) lane

-- an event, if it has this stamp
abbrev pub on_stamp : ℕ → Traced → Option Traced
on_stamp stamp e = if e.stamp == stamp then Some e else None

-- whether a CPU and a line are these
abbrev on_line : ℕ → ℕ → ℕ → ℕ → Bool
on_line cpu line c l = eq_by_cmp nat_cmp c cpu && eq_by_cmp nat_cmp l line

-- one line has another event, or none
module _ (lanes : Lanes) (cpu line : ℕ) (own : Option Traced) where
  -- so it is with another lane for the CPU
  one_line : (lane : Lane) → ((l : ℕ) → map.get lane.events l ≡ cond (eq_by_cmp nat_cmp l line) own (event_at lanes cpu l)) → (c l : ℕ) → event_at (map.insert lanes cpu lane) c l ≡ cond (on_line cpu line c l) own (event_at lanes c l)
  one_line lane its c l =
      ap (in_lane l) (get-insert nat_cmp_total lanes cpu lane c)
      ∙ elim (eq_by_cmp nat_cmp c cpu) as (λ (b : Bool). eq_by_cmp nat_cmp c cpu ≡ b → in_lane l (cond b (Some lane) (map.get lanes c)) ≡ cond (b && eq_by_cmp nat_cmp l line) own (event_at lanes c l)) [
        | true ↦ λ tie. its l ∙ ap (λ (k : ℕ). cond (eq_by_cmp nat_cmp l line) own (event_at lanes k l)) (sym (tie_nat c cpu tie))
        | false ↦ λ _. refl
      ] refl

-- at the line of a CPU is what is held there
at_line : (lanes : Lanes) (cpu line c l : ℕ) → on_line cpu line c l ≡ true → event_at lanes c l ≡ event_at lanes cpu line
at_line lanes cpu line c l tie =
    let parts = and_parts (eq_by_cmp nat_cmp c cpu) (eq_by_cmp nat_cmp l line) tie in
    λ i. event_at lanes (tie_nat c cpu parts.0 i) (tie_nat l line parts.1 i)

event_with : (lanes : Lanes) (event : Traced) (cpu line : ℕ)
    → event_at (lanes_with lanes event) cpu line ≡ cond (eq_by_cmp nat_cmp cpu event.cpu && eq_by_cmp nat_cmp line (lane_or_new lanes event.cpu).next) (Some event) (event_at lanes cpu line)
event_with lanes event = one_line lanes event.cpu (lane_or_new lanes event.cpu).next (Some event) (lane_with (lane_or_new lanes event.cpu) event) (λ l.
    get-insert nat_cmp_total (lane_or_new lanes event.cpu).events (lane_or_new lanes event.cpu).next event l
    ∙ ap (λ (o : Option Traced). cond (eq_by_cmp nat_cmp l (lane_or_new lanes event.cpu).next) (Some event) o) (of_new (map.get lanes event.cpu) l))
  where
    of_new : (lane : Option Lane) (line : ℕ) → map.get (unwrap_or lane new_lane).events line ≡ in_lane line lane
    of_new None line = get-empty {X = Traced} nat_cmp line
    of_new (Some lane) line = refl

event_without : (lanes : Lanes) (cpu line c l : ℕ) → event_at (lanes_without lanes cpu line) c l ≡ cond (eq_by_cmp nat_cmp c cpu && eq_by_cmp nat_cmp l line) None (event_at lanes c l)
event_without lanes cpu line c l =
    elim (map.get lanes cpu) as (λ (o : Option Lane). map.get lanes cpu ≡ o
    → event_at (option_map_or (λ (lane : Lane). map.insert lanes cpu (lane_without lane line)) o lanes) c l ≡ cond (eq_by_cmp nat_cmp c cpu && eq_by_cmp nat_cmp l line) None (event_at lanes c l)) [
      | None ↦ λ none. stays (eq_by_cmp nat_cmp c cpu && eq_by_cmp nat_cmp l line) (event_at lanes c l) (λ tie. at_line lanes cpu line c l tie ∙ ap (in_lane line) none)
      | Some lane ↦ λ some. one_line lanes cpu line None (lane_without lane line) (λ k. get-remove nat_cmp_total lane.events line k ∙ ap (λ (o : Option Traced). cond (eq_by_cmp nat_cmp k line) None o) (sym (ap (in_lane k) some))) c l
    ] refl
  where
    stays : (b : Bool) (o : Option Traced) → (b ≡ true → o ≡ None) → o ≡ cond b None o
    stays true o none = none refl
    stays false o none = refl

-- ---- places

-- a place ties exactly if its stamp, its CPU and its line do
pub tie_at : (q pos : Pos) → eq_by_cmp pos_cmp q pos ≡ (is_eq (nat_cmp q.stamp pos.stamp) && (eq_by_cmp nat_cmp q.cpu pos.cpu && eq_by_cmp nat_cmp q.line pos.line))
tie_at q pos =
    sym (tied_then (nat_cmp q.stamp pos.stamp) (ordering_then (nat_cmp q.cpu pos.cpu) (nat_cmp q.line pos.line)))
    ∙ ap (λ (b : Bool). is_eq (nat_cmp q.stamp pos.stamp) && b) (sym (tied_then (nat_cmp q.cpu pos.cpu) (nat_cmp q.line pos.line)))

pub stamp_tie : (stamp : ℕ) (e : Traced) → on_stamp stamp e ≡ cond (is_eq (nat_cmp stamp e.stamp)) (Some e) None
stamp_tie stamp e = ap (λ (b : Bool). cond b (Some e) None) (sym (unsigned_tied stamp e.stamp ∙ nat_eq_equiv.symm stamp e.stamp))

-- the event of a line at its place
pub placed_there : (lanes : Lanes) (cpu line : ℕ) (event : Traced) → event_at lanes cpu line ≡ Some event → map.get (merged lanes) (record { stamp = event.stamp; cpu = cpu; line = line }) ≡ Some event
placed_there lanes cpu line event there =
    merged_at (record { stamp = event.stamp; cpu = cpu; line = line }) lanes ∙ ap (option_and_then (on_stamp event.stamp)) there
    ∙ ap (λ (b : Bool). if b then Some event else None) (eq-eqb event.stamp event.stamp refl)

-- ---- an event that is struck

module _ (lanes : Lanes) (cpu line : ℕ) (event : Traced) (there : event_at lanes cpu line ≡ Some event) where
  abbrev its_place : Pos
  its_place = record { stamp = event.stamp; cpu = cpu; line = line }

  -- at its line nothing else is held
  its_line : (q : Pos) → on_line cpu line q.cpu q.line ≡ true → held_at lanes q ≡ cond (is_eq (nat_cmp q.stamp event.stamp)) (Some event) None
  its_line q tie = ap (option_and_then (on_stamp q.stamp)) (at_line lanes cpu line q.cpu q.line tie ∙ there) ∙ stamp_tie q.stamp event

  gone_by : (q : Pos) (stamp own : Bool) → (own ≡ true → held_at lanes q ≡ cond stamp (Some event) None)
      → option_and_then (on_stamp q.stamp) (cond own None (event_at lanes q.cpu q.line)) ≡ cond (stamp && own) None (held_at lanes q)
  gone_by q true true is = refl
  gone_by q true false is = refl
  gone_by q false true is = sym (is refl)
  gone_by q false false is = refl

  -- lanes that lack it, merged, are the merged events without it
  lacking : (less : Lanes) → ((c l : ℕ) → event_at less c l ≡ cond (on_line cpu line c l) None (event_at lanes c l)) → merged less ≡ map.remove (merged lanes) its_place
  lacking less lacks = same_map pos_cmp_total pos_same (merged less) (map.remove (merged lanes) its_place) (λ q.
      merged_at q less
      ∙ ap (option_and_then (on_stamp q.stamp)) (lacks q.cpu q.line)
      ∙ gone_by q (is_eq (nat_cmp q.stamp event.stamp)) (on_line cpu line q.cpu q.line) (its_line q)
      ∙ sym (get-remove pos_cmp_total (merged lanes) its_place q ∙ (λ i. cond (tie_at q its_place i) None (merged_at q lanes i))))

  pub merged_one_less : merged (lanes_without lanes cpu line) ≡ map.remove (merged lanes) its_place
  merged_one_less = lacking (lanes_without lanes cpu line) (event_without lanes cpu line)

-- ---- an event that is inserted

-- it stands at its line
pub new_line_has : (base : Base) (event : Traced) → event_at (lanes_with base.lanes event) event.cpu (lane_or_new base.lanes event.cpu).next ≡ Some event
new_line_has base event =
    event_with base.lanes event event.cpu (lane_or_new base.lanes event.cpu).next
    ∙ (λ i. cond (nat_tie event.cpu i && nat_tie (lane_or_new base.lanes event.cpu).next i) (Some event) (event_at base.lanes event.cpu (lane_or_new base.lanes event.cpu).next))
  where
    nat_tie : (a : ℕ) → eq_by_cmp nat_cmp a a ≡ true
    nat_tie a = (eq_by_cmp_equiv nat_cmp_total).refl a

module _ (base : Base) (reachable : IsReachable base) (event : Traced) where
  abbrev new_line : ℕ
  new_line = (lane_or_new base.lanes event.cpu).next

  -- its line was free
  free_line : event_at base.lanes event.cpu new_line ≡ None
  free_line =
      elim (map.get base.lanes event.cpu) as (λ (o : Option Lane). map.get base.lanes event.cpu ≡ o → in_lane (unwrap_or o new_lane).next o ≡ None) [
        | None ↦ λ _. refl
        | Some lane ↦ λ there. elim (map.get lane.events lane.next) as (λ (o : Option Traced). map.get lane.events lane.next ≡ o → o ≡ None) [
          | None ↦ λ _. refl
          | Some e ↦ λ is. absurd (omega (arith, (reachable.lines event.cpu lane there lane.next e is).1))
        ] refl
      ] refl

  -- so only it was lacking
  pub merged_one_more : merged base.lanes ≡ map.remove (merged (lanes_with base.lanes event)) (record { stamp = event.stamp; cpu = event.cpu; line = new_line })
  merged_one_more = lacking (lanes_with base.lanes event) event.cpu new_line event (new_line_has base event) base.lanes (λ c l.
      free (on_line event.cpu new_line c l) (event_at base.lanes c l) (λ tie. at_line base.lanes event.cpu new_line c l tie ∙ free_line)
      ∙ sym (ap (λ (o : Option Traced). cond (on_line event.cpu new_line c l) None o) (event_with base.lanes event c l)))
    where
      free : (own : Bool) (old : Option Traced) → (own ≡ true → old ≡ None) → old ≡ cond own None (cond own (Some event) old)
      free true old none = none refl
      free false old none = refl
