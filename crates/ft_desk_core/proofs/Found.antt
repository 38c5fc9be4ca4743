-- What is looked up in one of two steps, and whether it is there: what an edit would say of it is what a question says of it.
use Rattle.std.proofs.Common.{◌≡◌, ℕ, Bool, true, false, refl, sym, ap, subst, List, Option, Some, None, Result, Ok, Err}
use Rattle.std.specs.Prelude.{IsSome, ok_or, option_and_then}
use Rattle.std.specs.Option.{option_map_or}
use Rattle.std.specs.FinMap as map
use Rattle.ft_fields.specs.Traced.{Traced}
use Rattle.ft_fields.specs.declared.event.Name.{Name}
use Rattle.ft_fields.specs.declared.pos.Pos.{Pos}
use Rattle.ft_filter.specs.Tree.{Tree}
use Rattle.ft_lanes.specs.Edits.{lanes_without}
use Rattle.ft_lanes.specs.Held.{Lane, event_at}
use Rattle.ft_answers.specs.Places.{lane_places, matching_places}
use Rattle.ft_base.specs.declared.refused.Place.{Place}
use Rattle.ft_base.specs.declared.refused.Refused.{Refused}
use Rattle.ft_base.specs.declared.refused.Refused.TheVariants.{NoLane, NoEvent}
use Rattle.ft_answers.specs.Base.{Base}
use Rattle.ft_answers.specs.After.{after_unload, after_strike}
use Rattle.ft_desk_core.specs.Edits.{◌>>=◌}
use Rattle.ft_desk_core.specs.Found.{event_found, lane_found, matching_found, tree_for}

-- what an answer is refused for, or else this
abbrev err_or : {S : Type 0} → Result S Refused → Refused → Refused
err_or (Ok value) other = other
err_or (Err refused) other = refused

-- what an answer is, or else this
abbrev value_or : {S : Type 0} → Result S Refused → S → S
value_or (Ok value) other = value
value_or (Err refused) other = other

-- a refusal is the same of any answer
same-err : {S T : Type 0} (a b : Refused) → ◌≡◌ {A = Result S Refused} (Err a) (Err b) → ◌≡◌ {A = Result T Refused} (Err a) (Err b)
same-err {S} {T} a b is = ap (λ (r : Refused). let answer : Result T Refused = Err r in answer) (ap (λ (r : Result S Refused). err_or r a) is)

never : {S P : Type 0} (value : S) (refused : Refused) → ◌≡◌ {A = Result S Refused} (Ok value) (Err refused) → P
never value refused is = absurd cc

-- ---- in one step

module _ {L S T : Type 0} (f : L → S) (g : L → T) (none : Refused) where
  -- refused for the one as for the other
  pub one-err : (o : Option L) (refused : Refused) → option_map_or (λ l. let r : Result S Refused = Ok (f l) in r) o (Err none) ≡ Err refused
      → option_map_or (λ l. let r : Result T Refused = Ok (g l) in r) o (Err none) ≡ Err refused
  one-err None refused is = same-err none refused is
  one-err (Some l) refused is = never (f l) refused is

-- there for the one as for the other
pub one-ok : {L S T : Type 0} (f : L → S) (value : T) (none : Refused) (o : Option L) (found : S) → option_map_or (λ l. let r : Result S Refused = Ok (f l) in r) o (Err none) ≡ Ok found
    → option_map_or (λ (_ : L). let r : Result T Refused = Ok value in r) o (Err none) ≡ Ok value
one-ok f value none None found is = absurd cc
one-ok f value none (Some l) found is = refl

-- ---- in two steps

module _ {L X S : Type 0} (value : S) (p : L → Option X) (miss none : Refused) where
  -- refused for the one as for the other
  pub two-err : (o : Option L) (refused : Refused) → option_map_or (λ l. option_map_or (λ (_ : X). let r : Result S Refused = Ok value in r) (p l) (Err miss)) o (Err none) ≡ Err refused
      → option_map_or (λ l. option_map_or (λ (x : X). let r : Result X Refused = Ok x in r) (p l) (Err miss)) o (Err none) ≡ Err refused
  two-err None refused is = same-err none refused is
  two-err (Some l) refused is = one-err (λ (_ : X). value) (λ (x : X). x) miss (p l) refused is

  -- and what is told is this value
  pub two-value : (o : Option L) (found : S) → option_map_or (λ l. option_map_or (λ (_ : X). let r : Result S Refused = Ok value in r) (p l) (Err miss)) o (Err none) ≡ Ok found → value ≡ found
  two-value None found is = absurd cc
  two-value (Some l) found is =
      elim (p l) as (λ q. option_map_or (λ (_ : X). let r : Result S Refused = Ok value in r) q (Err miss) ≡ Ok found → value ≡ found) [
        | None ↦ λ wrong. absurd cc
        | Some x ↦ λ same. ap (λ (r : Result S Refused). value_or r value) same
      ] is

-- what is there is found
pub two-found : {L X : Type 0} (p : L → Option X) (miss none : Refused) (o : Option L) (x : X) → option_and_then p o ≡ Some x
    → option_map_or (λ l. option_map_or (λ (y : X). let r : Result X Refused = Ok y in r) (p l) (Err miss)) o (Err none) ≡ Ok x
two-found p miss none None x is = absurd cc
two-found {L} {X} p miss none (Some l) x is = ap (λ (q : Option X). option_map_or (λ (y : X). let r : Result X Refused = Ok y in r) q (Err miss)) is

-- ---- of a base

-- the event of a line that can't be struck isn't found, for the same
pub event-none : (base : Base) (cpu line : ℕ) (refused : Refused) → after_strike base cpu line ≡ Err refused → event_found base cpu line ≡ Err refused
unfolding after_strike event_found
event-none base cpu line refused is =
    let value : Base × Place = (record base { lanes = lanes_without base.lanes cpu line }, record { cpu = cpu; line = line }) in
    two-err value (λ (lane : Lane). map.get lane.events line) NoEvent (NoLane cpu) (map.get base.lanes cpu) refused is

-- that of a line that can be struck is found
event-there : (base new : Base) (cpu line : ℕ) (place : Place) (event : Traced) → after_strike base cpu line ≡ Ok (new, place) → event_at base.lanes place.cpu place.line ≡ Some event
    → event_found base cpu line ≡ Ok event
unfolding after_strike event_found
event-there base new cpu line place event is there =
    let value : Base × Place = (record base { lanes = lanes_without base.lanes cpu line }, record { cpu = cpu; line = line }) in
    let here : Place = record { cpu = cpu; line = line } in
    let same : place ≡ here = sym (ap (λ (v : Base × Place). v.1) (two-value value (λ (lane : Lane). map.get lane.events line) NoEvent (NoLane cpu) (map.get base.lanes cpu) (new, place) is)) in
    two-found (λ (lane : Lane). map.get lane.events line) NoEvent (NoLane cpu) (map.get base.lanes cpu) event (subst (λ (p : Place). event_at base.lanes p.cpu p.line ≡ Some event) same there)

-- so what is at its place is what is found
pub event-got : (base new : Base) (cpu line : ℕ) (place : Place) → after_strike base cpu line ≡ Ok (new, place) → IsSome (event_at base.lanes place.cpu place.line)
    → ok_or (event_at base.lanes place.cpu place.line) NoEvent ≡ event_found base cpu line
event-got base new cpu line place is some =
    elim (event_at base.lanes place.cpu place.line) as (λ o. event_at base.lanes place.cpu place.line ≡ o → IsSome o → ok_or o NoEvent ≡ event_found base cpu line) [
      | None ↦ λ _ none. let both : ◌≡◌ {A = Bool} false true = none in absurd cc
      | Some event ↦ λ there _. sym (event-there base new cpu line place event is there)
    ] refl some

-- the places in a lane that can't be taken away aren't found, for the same
pub lane-none : (base : Base) (cpu line : ℕ) (refused : Refused) → after_unload base cpu ≡ Err refused → lane_found base cpu line ≡ Err refused
unfolding after_unload lane_found
lane-none base cpu line refused is =
    one-err (λ (lane : Lane). let value : Base × ℕ = (record base { lanes = map.remove base.lanes cpu }, map.len lane.events) in value) (λ (_ : Lane). lane_places base.lanes cpu line) (NoLane cpu) (map.get base.lanes cpu) refused is

-- those in one that can be are found
pub lane-there : (base : Base) (cpu line : ℕ) (found : Base × ℕ) → after_unload base cpu ≡ Ok found → lane_found base cpu line ≡ Ok (lane_places base.lanes cpu line)
unfolding after_unload lane_found
lane-there base cpu line found is =
    one-ok (λ (lane : Lane). let value : Base × ℕ = (record base { lanes = map.remove base.lanes cpu }, map.len lane.events) in value) (lane_places base.lanes cpu line) (NoLane cpu) (map.get base.lanes cpu) found is

-- ---- of a filter

module _ (base : Base) (name : Name) (text : List ℕ) where
  -- no places match what can't be read, for the same
  pub matching-refused : (refused : Refused) → tree_for name text ≡ Err refused → matching_found base name text ≡ Err refused
  unfolding matching_found
  matching-refused refused is = ap (λ (t : Result Tree Refused). t >>= (λ tree. let a : Result (List Pos) Refused = Ok (matching_places base.lanes name tree) in a)) is

  -- and those that pass what is read do
  pub matching-read : (tree : Tree) → tree_for name text ≡ Ok tree → matching_found base name text ≡ Ok (matching_places base.lanes name tree)
  unfolding matching_found
  matching-read tree is = ap (λ (t : Result Tree Refused). t >>= (λ tree. let a : Result (List Pos) Refused = Ok (matching_places base.lanes name tree) in a)) is
