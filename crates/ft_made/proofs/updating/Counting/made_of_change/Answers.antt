use Rattle.std.proofs.Common.{rules, ◌≡◌, ◌==◌, true, false, Option, Some, None, refl, sym, ap, subst, ◌∙◌, if◌then◌else◌, eqb-true}
use Rattle.std.specs.Prelude.{IfSome, option_map, option_and_then}
use Rattle.std.specs.FinMap as map
use Rattle.ft_hist.specs.Hist.{Hist}
use Rattle.ft_hist.specs.Made.{made_event, made_of}
use Rattle.ft_fields.specs.Traced.{Traced}
use Rattle.ft_fields.specs.declared.pos.Pos.{Pos}
use Rattle.ft_lanes.specs.Held.{Lanes, event_at}
use Rattle.ft_replay.specs.Merged.{held_at}
use Rattle.ft_replay.proofs.Places.{merged_at}
use Rattle.ft_made.proofs.updating.Counting.made_of_change.Goals as goal

-- a stamp is the one of an event, if there is one
abbrev HasStamp : Pos → Option Traced → Type 0
HasStamp pos made = IfSome made (λ event. pos.stamp ≡ event.stamp)

-- what is held at a place has its stamp
held_stamp : (lanes : Lanes) (pos : Pos) → HasStamp pos (held_at lanes pos)
held_stamp lanes pos = elim (event_at lanes pos.cpu pos.line) as (λ o. HasStamp pos (option_and_then (λ e. if e.stamp == pos.stamp then Some e else None) o)) [
  | None ↦ tt
  | Some e ↦ elim (e.stamp == pos.stamp) as (λ b. (e.stamp == pos.stamp) ≡ b → HasStamp pos (if b then Some e else None)) [
    | true ↦ λ same. sym (eqb-true e.stamp pos.stamp same)
    | false ↦ λ other. tt
  ] refl
]

-- what is made has the stamp of the place that it is made at
made_stamp : (maker : Hist) (pos : Pos) (event : Traced) (saved : Pos) → pos.stamp ≡ event.stamp → HasStamp pos (made_of maker pos event saved)
made_stamp maker pos event saved same = elim maker.onmatch as (λ o. HasStamp pos (option_map (made_event pos event saved) o)) [ None ↦ tt | Some onmatch ↦ same ]

pub returns : goal.returns
returns c =
    let pos : Pos = c.args.change.now.pos in
    let saved : c.args.found ≡ Some c.in_ok-saved.saved = search rules in
    let attached : map.get c.args.self.now.triggers.now c.args.change.now.id ≡ Some c.in_ok-maker.maker.now = search rules in
    let there : held_at c.args.self.now.lanes.now pos ≡ Some c.in_ok-event.event = search rules in
    let stamp : pos.stamp ≡ c.in_ok-event.event.stamp = subst (HasStamp pos) there (held_stamp c.args.self.now.lanes.now pos) in
    record {
      made =
          c.made.ensures pos stamp
          ∙ sym (λ i. option_and_then (λ event. option_and_then (λ hist. option_and_then (made_of hist pos event) (saved i)) (attached i)) ((merged_at pos c.args.self.now.lanes.now ∙ there) i));
      stamped = subst (HasStamp pos) (sym (c.made.ensures pos stamp)) (made_stamp c.in_ok-maker.maker.now pos c.in_ok-event.event c.in_ok-saved.saved stamp);
    }

pub returns-in_err-event-clause-made : goal.returns-in_err-event-clause-made
returns-in_err-event-clause-made c =
    let pos : Pos = c.args.change.now.pos in
    let none : held_at c.args.self.now.lanes.now pos ≡ None = search rules in
    let gone : c.from_residual-in_err-event.result ≡ None = search rules in
    gone
    ∙ sym (ap (λ o. option_and_then (λ event. option_and_then (λ hist. option_and_then (made_of hist pos event) c.args.found) (map.get c.args.self.now.triggers.now c.args.change.now.id)) o) (merged_at pos c.args.self.now.lanes.now ∙ none))
