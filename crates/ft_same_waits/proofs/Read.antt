-- The events that a desk reads of a text are those of a stream.
use Rattle.std.proofs.Common.{◌≡◌, ◌+◌, ℕ, List, [], ◌∷◌, ◌++◌, refl, sym, ap, ◌∙◌, Some, None, Option, Result, Ok, Err, Bool, true, false}
use Rattle.std.specs.Prelude.{length, reverse, nat_lt, if◌then◌else◌}
use Rattle.std.specs.Option.{option_map_or}
use Rattle.std.specs.FinMap as map
use Rattle.std.proofs.lemmas.List.{reverse-append}
use Rattle.ft_fields.specs.Traced.{Traced}
use Rattle.ft_event.specs.Line.{line_of}
use Rattle.ft_event.specs.declared.fault.Line.{Line}
use Rattle.ft_event.specs.declared.fault.Line.TheVariants as lines
use Rattle.ft_event.specs.declared.fault.LineFault.{LineFault}
use Rattle.ft_lanes.specs.Held.{Lanes, event_limit, held_in}
use Rattle.ft_lanes.specs.Loaded.{with_lanes, first_held}
use Rattle.ft_base.specs.After.{after_load}
use Rattle.ft_base.specs.Base.{Base}
use Rattle.ft_base.specs.declared.refused.Refused.{Refused}
use Rattle.ft_base.specs.declared.refused.Refused.TheVariants.{LaneHeld, Full}
use Rattle.ft_text.specs.Lines.{lines_of}
use Rattle.ft_desk_core.specs.Edits as desk
use Rattle.ft_desk_core.specs.Edits.{line_in_front, events_from, after_load_text, ◌>>=◌}
use Rattle.ft_waits.specs.Reading.{with_line, events_of, history, dispatches_in}
use Rattle.ft_held_waits.specs.Held.{dispatches_held}
use Rattle.ft_same_waits.specs.Loaded.{loaded}
use Rattle.ft_same_waits.proofs.Loaded.{same_told}

-- what an answer is, if it is one
abbrev value_of : {A : Type 0} → A → Result A Refused → A
value_of other (Ok x) = x
value_of other (Err refused) = other

-- ---- events of lines, with one line before them

line-first : (one : Result Line LineFault) (events more : List Traced) → with_line one (events ++ more) ≡ with_line one events ++ more
line-first (Ok (lines.Event event)) events more = refl
line-first (Ok lines.Skip) events more = refl
line-first (Err fault) events more = refl

first-line : (before : List (List ℕ)) (line : List ℕ) → events_of (before ++ line ∷ []) ≡ events_of before ++ with_line (line_of line) []
unfolding events_of
first-line [] line = refl
first-line (x ∷ before) line = ap (with_line (line_of x)) (first-line before line) ∙ line-first (line_of x) (events_of before) (with_line (line_of line) [])

line-front : (one : Result Line LineFault) (events : List Traced) → reverse (events ++ with_line one []) ≡ with_line one (reverse events)
line-front (Ok (lines.Event event)) events = reverse-append events (event ∷ [])
line-front (Ok lines.Skip) events = reverse-append events []
line-front (Err fault) events = reverse-append events []

-- the events of lines that stand newest first, with one line before all, in file order
one-before : (line : List ℕ) (rest : List (List ℕ)) → reverse (events_of (reverse (line ∷ rest))) ≡ with_line (line_of line) (reverse (events_of (reverse rest)))
one-before line rest =
    ap (λ (all : List (List ℕ)). reverse (events_of all)) (reverse-append (line ∷ []) rest)
    ∙ ap reverse (first-line (reverse rest) line)
    ∙ line-front (line_of line) (events_of (reverse rest))

in-front : (number : ℕ) (one : Result Line LineFault) (rest : Result (List Traced) Refused) (told events : List Traced)
    → ((more : List Traced) → rest ≡ Ok more → more ≡ told) → line_in_front number one rest ≡ Ok events → events ≡ with_line one told
in-front number (Err fault) rest told events so is = cc
in-front number (Ok lines.Skip) rest told events so is = so events is
in-front number (Ok (lines.Event event)) (Ok more) told events so is = ap (value_of events) (sym is) ∙ ap (λ (es : List Traced). event ∷ es) (so more refl)
in-front number (Ok (lines.Event event)) (Err refused) told events so is = cc

read-is : (number : ℕ) (rest : List (List ℕ)) (events : List Traced) → events_from number rest ≡ Ok events → events ≡ reverse (events_of (reverse rest))
unfolding events_from events_of
read-is number [] events is = ap (value_of events) (sym is)
read-is number (line ∷ rest) events is =
    in-front number (line_of line) (events_from (number + 1) rest) (reverse (events_of (reverse rest))) events (read-is (number + 1) rest) is
    ∙ sym (one-before line rest)

-- ---- a load

-- what a load answers, by what stands against it
abbrev load_by : Base → List Traced → Option ℕ → Bool → Result (Base × ℕ) Refused
load_by base events cpu full = option_map_or (λ c. Err (LaneHeld c)) cpu (if full then Err Full else Ok (record base { lanes = with_lanes base.lanes events }, length events))

load-lanes : (base new : Base) (events : List Traced) (count : ℕ) → after_load base events ≡ Ok (new, count) → new.lanes ≡ with_lanes base.lanes events
unfolding after_load
load-lanes base new events count is = from (first_held base.lanes events) (nat_lt event_limit (held_in base.lanes + length events)) is
  where
    from : (cpu : Option ℕ) (full : Bool) → load_by base events cpu full ≡ Ok (new, count) → new.lanes ≡ with_lanes base.lanes events
    from (Some cpu) full is = cc
    from None true is = cc
    from None false is = ap (λ (r : Result (Base × ℕ) Refused). (value_of (new, count) r).0.lanes) (sym is)

then-lanes : (base new : Base) (read : Result (List Traced) Refused) (count : ℕ) (told : List Traced) → ((events : List Traced) → read ≡ Ok events → events ≡ told)
    → (read >>= after_load base) ≡ Ok (new, count) → new.lanes ≡ with_lanes base.lanes told
then-lanes base new (Ok events) count told so is = load-lanes base new events count is ∙ ap (with_lanes base.lanes) (so events refl)
then-lanes base new (Err refused) count told so is = cc

-- the dispatches of a text that a desk has loaded
pub same_loaded : (base new : Base) (text : List ℕ) (count : ℕ) → base.lanes ≡ map.empty → after_load_text base text ≡ Ok (new, count) → dispatches_held new.lanes ≡ dispatches_in [] text
unfolding after_load_text
same_loaded base new text count none is =
    let told = reverse (events_of (history text)) in
    let lanes : new.lanes ≡ loaded (events_of (history text)) =
    then-lanes base new (desk.events_of text) count told (λ events. read-is 1 (lines_of text) events) is ∙ ap (λ (held : Lanes). with_lanes held told) none in
    ap dispatches_held lanes ∙ same_told (events_of (history text))
