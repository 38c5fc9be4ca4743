-- What stands after STAMP, cut from the left: the body of an event.
use Rattle.std.proofs.Common.{◌≡◌, ℕ, inl, inr, List, [], ◌++◌, reverse, drop, refl, sym, ap, subst, ◌∙◌, arith, Ok, Option, Some, None, true, false}
use Rattle.std.proofs.lemmas.List.{append-nil}
use Rattle.std.specs.Prelude.{codes}
use Rattle.std.specs.Option.{is_some}
use Rattle.ft_fields.specs.declared.event.Body.{Body}
use Rattle.ft_fields.specs.declared.event.Body.TheVariants as bodies
use Rattle.ft_fields.specs.declared.event.Turn.{Turn}
use Rattle.ft_fields.specs.declared.event.Wake.{Wake}
use Rattle.ft_fields.specs.Traced.{Traced}
use Rattle.ft_event.specs.Bytes.{is_space}
use Rattle.ft_event.specs.Labels.{event_label_text, label_of}
use Rattle.ft_event.specs.Spans.{behind}
use Rattle.ft_event.specs.LineIs.{HasLabel, BodyIs, LineIs, WakeGives, TurnGives, Stops}
use Rattle.ft_event.specs.declared.fault.Line.TheVariants as lines
use Rattle.ft_quick.specs.declared.front.Front.{Front}
use Rattle.ft_quick.specs.declared.payload.WakeName.TheVariants as wakes
use Rattle.ft_quick.specs.inner.Lines.{HasColumns, IsPutWake, IsPutTurn, IsPut}
use Rattle.ft_quick.specs.inner.Payloads.{IsFairWake, IsFairTurn}

nothing_found : false ≡ true → ⊥
nothing_found h = cc

-- what was found
abbrev the : {A : Type 0} → (o : Option A) → is_some o ≡ true → A
the None found = absurd (nothing_found found)
the (Some x) found = x

is_named : (rest : List ℕ) (label : _) (payload : List ℕ) → rest ≡ codes " " ++ event_label_text label ++ codes " " ++ payload → Stops is_space payload
    → Stops is_space (reverse payload) → HasLabel rest label payload
is_named rest label payload cut first last = record {
  before = codes " ";
  left = codes " ";
  right = [];
  joined = cut ∙ sym (append-nil (codes " " ++ event_label_text label ++ codes " " ++ payload));
  before_spaces = refl;
  left_spaces = refl;
  right_spaces = refl;
  first = first;
  last = last;
}

-- a payload of which nothing is too long or out of range gives its event
wake_gives : (body : Wake → Body) (payload : List ℕ) (wake : Wake) → IsFairWake payload wake → WakeGives body payload (Ok (body wake))
wake_gives body payload wake fair = inl (
  (wake, None),
  fair.is,
  inr (λ long. omega (arith, fair.short), inr (λ out. out fair.pid_fits, inr (λ out. out fair.prio_fits, inr (λ out. out fair.cpu_fits, refl)))),
)

turn_gives : (payload : List ℕ) (turn : Turn) → IsFairTurn payload turn → TurnGives payload (Ok (bodies.Switch turn))
turn_gives payload turn fair = inl (
  turn,
  fair.is,
  inr (
    λ long. omega (arith, fair.prev_short),
    inr (
      λ out. out fair.prev_pid_fits,
      inr (
        λ out. out fair.prev_prio_fits,
        inr (
          λ long. omega (arith, fair.state_short),
          inr (λ long. omega (arith, fair.next_short), inr (λ out. out fair.next_pid_fits, inr (λ out. out fair.next_prio_fits, refl))),
        ),
      ),
    ),
  ),
)

-- the events, by what stands after ` sched_`
switch_found : (rest text payload : List ℕ) (turn : Turn) → rest ≡ codes " sched_" ++ text → text ≡ codes "switch: " ++ payload
    → IsFairTurn payload turn → BodyIs rest (Ok (bodies.Switch turn))
unfolding label_of behind
switch_found rest text payload turn cut label fair =
    inl (((the (label_of (codes "sched_switch:")) refl).0, payload), is_named rest (the (label_of (codes "sched_switch:")) refl).0 payload (cut ∙ ap (λ (x : List ℕ). codes " sched_" ++ x) label) fair.first fair.last, turn_gives payload turn fair)

waking_found : (rest text payload : List ℕ) (wake : Wake) → rest ≡ codes " sched_" ++ text → text ≡ codes "waking: " ++ payload
    → IsFairWake payload wake → BodyIs rest (Ok (bodies.Waking wake))
unfolding label_of behind
waking_found rest text payload wake cut label fair =
    inl (((the (label_of (codes "sched_waking:")) refl).0, payload), is_named rest (the (label_of (codes "sched_waking:")) refl).0 payload (cut ∙ ap (λ (x : List ℕ). codes " sched_" ++ x) label) fair.first fair.last, wake_gives bodies.Waking payload wake fair)

wakeup_found : (rest text payload : List ℕ) (wake : Wake) → rest ≡ codes " sched_" ++ text → text ≡ codes "wakeup: " ++ payload
    → IsFairWake payload wake → BodyIs rest (Ok (bodies.Wakeup wake))
unfolding label_of behind
wakeup_found rest text payload wake cut label fair =
    inl (((the (label_of (codes "sched_wakeup:")) refl).0, payload), is_named rest (the (label_of (codes "sched_wakeup:")) refl).0 payload (cut ∙ ap (λ (x : List ℕ). codes " sched_" ++ x) label) fair.first fair.last, wake_gives bodies.Wakeup payload wake fair)

wakeup_new_found : (rest text payload : List ℕ) (wake : Wake) → rest ≡ codes " sched_" ++ text → text ≡ codes "wakeup_new: " ++ payload
    → IsFairWake payload wake → BodyIs rest (Ok (bodies.WakeupNew wake))
unfolding label_of behind
wakeup_new_found rest text payload wake cut label fair =
    inl (((the (label_of (codes "sched_wakeup_new:")) refl).0, payload), is_named rest (the (label_of (codes "sched_wakeup_new:")) refl).0 payload (cut ∙ ap (λ (x : List ℕ). codes " sched_" ++ x) label) fair.first fair.last, wake_gives bodies.WakeupNew payload wake fair)

-- the event of the whole line
pub put_found : (line : List ℕ) (front : Front) (event : Traced) → HasColumns line front → IsPut (drop front.rest line) front event → LineIs line (Ok (lines.Event event))
put_found line front event is put = subst (λ (t : Traced). LineIs line (Ok (lines.Event t))) (sym put.put) (is put.body put.is)

-- the events that are put
pub switch_put : (rest text payload : List ℕ) (front : Front) (event : Traced) → rest ≡ codes " sched_" ++ text
    → text ≡ codes "switch: " ++ payload → IsPutTurn payload front event → IsPut rest front event
switch_put rest text payload front event cut label p = record { body = bodies.Switch p.turn; is = switch_found rest text payload p.turn cut label p.fair; put = p.put }

pub waking_put : (rest text payload : List ℕ) (front : Front) (event : Traced) → rest ≡ codes " sched_" ++ text
    → text ≡ codes "waking: " ++ payload → IsPutWake wakes.Waking payload front event → IsPut rest front event
waking_put rest text payload front event cut label p = record { body = bodies.Waking p.wake; is = waking_found rest text payload p.wake cut label p.fair; put = p.put }

pub wakeup_put : (rest text payload : List ℕ) (front : Front) (event : Traced) → rest ≡ codes " sched_" ++ text
    → text ≡ codes "wakeup: " ++ payload → IsPutWake wakes.Wakeup payload front event → IsPut rest front event
wakeup_put rest text payload front event cut label p = record { body = bodies.Wakeup p.wake; is = wakeup_found rest text payload p.wake cut label p.fair; put = p.put }

pub wakeup_new_put : (rest text payload : List ℕ) (front : Front) (event : Traced) → rest ≡ codes " sched_" ++ text
    → text ≡ codes "wakeup_new: " ++ payload → IsPutWake wakes.WakeupNew payload front event → IsPut rest front event
wakeup_new_put rest text payload front event cut label p = record { body = bodies.WakeupNew p.wake; is = wakeup_new_found rest text payload p.wake cut label p.fair; put = p.put }
