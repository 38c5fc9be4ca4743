-- What a line gives, once its columns are known.
use Rattle.std.specs.Prelude.{◌≡◌, List, ℕ, drop, Ok}
use Rattle.ft_event.specs.LineIs.{BodyIs, LineIs}
use Rattle.ft_event.specs.declared.fault.Line.TheVariants as lines
use Rattle.ft_fields.specs.declared.event.Body.{Body}
use Rattle.ft_fields.specs.declared.event.Body.TheVariants as bodies
use Rattle.ft_fields.specs.declared.event.Turn.{Turn}
use Rattle.ft_fields.specs.declared.event.Wake.{Wake}
use Rattle.ft_fields.specs.Borrowed.{name_bytes}
use Rattle.ft_fields.specs.Traced.{Traced}
use Rattle.ft_quick.specs.declared.front.Front.{Front}
use Rattle.ft_quick.specs.declared.payload.WakeName.{WakeName}
use Rattle.ft_quick.specs.declared.payload.WakeName.TheVariants as wakes
use Rattle.ft_quick.specs.inner.Payloads.{IsFairTurn, IsFairWake}

-- the event of these columns, with what was traced
abbrev pub traced_by_columns : Front → Body → Traced
traced_by_columns front body = record { task = name_bytes front.task; pid = front.pid; cpu = front.cpu; stamp = front.stamp; body = body }

-- whatever stands after the columns, the line gives its event
abbrev pub HasColumns : List ℕ → Front → Type 0
HasColumns line front = (body : Body) → BodyIs (drop front.rest line) (Ok body) → LineIs line (Ok (lines.Event (traced_by_columns front body)))

-- what a wake event of this name is (kernel: events.rst, the events of `sched`)
abbrev pub body_named : WakeName → Wake → Body
body_named wakes.Waking wake = bodies.Waking wake
body_named wakes.Wakeup wake = bodies.Wakeup wake
body_named wakes.WakeupNew wake = bodies.WakeupNew wake

-- the event is that of these columns and of a wake event with this payload
pub record IsPutWake (name : WakeName) (payload : List ℕ) (front : Front) (event : Traced) : Type 0 where
  pub wake : Wake
  pub fair : IsFairWake payload wake
  pub put : event ≡ traced_by_columns front (body_named name wake)

-- the event is that of these columns and of a switch with this payload
pub record IsPutTurn (payload : List ℕ) (front : Front) (event : Traced) : Type 0 where
  pub turn : Turn
  pub fair : IsFairTurn payload turn
  pub put : event ≡ traced_by_columns front (bodies.Switch turn)

-- the event is that of these columns and of what stands after them
pub record IsPut (rest : List ℕ) (front : Front) (event : Traced) : Type 0 where
  pub body : Body
  pub is : BodyIs rest (Ok body)
  pub put : event ≡ traced_by_columns front body
