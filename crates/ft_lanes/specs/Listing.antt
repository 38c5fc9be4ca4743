-- The text of a lane.
use Rattle.std.specs.Prelude.{ℕ, ◌-◌, ◌/◌, ◌%◌, ℤ, pos, negsuc, suc, List, [], ◌++◌, length, replicate, Option, None, if◌then◌else◌, codes, decimal}
use Rattle.std.specs.Fmt.{signed_decimal}
use Rattle.std.specs.List.{flat_map}
use Rattle.std.specs.Option.{option_map_or}
use Rattle.std.specs.FinMap as map
use Rattle.ft_fields.specs.declared.event.Body.{Body}
use Rattle.ft_fields.specs.declared.event.Body.TheVariants as bodies
use Rattle.ft_fields.specs.declared.event.Name.{Name}
use Rattle.ft_fields.specs.declared.event.Turn.{Turn}
use Rattle.ft_fields.specs.declared.event.Wake.{Wake}
use Rattle.ft_fields.specs.Names.{name_text, is_traced}
use Rattle.ft_fields.specs.Traced.{Traced, name_of}
use Rattle.ft_lanes.specs.Held.{Lane}

-- a number in decimal digits, with zeros in front up to a width
unfoldable pub zero_filled : ℕ → ℕ → List ℕ
zero_filled width n = replicate (width - length (decimal n)) 48 ++ decimal n

-- a CPU that a payload names: at least three digits, after a `-` if it is negative (kernel: events.rst, the format of sched_wakeup; the sign is our own choice)
abbrev pub target_text : ℤ → List ℕ
target_text (pos n) = zero_filled 3 n
target_text (negsuc n) = codes "-" ++ zero_filled 3 (suc n)

-- a stamp: its seconds, and six digits of microseconds (kernel: ftrace.rst, TIMESTAMP)
unfoldable pub stamp_text : ℕ → List ℕ
stamp_text micros = decimal (micros / 1000000) ++ codes "." ++ zero_filled 6 (micros % 1000000)

-- what a wake event says (kernel: events.rst, the format of sched_wakeup)
unfoldable pub wake_text : Wake → List ℕ
wake_text wake =
    codes "comm=" ++ wake.comm ++ codes " pid=" ++ signed_decimal wake.pid ++ codes " prio=" ++ signed_decimal wake.prio
    ++ codes " target_cpu=" ++ target_text wake.target_cpu

-- what a switch says of the task that is switched from (kernel: events.rst, the format of sched_switch)
unfoldable pub prev_text : Turn → List ℕ
prev_text turn =
    codes "prev_comm=" ++ turn.prev_comm ++ codes " prev_pid=" ++ signed_decimal turn.prev_pid
    ++ codes " prev_prio=" ++ signed_decimal turn.prev_prio ++ codes " prev_state=" ++ turn.prev_state

-- what a switch says of the task that is switched to (kernel: events.rst, the format of sched_switch)
unfoldable pub next_text : Turn → List ℕ
next_text turn =
    codes "next_comm=" ++ turn.next_comm ++ codes " next_pid=" ++ signed_decimal turn.next_pid
    ++ codes " next_prio=" ++ signed_decimal turn.next_prio

-- what a switch says (kernel: events.rst, the format of sched_switch)
unfoldable pub turn_text : Turn → List ℕ
turn_text turn = prev_text turn ++ codes " ==> " ++ next_text turn

-- what an event that the kernel traces says; one that triggers make stands in no lane (kernel: events.rst, the events of `sched`)
abbrev pub payload_text : Body → List ℕ
payload_text (bodies.Waking wake) = wake_text wake
payload_text (bodies.Wakeup wake) = wake_text wake
payload_text (bodies.WakeupNew wake) = wake_text wake
payload_text (bodies.Switch turn) = turn_text turn
payload_text (bodies.WakeupLatency matched) = []
payload_text bodies.Other = []

-- an event's name, between a space and a colon (kernel: ftrace.rst, FUNCTION, where an event's name stands)
abbrev pub label_text : List ℕ → List ℕ
label_text name = codes " " ++ name ++ codes ": "

-- the name that a trace line shows, if it is that of one of the four events that the kernel traces (kernel: events.rst, the events of `sched`)
abbrev pub shown_name : Name → Option (List ℕ)
shown_name name = if is_traced name then name_text name else None

-- the name that is shown and what the event says; nothing if no name is shown (kernel: ftrace.rst, the trace output)
abbrev pub body_text : Body → List ℕ
body_text body = option_map_or (λ name. label_text name ++ payload_text body) (shown_name (name_of body)) []

-- an event as a trace line shows it (kernel: ftrace.rst, the trace output)
unfoldable pub event_text : Traced → List ℕ
event_text event =
    event.task ++ codes "-" ++ signed_decimal event.pid ++ codes " [" ++ zero_filled 3 event.cpu ++ codes "] "
    ++ stamp_text event.stamp ++ codes ":" ++ body_text event.body

-- an event's line, after its CPU and line number
unfoldable pub event_line : ℕ → ℕ → Traced → List ℕ
event_line cpu line event = decimal cpu ++ codes ":" ++ decimal line ++ codes " " ++ event_text event ++ codes "\n"

-- the lines of a CPU's lane, by line number
abbrev pub lane_text : ℕ → Lane → List ℕ
lane_text cpu lane = flat_map (λ e. event_line cpu e.0 e.1) (map.entries lane.events)
