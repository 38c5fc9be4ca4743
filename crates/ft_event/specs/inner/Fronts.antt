-- What a line gives, from what its columns say and what was traced.
use Rattle.std.specs.Prelude.{ℕ, List, Result, Ok, Err}
use Rattle.ft_fields.specs.declared.event.Body.{Body}
use Rattle.ft_event.specs.declared.fault.Line.{Line}
use Rattle.ft_event.specs.declared.fault.Line.TheVariants as lines
use Rattle.ft_event.specs.declared.fault.LineFault.{LineFault}
use Rattle.ft_event.specs.declared.front.Front.{Front}
use Rattle.ft_fields.specs.Traced.{Traced}
use Rattle.ft_fields.specs.declared.event.Body.TheVariants as bodies
use Rattle.ft_event.specs.Line.{◌>>=◌, line_with, turn_from}

-- the event of these columns, with what was traced
abbrev pub traced_with : Front → Body → Traced
traced_with front body = record { task = front.task.now; pid = front.pid; cpu = front.cpu; stamp = front.stamp; body = body }

-- the event of these columns, or else what is wrong with the payload
abbrev pub line_behind : Front → Result Body LineFault → Result Line LineFault
line_behind front body = line_with (body >>= λ b. Ok (traced_with front b))

-- the switch of these columns with this payload, or else what is wrong with it
abbrev pub switch_behind : Front → List ℕ → Result Line LineFault
switch_behind front payload = line_behind front (turn_from payload >>= λ turn. Ok (bodies.Switch turn))

-- what a line with an event gives, from whether it can be read, and that event
abbrev pub line_put : Result (Unit {0}) LineFault → Traced → Result Line LineFault
line_put (Ok u) event = Ok (lines.Event event)
line_put (Err fault) event = Err fault
