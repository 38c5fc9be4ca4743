-- No line gives an event that triggers make.
use Rattle.std.proofs.Common.{◌≡◌, ℕ, Bool, true, false, List, length, Option, Some, None, Result, Ok, Err, refl, subst, pos}
use Rattle.std.specs.Prelude.{⊤, IfOk, if◌then◌else◌, ◌==◌, nat_lt}
use Rattle.std.specs.List.{list_any}
use Rattle.ft_event.specs.Skipped.{is_skipped}
use Rattle.ft_fields.specs.declared.event.Body.{Body}
use Rattle.ft_event.specs.declared.fault.Line.{Line}
use Rattle.ft_event.specs.declared.fault.Line.TheVariants as lines
use Rattle.ft_event.specs.declared.fault.LineFault.{LineFault}
use Rattle.ft_event.specs.declared.label.EventLabel.{EventLabel}
use Rattle.ft_event.specs.declared.label.EventLabel.TheVariants as labels
use Rattle.ft_fields.specs.Traced.{Traced, is_made, last_cpu}
use Rattle.ft_event.specs.declared.fault.LineFault.TheVariants.{BadCpu, BadStamp, NumberRange, NoTask, LineLong}
use Rattle.ft_event.specs.Columns.{head_of, stamp_of}
use Rattle.ft_event.specs.Spans.{limited_number, without_spaces}
use Rattle.ft_event.specs.LineIs.{Head}
use Rattle.ft_event.specs.Line.{◌>>=◌, found_or, name_from, wake_from, turn_from, payload_from, body_behind, body_from, event_from, traced_from, line_with, line_of}

-- what both steps give has a property that the second one gives to whatever the first one gives
module _ {A B : Type 0} (holds : B → Type 0) where
  then_holds : (r : Result A LineFault) (f : A → Result B LineFault) → ((x : A) → IfOk (f x) holds) → IfOk (r >>= f) holds
  then_holds (Ok x) f h = h x
  then_holds (Err fault) f h = tt

  then_holds_with : (first : A → Type 0) (r : Result A LineFault) (f : A → Result B LineFault) → IfOk r first → ((x : A) → first x → IfOk (f x) holds)
      → IfOk (r >>= f) holds
  then_holds_with first (Ok x) f g h = h x g
  then_holds_with first (Err fault) f g h = tt

-- a body that no trigger made
abbrev Found : Body → Type 0
Found body = is_made body ≡ false

payload_found : (label : EventLabel) (payload : List ℕ) → IfOk (payload_from label payload) Found
unfolding payload_from
payload_found labels.Waking payload = then_holds Found (wake_from payload) _ (λ wake. refl)
payload_found labels.Wakeup payload = then_holds Found (wake_from payload) _ (λ wake. refl)
payload_found labels.WakeupNew payload = then_holds Found (wake_from payload) _ (λ wake. refl)
payload_found labels.Switch payload = then_holds Found (turn_from payload) _ (λ turn. refl)

behind_found : (named : Option (EventLabel × List ℕ)) → IfOk (body_behind named) Found
behind_found None = refl
behind_found (Some named) = payload_found named.0 _

body_found : (rest : List ℕ) → IfOk (body_from rest) Found
unfolding body_from
body_found rest = behind_found _

-- an event that no trigger made
abbrev IsFound : Traced → Type 0
IsFound event = Found event.body

-- the event of these columns
abbrev event_with : List ℕ → ℕ → ℕ → ℕ → Body → Result Traced LineFault
event_with task pid cpu stamp body = Ok (record { task = task; pid = pos pid; cpu = cpu; stamp = stamp; body = body })

event_found : (head : Head) → IfOk (event_from head) IsFound
unfolding event_from
event_found head =
    then_holds {A = List ℕ} IsFound (name_from head.task) (λ task. found_or NumberRange (limited_number 2147483647 head.tail.pid) >>= λ pid.
    found_or BadCpu (limited_number last_cpu head.tail.cpu) >>= λ cpu. found_or BadStamp (stamp_of head.tail.rest) >>= λ stamp. body_from stamp.1 >>= λ body. event_with task pid cpu stamp.0 body)
    (λ task.
    then_holds {A = ℕ} IsFound (found_or NumberRange (limited_number 2147483647 head.tail.pid)) (λ pid.
    found_or BadCpu (limited_number last_cpu head.tail.cpu) >>= λ cpu. found_or BadStamp (stamp_of head.tail.rest) >>= λ stamp. body_from stamp.1 >>= λ body. event_with task pid cpu stamp.0 body)
    (λ pid.
    then_holds {A = ℕ} IsFound (found_or BadCpu (limited_number last_cpu head.tail.cpu)) (λ cpu.
    found_or BadStamp (stamp_of head.tail.rest) >>= λ stamp. body_from stamp.1 >>= λ body. event_with task pid cpu stamp.0 body)
    (λ cpu.
    then_holds {A = ℕ × List ℕ} IsFound (found_or BadStamp (stamp_of head.tail.rest)) (λ stamp. body_from stamp.1 >>= λ body. event_with task pid cpu stamp.0 body)
    (λ (stamp : ℕ × List ℕ).
    then_holds_with IsFound Found (body_from stamp.1) (λ body. event_with task pid cpu stamp.0 body) (body_found stamp.1) (λ body is. is)))))

traced_found : (bytes : List ℕ) → IfOk (traced_from bytes) IsFound
unfolding traced_from
traced_found bytes = then_holds IsFound (found_or NoTask (head_of (without_spaces bytes))) event_from event_found

-- a line that gives no made event
abbrev Gives : Result Line LineFault → Type 0
Gives (Ok (lines.Event event)) = IsFound event
Gives (Ok lines.Skip) = ⊤
Gives (Err fault) = ⊤

with_found : (r : Result Traced LineFault) → IfOk r IsFound → Gives (line_with r)
with_found (Ok event) h = h
with_found (Err fault) h = tt

-- a fault or a skipped line, and else a line that gives no made event
fault_or : (b : Bool) (fault : LineFault) (rest : Result Line LineFault) → Gives rest → Gives (if b then Err fault else rest)
fault_or true fault rest h = tt
fault_or false fault rest h = h

skip_or : (b : Bool) (rest : Result Line LineFault) → Gives rest → Gives (if b then Ok lines.Skip else rest)
skip_or true rest h = tt
skip_or false rest h = h

line_gives : (bytes : List ℕ) → Gives (line_of bytes)
unfolding line_of
line_gives bytes =
    let skipped : Result Line LineFault = if is_skipped bytes then Ok lines.Skip else line_with (traced_from bytes) in
    let whole : Result Line LineFault = if list_any (λ b. b == 10) bytes then Err NoTask else skipped in
    fault_or (nat_lt 4096 (length bytes)) LineLong whole
    (fault_or (list_any (λ b. b == 10) bytes) NoTask skipped
    (skip_or (is_skipped bytes) (line_with (traced_from bytes)) (with_found (traced_from bytes) (traced_found bytes))))

pub unmade : (bytes : List ℕ) (event : Traced) → line_of bytes ≡ Ok (lines.Event event) → is_made event.body ≡ false
unmade bytes event is = subst Gives is (line_gives bytes)
