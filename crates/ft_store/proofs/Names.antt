-- What is packed comes back from its names.
use Rattle.std.proofs.Common.{◌≡◌, ◌+◌, ◌≤◌, ◌++◌, ℕ, List, length, take, drop, refl, sym, ap, ◌∙◌, arith, length-append, length-drop}
use Rattle.std.proofs.lemmas.List.{take_all, take_at, drop_at, take-take, take-append-le, drop-append-le}
use Rattle.std.proofs.Math.Seq.{take-append-add}
use Rattle.ft_fields.specs.declared.event.Body.{Body}
use Rattle.ft_fields.specs.declared.event.Body.TheVariants as bodies
use Rattle.ft_fields.specs.declared.event.Turn.{Turn}
use Rattle.ft_fields.specs.declared.event.Wake.{Wake}
use Rattle.ft_fields.specs.Traced.{Traced}
use Rattle.ft_store.specs.declared.packed.Packed.{Packed}
use Rattle.ft_store.specs.inner.Packing.{body_names, event_names, packed_wake, packed_turn, packed_body, packed, body_width, width, unpacked_wake, unpacked_turn, body_of, event_of, own_names}

-- ---- how many bytes names take

body_takes : (body : Body) → body_width (packed_body body) ≡ length (body_names body)
body_takes (bodies.Waking wake) = refl
body_takes (bodies.Wakeup wake) = refl
body_takes (bodies.WakeupNew wake) = refl
body_takes (bodies.Switch turn) = omega (arith, length-append turn.prev_comm (turn.prev_state ++ turn.next_comm), length-append turn.prev_state turn.next_comm)
body_takes (bodies.WakeupLatency matched) = refl
body_takes bodies.Other = refl

-- the lengths of an event's names are those of what is packed
pub event_takes : (begins : ℕ) (event : Traced) → width (packed begins event) ≡ length (event_names event)
event_takes begins event = omega (arith, body_takes event.body, length-append event.task (body_names event.body))

-- ---- what comes back

wake_back : (wake : Wake) → unpacked_wake wake.comm (packed_wake wake) ≡ wake
wake_back wake = ap (λ (comm : List ℕ). record { comm = comm; pid = wake.pid; prio = wake.prio; target_cpu = wake.target_cpu }) (take_all (length wake.comm) wake.comm (omega arith))

turn_back : (turn : Turn) → unpacked_turn (turn.prev_comm ++ (turn.prev_state ++ turn.next_comm)) (packed_turn turn) ≡ turn
turn_back turn =
    let all : List ℕ = turn.prev_comm ++ (turn.prev_state ++ turn.next_comm) in
    let first : take (length turn.prev_comm) all ≡ turn.prev_comm = take_at turn.prev_comm (turn.prev_state ++ turn.next_comm) (length turn.prev_comm) refl in
    let behind : drop (length turn.prev_comm) all ≡ turn.prev_state ++ turn.next_comm = drop_at turn.prev_comm (turn.prev_state ++ turn.next_comm) (length turn.prev_comm) refl in
    let state : take (length turn.prev_state) (drop (length turn.prev_comm) all) ≡ turn.prev_state =
    ap (take (length turn.prev_state)) behind ∙ take_at turn.prev_state turn.next_comm (length turn.prev_state) refl in
    let last : take (length turn.next_comm) (drop (length turn.prev_state) (drop (length turn.prev_comm) all)) ≡ turn.next_comm =
    ap (λ (names : List ℕ). take (length turn.next_comm) (drop (length turn.prev_state) names)) behind
    ∙ ap (take (length turn.next_comm)) (drop_at turn.prev_state turn.next_comm (length turn.prev_state) refl)
    ∙ take_all (length turn.next_comm) turn.next_comm (omega arith) in
    ap (λ (name : List ℕ). record (unpacked_turn all (packed_turn turn)) { prev_comm = name }) first
    ∙ ap (λ (name : List ℕ). record (unpacked_turn all (packed_turn turn)) { prev_comm = turn.prev_comm; prev_state = name }) state
    ∙ ap (λ (name : List ℕ). record turn { next_comm = name }) last

body_back : (body : Body) → body_of (body_names body) (packed_body body) ≡ body
body_back (bodies.Waking wake) = ap bodies.Waking (wake_back wake)
body_back (bodies.Wakeup wake) = ap bodies.Wakeup (wake_back wake)
body_back (bodies.WakeupNew wake) = ap bodies.WakeupNew (wake_back wake)
body_back (bodies.Switch turn) = ap bodies.Switch (turn_back turn)
body_back (bodies.WakeupLatency matched) = refl
body_back bodies.Other = refl

-- an event comes back from its names
pub event_back : (begins : ℕ) (event : Traced) → event_of (event_names event) (packed begins event) ≡ event
event_back begins event =
    let task : take (length event.task) (event_names event) ≡ event.task = take_at event.task (body_names event.body) (length event.task) refl in
    let body : body_of (drop (length event.task) (event_names event)) (packed_body event.body) ≡ event.body =
    ap (λ (names : List ℕ). body_of names (packed_body event.body)) (drop_at event.task (body_names event.body) (length event.task) refl)
    ∙ body_back event.body in
    ap (λ (name : List ℕ). record { task = name; pid = event.pid; cpu = event.cpu; stamp = event.stamp; body = body_of (drop (length event.task) (event_names event)) (packed_body event.body) }) task
    ∙ ap (λ (said : Body). record { task = event.task; pid = event.pid; cpu = event.cpu; stamp = event.stamp; body = said }) body

-- ---- names in a text

-- names that are added to a text are those of an event that begins there
pub added_names : (text names : List ℕ) (event : Packed) → event.begins ≡ length text → width event ≡ length names → own_names (text ++ names) event ≡ names
added_names text names event at long = ap (take (width event)) (drop_at text names event.begins (sym at)) ∙ take_all (width event) names (omega (arith, long))

-- names within a text stay the same if bytes are added to it
pub names_stay : (text more : List ℕ) (event : Packed) → event.begins + width event ≤ length text → own_names (text ++ more) event ≡ own_names text event
names_stay text more event within =
    ap (take (width event)) (drop-append-le event.begins text more (omega arith))
    ∙ take-append-le (width event) (drop event.begins text) more (omega (arith, length-drop event.begins text))

-- a name comes after a text, if the first 16 bytes of the text that it begins are added and then cut off after the name
pub added_in_one_step : (text begun chunk name : List ℕ) (begins len : ℕ) → begins ≡ length text → chunk ≡ take 16 begun → len ≤ 16 → len ≡ length name
    → take (length name) begun ≡ name → take (begins + len) (text ++ chunk) ≡ text ++ name
added_in_one_step text begun chunk name begins len at is short long told =
    ap (λ (n : ℕ). take (n + len) (text ++ chunk)) at
    ∙ take-append-add text chunk len
    ∙ ap (λ (bytes : List ℕ). text ++ bytes) (ap (take len) is ∙ take-take len 16 begun short ∙ ap (λ (n : ℕ). take n begun) long ∙ told)

-- what begins with a text and more begins with the text
pub begins_with_less : (text more all : List ℕ) → take (length (text ++ more)) all ≡ text ++ more → take (length text) all ≡ text
begins_with_less text more all begins =
    sym (take-take (length text) (length (text ++ more)) all (omega (arith, length-append text more)))
    ∙ ap (take (length text)) begins
    ∙ take_at text more (length text) refl
