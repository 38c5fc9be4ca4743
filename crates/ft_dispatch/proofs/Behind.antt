-- What is known, and the dispatches, behind acts before.
use Rattle.std.specs.Prelude.{◌≡◌, ℤ, pos, Bool, true, false, ◌||◌, List, [], ◌∷◌, ◌++◌, reverse, Option, Some, None}
use Rattle.std.specs.Option.{option_or, is_some}
use Rattle.std.specs.Ordering.{int_eq}
use Rattle.std.specs.Cmp.{signed_Decides}
use Rattle.std.proofs.Common.{refl, sym, ap, ◌∙◌, append_assoc, cond}
use Rattle.std.proofs.lemmas.Bool.{true≢false, false_from_ne_true}
use Rattle.std.proofs.lemmas.List.{append-nil, reverse-append}
use Rattle.ft_fields.specs.declared.pos.Pos.{Pos}
use Rattle.ft_dispatch.specs.Acts.{Act, Waking, Creation, Wakeup, Switch, Handover}
use Rattle.ft_dispatch.specs.Dispatches.{runs, wakes, creates, leaves, shows, rouses, last_since_run, last_seen, first_roused, place_of, left_by, runnable_since, blocked_at, ended_by, dispatch_of, dispatch_at, dispatches}
use Rattle.ft_dispatch.specs.Joining.{ran, over, known_behind, has_one, completed_by, completed, all_completed, joined}
use Rattle.ft_dispatch.specs.declared.dispatch.Dispatch.{Dispatch}
use Rattle.ft_dispatch.specs.declared.dispatch.Left.{Left}
use Rattle.ft_dispatch.specs.declared.dispatch.Since.{Since}
use Rattle.ft_dispatch.proofs.Acting.{found_as, one_at}
use Rattle.ft_dispatch.proofs.Written.{same-pid}

abbrev Entry : Type 0
Entry = Pos × Act

-- ---- what is known

found-step : (runs_it passes_it r : Bool) (entry : Entry) (own earlier both : Option Entry) → both ≡ cond r own (option_or own earlier) →
    cond runs_it None (cond passes_it (Some entry) both)
    ≡ cond (runs_it || r) (cond runs_it None (cond passes_it (Some entry) own)) (option_or (cond runs_it None (cond passes_it (Some entry) own)) earlier)
found-step true passes_it r entry own earlier both h = refl
found-step false true true entry own earlier both h = refl
found-step false true false entry own earlier both h = refl
found-step false false r entry own earlier both h = h

-- the last act that passes a test, of a part and the acts before it
found-joined : (passes : Act → Bool) (pid : ℤ) (part before : List Entry) →
    last_since_run passes pid (part ++ before) ≡ cond (ran pid part) (last_since_run passes pid part) (option_or (last_since_run passes pid part) (last_since_run passes pid before))
unfolding last_since_run
found-joined passes pid [] before = refl
found-joined passes pid (entry ∷ part) before =
    found-step (runs pid entry.1) (passes entry.1) (ran pid part) entry (last_since_run passes pid part) (last_since_run passes pid before) (last_since_run passes pid (part ++ before)) (found-joined passes pid part before)

seen-step : (runs_it shows_it r : Bool) (entry : Entry) (own earlier both : Option Entry) → both ≡ cond r own (option_or own earlier) →
    cond (runs_it || shows_it) (Some entry) both
    ≡ cond (runs_it || r) (cond (runs_it || shows_it) (Some entry) own) (option_or (cond (runs_it || shows_it) (Some entry) own) earlier)
seen-step true shows_it r entry own earlier both h = refl
seen-step false true true entry own earlier both h = refl
seen-step false true false entry own earlier both h = refl
seen-step false false r entry own earlier both h = h

-- the last act that shows a task running, of a part and the acts before it
seen-joined : (pid : ℤ) (part before : List Entry) →
    last_seen pid (part ++ before) ≡ cond (ran pid part) (last_seen pid part) (option_or (last_seen pid part) (last_seen pid before))
unfolding last_seen
seen-joined pid [] before = refl
seen-joined pid (entry ∷ part) before =
    seen-step (runs pid entry.1) (shows pid entry.1) (ran pid part) entry (last_seen pid part) (last_seen pid before) (last_seen pid (part ++ before)) (seen-joined pid part before)

place-or : (a b : Option Entry) → place_of (option_or a b) ≡ option_or (place_of a) (place_of b)
place-or None b = refl
place-or (Some entry) b = refl

left-or : (a b : Option Entry) → left_by (option_or a b) ≡ option_or (left_by a) (left_by b)
left-or None b = refl
left-or (Some entry) b = refl

abbrev since_of : Option Pos → Option Pos → Option Left → Option Pos → Option Pos → Since
since_of woken created left seen roused = record { woken = woken; created = created; left = left; seen = seen; roused = roused }

or-none : {X : Type 0} (o : Option X) → option_or o None ≡ o
or-none None = refl
or-none (Some x) = refl

or-assoc : {X : Type 0} (a b c : Option X) → option_or (option_or a b) c ≡ option_or a (option_or b c)
or-assoc None b c = refl
or-assoc (Some x) b c = refl

-- the first end of the last waking, of a part and the acts before it
roused-step : (runs_it wakes_it ran_it : Bool) (own : Option Entry) (woken first both earlier : Option Entry) → both ≡ cond (ran_it || is_some woken) first (option_or earlier first) → (entry : Entry)
    → cond (runs_it || wakes_it) None (option_or both own)
    ≡ cond ((runs_it || ran_it) || is_some (cond runs_it None (cond wakes_it (Some entry) woken))) (cond (runs_it || wakes_it) None (option_or first own)) (option_or earlier (cond (runs_it || wakes_it) None (option_or first own)))
roused-step true wakes_it ran_it own woken first both earlier is entry = refl
roused-step false true true own woken first both earlier is entry = refl
roused-step false true false own woken first both earlier is entry = refl
roused-step false false true own woken first both earlier is entry = ap (λ o. option_or o own) is
roused-step false false false own None first both earlier is entry = ap (λ o. option_or o own) is ∙ or-assoc earlier first own
roused-step false false false own (Some woken) first both earlier is entry = ap (λ o. option_or o own) is

roused-joined : (pid : ℤ) (part before : List Entry) →
    first_roused pid (part ++ before) ≡ cond (ran pid part || is_some (last_since_run (wakes pid) pid part)) (first_roused pid part) (option_or (first_roused pid before) (first_roused pid part))
unfolding first_roused last_since_run
roused-joined pid [] before = sym (or-none (first_roused pid before))
roused-joined pid (entry ∷ part) before =
    roused-step (runs pid entry.1) (wakes pid entry.1) (ran pid part) (cond (rouses pid entry.1) (Some entry) None) (last_since_run (wakes pid) pid part) (first_roused pid part) (first_roused pid (part ++ before)) (first_roused pid before)
    (roused-joined pid part before) entry

since-joined : (r : Bool) (w v c d l m s t x y : Option Entry) →
    found_as (cond r w (option_or w v)) (cond r c (option_or c d)) (cond r l (option_or l m)) (cond r s (option_or s t)) (cond (r || is_some w) x (option_or y x)) ≡ known_behind r (found_as w c l s x) (found_as v d m t y)
since-joined true w v c d l m s t x y = refl
since-joined false None v c d l m s t x y = λ i. since_of (place-or None v i) (place-or c d i) (left-or l m i) (place-or s t i) (place-or y x i)
since-joined false (Some w) v c d l m s t x y = λ i. since_of (place-or (Some w) v i) (place-or c d i) (left-or l m i) (place-or s t i) (place_of x)

-- what is known of a task behind a part and the acts before it
pub known-joined : (pid : ℤ) (part before : List Entry) → runnable_since pid (part ++ before) ≡ known_behind (ran pid part) (runnable_since pid part) (runnable_since pid before)
unfolding runnable_since
known-joined pid part before =
    let r = ran pid part in
    let find : (Act → Bool) → List Entry → Option Entry = λ passes acts. last_since_run passes pid acts in
    (λ i. found_as (found-joined (wakes pid) pid part before i) (found-joined (creates pid) pid part before i) (found-joined (leaves pid) pid part before i) (seen-joined pid part before i) (roused-joined pid part before i))
    ∙ since-joined r (find (wakes pid) part) (find (wakes pid) before) (find (creates pid) part) (find (creates pid) before) (find (leaves pid) part) (find (leaves pid) before) (last_seen pid part) (last_seen pid before) (first_roused pid part) (first_roused pid before)

-- a task that ran was seen
pub ran-seen : (pid : ℤ) (part : List Entry) → ran pid part ≡ true → is_some (last_seen pid part) ≡ true
unfolding last_seen
ran-seen pid [] is = is
ran-seen pid (entry ∷ part) is = elim (runs pid entry.1) as (λ b. (b || ran pid part) ≡ true → is_some (cond (b || shows pid entry.1) (Some entry) (last_seen pid part)) ≡ true)
    [ true ↦ λ h. refl | false ↦ λ h. elim (shows pid entry.1) as (λ b. is_some (cond b (Some entry) (last_seen pid part)) ≡ true) [ true ↦ refl | false ↦ ran-seen pid part h ] ] is

-- nothing was known before, or the part says nothing
same-either : {X : Type 0} (b : Bool) (x : X) → cond b x x ≡ x
same-either true x = refl
same-either false x = refl

pub over-unknown : (since : Since) → over since (since_of None None None None None) ≡ since
over-unknown since = λ i. since_of (or-none since.woken i) (or-none since.created i) (or-none since.left i) (or-none since.seen i) (same-either (is_some since.woken) since.roused i)

pub unknown-over : (since : Since) → over (since_of None None None None None) since ≡ since
unknown-over since = λ i. since_of since.woken since.created since.left since.seen (or-none since.roused i)

-- ---- whether a task ran

not-idle : (next pid : ℤ) → int_eq pid (pos 0) ≡ false → int_eq next (pos 0) ≡ true → int_eq next pid ≡ false
not-idle next pid waits idle = false_from_ne_true (int_eq next pid) (λ hit.
    true≢false (sym ((signed_Decides pid (pos 0)).1 (sym (same-pid next pid hit) ∙ same-pid next (pos 0) idle)) ∙ waits))

told-step : (idle : Bool) (place : Pos) (turn : Handover) (pid : ℤ) (since : Since) (earlier : List Dispatch) → (idle ≡ true → int_eq turn.next_pid pid ≡ false) →
    (int_eq turn.next_pid pid || has_one pid earlier) ≡ has_one pid (reverse (one_at place turn idle since) ++ earlier)
told-step true place turn pid since earlier other = ap (λ b. b || has_one pid earlier) (other refl)
told-step false place turn pid since earlier other = refl

-- a task other than task 0 ran if there is a dispatch of it
pub ran-told : (pid : ℤ) (part : List Entry) → int_eq pid (pos 0) ≡ false → ran pid part ≡ has_one pid (reverse (dispatches part))
unfolding dispatches
ran-told pid [] waits = refl
ran-told pid ((place, Waking by woken) ∷ part) waits = ran-told pid part waits ∙ ap (λ (told : List Dispatch). has_one pid (reverse told)) (sym (append-nil (dispatches part)))
ran-told pid ((place, Creation by created) ∷ part) waits = ran-told pid part waits ∙ ap (λ (told : List Dispatch). has_one pid (reverse told)) (sym (append-nil (dispatches part)))
ran-told pid ((place, Wakeup by woken) ∷ part) waits = ran-told pid part waits ∙ ap (λ (told : List Dispatch). has_one pid (reverse told)) (sym (append-nil (dispatches part)))
ran-told pid ((place, Switch turn) ∷ part) waits =
    let since = runnable_since turn.next_pid part in
    ap (λ b. int_eq turn.next_pid pid || b) (ran-told pid part waits)
    ∙ told-step (int_eq turn.next_pid (pos 0)) place turn pid since (reverse (dispatches part)) (not-idle turn.next_pid pid waits)
    ∙ ap (has_one pid) (sym (reverse-append (dispatches part) (dispatch_at place turn since)))

-- ---- dispatches

ended-over : (place : Pos) (turn : Handover) (part before : Since) → ended_by place turn (over part before) ≡ over (ended_by place turn part) before
ended-over place turn part before = elim (int_eq turn.prev_pid turn.next_pid) as (λ b. cond b (blocked_at place (over part before)) (over part before) ≡ over (cond b (blocked_at place part) part) before) [ true ↦ refl | false ↦ refl ]

abbrev dispatch_with : Pos → Handover → Since → Dispatch
dispatch_with place turn since = record { pid = turn.next_pid; prio = turn.next_prio; name = turn.next_comm; place = place; since = since }

completed-step : (has : Bool) (place : Pos) (turn : Handover) (own before : Since) →
    dispatch_with place turn (ended_by place turn (known_behind has own before)) ≡ cond has (dispatch_with place turn (ended_by place turn own)) (completed_by before (dispatch_with place turn (ended_by place turn own)))
completed-step true place turn own before = refl
completed-step false place turn own before = ap (dispatch_with place turn) (ended-over place turn own before)

switch-joined : (idle : Bool) (place : Pos) (turn : Handover) (known : ℤ → Since) (own whole : Since) (earlier : List Dispatch)
    → (idle ≡ false → whole ≡ known_behind (has_one turn.next_pid earlier) own (known turn.next_pid))
    → reverse (all_completed known earlier) ++ one_at place turn idle whole ≡ reverse (all_completed known (reverse (one_at place turn idle own) ++ earlier))
unfolding all_completed
switch-joined true place turn known own whole earlier is = append-nil (reverse (all_completed known earlier))
switch-joined false place turn known own whole earlier is =
    ap (λ s. reverse (all_completed known earlier) ++ dispatch_with place turn (ended_by place turn s) ∷ []) (is refl)
    ∙ ap (λ d. reverse (all_completed known earlier) ++ d ∷ []) (completed-step (has_one turn.next_pid earlier) place turn own (known turn.next_pid))
    ∙ sym (reverse-append (completed known earlier (dispatch_with place turn (ended_by place turn own)) ∷ []) (all_completed known earlier))

-- what is known of each task except task 0 is what acts say
abbrev pub IsKnown : (ℤ → Since) → List Entry → Type 0
IsKnown known before = (pid : ℤ) → int_eq pid (pos 0) ≡ false → known pid ≡ runnable_since pid before

one-joined : (known : ℤ → Since) (place : Pos) (act : Act) (part before : List Entry) → IsKnown known before →
    joined known (dispatches part) ++ dispatch_of place act (λ pid. runnable_since pid (part ++ before)) ≡ joined known (dispatches part ++ dispatch_of place act (λ pid. runnable_since pid part))
one-joined known place (Waking by woken) part before is = append-nil (joined known (dispatches part)) ∙ ap (joined known) (sym (append-nil (dispatches part)))
one-joined known place (Creation by created) part before is = append-nil (joined known (dispatches part)) ∙ ap (joined known) (sym (append-nil (dispatches part)))
one-joined known place (Wakeup by woken) part before is = append-nil (joined known (dispatches part)) ∙ ap (joined known) (sym (append-nil (dispatches part)))
one-joined known place (Switch turn) part before is =
    let next = turn.next_pid in
    let own = runnable_since next part in
    switch-joined (int_eq next (pos 0)) place turn known own (runnable_since next (part ++ before)) (reverse (dispatches part))
    (λ waits. known-joined next part before
    ∙ ap (λ has. known_behind has own (runnable_since next before)) (ran-told next part waits)
    ∙ ap (known_behind (has_one next (reverse (dispatches part))) own) (sym (is next waits)))
    ∙ ap (λ (told : List Dispatch). reverse (all_completed known told)) (sym (reverse-append (dispatches part) (dispatch_at place turn own)))

-- the dispatches of a part and the acts before it
pub dispatches-joined : (known : ℤ → Since) (part before : List Entry) → IsKnown known before → dispatches (part ++ before) ≡ dispatches before ++ joined known (dispatches part)
unfolding dispatches all_completed
dispatches-joined known [] before is = sym (append-nil (dispatches before))
dispatches-joined known (entry ∷ part) before is =
    let more = dispatch_of entry.0 entry.1 (λ pid. runnable_since pid (part ++ before)) in
    ap (λ (told : List Dispatch). told ++ more) (dispatches-joined known part before is)
    ∙ append_assoc (dispatches before) (joined known (dispatches part)) more
    ∙ ap (λ (told : List Dispatch). dispatches before ++ told) (one-joined known entry.0 entry.1 part before is)
