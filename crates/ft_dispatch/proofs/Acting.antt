-- One act more.
use Rattle.std.specs.Prelude.{◌≡◌, ◌+◌, ◌<◌, ℕ, ℤ, pos, Bool, true, false, not, ◌&&◌, ◌||◌, List, [], ◌∷◌, ◌++◌, length, reverse, take, Option, Some, None, if◌then◌else◌}
use Rattle.std.specs.Option.{option_or}
use Rattle.std.specs.Ordering.{int_eq}
use Rattle.std.proofs.Math.Bool.{or-false}
use Rattle.std.proofs.Common.{refl, sym, ap, ◌∙◌, append_assoc, get_or, cond}
use Rattle.std.proofs.lemmas.List.{take_more, reverse-append, map-append}
use Rattle.ft_fields.specs.declared.pos.Pos.{Pos}
use Rattle.ft_dispatch.specs.Acts.{Act, Waking, Creation, Wakeup, Switch, Handover}
use Rattle.ft_dispatch.specs.Dispatches.{wakes, creates, leaves, last_since_run, last_seen, first_roused, place_of, left_by, runnable_since, ended_by, dispatch_of, dispatches}
use Rattle.ft_dispatch.specs.Showings.{ready_since, showing_at, showing_of, showings, first_at, first_of, first_wakings}
use Rattle.ft_dispatch.specs.declared.showing.Showing.{Showing}
use Rattle.ft_dispatch.specs.declared.showing.Shown.{Shown}
use Rattle.ft_dispatch.specs.Telling.{known, entry_of, entries_of, Tells, Shows}
use Rattle.ft_dispatch.specs.inner.Changes.{ran_at, woken_at, created_at, left_at, seen_if, roused_at, leaving, after}
use Rattle.ft_dispatch.specs.declared.dispatch.Since.{Since}
use Rattle.ft_dispatch.specs.declared.dispatch.Dispatch.{Dispatch}
use Rattle.ft_dispatch.specs.declared.act.PlacedAct.{PlacedAct}
use Rattle.ft_dispatch.specs.declared.tasks.Tasks.{Tasks}

-- what was found
abbrev pub found_as : Option (Pos × Act) → Option (Pos × Act) → Option (Pos × Act) → Option (Pos × Act) → Option (Pos × Act) → Since
found_as woken created left seen roused = record { woken = place_of woken; created = place_of created; left = left_by left; seen = place_of seen; roused = place_of roused }

roused-step : (b d : Bool) (entry : Pos × Act) (w c l s r : Option (Pos × Act)) →
    found_as w c l (if d then Some entry else s) (option_or r (if b then Some entry else None)) ≡ (if b then roused_at entry.0 (seen_if d entry.0 (found_as w c l s r)) else seen_if d entry.0 (found_as w c l s r))
roused-step true true entry w c l s None = refl
roused-step true true entry w c l s (Some r) = refl
roused-step true false entry w c l s None = refl
roused-step true false entry w c l s (Some r) = refl
roused-step false true entry w c l s None = refl
roused-step false true entry w c l s (Some r) = refl
roused-step false false entry w c l s None = refl
roused-step false false entry w c l s (Some r) = refl

-- no waking ends at this act
kept-step : (b : Bool) (r : Option (Pos × Act)) → (if b then None else option_or r None) ≡ (if b then None else r)
kept-step true r = refl
kept-step false None = refl
kept-step false (Some r) = refl

woken-step : (b d : Bool) (entry : Pos × Act) (w c l s r : Option (Pos × Act)) →
    found_as (if b then Some entry else w) c l (if d then Some entry else s) (if b then None else r) ≡ (if b then woken_at entry.0 (seen_if d entry.0 (found_as w c l s r)) else seen_if d entry.0 (found_as w c l s r))
woken-step true true entry w c l s r = refl
woken-step true false entry w c l s r = refl
woken-step false true entry w c l s r = refl
woken-step false false entry w c l s r = refl

created-step : (b d : Bool) (entry : Pos × Act) (w c l s r : Option (Pos × Act)) →
    found_as w (if b then Some entry else c) l (if d then Some entry else s) r ≡ (if b then created_at entry.0 (seen_if d entry.0 (found_as w c l s r)) else seen_if d entry.0 (found_as w c l s r))
created-step true true entry w c l s r = refl
created-step true false entry w c l s r = refl
created-step false true entry w c l s r = refl
created-step false false entry w c l s r = refl

switch-step : (b d e : Bool) (place : Pos) (turn : Handover) (w c l s r : Option (Pos × Act)) →
    found_as (if b then None else w) (if b then None else c) (if b then None else (if d then Some (place, Switch turn) else l)) (if b || (e && not d) then Some (place, Switch turn) else s) (if b then None else r)
    ≡ (if b then ran_at place else (if d then left_at (leaving turn place) (found_as w c l s r) else seen_if e place (found_as w c l s r)))
switch-step true d e place turn w c l s r = refl
switch-step false true true place turn w c l s r = refl
switch-step false true false place turn w c l s r = refl
switch-step false false true place turn w c l s r = refl
switch-step false false false place turn w c l s r = refl

-- the dispatch by a switch at a place, by whether that is to task 0
abbrev pub one_at : Pos → Handover → Bool → Since → List Dispatch
one_at place turn idle since = cond idle [] (record { pid = turn.next_pid; prio = turn.next_prio; name = turn.next_comm; place = place; since = ended_by place turn since } ∷ [])

-- since when a task is runnable after one act more
pub after-act : (pid : ℤ) (place : Pos) (act : Act) (before : List (Pos × Act)) → runnable_since pid ((place, act) ∷ before) ≡ after pid place act (runnable_since pid before)
unfolding last_since_run last_seen first_roused runnable_since
after-act pid place (Waking by woken) before =
    ap (λ r. found_as (cond (int_eq woken pid) (Some (place, Waking by woken)) (last_since_run (wakes pid) pid before)) (last_since_run (creates pid) pid before) (last_since_run (leaves pid) pid before) (cond (int_eq by pid) (Some (place, Waking by woken)) (last_seen pid before)) r) (kept-step (int_eq woken pid) (first_roused pid before))
    ∙ woken-step (int_eq woken pid) (int_eq by pid) (place, Waking by woken) (last_since_run (wakes pid) pid before) (last_since_run (creates pid) pid before) (last_since_run (leaves pid) pid before) (last_seen pid before) (first_roused pid before)
after-act pid place (Creation by created) before =
    ap (λ r. found_as (last_since_run (wakes pid) pid before) (cond (int_eq created pid) (Some (place, Creation by created)) (last_since_run (creates pid) pid before)) (last_since_run (leaves pid) pid before) (cond (int_eq by pid) (Some (place, Creation by created)) (last_seen pid before)) r) (kept-step false (first_roused pid before))
    ∙ created-step (int_eq created pid) (int_eq by pid) (place, Creation by created) (last_since_run (wakes pid) pid before) (last_since_run (creates pid) pid before) (last_since_run (leaves pid) pid before) (last_seen pid before) (first_roused pid before)
after-act pid place (Wakeup by woken) before =
    roused-step (int_eq woken pid) (int_eq by pid) (place, Wakeup by woken) (last_since_run (wakes pid) pid before) (last_since_run (creates pid) pid before) (last_since_run (leaves pid) pid before) (last_seen pid before) (first_roused pid before)
after-act pid place (Switch turn) before =
    ap (λ r. found_as (cond (int_eq turn.next_pid pid) None (last_since_run (wakes pid) pid before)) (cond (int_eq turn.next_pid pid) None (last_since_run (creates pid) pid before)) (cond (int_eq turn.next_pid pid) None (cond (int_eq turn.prev_pid pid) (Some (place, Switch turn)) (last_since_run (leaves pid) pid before)))
    (cond (int_eq turn.next_pid pid || (int_eq turn.by pid && not (int_eq turn.prev_pid pid))) (Some (place, Switch turn)) (last_seen pid before)) r)
    (ap (λ b. if b then None else option_or (first_roused pid before) None) (or-false (int_eq turn.next_pid pid)) ∙ kept-step (int_eq turn.next_pid pid) (first_roused pid before))
    ∙ switch-step (int_eq turn.next_pid pid) (int_eq turn.prev_pid pid) (int_eq turn.by pid) place turn (last_since_run (wakes pid) pid before) (last_since_run (creates pid) pid before) (last_since_run (leaves pid) pid before) (last_seen pid before) (first_roused pid before)

-- a dispatch at a switch to task 0 or to another, from the same of that other
same-unless-idle : (place : Pos) (turn : Handover) (idle : Bool) (s t : Since) → (idle ≡ false → s ≡ t) → one_at place turn idle s ≡ one_at place turn idle t
same-unless-idle place turn true s t same = refl
same-unless-idle place turn false s t same = ap (one_at place turn false) (same refl)

-- a dispatch from the same of each task except task 0
pub same-dispatch : (place : Pos) (act : Act) (f g : ℤ → Since) → ((pid : ℤ) → int_eq pid (pos 0) ≡ false → f pid ≡ g pid) → dispatch_of place act f ≡ dispatch_of place act g
same-dispatch place (Waking by woken) f g same = refl
same-dispatch place (Creation by created) f g same = refl
same-dispatch place (Wakeup by woken) f g same = refl
same-dispatch place (Switch turn) f g same = same-unless-idle place turn (int_eq turn.next_pid (pos 0)) (f turn.next_pid) (g turn.next_pid) (same turn.next_pid)

-- what is known and told after one act more
pub tells-next : (old new : Tasks) (place : Pos) (act : Act) (before : List (Pos × Act)) (told out out_now : List Dispatch)
    → ((pid : ℤ) → known new.since pid ≡ after pid place act (known old.since pid)) → out_now ≡ out ++ dispatch_of place act (known old.since)
    → Tells old before (told ++ out) → Tells new ((place, act) ∷ before) (told ++ out_now)
unfolding dispatches
tells-next old new place act before told out out_now knows is tells = record {
  knows = λ pid waits. knows pid ∙ ap (after pid place act) (tells.knows pid waits) ∙ sym (after-act pid place act before);
  tells = ap (λ ds. told ++ ds) is ∙ sym (append_assoc told out (dispatch_of place act (known old.since))) ∙ ap (λ ds. ds ++ dispatch_of place act (known old.since)) tells.tells
      ∙ ap (λ ds. dispatches before ++ ds) (same-dispatch place act (known old.since) (λ pid. runnable_since pid before) tells.knows);
}

-- held acts with one more, the newest first
pub entries-more : (xs : List PlacedAct) (i : ℕ) (x : PlacedAct) → i < length xs → x ≡ get_or xs i x → reverse (entries_of (take (i + 1) xs)) ≡ entry_of x ∷ reverse (entries_of (take i xs))
entries-more xs i x within is =
    ap (λ (ys : List PlacedAct). reverse (entries_of ys)) (take_more xs i x within)
    ∙ ap reverse (map-append entry_of (take i xs) (get_or xs i x ∷ []))
    ∙ reverse-append (entries_of (take i xs)) (entry_of (get_or xs i x) ∷ [])
    ∙ ap (λ (y : PlacedAct). entry_of y ∷ reverse (entries_of (take i xs))) (sym is)

-- what a task is known by, behind the steps of a switch
pub switch-knows : (b d e : Bool) (place : Pos) (turn : Handover) (since : Since) →
    cond (b || d) (cond b (ran_at place) (cond d (left_at (leaving turn place) since) since)) (seen_if e place (cond b (ran_at place) (cond d (left_at (leaving turn place) since) since)))
    ≡ cond b (ran_at place) (cond d (left_at (leaving turn place) since) (seen_if e place since))
switch-knows true d e place turn since = refl
switch-knows false true e place turn since = refl
switch-knows false false e place turn since = refl

-- ---- showings

-- what a waking does by what is known of its task, the same of each task except task 0
same-unless : {X : Type 0} (by : Since → List X) (idle own : Bool) (s t : Since) → (idle ≡ false → s ≡ t) → cond idle [] (cond own [] (by s)) ≡ cond idle [] (cond own [] (by t))
same-unless by true own s t same = refl
same-unless by false own s t same = ap (λ s. cond own [] (by s)) (same refl)

same-showing : (place : Pos) (act : Act) (f g : ℤ → Since) → ((pid : ℤ) → int_eq pid (pos 0) ≡ false → f pid ≡ g pid) → showing_of place act f ≡ showing_of place act g
same-showing place (Waking by woken) f g same = same-unless (λ s. showing_at place.stamp (ready_since s)) (int_eq woken (pos 0)) (int_eq by woken) (f woken) (g woken) (same woken)
same-showing place (Creation by created) f g same = refl
same-showing place (Wakeup by woken) f g same = refl
same-showing place (Switch turn) f g same = refl

same-first : (place : Pos) (act : Act) (f g : ℤ → Since) → ((pid : ℤ) → int_eq pid (pos 0) ≡ false → f pid ≡ g pid) → first_of place act f ≡ first_of place act g
same-first place (Waking by woken) f g same = same-unless (first_at place.stamp woken) (int_eq woken (pos 0)) (int_eq by woken) (f woken) (g woken) (same woken)
same-first place (Creation by created) f g same = refl
same-first place (Wakeup by woken) f g same = refl
same-first place (Switch turn) f g same = refl

-- what is shown after one act more
pub shows-next : (old : Tasks) (place : Pos) (act : Act) (before : List (Pos × Act)) (told : List Dispatch) (given : List Showing) (shown shown_now : Shown)
    → shown_now.showings.items ≡ shown.showings.items ++ showing_of place act (known old.since) → shown_now.firsts.items ≡ shown.firsts.items ++ first_of place act (known old.since)
    → Tells old before told → Shows given shown before → Shows given shown_now ((place, act) ∷ before)
unfolding showings first_wakings
shows-next old place act before told given shown shown_now is firsts_are tells shows = record {
  showings = ap (λ ss. given ++ ss) is ∙ sym (append_assoc given shown.showings.items (showing_of place act (known old.since))) ∙ ap (λ ss. ss ++ showing_of place act (known old.since)) shows.showings
      ∙ ap (λ ss. showings before ++ ss) (same-showing place act (known old.since) (λ pid. runnable_since pid before) tells.knows);
  firsts = firsts_are ∙ ap (λ fs. fs ++ first_of place act (known old.since)) shows.firsts
      ∙ ap (λ fs. first_wakings before ++ fs) (same-first place act (known old.since) (λ pid. runnable_since pid before) tells.knows);
}
