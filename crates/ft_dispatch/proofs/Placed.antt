-- Acts at other places: what they say of tasks, and their dispatches, stand at those places.
use Rattle.std.specs.Prelude.{◌≡◌, ℤ, pos, Bool, true, false, ◌||◌, List, [], ◌∷◌, ◌++◌, map as list_map, Option, Some, None, option_map}
use Rattle.std.specs.Option.{option_or}
use Rattle.std.specs.Ordering.{int_eq}
use Rattle.std.proofs.Common.{refl, sym, ap, ◌∙◌, cond}
use Rattle.std.proofs.lemmas.List.{map-append}
use Rattle.ft_fields.specs.declared.pos.Pos.{Pos}
use Rattle.ft_dispatch.specs.Acts.{Act, Waking, Creation, Wakeup, Switch, Handover}
use Rattle.ft_dispatch.specs.Dispatches.{runs, wakes, creates, leaves, shows, rouses, last_since_run, last_seen, first_roused, place_of, left_by, runnable_since, blocked_at, dispatch_of, dispatches}
use Rattle.ft_dispatch.specs.Joining.{act_behind, left_behind, since_behind, dispatch_behind, ran}
use Rattle.ft_dispatch.specs.declared.dispatch.Dispatch.{Dispatch}
use Rattle.ft_dispatch.specs.declared.dispatch.Since.{Since}
use Rattle.ft_dispatch.proofs.Acting.{found_as, one_at}

abbrev Entry : Type 0
Entry = Pos × Act

module _ (move : Pos → Pos) where
  found-step : (run pass : Bool) (entry : Entry) (own placed : Option Entry) → placed ≡ option_map (act_behind move) own
      → cond run None (cond pass (Some (act_behind move entry)) placed) ≡ option_map (act_behind move) (cond run None (cond pass (Some entry) own))
  found-step true pass entry own placed h = refl
  found-step false true entry own placed h = refl
  found-step false false entry own placed h = h

  -- the last act that passes a test
  found-placed : (passes : Act → Bool) (pid : ℤ) (acts : List Entry) → last_since_run passes pid (list_map (act_behind move) acts) ≡ option_map (act_behind move) (last_since_run passes pid acts)
  unfolding last_since_run
  found-placed passes pid [] = refl
  found-placed passes pid (entry ∷ acts) =
      found-step (runs pid entry.1) (passes entry.1) entry (last_since_run passes pid acts) (last_since_run passes pid (list_map (act_behind move) acts)) (found-placed passes pid acts)

  seen-step : (pass : Bool) (entry : Entry) (own placed : Option Entry) → placed ≡ option_map (act_behind move) own
      → cond pass (Some (act_behind move entry)) placed ≡ option_map (act_behind move) (cond pass (Some entry) own)
  seen-step true entry own placed h = refl
  seen-step false entry own placed h = h

  -- the last act that shows it running
  seen-placed : (pid : ℤ) (acts : List Entry) → last_seen pid (list_map (act_behind move) acts) ≡ option_map (act_behind move) (last_seen pid acts)
  unfolding last_seen
  seen-placed pid [] = refl
  seen-placed pid (entry ∷ acts) = seen-step (runs pid entry.1 || shows pid entry.1) entry (last_seen pid acts) (last_seen pid (list_map (act_behind move) acts)) (seen-placed pid acts)

  roused-step : (stop own : Bool) (entry : Entry) (first placed : Option Entry) → placed ≡ option_map (act_behind move) first
      → cond stop None (option_or placed (cond own (Some (act_behind move entry)) None)) ≡ option_map (act_behind move) (cond stop None (option_or first (cond own (Some entry) None)))
  roused-step true own entry first placed is = refl
  roused-step false true entry None placed is = ap (λ o. option_or o (Some (act_behind move entry))) is
  roused-step false true entry (Some first) placed is = ap (λ o. option_or o (Some (act_behind move entry))) is
  roused-step false false entry None placed is = ap (λ o. option_or o None) is
  roused-step false false entry (Some first) placed is = ap (λ o. option_or o None) is

  -- the first end of its last waking
  roused-placed : (pid : ℤ) (acts : List Entry) → first_roused pid (list_map (act_behind move) acts) ≡ option_map (act_behind move) (first_roused pid acts)
  unfolding first_roused
  roused-placed pid [] = refl
  roused-placed pid (entry ∷ acts) = roused-step (runs pid entry.1 || wakes pid entry.1) (rouses pid entry.1) entry (first_roused pid acts) (first_roused pid (list_map (act_behind move) acts)) (roused-placed pid acts)

  place-placed : (o : Option Entry) → place_of (option_map (act_behind move) o) ≡ option_map move (place_of o)
  place-placed None = refl
  place-placed (Some entry) = refl

  left-placed : (o : Option Entry) → left_by (option_map (act_behind move) o) ≡ option_map (left_behind move) (left_by o)
  left-placed None = refl
  left-placed (Some entry) = refl

  as-placed : (w c l s r : Option Entry) → found_as (option_map (act_behind move) w) (option_map (act_behind move) c) (option_map (act_behind move) l) (option_map (act_behind move) s) (option_map (act_behind move) r) ≡ since_behind move (found_as w c l s r)
  as-placed w c l s r = λ i. record { woken = place-placed w i; created = place-placed c i; left = left-placed l i; seen = place-placed s i; roused = place-placed r i }

  -- since when a task is runnable
  pub since-placed : (pid : ℤ) (acts : List Entry) → runnable_since pid (list_map (act_behind move) acts) ≡ since_behind move (runnable_since pid acts)
  unfolding runnable_since
  since-placed pid acts =
      (λ i. found_as (found-placed (wakes pid) pid acts i) (found-placed (creates pid) pid acts i) (found-placed (leaves pid) pid acts i) (seen-placed pid acts i) (roused-placed pid acts i))
      ∙ as-placed (last_since_run (wakes pid) pid acts) (last_since_run (creates pid) pid acts) (last_since_run (leaves pid) pid acts) (last_seen pid acts) (first_roused pid acts)

  -- whether a task ran
  pub ran-placed : (pid : ℤ) (acts : List Entry) → ran pid (list_map (act_behind move) acts) ≡ ran pid acts
  ran-placed pid [] = refl
  ran-placed pid (entry ∷ acts) = ap (λ b. runs pid entry.1 || b) (ran-placed pid acts)

  ended-placed : (same : Bool) (place : Pos) (since : Since) → cond same (blocked_at (move place) (since_behind move since)) (since_behind move since) ≡ since_behind move (cond same (blocked_at place since) since)
  ended-placed true place since = refl
  ended-placed false place since = refl

  one-placed : (idle : Bool) (place : Pos) (turn : Handover) (since : Since) → one_at (move place) turn idle (since_behind move since) ≡ list_map (dispatch_behind move) (one_at place turn idle since)
  one-placed true place turn since = refl
  one-placed false place turn since =
      ap (λ (s : Since). record { pid = turn.next_pid; prio = turn.next_prio; name = turn.next_comm; place = move place; since = s } ∷ []) (ended-placed (int_eq turn.prev_pid turn.next_pid) place since)

  by-placed : (place : Pos) (act : Act) (placed own : ℤ → Since) → ((pid : ℤ) → placed pid ≡ since_behind move (own pid)) → dispatch_of (move place) act placed ≡ list_map (dispatch_behind move) (dispatch_of place act own)
  by-placed place (Waking by woken) placed own is = refl
  by-placed place (Creation by created) placed own is = refl
  by-placed place (Wakeup by woken) placed own is = refl
  by-placed place (Switch turn) placed own is =
      ap (one_at (move place) turn (int_eq turn.next_pid (pos 0))) (is turn.next_pid) ∙ one-placed (int_eq turn.next_pid (pos 0)) place turn (own turn.next_pid)

  -- the dispatches
  pub dispatches-placed : (acts : List Entry) → dispatches (list_map (act_behind move) acts) ≡ list_map (dispatch_behind move) (dispatches acts)
  unfolding dispatches
  dispatches-placed [] = refl
  dispatches-placed (entry ∷ acts) =
      ap (λ (ds : List Dispatch). ds ++ dispatch_of (move entry.0) entry.1 (λ pid. runnable_since pid (list_map (act_behind move) acts))) (dispatches-placed acts)
      ∙ ap (λ (ds : List Dispatch). list_map (dispatch_behind move) (dispatches acts) ++ ds)
      (by-placed entry.0 entry.1 (λ pid. runnable_since pid (list_map (act_behind move) acts)) (λ pid. runnable_since pid acts) (λ pid. since-placed pid acts))
      ∙ sym (map-append (dispatch_behind move) (dispatches acts) (dispatch_of entry.0 entry.1 (λ pid. runnable_since pid acts)))
