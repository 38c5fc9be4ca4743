-- Places of a part behind other events.
use Rattle.std.specs.Prelude.{◌≡◌, ◌+◌, ◌≤◌, ℕ, suc, List, [], ◌∷◌, ◌++◌, Option, Some, None, slice_index, map as list_map}
use Rattle.std.proofs.Common.{refl, sym, ap, ◌∙◌, append_assoc, cond, eqb, arith}
use Rattle.std.proofs.lemmas.List.{map-append}
use Rattle.std.proofs.lemmas.List.Sums.{sum_by-append}
use Rattle.ft_fields.specs.Traced.{Traced, last_cpu}
use Rattle.ft_fields.specs.declared.pos.Pos.{Pos}
use Rattle.ft_dispatch.specs.Acts.{Act}
use Rattle.ft_waits.specs.LeftOut.{act_without}
use Rattle.ft_waits.specs.Moving.{count_of, moved, act_moved}
use Rattle.ft_waits.specs.Reading.{place_after, act_at, acts_of, CountsEvents}
use Rattle.ft_waits.specs.declared.left_out.Without.{Without}

-- the place of an event of a part
pub place-moved : (part before : List Traced) (event : Traced) → place_after (part ++ before) event ≡ moved (count_of before) (place_after part event)
place-moved part before event =
    let parts = sum_by-append (λ (e : Traced). cond (eqb e.cpu event.cpu) 1 0) part before in
    let sum : suc (count_of (part ++ before) event.cpu) ≡ suc (count_of part event.cpu) + count_of before event.cpu = omega (arith, parts) in
    ap (λ (n : ℕ). record { stamp = event.stamp; cpu = event.cpu; line = n }) sum

-- what an event says at a moved place
said-moved : (counts : ℕ → ℕ) (place : Pos) (act : Option Act) → act_at (moved counts place) act ≡ list_map (act_moved counts) (act_at place act)
said-moved counts place None = refl
said-moved counts place (Some act) = refl

-- what a part and the events before it say
pub acts-moved : (without : List Without) (part before : List Traced) → acts_of without (part ++ before) ≡ list_map (act_moved (count_of before)) (acts_of without part) ++ acts_of without before
unfolding acts_of
acts-moved without [] before = refl
acts-moved without (event ∷ part) before =
    let move = act_moved (count_of before) in
    let act = act_without without event in
    let own = act_at (place_after part event) act in
    ap (λ (place : Pos). act_at place act ++ acts_of without (part ++ before)) (place-moved part before event)
    ∙ ap (λ (es : List (Pos × Act)). es ++ acts_of without (part ++ before)) (said-moved (count_of before) (place_after part event) act)
    ∙ ap (λ (es : List (Pos × Act)). list_map move own ++ es) (acts-moved without part before)
    ∙ sym (append_assoc (list_map move own) (list_map move (acts_of without part)) (acts_of without before))
    ∙ ap (λ (es : List (Pos × Act)). es ++ acts_of without before) (sym (map-append move own (acts_of without part)))

-- the same by counts that are kept
pub place-by-counts : (counts : List ℕ) (before part : List Traced) (event : Traced) → CountsEvents counts before → event.cpu ≤ last_cpu → moved (slice_index counts) (place_after part event) ≡ place_after (part ++ before) event
place-by-counts counts before part event keeps within =
    ap (λ (n : ℕ). record { stamp = event.stamp; cpu = event.cpu; line = (place_after part event).line + n }) (keeps event.cpu within)
    ∙ sym (place-moved part before event)
