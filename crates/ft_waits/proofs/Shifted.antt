-- Events of a part behind the events before it: their places, acts and counts.
use Rattle.std.specs.Prelude.{◌≡◌, ◌≤◌, ◌+◌, ◌==◌, min, ℕ, suc, List, [], ◌∷◌, ◌++◌, length, Option, Some, None, slice_index, map as list_map}
use Rattle.std.specs.List.{AllByRecursion, count_by}
use Rattle.std.specs.Option.{option_or}
use Rattle.std.proofs.Common.{refl, sym, ap, ◌∙◌, append_assoc, arith, cond, eqb}
use Rattle.std.proofs.lemmas.List.{map-append}
use Rattle.std.proofs.lemmas.List.Sums.{sum_by-append, count_by-le-length}
use Rattle.ft_fields.specs.Traced.{Traced, last_cpu}
use Rattle.ft_fields.specs.declared.pos.Pos.{Pos}
use Rattle.ft_dispatch.specs.Acts.{Act}
use Rattle.ft_dispatch.specs.Joining.{place_behind, act_behind}
use Rattle.ft_waits.specs.LeftOut.{act_without, has_name, leaves_out, left_out_of}
use Rattle.ft_waits.specs.Reading.{place_after, act_at, acts_of, first_stamp, latest, number_limit, CountsEvents}
use Rattle.ft_waits.specs.inner.Known.{most_counted}
use Rattle.ft_waits.specs.inner.Seams.{HasNumber, left_out_with}
use Rattle.ft_waits.specs.declared.left_out.Without.{Without}
use Rattle.ft_waits.proofs.Counting.{of_cpu}

-- so many events of a part and before it
sum-of : (cpu : ℕ) (part before : List Traced) → of_cpu cpu (part ++ before) ≡ of_cpu cpu part + of_cpu cpu before
sum-of cpu part before = sum_by-append (λ (e : Traced). cond (eqb e.cpu cpu) 1 0) part before

few-of : (cpu : ℕ) (events : List Traced) → of_cpu cpu events ≤ length events
few-of cpu events = count_by-le-length (λ (e : Traced). e.cpu == cpu) events

-- the place of an event of a part
pub place-behind-is : (counts : List ℕ) (before part : List Traced) (event : Traced) → CountsEvents counts before → event.cpu ≤ last_cpu → suc (length part) + length before ≤ number_limit
    → place_behind counts (place_after part event) ≡ place_after (part ++ before) event
place-behind-is counts before part event counted cpu fits =
    let own = few-of event.cpu part in
    let others = few-of event.cpu before in
    let sum = sum-of event.cpu part before in
    let known = counted event.cpu cpu in
    let line : min (suc (of_cpu event.cpu part) + slice_index counts event.cpu) 4294967295 ≡ suc (of_cpu event.cpu (part ++ before)) = omega (arith, own, others, sum, known, fits) in
    ap (λ (n : ℕ). record { stamp = event.stamp; cpu = event.cpu; line = n }) line

said-behind : (move : Pos → Pos) (place : Pos) (act : Option Act) → act_at (move place) act ≡ list_map (act_behind move) (act_at place act)
said-behind move place None = refl
said-behind move place (Some act) = refl

module _ (counts : List ℕ) (before : List Traced) (counted : CountsEvents counts before) (without : List Without) where
  -- what a part and the events before it say
  pub acts-behind : (part : List Traced) → length part + length before ≤ number_limit → AllByRecursion (λ (e : Traced). e.cpu ≤ last_cpu) part
      → acts_of without (part ++ before) ≡ list_map (act_behind (place_behind counts)) (acts_of without part) ++ acts_of without before
  unfolding acts_of
  acts-behind [] fits cpus = refl
  acts-behind (event ∷ part) fits cpus =
      let move = act_behind (place_behind counts) in
      let act = act_without without event in
      let own = act_at (place_after part event) act in
      let less : length part + length before ≤ number_limit = omega (arith, fits) in
      ap (λ (place : Pos). act_at place act ++ acts_of without (part ++ before)) (sym (place-behind-is counts before part event counted cpus.0 fits))
      ∙ ap (λ (es : List (Pos × Act)). es ++ acts_of without (part ++ before)) (said-behind (place_behind counts) (place_after part event) act)
      ∙ ap (λ (es : List (Pos × Act)). list_map move own ++ es) (acts-behind part less cpus.1)
      ∙ sym (append_assoc (list_map move own) (list_map move (acts_of without part)) (acts_of without before))
      ∙ ap (λ (es : List (Pos × Act)). es ++ acts_of without before) (sym (map-append move own (acts_of without part)))

  one-number : (place : Pos) (act : Option Act) (acts : List (Pos × Act)) → place.line + slice_index counts place.cpu ≤ 4294967295 → AllByRecursion (HasNumber counts) acts → AllByRecursion (HasNumber counts) (act_at place act ++ acts)
  one-number place None acts here rest = rest
  one-number place (Some act) acts here rest = (here, rest)

  -- each act of a part has a number behind
  pub acts-numbered : (part : List Traced) → length part + length before ≤ number_limit → AllByRecursion (λ (e : Traced). e.cpu ≤ last_cpu) part → AllByRecursion (HasNumber counts) (acts_of without part)
  unfolding acts_of
  acts-numbered [] fits cpus = tt
  acts-numbered (event ∷ part) fits cpus =
      let own = few-of event.cpu part in
      let others = few-of event.cpu before in
      let known = counted event.cpu cpus.0 in
      let less : length part + length before ≤ number_limit = omega (arith, fits) in
      let here : suc (of_cpu event.cpu part) + slice_index counts event.cpu ≤ 4294967295 = omega (arith, own, others, known, fits) in
      one-number (place_after part event) (act_without without event) (acts_of without part) here (acts-numbered part less cpus.1)

-- a test of stamps that each event passes, each act passes
stamp-passes : (P : ℕ → Type 0) (place : Pos) (act : Option Act) (acts : List (Pos × Act)) → P place.stamp → AllByRecursion (λ (e : Pos × Act). P e.0.stamp) acts → AllByRecursion (λ (e : Pos × Act). P e.0.stamp) (act_at place act ++ acts)
stamp-passes P place None acts here rest = rest
stamp-passes P place (Some act) acts here rest = (here, rest)

pub acts-pass : (P : ℕ → Type 0) (without : List Without) (part : List Traced) → AllByRecursion (λ (e : Traced). P e.stamp) part → AllByRecursion (λ (e : Pos × Act). P e.0.stamp) (acts_of without part)
unfolding acts_of
acts-pass P without [] all = tt
acts-pass P without (event ∷ part) all = stamp-passes P (place_after part event) (act_without without event) (acts_of without part) all.0 (acts-pass P without part all.1)

-- the counts of both
pub counts-behind : (old own new : List ℕ) (before part : List Traced) → CountsEvents old before → CountsEvents own part → length part + length before ≤ number_limit
    → ((cpu : ℕ) → cpu ≤ last_cpu → slice_index new cpu ≡ min (slice_index old cpu + slice_index own cpu) 4294967295) → CountsEvents new (part ++ before)
counts-behind old own new before part counted counted_own fits is cpu low =
    let known = counted cpu low in
    let known_own = counted_own cpu low in
    let few = few-of cpu before in
    let few_own = few-of cpu part in
    let sum = sum-of cpu part before in
    let here = is cpu low in
    omega (arith, known, known_own, few, few_own, sum, here, fits)

or-assoc : (a b c : Option ℕ) → option_or (option_or a b) c ≡ option_or a (option_or b c)
or-assoc None b c = refl
or-assoc (Some x) b c = refl

or-none : (o : Option ℕ) → option_or o None ≡ o
or-none None = refl
or-none (Some x) = refl

-- the first stamp of both
pub first-behind : (part before : List Traced) → first_stamp (part ++ before) ≡ option_or (first_stamp before) (first_stamp part)
unfolding first_stamp
first-behind [] before = sym (or-none (first_stamp before))
first-behind (event ∷ part) before = ap (λ (o : Option ℕ). option_or o (Some event.stamp)) (first-behind part before) ∙ or-assoc (first_stamp before) (first_stamp part) (Some event.stamp)

-- and the last one
pub latest-behind : (part before : List Traced) (first : ℕ) → first_stamp part ≡ Some first → latest (part ++ before) ≡ latest part
unfolding first_stamp
latest-behind [] before first is = absurd (cc)
latest-behind (event ∷ part) before first is = refl

-- a part without a first stamp has no events
pub no-events : (part : List Traced) → first_stamp part ≡ None → part ≡ []
unfolding first_stamp
no-events [] none = refl
no-events (event ∷ part) none = absurd (some (first_stamp part) event.stamp none)
  where
    some : (o : Option ℕ) (stamp : ℕ) → option_or o (Some stamp) ≡ None → ⊥
    some None stamp h = absurd (cc)
    some (Some x) stamp h = absurd (cc)

-- what is left out of both
pub left-out-behind : (without : Without) (part before : List Traced) → length part + length before ≤ number_limit → left_out_with (left_out_of before without) (left_out_of part without) ≡ left_out_of (part ++ before) without
left-out-behind without part before fits =
    let events = sum_by-append (λ (e : Traced). cond (has_name without e) 1 0) part before in
    let outs = sum_by-append (λ (e : Traced). cond (leaves_out without e) 1 0) part before in
    let a = count_by-le-length (has_name without) part in
    let b = count_by-le-length (has_name without) before in
    let c = count_by-le-length (leaves_out without) part in
    let d = count_by-le-length (leaves_out without) before in
    let all : min (count_by (has_name without) before + count_by (has_name without) part) most_counted ≡ count_by (has_name without) (part ++ before) = omega (arith, events, a, b, fits) in
    let out : min (count_by (leaves_out without) before + count_by (leaves_out without) part) most_counted ≡ count_by (leaves_out without) (part ++ before) = omega (arith, outs, c, d, fits) in
    (λ i. record { without = without; events = all i; left_out = out i })
