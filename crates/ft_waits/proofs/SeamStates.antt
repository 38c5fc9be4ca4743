-- The state after a part and the events before it.
use Rattle.std.specs.Prelude.{◌≡◌, ◌≤◌, ◌<◌, ◌+◌, min, ℕ, List, [], ◌∷◌, ◌++◌, length, reverse, take, map as list_map, Option, Some, None, is_some, unwrap_or, slice_index, slice_index_or}
use Rattle.std.specs.List.{AllByRecursion}
use Rattle.std.specs.Option.{option_or}
use Rattle.std.proofs.Common.{refl, sym, ap, subst, ◌∙◌, arith, get_or}
use Rattle.std.proofs.lemmas.List.{append-nil, take_more, reverse-append, reverse-reverse, length-map, get_or-map, ext_get_or, nil_from_length}
use Rattle.std.specs.Prelude.{◌||◌, IsPermutation}
use Rattle.std.specs.Cmp.{signed_Decides}
use Rattle.std.proofs.lemmas.Bool.{true≢false}
use Rattle.std.proofs.lemmas.List.Sorted.{length_permutation}
use Rattle.ft_dispatch.specs.Dispatches.{dispatches}
use Rattle.ft_dispatch.specs.Telling.{entries_of}
use Rattle.ft_fields.specs.Traced.{Traced, last_cpu}
use Rattle.ft_fields.specs.declared.pos.Pos.{Pos}
use Rattle.ft_dispatch.specs.Acts.{Act}
use Rattle.ft_dispatch.specs.Joining.{place_behind, has_one, all_completed, AreOfTasks, Joins}
use Rattle.ft_dispatch.specs.declared.dispatch.Dispatch.{Dispatch}
use Rattle.ft_waits.specs.LeftOut.{left_out_of}
use Rattle.ft_losses.specs.Notes.{Note, Passed, Marked, Silent}
use Rattle.ft_losses.specs.Telling.{IsOnCpu}
use Rattle.ft_waits.specs.Missing.{passed, running, missing_in}
use Rattle.ft_waits.specs.Reading.{place_after, acts_of, first_stamp, latest, CountsEvents, number_limit}
use Rattle.ft_waits.specs.inner.Known.{Settles, Orders, Follows, Misses, left_out_by}
use Rattle.ft_waits.specs.inner.Starts.{started, start_of, starts_of, Seam, seam_after, seam, missing_with}
use Rattle.ft_waits.specs.inner.Seams.{JoinsMisses, JoinsStates, held_behind, left_out_with, Meets, ShowsBoth, told_behind}
use Rattle.ft_waits.specs.declared.kept.KeptActs.{KeptActs}
use Rattle.ft_waits.specs.declared.left_out.LeftOut.{LeftOut}
use Rattle.ft_waits.specs.declared.left_out.Without.{Without}
use Rattle.ft_waits.specs.declared.missing.Missing.{Missing}
use Rattle.ft_waits.specs.declared.ran.Ran.{Ran}
use Rattle.ft_waits.specs.declared.starts.Start.{Start}
use Rattle.ft_waits.specs.declared.state.State.{State}
use Rattle.ft_waits.proofs.Ordering.{settled}
use Rattle.ft_waits.proofs.Places.{acts-distinct}
use Rattle.ft_waits.proofs.ReadingLines.{first-or}
use Rattle.ft_waits.proofs.SeamStarts.{running-behind, missing-joined, nothing-missing}
use Rattle.ft_waits.proofs.Shifted.{acts-behind, acts-numbered, acts-pass, counts-behind, first-behind, latest-behind, no-events, left-out-behind}
use Rattle.ft_waits.proofs.Together.{orders-joined}

-- ---- the first events of CPUs

-- one more
pub seam-more : (ran : ℕ → Option Ran) (move : Pos → Pos) (first : Seam) (starts : List Start) (i : ℕ) (one : Start) → i < length starts → one ≡ get_or starts i one
    → seam ran move first (reverse (take (i + 1) starts)) ≡ seam_after (ran one.place.cpu) (move one.place) one (seam ran move first (reverse (take i starts)))
unfolding seam
seam-more ran move first starts i one within is =
    ap (λ (ss : List Start). seam ran move first (reverse ss)) (take_more starts i one within)
    ∙ ap (seam ran move first) (reverse-append (take i starts) (get_or starts i one ∷ []))
    ∙ ap (λ (s : Start). seam_after (ran s.place.cpu) (move s.place) s (seam ran move first (reverse (take i starts)))) (sym is)

-- the same of tasks that run on CPUs that there can be
same-seam : (ran other : ℕ → Option Ran) (move : Pos → Pos) (first : Seam) → ((cpu : ℕ) → cpu ≤ last_cpu → ran cpu ≡ other cpu) → (starts : List Start) → AllByRecursion (λ (s : Start). s.place.cpu ≤ last_cpu) starts
    → seam ran move first starts ≡ seam other move first starts
unfolding seam
same-seam ran other move first same [] cpus = refl
same-seam ran other move first same (start ∷ starts) cpus =
    ap (λ (o : Option Ran). seam_after o (move start.place) start (seam ran move first starts)) (same start.place.cpu cpus.0)
    ∙ ap (seam_after (other start.place.cpu) (move start.place) start) (same-seam ran other move first same starts cpus.1)

one-start-on : (ran : Option Ran) (start : Start) (starts : List Start) → start.place.cpu ≤ last_cpu → AllByRecursion (λ (s : Start). s.place.cpu ≤ last_cpu) starts → AllByRecursion (λ (s : Start). s.place.cpu ≤ last_cpu) (started ran start ++ starts)
one-start-on None start starts here rest = (here, rest)
one-start-on (Some ran) start starts here rest = rest

starts-on : (notes : List Note) → AllByRecursion IsOnCpu notes → AllByRecursion (λ (s : Start). s.place.cpu ≤ last_cpu) (starts_of notes)
unfolding starts_of
starts-on [] cpus = tt
starts-on (Passed event ∷ before) cpus = one-start-on (running event.cpu before) (start_of event.pid (place_after (passed before) event) (missing_in before)) (starts_of before) cpus.0 (starts-on before cpus.1)
starts-on (Marked mark ∷ before) cpus = starts-on before cpus.1
starts-on (Silent ∷ before) cpus = starts-on before cpus.1

-- ---- what is left out

same-list : {X : Type 0} (xs ys : List X) → length xs ≡ length ys → ((i : ℕ) (d : X) → i < length xs → get_or xs i d ≡ get_or ys i d) → xs ≡ ys
same-list [] ys size same = sym (nil_from_length ys (sym size))
same-list (x ∷ xs) ys size same = ext_get_or x (x ∷ xs) ys size (λ i within. same i x within)

by-of : (events : List Traced) (all : List Without) → left_out_by (list_map (left_out_of events) all) ≡ all
by-of events [] = refl
by-of events (without ∷ all) = ap (λ (rest : List Without). without ∷ rest) (by-of events all)

-- ---- stamps

pub first-passes : (P : ℕ → Type 0) (events : List Traced) (first : ℕ) → first_stamp events ≡ Some first → AllByRecursion (λ (e : Traced). P e.stamp) events → P first
unfolding first_stamp
first-passes P [] first is all = absurd (cc)
first-passes P (event ∷ before) first is all = by-rest P (first_stamp before) event.stamp first is all.0 (λ y at. first-passes P before y at all.1)
  where
    by-rest : (P : ℕ → Type 0) (o : Option ℕ) (stamp first : ℕ) → option_or o (Some stamp) ≡ Some first → P stamp → ((y : ℕ) → o ≡ Some y → P y) → P first
    by-rest P None stamp first same here earlier = subst P (ap (λ (o : Option ℕ). unwrap_or o 0) same) here
    by-rest P (Some x) stamp first same here earlier = subst P (ap (λ (o : Option ℕ). unwrap_or o 0) same) (earlier x refl)

pub last-after : (events : List Traced) (first : ℕ) → first_stamp events ≡ Some first → AllByRecursion (λ (e : Traced). first ≤ e.stamp) events → first ≤ latest events
unfolding first_stamp
last-after [] first is all = absurd (cc)
last-after (event ∷ before) first is all = all.0

-- ---- all of it

-- what the code does with a part that has events
pub record Together (old part new : State) (out out_now : List Dispatch) (ones ones_now : List Dispatch) (first : ℕ) : Type 0 where
  pub before : KeptActs
  pub starts_with : part.first ≡ Some first
  pub settles : Settles old.acts old.sums out before new.sums out_now
  pub shows : ShowsBoth old.lines.items before part.acts new.acts
  pub joins : Joins (place_behind old.lines.items) before.tasks part.acts.tasks ones new.acts.tasks ones_now
  pub held : new.acts.held.items ≡ list_map (held_behind (place_behind old.lines.items)) part.acts.held.items
  pub seam_missing : Missing
  pub seam_is : ◌≡◌ {A = Seam} (record { missing = seam_missing; starts = new.starts.items })
      (seam (λ cpu. slice_index_or old.running.items cpu None) (place_behind old.lines.items) (record { missing = old.missing; starts = old.starts.items }) (reverse part.starts.items))
  pub missing : new.missing ≡ missing_with (place_behind old.lines.items) seam_missing part.missing
  pub running : (cpu : ℕ) → cpu ≤ last_cpu → slice_index_or new.running.items cpu None ≡ option_or (slice_index_or part.running.items cpu None) (slice_index_or old.running.items cpu None)
  pub size : length new.left_out.items ≡ length old.left_out.items
  pub left_out : (i : ℕ) (d : LeftOut) → i < length old.left_out.items → get_or new.left_out.items i d ≡ left_out_with (get_or old.left_out.items i d) (get_or part.left_out.items i d)
  pub first_is : new.first ≡ Some (unwrap_or old.first first)
  pub latest_is : new.latest ≡ part.latest
  pub lines : (cpu : ℕ) → cpu ≤ last_cpu → slice_index new.lines.items cpu ≡ min (slice_index old.lines.items cpu + slice_index part.lines.items cpu) 4294967295

module _ (old part new : State) (out out_now ones ones_now : List Dispatch) (first : ℕ) (does : Together old part new out out_now ones ones_now first) where
  module _ (before own : List Traced) (told apart : List Dispatch) (follows : Follows old before (told ++ out)) (follows_own : Follows part own apart)
      (same : left_out_by old.left_out.items ≡ left_out_by part.left_out.items) (unsummed : old.sums ≡ None) (meets : Meets before own) (of : AreOfTasks apart ones) where
    abbrev all : List Without
    all = left_out_by old.left_out.items

    first_own : first_stamp own ≡ Some first
    first_own = sym follows_own.first ∙ does.starts_with

    left-out-at : (i : ℕ) (d : LeftOut) → i < length all → get_or new.left_out.items i d ≡ get_or (list_map (left_out_of (own ++ before)) all) i d
    left-out-at i d within =
        let w = d.without in
        let size : length all ≡ length old.left_out.items = length-map old.left_out.items (λ (c : LeftOut). c.without) in
        does.left_out i d (omega (arith, within, size))
        ∙ ap (λ (cs : List LeftOut). left_out_with (get_or cs i d) (get_or part.left_out.items i d)) follows.left_out
        ∙ ap (λ (cs : List LeftOut). left_out_with (get_or (list_map (left_out_of before) all) i d) (get_or cs i d)) (follows_own.left_out ∙ ap (list_map (left_out_of own)) (sym same))
        ∙ ap (λ (c : LeftOut). left_out_with c (get_or (list_map (left_out_of own) all) i d)) (get_or-map (left_out_of before) all i w d within)
        ∙ ap (left_out_with (left_out_of before (get_or all i w))) (get_or-map (left_out_of own) all i w d within)
        ∙ left-out-behind (get_or all i w) own before meets.fits
        ∙ sym (get_or-map (left_out_of (own ++ before)) all i w d within)

    left_out_is : new.left_out.items ≡ list_map (left_out_of (own ++ before)) all
    left_out_is =
        let size : length all ≡ length old.left_out.items = length-map old.left_out.items (λ (c : LeftOut). c.without) in
        same-list new.left_out.items (list_map (left_out_of (own ++ before)) all) (does.size ∙ sym size ∙ sym (length-map all (left_out_of (own ++ before))))
        (λ i d within. left-out-at i d (omega (arith, within, does.size, size)))

    by_is : left_out_by new.left_out.items ≡ all
    by_is = ap left_out_by left_out_is ∙ by-of (own ++ before) all

    abbrev counts : List ℕ
    counts = old.lines.items

    joined_orders : Orders new.acts new.sums part.latest (own ++ before) (acts_of all (own ++ before)) ((told ++ out_now) ++ told_behind counts all before apart)
        × (ones_now ≡ told_behind counts all before ones)
    joined_orders =
        let later : latest before < first = first-passes (λ n. latest before < n) own first first_own meets.later in
        let settled_first : Orders does.before new.sums first before (acts_of all before) (told ++ out_now) =
        settled old.acts does.before old.sums new.sums old.latest first before (acts_of all before) told out out_now (omega (arith, follows.last, later)) does.settles follows.orders in
        let orders_own : Orders part.acts part.sums part.latest own (acts_of all own) apart =
        subst (λ (ws : List Without). Orders part.acts part.sums part.latest own (acts_of ws own) apart) (sym same) follows_own.orders in
        let rises = meets.rises first first_own in
        let last : first ≤ part.latest = omega (arith, follows_own.last, last-after own first first_own rises) in
        orders-joined counts does.before part.acts new.acts new.sums part.sums new.sums first part.latest before own (acts_of all before) (acts_of all own) (acts_of all (own ++ before)) (told ++ out_now) apart ones ones_now
        settled_first does.settles.none orders_own (omega (arith, later)) does.shows does.held (does.settles.sums.wanted ∙ ap is_some unsummed) does.joins of (acts-behind counts before follows.counts all own meets.fits meets.cpus) (acts-distinct all (own ++ before))
        (acts-numbered counts before follows.counts all own meets.fits meets.cpus) (acts-pass (λ n. first ≤ n) all own rises) last

    pub follows-joined : Follows new (own ++ before) ((told ++ out_now) ++ told_behind counts all before apart) × (ones_now ≡ told_behind counts all before ones) × (left_out_by new.left_out.items ≡ all) × (is_some new.sums ≡ is_some old.sums)
    follows-joined = (
      record {
        counts = counts-behind counts part.lines.items new.lines.items before own follows.counts follows_own.counts meets.fits does.lines;
        first = does.first_is ∙ first-or old.first first ∙ ap (λ (o : Option ℕ). option_or o (Some first)) follows.first ∙ ap (option_or (first_stamp before)) (sym first_own) ∙ sym (first-behind own before);
        last = does.latest_is ∙ follows_own.last ∙ sym (latest-behind own before first first_own);
        left_out = left_out_is ∙ ap (list_map (left_out_of (own ++ before))) (sym by_is);
        orders = subst (λ (ws : List Without). Orders new.acts new.sums new.latest (own ++ before) (acts_of ws (own ++ before)) ((told ++ out_now) ++ told_behind counts all before apart)) (sym by_is)
            (subst (λ (n : ℕ). Orders new.acts new.sums n (own ++ before) (acts_of all (own ++ before)) ((told ++ out_now) ++ told_behind counts all before apart)) (sym does.latest_is) joined_orders.0);
      },
      joined_orders.1,
      by_is,
      does.settles.sums.wanted,
    )

  module _ (before own : List Note) (counted : CountsEvents old.lines.items (passed before)) (misses : Misses old before) (misses_own : Misses part own)
      (fits : length (passed own) + length (passed before) ≤ number_limit) (cpus : AllByRecursion IsOnCpu own) where
    seam-is : ◌≡◌ {A = Seam} (record { missing = does.seam_missing; starts = new.starts.items })
        (seam (λ cpu. running cpu before) (place_behind old.lines.items) (record { missing = missing_in before; starts = reverse (starts_of before) }) (starts_of own))
    seam-is =
        let ran : ℕ → Option Ran = λ cpu. slice_index_or old.running.items cpu None in
        does.seam_is
        ∙ ap (seam ran (place_behind old.lines.items) (record { missing = old.missing; starts = old.starts.items })) (ap reverse misses_own.starts ∙ reverse-reverse (starts_of own))
        ∙ (λ i. seam ran (place_behind old.lines.items) (record { missing = misses.missing i; starts = misses.starts i }) (starts_of own))
        ∙ same-seam ran (λ cpu. running cpu before) (place_behind old.lines.items) (record { missing = missing_in before; starts = reverse (starts_of before) }) misses.runs (starts_of own) (starts-on own cpus)

    pub misses-joined : Misses new (own ++ before)
    misses-joined =
        let both = missing-joined old.lines.items before counted own fits cpus in
        record {
          runs = λ cpu low. does.running cpu low ∙ (λ i. option_or (misses_own.runs cpu low i) (misses.runs cpu low i)) ∙ sym (running-behind cpu own before);
          missing = does.missing ∙ (λ i. missing_with (place_behind old.lines.items) (seam-is i).missing (misses_own.missing i)) ∙ sym both.0;
          starts = ap (λ (s : Seam). s.starts) seam-is ∙ sym both.1;
        }

  pub all-joined : JoinsStates old part out ones new out_now ones_now × JoinsMisses old part new
  all-joined = (
    λ before own told apart follows follows_own same unsummed meets of. follows-joined before own told apart follows follows_own same unsummed meets of,
    λ before own counted is misses misses_own fits cpus. misses-joined before own counted misses misses_own fits cpus,
  )

-- ---- nothing of it

none-of : (ones : List Dispatch) → AreOfTasks [] ones → ones ≡ []
none-of [] of = refl
none-of (one ∷ ones) of = absurd (true≢false (ap (λ b. b || has_one one.pid ones) (sym ((signed_Decides one.pid one.pid).1 refl)) ∙ of one.pid))

no-dispatches : dispatches [] ≡ []
unfolding dispatches
no-dispatches = refl

nothing-done : (done held : List (Pos × Act)) → IsPermutation [] (done ++ held) → done ≡ []
nothing-done [] held moved = refl
nothing-done (e ∷ done) held moved =
    let size : length (e ∷ (done ++ held)) ≡ 0 = length_permutation [] (e ∷ (done ++ held)) moved in
    absurd (omega (arith, size))

-- a part without events
pub nothing-joined : (old part : State) (out ones : List Dispatch) → part.first ≡ None → (before own : List Traced) (told apart : List Dispatch) → Follows old before (told ++ out) → Follows part own apart → AreOfTasks apart ones
    → Follows old (own ++ before) ((told ++ out) ++ told_behind old.lines.items (left_out_by old.left_out.items) before apart)
    × (ones ≡ told_behind old.lines.items (left_out_by old.left_out.items) before ones) × (left_out_by old.left_out.items ≡ left_out_by old.left_out.items) × (is_some old.sums ≡ is_some old.sums)
unfolding acts_of all_completed
nothing-joined old part out ones none before own told apart follows follows_own of =
    let empty : own ≡ [] = no-events own (sym follows_own.first ∙ none) in
    let orders = subst (λ (es : List Traced). Orders part.acts part.sums part.latest es (acts_of (left_out_by part.left_out.items) es) apart) empty follows_own.orders in
    let untold : apart ≡ [] = orders.tells.tells ∙ ap (λ (es : List (Pos × Act)). dispatches (reverse es)) (nothing-done orders.done (entries_of part.acts.held.items) orders.all) ∙ no-dispatches in
    let unshown : ones ≡ [] = none-of ones (λ pid. of pid ∙ ap (has_one pid) untold) in
    let behind : (ds : List Dispatch) → ds ≡ [] → told_behind old.lines.items (left_out_by old.left_out.items) before ds ≡ [] = λ ds is. ap (told_behind old.lines.items (left_out_by old.left_out.items) before) is in (
      subst (λ (es : List Traced). Follows old (es ++ before) ((told ++ out) ++ told_behind old.lines.items (left_out_by old.left_out.items) before apart)) (sym empty)
          (subst (λ (ds : List Dispatch). Follows old before ds) (sym (ap (λ (ds : List Dispatch). (told ++ out) ++ ds) (behind apart untold) ∙ append-nil (told ++ out))) follows),
      unshown ∙ sym (behind ones unshown),
      refl,
      refl,
    )

pub nothing-missed : (old part new : State) → ((cpu : ℕ) → cpu ≤ last_cpu → slice_index_or new.running.items cpu None ≡ option_or (slice_index_or part.running.items cpu None) (slice_index_or old.running.items cpu None)) → new.missing ≡ old.missing → new.starts.items ≡ old.starts.items → (before own : List Note) → passed own ≡ [] → Misses old before → Misses part own → Misses new (own ++ before)
nothing-missed old part new runs missing starts before own none misses misses_own =
    let both = nothing-missing before own none in
    record {
      runs = λ cpu low. runs cpu low ∙ (λ i. option_or (misses_own.runs cpu low i) (misses.runs cpu low i)) ∙ sym (running-behind cpu own before);
      missing = missing ∙ misses.missing ∙ sym both.0;
      starts = starts ∙ misses.starts ∙ ap reverse (sym both.1);
    }
