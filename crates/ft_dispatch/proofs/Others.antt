-- The dispatches that are not the first one of their task.
use Rattle.std.specs.Prelude.{◌≡◌, ◌+◌, ℕ, ℤ, Bool, true, false, List, [], ◌∷◌, ◌++◌, reverse, map as list_map}
use Rattle.std.specs.List.{count_by}
use Rattle.std.proofs.Common.{refl, sym, ap, ◌∙◌, cond, arith}
use Rattle.std.proofs.lemmas.List.{reverse-append, reverse-reverse, map-append}
use Rattle.std.proofs.lemmas.List.Sums.{sum_by-cons, sum_by-append}
use Rattle.ft_fields.specs.declared.pos.Pos.{Pos}
use Rattle.ft_dispatch.specs.Acts.{Act}
use Rattle.ft_dispatch.specs.Dispatches.{runnable_since}
use Rattle.ft_dispatch.specs.Joining.{dispatch_behind, has_one, completed_by, completed, all_completed, joined, joined_behind, first_ones, firsts, other_ones, others}
use Rattle.ft_dispatch.specs.declared.dispatch.Dispatch.{Dispatch}
use Rattle.ft_dispatch.specs.declared.dispatch.Since.{Since}
use Rattle.ft_dispatch.proofs.Firsts.{has-behind, has-completed, firsts-joined}

-- ---- they stay the same if the first ones are completed

other-step : (known : ℤ → Since) (has : Bool) (one : Dispatch) (told : List Dispatch) → other_ones (all_completed known told) ≡ other_ones told
    → cond has (cond has one (completed_by (known one.pid) one) ∷ other_ones (all_completed known told)) (other_ones (all_completed known told)) ≡ cond has (one ∷ other_ones told) (other_ones told)
other-step known true one told rest = ap (λ (ds : List Dispatch). one ∷ ds) rest
other-step known false one told rest = rest

pid-completed : (known : ℤ → Since) (has : Bool) (one : Dispatch) → (cond has one (completed_by (known one.pid) one)).pid ≡ one.pid
pid-completed known true one = refl
pid-completed known false one = refl

other-completed : (known : ℤ → Since) (told : List Dispatch) → other_ones (all_completed known told) ≡ other_ones told
unfolding other_ones all_completed
other-completed known [] = refl
other-completed known (one ∷ told) =
    let new = completed known told one in
    ap (λ b. cond b (new ∷ other_ones (all_completed known told)) (other_ones (all_completed known told)))
    (has-completed known new.pid told ∙ ap (λ (p : ℤ). has_one p told) (pid-completed known (has_one one.pid told) one))
    ∙ other-step known (has_one one.pid told) one told (other-completed known told)

pub others-joined : (known : ℤ → Since) (told : List Dispatch) → others (joined known told) ≡ others told
others-joined known told =
    ap (λ (ds : List Dispatch). reverse (other_ones ds)) (reverse-reverse (all_completed known (reverse told)))
    ∙ ap reverse (other-completed known (reverse told))

-- ---- places behind

module _ (move : Pos → Pos) where
  reverse-behind : (told : List Dispatch) → reverse (list_map (dispatch_behind move) told) ≡ list_map (dispatch_behind move) (reverse told)
  reverse-behind [] = refl
  reverse-behind (one ∷ told) =
      reverse-append (dispatch_behind move one ∷ []) (list_map (dispatch_behind move) told)
      ∙ ap (λ (ds : List Dispatch). ds ++ dispatch_behind move one ∷ []) (reverse-behind told)
      ∙ sym (map-append (dispatch_behind move) (reverse told) (one ∷ []))
      ∙ ap (list_map (dispatch_behind move)) (sym (reverse-append (one ∷ []) told))

  first-step : (has : Bool) (one : Dispatch) (told : List Dispatch) → first_ones (list_map (dispatch_behind move) told) ≡ list_map (dispatch_behind move) (first_ones told)
      → cond has (first_ones (list_map (dispatch_behind move) told)) (dispatch_behind move one ∷ first_ones (list_map (dispatch_behind move) told)) ≡ list_map (dispatch_behind move) (cond has (first_ones told) (one ∷ first_ones told))
  first-step true one told rest = rest
  first-step false one told rest = ap (λ (ds : List Dispatch). dispatch_behind move one ∷ ds) rest

  first-behind : (told : List Dispatch) → first_ones (list_map (dispatch_behind move) told) ≡ list_map (dispatch_behind move) (first_ones told)
  unfolding first_ones
  first-behind [] = refl
  first-behind (one ∷ told) =
      ap (λ b. cond b (first_ones (list_map (dispatch_behind move) told)) (dispatch_behind move one ∷ first_ones (list_map (dispatch_behind move) told))) (has-behind move one.pid told)
      ∙ first-step (has_one one.pid told) one told (first-behind told)

  later-step : (has : Bool) (one : Dispatch) (told : List Dispatch) → other_ones (list_map (dispatch_behind move) told) ≡ list_map (dispatch_behind move) (other_ones told)
      → cond has (dispatch_behind move one ∷ other_ones (list_map (dispatch_behind move) told)) (other_ones (list_map (dispatch_behind move) told)) ≡ list_map (dispatch_behind move) (cond has (one ∷ other_ones told) (other_ones told))
  later-step true one told rest = ap (λ (ds : List Dispatch). dispatch_behind move one ∷ ds) rest
  later-step false one told rest = rest

  other-behind : (told : List Dispatch) → other_ones (list_map (dispatch_behind move) told) ≡ list_map (dispatch_behind move) (other_ones told)
  unfolding other_ones
  other-behind [] = refl
  other-behind (one ∷ told) =
      ap (λ b. cond b (dispatch_behind move one ∷ other_ones (list_map (dispatch_behind move) told)) (other_ones (list_map (dispatch_behind move) told))) (has-behind move one.pid told)
      ∙ later-step (has_one one.pid told) one told (other-behind told)

  firsts-placed : (told : List Dispatch) → firsts (list_map (dispatch_behind move) told) ≡ list_map (dispatch_behind move) (firsts told)
  firsts-placed told =
      ap (λ (ds : List Dispatch). reverse (first_ones ds)) (reverse-behind told)
      ∙ ap reverse (first-behind (reverse told)) ∙ reverse-behind (first_ones (reverse told))

  others-placed : (told : List Dispatch) → others (list_map (dispatch_behind move) told) ≡ list_map (dispatch_behind move) (others told)
  others-placed told =
      ap (λ (ds : List Dispatch). reverse (other_ones ds)) (reverse-behind told)
      ∙ ap reverse (other-behind (reverse told)) ∙ reverse-behind (other_ones (reverse told))

  pub firsts-behind : (before : List (Pos × Act)) (told : List Dispatch) → firsts (joined_behind move before told) ≡ joined_behind move before (firsts told)
  firsts-behind before told =
      firsts-joined (λ pid. runnable_since pid before) (list_map (dispatch_behind move) told)
      ∙ ap (joined (λ pid. runnable_since pid before)) (firsts-placed told)

  pub others-behind : (before : List (Pos × Act)) (told : List Dispatch) → others (joined_behind move before told) ≡ list_map (dispatch_behind move) (others told)
  others-behind before told =
      others-joined (λ pid. runnable_since pid before) (list_map (dispatch_behind move) told) ∙ others-placed told

-- ---- together they are all

module _ (passes : Dispatch → Bool) where
  abbrev one_if : Dispatch → ℕ
  one_if one = cond (passes one) 1 0

  count-reverse : (told : List Dispatch) → count_by passes (reverse told) ≡ count_by passes told
  count-reverse [] = refl
  count-reverse (one ∷ told) =
      let cut = ap (count_by passes) (reverse-append (one ∷ []) told) in
      let both = sum_by-append one_if (reverse told) (one ∷ []) in
      let here = sum_by-cons one_if one [] in
      let more = sum_by-cons one_if one told in
      let rest = count-reverse told in
      omega (arith, cut, both, here, more, rest)

  count-step : (has : Bool) (one : Dispatch) (told : List Dispatch) → count_by passes (first_ones told) + count_by passes (other_ones told) ≡ count_by passes told
      → count_by passes (cond has (first_ones told) (one ∷ first_ones told)) + count_by passes (cond has (one ∷ other_ones told) (other_ones told)) ≡ count_by passes (one ∷ told)
  count-step true one told rest =
      let more = sum_by-cons one_if one told in
      let own = sum_by-cons one_if one (other_ones told) in
      omega (arith, more, own, rest)
  count-step false one told rest =
      let more = sum_by-cons one_if one told in
      let own = sum_by-cons one_if one (first_ones told) in
      omega (arith, more, own, rest)

  counted : (told : List Dispatch) → count_by passes (first_ones told) + count_by passes (other_ones told) ≡ count_by passes told
  unfolding first_ones other_ones
  counted [] = refl
  counted (one ∷ told) = count-step (has_one one.pid told) one told (counted told)

  pub all-counted : (told : List Dispatch) → count_by passes (firsts told) + count_by passes (others told) ≡ count_by passes told
  all-counted told =
      let ones = count-reverse (first_ones (reverse told)) in
      let rest = count-reverse (other_ones (reverse told)) in
      let back = count-reverse told in
      let all = counted (reverse told) in
      omega (arith, ones, rest, back, all)
