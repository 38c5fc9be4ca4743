-- Whether a dispatch ends a wait depends on the stamps of its places only.
use Rattle.std.specs.Prelude.{◌≡◌, ◌≤◌, ◌&&◌, ◌==◌, ℕ, List, Bool, true, false, not, Option, Some, None, option_map, is_some, nat_lt}
use Rattle.std.specs.declared.cmp.Ordering.{Ordering}
use Rattle.std.specs.declared.cmp.Ordering.TheVariants.{Less, Equal, Greater}
use Rattle.std.specs.Ordering.{ordering_then, nat_cmp, is_lt}
use Rattle.std.proofs.Common.{refl, sym, ap, ◌∙◌, cond, arith, eqb-true, ltb-true, ltb-false}
use Rattle.ft_fields.specs.declared.pos.Pos.{Pos}
use Rattle.ft_fields.specs.Places.{pos_cmp}
use Rattle.ft_dispatch.specs.Began.{is_later, began_at, awoken, is_renewed, runnable_by, is_past, is_asleep_since, unless_over, waiting_since}
use Rattle.ft_dispatch.specs.Joining.{place_behind, left_behind, since_behind}
use Rattle.ft_dispatch.specs.declared.began.Began.{Began}
use Rattle.ft_dispatch.specs.declared.began.Cause.TheVariants as causes
use Rattle.ft_dispatch.specs.declared.dispatch.Left.{Left}
use Rattle.ft_dispatch.specs.declared.dispatch.Since.{Since}

-- ---- the later of two places, by stamps

abbrev later : ℕ → ℕ → ℕ
later a b = cond (nat_lt a b) b a

either : (b : Bool) (x y : ℕ) → x ≡ y → cond b y x ≡ x
either true x y same = sym same
either false x y same = refl

by_stamp : (less equal : Bool) (rest : Ordering) (a b : ℕ) → (equal ≡ true → a ≡ b) → cond (is_lt (ordering_then (cond less Less (cond equal Equal Greater)) rest)) b a ≡ cond less b a
by_stamp true equal rest a b same = refl
by_stamp false true rest a b same = either (is_lt rest) a b (same refl)
by_stamp false false rest a b same = refl

-- of two places the later one has this stamp
later-is : (p q : Pos) → cond (is_lt (pos_cmp p q)) q.stamp p.stamp ≡ later p.stamp q.stamp
later-is p q = by_stamp (nat_lt p.stamp q.stamp) (p.stamp == q.stamp) (ordering_then (nat_cmp p.cpu q.cpu) (nat_cmp p.line q.line)) p.stamp q.stamp (eqb-true p.stamp q.stamp)

module _ (a b : ℕ) where
  later-by : (less : Bool) → nat_lt a b ≡ less → (a ≤ cond less b a) × (b ≤ cond less b a)
  later-by true is = (omega (arith, ltb-true a b is), omega arith)
  later-by false is = (omega arith, omega (arith, ltb-false a b is))

  -- it is at least both
  later-both : (a ≤ later a b) × (b ≤ later a b)
  later-both = later-by (nat_lt a b) refl

  second-by : (less : Bool) → nat_lt a b ≡ less → a ≤ b → cond less b a ≡ b
  second-by true is before = refl
  second-by false is before = omega (arith, before, ltb-false a b is)

  first-by : (less : Bool) → nat_lt a b ≡ less → b ≤ a → cond less b a ≡ a
  first-by true is before = omega (arith, before, ltb-true a b is)
  first-by false is before = refl

  -- and one of them
  later-second : a ≤ b → later a b ≡ b
  later-second = second-by (nat_lt a b) refl

  later-first : b ≤ a → later a b ≡ a
  later-first = first-by (nat_lt a b) refl

  most-by : (less : Bool) (most : ℕ) → a ≤ most → b ≤ most → cond less b a ≤ most
  most-by true most first second = second
  most-by false most first second = first

  later-most : (most : ℕ) → a ≤ most → b ≤ most → later a b ≤ most
  later-most = most-by (nat_lt a b)

-- the order of places is that of their stamps, but for equal ones
lt-stamps : (p q : Pos) (less : Bool) → is_lt (pos_cmp p q) ≡ less → cond less q.stamp p.stamp ≡ later p.stamp q.stamp
lt-stamps p q less is = ap (λ b. cond b q.stamp p.stamp) (sym is) ∙ later-is p q

is-before : (p q : Pos) → is_lt (pos_cmp p q) ≡ true → p.stamp ≤ q.stamp
is-before p q is = omega (arith, lt-stamps p q true is, (later-both p.stamp q.stamp).0)

not-before : (p q : Pos) → is_lt (pos_cmp p q) ≡ false → q.stamp ≤ p.stamp
not-before p q is = omega (arith, lt-stamps p q false is, (later-both p.stamp q.stamp).1)

-- ---- the stamp at which a wait began

abbrev stamp_of : Option Pos → Option ℕ
stamp_of place = option_map (λ p. p.stamp) place

abbrev began_stamp : Option Began → Option ℕ
began_stamp began = option_map (λ b. b.place.stamp) began

abbrev latest : Option ℕ → Option ℕ → Option ℕ
latest a None = a
latest None (Some b) = Some b
latest (Some a) (Some b) = Some (later a b)

one-stamp : (b : Bool) (x y : Began) → began_stamp (cond b (Some x) (Some y)) ≡ Some (cond b x.place.stamp y.place.stamp)
one-stamp true x y = refl
one-stamp false x y = refl

-- the stamp of what made a task runnable, by where it was left and by the stamp of what woke or created it
abbrev runnable_at : Option Left → Option ℕ → Option ℕ
runnable_at None other = other
runnable_at (Some left) other = cond left.runnable (latest (Some left.place.stamp) other) other

module _ (seen roused : Option Pos) where
  abbrev since_of : Option Pos → Option Pos → Option Left → Since
  since_of woken created left = record { woken = woken; created = created; left = left; seen = seen; roused = roused }

  awoken-stamp : (woken created : Option Pos) (left : Option Left) → began_stamp (awoken (since_of woken created left)) ≡ latest (stamp_of woken) (stamp_of created)
  awoken-stamp None None left = refl
  awoken-stamp (Some w) None left = refl
  awoken-stamp None (Some c) left = refl
  awoken-stamp (Some w) (Some c) left =
      one-stamp (is_lt (pos_cmp w c)) (record { cause = causes.Created; place = c }) (record { cause = causes.Woken; place = w }) ∙ ap Some (later-is w c)

  module _ (left : Left) where
    -- that the task was left, if it was made runnable no more
    abbrev left_here : Option Began
    left_here = Some (record { cause = causes.Preempted; place = left.place })

    alone : (b : Bool) (x y : ℕ) → cond (cond b true false) x y ≡ cond b x y
    alone true x y = refl
    alone false x y = refl

    chosen-stamp : (renewed : Bool) (m : Option Began) (n : ℕ) → began_stamp m ≡ Some n → cond renewed n left.place.stamp ≡ later left.place.stamp n
        → began_stamp (cond (not renewed) left_here m) ≡ Some (later left.place.stamp n)
    chosen-stamp true m n is choice = is ∙ ap Some choice
    chosen-stamp false m n is choice = ap Some choice

    renewed-by : (w c : Pos) (by_creation by_waking : Bool) → is_lt (pos_cmp left.place c) ≡ by_creation → is_lt (pos_cmp left.place w) ≡ by_waking
        → cond (cond by_creation true by_waking) (later w.stamp c.stamp) left.place.stamp ≡ later left.place.stamp (later w.stamp c.stamp)
    renewed-by w c true by_waking created woken =
        sym (later-second left.place.stamp (later w.stamp c.stamp) (omega (arith, is-before left.place c created, (later-both w.stamp c.stamp).1)))
    renewed-by w c false true created woken =
        sym (later-second left.place.stamp (later w.stamp c.stamp) (omega (arith, is-before left.place w woken, (later-both w.stamp c.stamp).0)))
    renewed-by w c false false created woken =
        sym (later-first left.place.stamp (later w.stamp c.stamp) (later-most w.stamp c.stamp left.place.stamp (not-before left.place w woken) (not-before left.place c created)))

    runnable-stamp : (woken created : Option Pos)
        → began_stamp (cond (not (is_renewed left (since_of woken created (Some left)))) left_here (awoken (since_of woken created (Some left)))) ≡ latest (Some left.place.stamp) (latest (stamp_of woken) (stamp_of created))
    runnable-stamp None None = refl
    runnable-stamp (Some w) None = chosen-stamp (is_lt (pos_cmp left.place w)) (began_at causes.Woken (Some w)) w.stamp refl (later-is left.place w)
    runnable-stamp None (Some c) = chosen-stamp (cond (is_lt (pos_cmp left.place c)) true false) (began_at causes.Created (Some c)) c.stamp refl (alone (is_lt (pos_cmp left.place c)) c.stamp left.place.stamp ∙ later-is left.place c)
    runnable-stamp (Some w) (Some c) =
        chosen-stamp (is_renewed left (since_of (Some w) (Some c) (Some left))) (awoken (since_of (Some w) (Some c) (Some left))) (later w.stamp c.stamp) (awoken-stamp (Some w) (Some c) (Some left))
        (renewed-by w c (is_lt (pos_cmp left.place c)) (is_lt (pos_cmp left.place w)) refl refl)

  left-stamp : (runnable : Bool) (renewed : Bool) (here other : Option Began) (known : Option ℕ) (stamp : ℕ)
      → began_stamp other ≡ known → began_stamp (cond (not renewed) here other) ≡ latest (Some stamp) known
      → began_stamp (cond (runnable && not renewed) here other) ≡ cond runnable (latest (Some stamp) known) known
  left-stamp true renewed here other known stamp otherwise is = is
  left-stamp false renewed here other known stamp otherwise is = otherwise

  began-stamp : (woken created : Option Pos) (left : Option Left) → began_stamp (runnable_by left (since_of woken created left)) ≡ runnable_at left (latest (stamp_of woken) (stamp_of created))
  began-stamp woken created None = awoken-stamp woken created None
  began-stamp woken created (Some left) =
      left-stamp left.runnable (is_renewed left (since_of woken created (Some left))) (left_here left) (awoken (since_of woken created (Some left))) (latest (stamp_of woken) (stamp_of created)) left.place.stamp
      (awoken-stamp woken created (Some left)) (runnable-stamp left woken created)

-- ---- whether the wait counts

-- whether a stamp at which a task was seen to run is later
abbrev is_past_stamp : Option ℕ → ℕ → Bool
is_past_stamp None stamp = false
is_past_stamp (Some seen) stamp = nat_lt stamp seen

past-stamp : (seen : Option Pos) (place : Pos) → is_past seen place ≡ is_past_stamp (stamp_of seen) place.stamp
past-stamp None place = refl
past-stamp (Some seen) place = refl

abbrev is_asleep_stamp : Option ℕ → Option Left → Bool
is_asleep_stamp seen None = false
is_asleep_stamp seen (Some left) = not left.runnable && not (is_past_stamp seen left.place.stamp)

asleep-stamp : (seen : Option Pos) (left : Option Left) → is_asleep_since seen left ≡ is_asleep_stamp (stamp_of seen) left
asleep-stamp seen None = refl
asleep-stamp seen (Some left) = ap (λ b. not left.runnable && not b) (past-stamp seen left.place)

-- whether there is a wait, by the stamp at which it began
abbrev is_there : Option ℕ → Option ℕ → Bool → Bool
is_there None seen asleep = false
is_there (Some began) seen asleep = not (is_past_stamp seen began && not asleep)

some-unless : (over : Bool) (began : Began) → is_some (cond over None (Some began)) ≡ not over
some-unless true began = refl
some-unless false began = refl

some-wait : (since : Since) (began : Option Began) → is_some (unless_over since began) ≡ is_there (began_stamp began) (stamp_of since.seen) (is_asleep_stamp (stamp_of since.seen) since.left)
some-wait since None = refl
some-wait since (Some began) =
    some-unless (is_past since.seen began.place && not (is_asleep_since since.seen since.left)) began
    ∙ ap (λ b. not (b && not (is_asleep_since since.seen since.left))) (past-stamp since.seen began.place)
    ∙ ap (λ b. not (is_past_stamp (stamp_of since.seen) began.place.stamp && not b)) (asleep-stamp since.seen since.left)

-- whether there is a wait, by the stamps of what is known of its task
abbrev waits_by : Option ℕ → Option ℕ → Option Left → Option ℕ → Bool
waits_by woken created left seen = is_there (runnable_at left (latest woken created)) seen (is_asleep_stamp seen left)

-- ---- behind

module _ (counts : List ℕ) where
  abbrev move : Pos → Pos
  move = place_behind counts

  stamp-behind : (place : Option Pos) → stamp_of (option_map move place) ≡ stamp_of place
  stamp-behind None = refl
  stamp-behind (Some place) = refl

  asleep-behind : (seen : Option ℕ) (left : Option Left) → is_asleep_stamp seen (option_map (left_behind move) left) ≡ is_asleep_stamp seen left
  asleep-behind seen None = refl
  asleep-behind seen (Some left) = refl

  runnable-behind : (left : Option Left) (other : Option ℕ) → runnable_at (option_map (left_behind move) left) other ≡ runnable_at left other
  runnable-behind None other = refl
  runnable-behind (Some left) other = refl

  by-stamps : (since : Since) → is_some (waiting_since since) ≡ waits_by (stamp_of since.woken) (stamp_of since.created) since.left (stamp_of since.seen)
  by-stamps since =
      some-wait since (runnable_by since.left since)
      ∙ ap (λ o. is_there o (stamp_of since.seen) (is_asleep_stamp (stamp_of since.seen) since.left)) (began-stamp since.seen since.roused since.woken since.created since.left)

  -- behind other events, a dispatch ends a wait if it does so here
  pub wait-behind : (since : Since) → is_some (waiting_since (since_behind move since)) ≡ is_some (waiting_since since)
  wait-behind since =
      by-stamps (since_behind move since)
      ∙ ap (λ o. waits_by o (stamp_of (option_map move since.created)) (option_map (left_behind move) since.left) (stamp_of (option_map move since.seen))) (stamp-behind since.woken)
      ∙ ap (λ o. waits_by (stamp_of since.woken) o (option_map (left_behind move) since.left) (stamp_of (option_map move since.seen))) (stamp-behind since.created)
      ∙ ap (λ o. waits_by (stamp_of since.woken) (stamp_of since.created) (option_map (left_behind move) since.left) o) (stamp-behind since.seen)
      ∙ ap (λ o. is_there o (stamp_of since.seen) (is_asleep_stamp (stamp_of since.seen) (option_map (left_behind move) since.left))) (runnable-behind since.left (latest (stamp_of since.woken) (stamp_of since.created)))
      ∙ ap (λ b. is_there (runnable_at since.left (latest (stamp_of since.woken) (stamp_of since.created))) (stamp_of since.seen) b) (asleep-behind (stamp_of since.seen) since.left)
      ∙ sym (by-stamps since)
