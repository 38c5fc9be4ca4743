-- Where a task became runnable, behind acts of earlier stamps.
use Rattle.std.specs.Prelude.{◌≡◌, ◌≤◌, ◌<◌, ⊤, ℕ, ℤ, Bool, true, false, not, ◌||◌, List, [], ◌∷◌, ◌++◌, Option, Some, None, nat_lt}
use Rattle.std.specs.List.{AllByRecursion}
use Rattle.std.specs.Option.{option_or, is_some}
use Rattle.std.specs.Ordering.{nat_cmp, is_lt, ordering_then}
use Rattle.std.specs.Cmp.{nat_cmp_is}
use Rattle.std.specs.declared.cmp.Ordering.{Ordering}
use Rattle.std.specs.declared.cmp.Ordering.TheVariants.{Less, Greater}
use Rattle.std.proofs.Common.{refl, sym, ap, ◌∙◌, cond, arith}
use Rattle.std.proofs.lemmas.Bool.{ltb-true, ltb-false, true_from_ne_false, false_from_ne_true}
use Rattle.ft_fields.specs.Places.{pos_cmp}
use Rattle.ft_fields.specs.declared.pos.Pos.{Pos}
use Rattle.ft_dispatch.specs.Acts.{Act}
use Rattle.ft_dispatch.specs.Dispatches.{runs, wakes, creates, leaves, shows, last_since_run, last_seen, place_of, left_by, runnable_since}
use Rattle.ft_dispatch.specs.Joining.{ran, known_behind, ready_behind, AreUpTo, AreAfter}
use Rattle.ft_dispatch.specs.Showings.{latest_of, queued_at, ready_by, unless_seen, ready_since}
use Rattle.ft_dispatch.specs.declared.dispatch.Left.{Left}
use Rattle.ft_dispatch.specs.declared.dispatch.Since.{Since}
use Rattle.ft_dispatch.proofs.Behind.{known-joined, ran-seen}

abbrev Entry : Type 0
Entry = Pos × Act

or-true : (b : Bool) → (b || true) ≡ true
or-true true = refl
or-true false = refl

-- ---- stamps

abbrev Holds : (ℕ → Type 0) → Option Pos → Type 0
Holds P None = ⊤
Holds P (Some place) = P place.stamp

abbrev HoldsLeft : (ℕ → Type 0) → Option Left → Type 0
HoldsLeft P None = ⊤
HoldsLeft P (Some left) = P left.place.stamp

record HoldsAll (P : ℕ → Type 0) (since : Since) : Type 0 where
  woken : Holds P since.woken
  created : Holds P since.created
  left : HoldsLeft P since.left
  seen : Holds P since.seen

module _ (P : ℕ → Type 0) where
  place-step : (r p : Bool) (entry : Entry) (o : Option Entry) → P entry.0.stamp → Holds P (place_of o) → Holds P (place_of (cond r None (cond p (Some entry) o)))
  place-step true p entry o h k = tt
  place-step false true entry o h k = h
  place-step false false entry o h k = k

  left-step : (r p : Bool) (entry : Entry) (o : Option Entry) → P entry.0.stamp → HoldsLeft P (left_by o) → HoldsLeft P (left_by (cond r None (cond p (Some entry) o)))
  left-step true p entry o h k = tt
  left-step false true entry o h k = h
  left-step false false entry o h k = k

  place-holds : (passes : Act → Bool) (pid : ℤ) (acts : List Entry) → AllByRecursion (λ (entry : Entry). P entry.0.stamp) acts → Holds P (place_of (last_since_run passes pid acts))
  unfolding last_since_run
  place-holds passes pid [] h = tt
  place-holds passes pid (entry ∷ acts) h = place-step (runs pid entry.1) (passes entry.1) entry (last_since_run passes pid acts) h.0 (place-holds passes pid acts h.1)

  left-holds : (passes : Act → Bool) (pid : ℤ) (acts : List Entry) → AllByRecursion (λ (entry : Entry). P entry.0.stamp) acts → HoldsLeft P (left_by (last_since_run passes pid acts))
  unfolding last_since_run
  left-holds passes pid [] h = tt
  left-holds passes pid (entry ∷ acts) h = left-step (runs pid entry.1) (passes entry.1) entry (last_since_run passes pid acts) h.0 (left-holds passes pid acts h.1)

  seen-step : (pass : Bool) (entry : Entry) (o : Option Entry) → P entry.0.stamp → Holds P (place_of o) → Holds P (place_of (cond pass (Some entry) o))
  seen-step true entry o h k = h
  seen-step false entry o h k = k

  seen-holds : (pid : ℤ) (acts : List Entry) → AllByRecursion (λ (entry : Entry). P entry.0.stamp) acts → Holds P (place_of (last_seen pid acts))
  unfolding last_seen
  seen-holds pid [] h = tt
  seen-holds pid (entry ∷ acts) h = seen-step (runs pid entry.1 || shows pid entry.1) entry (last_seen pid acts) h.0 (seen-holds pid acts h.1)

  since-holds : (pid : ℤ) (acts : List Entry) → AllByRecursion (λ (entry : Entry). P entry.0.stamp) acts → HoldsAll P (runnable_since pid acts)
  unfolding runnable_since
  since-holds pid acts h = record {
    woken = place-holds (wakes pid) pid acts h;
    created = place-holds (creates pid) pid acts h;
    left = left-holds (leaves pid) pid acts h;
    seen = seen-holds pid acts h;
  }

  latest-holds : (a b : Option Pos) → Holds P a → Holds P b → Holds P (latest_of a b)
  latest-holds a None h k = h
  latest-holds None (Some q) h k = k
  latest-holds (Some p) (Some q) h k = elim (is_lt (pos_cmp p q)) as (λ b. Holds P (cond b (Some q) (Some p))) [ true ↦ k | false ↦ h ]

  queued-holds : (left : Left) → P left.place.stamp → Holds P (queued_at left)
  queued-holds left h = elim left.queued as (λ b. Holds P (cond b (Some left.place) None)) [ true ↦ h | false ↦ tt ]

  ready-holds : (l : Option Left) (m : Option Pos) → HoldsLeft P l → Holds P m → Holds P (ready_by l m)
  ready-holds None m h k = k
  ready-holds (Some l) None h k = queued-holds l h
  ready-holds (Some l) (Some m) h k = elim (is_lt (pos_cmp l.place m)) as (λ b. Holds P (cond b (Some m) (queued_at l))) [ true ↦ k | false ↦ queued-holds l h ]

-- ---- earlier and later places

module _ (stamp : ℕ) where
  abbrev Low : ℕ → Type 0
  Low n = n ≤ stamp

  abbrev High : ℕ → Type 0
  High n = stamp < n

  low-first : (p q : Pos) → Low p.stamp → High q.stamp → pos_cmp p q ≡ Less
  low-first p q low high = ap (λ (o : Ordering). ordering_then o (ordering_then (nat_cmp p.cpu q.cpu) (nat_cmp p.line q.line))) (sym (nat_cmp_is p.stamp q.stamp Less (omega (arith, low, high))))

  high-last : (p q : Pos) → High p.stamp → Low q.stamp → pos_cmp p q ≡ Greater
  high-last p q high low = ap (λ (o : Ordering). ordering_then o (ordering_then (nat_cmp p.cpu q.cpu) (nat_cmp p.line q.line))) (sym (nat_cmp_is p.stamp q.stamp Greater (omega (arith, low, high))))

  low-is : (p q : ℕ) → Low p → High q → nat_lt p q ≡ true
  low-is p q low high = true_from_ne_false (nat_lt p q) (λ h. omega (arith, low, high, ltb-false p q h))

  high-is : (p q : ℕ) → High p → Low q → nat_lt p q ≡ false
  high-is p q high low = false_from_ne_true (nat_lt p q) (λ h. omega (arith, low, high, ltb-true p q h))

  some-cond : (b : Bool) (p q : Pos) (o : Option Pos) → cond b (Some q) (Some p) ≡ option_or (cond b (Some q) (Some p)) o
  some-cond true p q o = refl
  some-cond false p q o = refl

  latest-over : (w c v d : Option Pos) → Holds High w → Holds High c → Holds Low v → Holds Low d → latest_of (option_or w v) (option_or c d) ≡ option_or (latest_of w c) (latest_of v d)
  latest-over None None v d hw hc lv ld = refl
  latest-over (Some w) None v None hw hc lv ld = refl
  latest-over (Some w) None v (Some d) hw hc lv ld = ap (λ (o : Ordering). cond (is_lt o) (Some d) (Some w)) (high-last w d hw ld)
  latest-over None (Some c) None d hw hc lv ld = refl
  latest-over None (Some c) (Some v) d hw hc lv ld = ap (λ (o : Ordering). cond (is_lt o) (Some c) (Some v)) (low-first v c lv hc)
  latest-over (Some w) (Some c) v d hw hc lv ld = some-cond (is_lt (pos_cmp w c)) w c (latest_of v d)

  -- a place of the part, whatever was seen before
  seen-over : (s t x : Option Pos) → Holds Low t → Holds High x → unless_seen (option_or s t) x ≡ unless_seen s x
  seen-over s t None low high = elim s [ None ↦ elim t [ None ↦ refl | Some q ↦ refl ] | Some q ↦ refl ]
  seen-over (Some s) t (Some x) low high = refl
  seen-over None None (Some x) low high = refl
  seen-over None (Some t) (Some x) low high = ap (λ b. cond b (Some x) None) (low-is t.stamp x.stamp low high)

  -- a place before, if the task was seen in the part
  seen-since : (s : Pos) (y : Option Pos) → High s.stamp → Holds Low y → unless_seen (Some s) y ≡ None
  seen-since s None high low = refl
  seen-since s (Some y) high low = ap (λ b. cond b (Some y) None) (high-is s.stamp y.stamp high low)

  none-seen : (s : Option Pos) → unless_seen s None ≡ None
  none-seen s = refl

  ready-over : (l k : Option Left) (m n s t : Option Pos) → HoldsLeft High l → HoldsLeft Low k → Holds High m → Holds Low n → Holds High s → Holds Low t
      → unless_seen (option_or s t) (ready_by (option_or l k) (option_or m n)) ≡ cond (not ((is_some l || is_some m) || is_some s)) (unless_seen t (ready_by k n)) (unless_seen s (ready_by l m))
  ready-over None k None n None t hl lk hm ln hs lt = refl
  ready-over None k None n (Some s) t hl lk hm ln hs lt = seen-since s (ready_by k n) hs (ready-holds Low k n lk ln)
  ready-over None None (Some m) n s t hl lk hm ln hs lt = seen-over s t (Some m) lt hm
  ready-over None (Some k) (Some m) n s t hl lk hm ln hs lt = ap (λ (o : Ordering). unless_seen (option_or s t) (cond (is_lt o) (Some m) (queued_at k))) (low-first k.place m lk hm) ∙ seen-over s t (Some m) lt hm
  ready-over (Some l) k (Some m) n s t hl lk hm ln hs lt = seen-over s t (ready_by (Some l) (Some m)) lt (ready-holds High (Some l) (Some m) hl hm)
  ready-over (Some l) k None None s t hl lk hm ln hs lt = seen-over s t (queued_at l) lt (queued-holds High l hl)
  ready-over (Some l) k None (Some n) s t hl lk hm ln hs lt =
      ap (λ (o : Ordering). unless_seen (option_or s t) (cond (is_lt o) (Some n) (queued_at l))) (high-last l.place n hl ln) ∙ seen-over s t (queued_at l) lt (queued-holds High l hl)

  some-latest : (w c : Option Pos) → is_some (latest_of w c) ≡ (is_some w || is_some c)
  some-latest None None = refl
  some-latest (Some w) None = refl
  some-latest None (Some c) = refl
  some-latest (Some w) (Some c) = elim (is_lt (pos_cmp w c)) as (λ b. is_some (cond b (Some c) (Some w)) ≡ true) [ true ↦ refl | false ↦ refl ]

  ready-known : (has_run : Bool) (own before : Since) → (has_run ≡ true → is_some own.seen ≡ true) → HoldsAll High own → HoldsAll Low before → ready_since (known_behind has_run own before) ≡ ready_behind own before
  ready-known true own before ran_it high low =
      ap (λ b. cond (not b) (ready_since before) (ready_since own)) (sym (or-true (is_some own.left || (is_some own.woken || is_some own.created))) ∙ ap (λ b. (is_some own.left || (is_some own.woken || is_some own.created)) || b) (sym (ran_it refl)))
  ready-known false own before ran_it high low =
      ap (λ m. unless_seen (option_or own.seen before.seen) (ready_by (option_or own.left before.left) m)) (latest-over own.woken own.created before.woken before.created high.woken high.created low.woken low.created)
      ∙ ready-over own.left before.left (latest_of own.woken own.created) (latest_of before.woken before.created) own.seen before.seen
      high.left low.left (latest-holds High own.woken own.created high.woken high.created) (latest-holds Low before.woken before.created low.woken low.created) high.seen low.seen
      ∙ ap (λ b. cond (not ((is_some own.left || b) || is_some own.seen)) (ready_since before) (ready_since own)) (some-latest own.woken own.created)

some-place : (o : Option Entry) → is_some (place_of o) ≡ is_some o
some-place None = refl
some-place (Some entry) = refl

-- where a task became runnable, by a part and the acts before it
pub ready-joined : (stamp : ℕ) (pid : ℤ) (part before : List Entry) → AreAfter stamp part → AreUpTo stamp before
    → ready_since (runnable_since pid (part ++ before)) ≡ ready_behind (runnable_since pid part) (runnable_since pid before)
unfolding runnable_since
ready-joined stamp pid part before after upto =
    ap ready_since (known-joined pid part before)
    ∙ ready-known stamp (ran pid part) (runnable_since pid part) (runnable_since pid before) (λ h. some-place (last_seen pid part) ∙ ran-seen pid part h) (since-holds (High stamp) pid part after) (since-holds (Low stamp) pid before upto)
