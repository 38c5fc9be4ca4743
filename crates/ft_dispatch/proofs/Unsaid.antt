-- What a part shows behind the acts before it.
use Rattle.std.specs.Prelude.{◌≡◌, ◌+◌, ◌<◌, ℕ, ℤ, pos, Bool, true, false, not, ◌&&◌, ◌||◌, List, [], ◌∷◌, ◌++◌, length, take, map as list_map, Option, Some, None, option_map, nat_lt}
use Rattle.std.specs.List.{flat_map, list_any}
use Rattle.std.specs.Option.{option_or, is_some}
use Rattle.std.specs.Ordering.{int_eq, is_lt}
use Rattle.std.proofs.Common.{refl, sym, ap, ◌∙◌, append_assoc, cond, get_or}
use Rattle.std.proofs.Math.Bool.{or-false}
use Rattle.std.proofs.lemmas.Bool.{true≢false}
use Rattle.std.proofs.lemmas.Grind.{flat_map-append}
use Rattle.std.proofs.lemmas.List.{append-nil, take_more}
use Rattle.std.proofs.lemmas.List.Folds.{list_any-append}
use Rattle.ft_fields.specs.declared.pos.Pos.{Pos}
use Rattle.ft_dispatch.specs.Acts.{Act, Waking, Creation, Wakeup, Switch}
use Rattle.ft_dispatch.specs.Began.{is_later}
use Rattle.ft_dispatch.specs.Dispatches.{last_seen, place_of, runnable_since}
use Rattle.ft_dispatch.specs.Joining.{act_behind, left_behind, since_behind, ran, over, known_behind, AreUpTo, AreAfter, KeepsOrder}
use Rattle.ft_dispatch.specs.Showings.{latest_of, queued_at, ready_by, unless_seen, ready_since, showing_at, showing_of, showings, is_unsaid, first_at, first_of, first_wakings, shown_by, first_by}
use Rattle.ft_dispatch.specs.declared.dispatch.Left.{Left}
use Rattle.ft_dispatch.specs.declared.dispatch.Since.{Since}
use Rattle.ft_dispatch.specs.declared.showing.FirstWaking.{FirstWaking}
use Rattle.ft_dispatch.specs.declared.showing.Showing.{Showing}
use Rattle.ft_dispatch.proofs.Behind.{known-joined, ran-seen}
use Rattle.ft_dispatch.proofs.FirstWakings.{ready-joined}
use Rattle.ft_dispatch.proofs.Placed.{since-placed}

abbrev Entry : Type 0
Entry = Pos × Act

-- ---- lists

-- what one item more adds
pub added-more : {X Y : Type 0} (f : X → List Y) (xs : List X) (i : ℕ) (d : X) (old now new : List Y) → i < length xs
    → now ≡ old ++ flat_map f (take i xs) → new ≡ now ++ f (get_or xs i d) → new ≡ old ++ flat_map f (take (i + 1) xs)
added-more f xs i d old now new within kept is =
    is ∙ ap (λ ys. ys ++ f (get_or xs i d)) kept ∙ append_assoc old (flat_map f (take i xs)) (f (get_or xs i d))
    ∙ ap (λ ys. old ++ ys) (ap (λ ys. flat_map f (take i xs) ++ ys) (sym (append-nil (f (get_or xs i d))))
    ∙ sym (flat_map-append f (take i xs) (get_or xs i d ∷ [])) ∙ ap (flat_map f) (sym (take_more xs i d within)))

-- ---- what a waking shows

or-mix : (a b c d e : Bool) → ((a || (b || c)) || (d || e)) ≡ ((a || d) || ((b || e) || c))
or-mix true b c d e = refl
or-mix false true c true e = refl
or-mix false true c false e = refl
or-mix false false true true e = refl
or-mix false false true false true = refl
or-mix false false true false false = refl
or-mix false false false true e = refl
or-mix false false false false true = refl
or-mix false false false false false = refl

-- nothing is ready of a task of which nothing is said
ready-none : (l : Option Left) (w c s : Option Pos) → not ((is_some l || (is_some w || is_some c)) || is_some s) ≡ true → unless_seen s (ready_by l (latest_of w c)) ≡ None
ready-none None None None None is = refl
ready-none None None None (Some s) is = refl
ready-none None None (Some c) s is = absurd (true≢false (sym is))
ready-none None (Some w) c s is = absurd (true≢false (sym is))
ready-none (Some l) w c s is = absurd (true≢false (sym is))

waking-shows : (unsaid : Bool) (passes : Showing → Bool) (at : ℕ) (woken : ℤ) (known : ℤ → Since) (own : Option Pos) → (unsaid ≡ true → own ≡ None)
    → list_any passes (showing_at at (cond unsaid (ready_since (known woken)) own))
    ≡ (list_any passes (flat_map (shown_by known) (cond unsaid (record { pid = woken; at = at } ∷ []) [])) || list_any passes (showing_at at own))
waking-shows true passes at woken known own none =
    let first : FirstWaking = record { pid = woken; at = at } in
    ap (list_any passes) (sym (append-nil (shown_by known first)))
    ∙ sym (or-false (list_any passes (flat_map (shown_by known) (first ∷ []))))
    ∙ ap (λ o. list_any passes (flat_map (shown_by known) (first ∷ [])) || list_any passes (showing_at at o)) (sym (none refl))
waking-shows false passes at woken known own none = refl

-- what a waking shows, or what its first waking does
abbrev ShowsBoth : (Showing → Bool) → (ℤ → Since) → List Showing → List FirstWaking → List Showing → Type 0
ShowsBoth passes known whole firsts own = list_any passes whole ≡ (list_any passes (flat_map (shown_by known) firsts) || list_any passes own)

both-unless : (passes : Showing → Bool) (known : ℤ → Since) (idle own_act : Bool) (whole : List Showing) (firsts : List FirstWaking) (own : List Showing) → ShowsBoth passes known whole firsts own
    → ShowsBoth passes known (cond idle [] (cond own_act [] whole)) (cond idle [] (cond own_act [] firsts)) (cond idle [] (cond own_act [] own))
both-unless passes known true own_act whole firsts own is = refl
both-unless passes known false true whole firsts own is = refl
both-unless passes known false false whole firsts own is = is

module _ (stamp : ℕ) (passes : Showing → Bool) (before : List Entry) (upto : AreUpTo stamp before) where
  abbrev Known : ℤ → Since
  Known pid = runnable_since pid before

  act-shows : (place : Pos) (act : Act) (part : List Entry) → AreAfter stamp part
      → ShowsBoth passes Known (showing_of place act (λ pid. runnable_since pid (part ++ before))) (first_of place act (λ pid. runnable_since pid part)) (showing_of place act (λ pid. runnable_since pid part))
  act-shows place (Waking by woken) part after =
      let own = runnable_since woken part in
      both-unless passes Known (int_eq woken (pos 0)) (int_eq by woken) (showing_at place.stamp (ready_since (runnable_since woken (part ++ before)))) (first_at place.stamp woken own) (showing_at place.stamp (ready_since own))
      (ap (λ o. list_any passes (showing_at place.stamp o)) (ready-joined stamp woken part before after upto)
      ∙ waking-shows (is_unsaid own) passes place.stamp woken Known (ready_since own) (ready-none own.left own.woken own.created own.seen))
  act-shows place (Creation by created) part after = refl
  act-shows place (Wakeup by woken) part after = refl
  act-shows place (Switch turn) part after = refl

  -- whatever is asked of any showing of a part and the acts before it
  pub showings-joined : (part : List Entry) → AreAfter stamp part
      → list_any passes (showings (part ++ before)) ≡ (list_any passes (flat_map (shown_by Known) (first_wakings part)) || (list_any passes (showings part) || list_any passes (showings before)))
  unfolding showings first_wakings
  showings-joined [] after = refl
  showings-joined (entry ∷ part) after =
      let whole = showing_of entry.0 entry.1 (λ pid. runnable_since pid (part ++ before)) in
      let own = showing_of entry.0 entry.1 (λ pid. runnable_since pid part) in
      let first = first_of entry.0 entry.1 (λ pid. runnable_since pid part) in
      let a = list_any passes (flat_map (shown_by Known) (first_wakings part)) in
      let b = list_any passes (showings part) in
      let c = list_any passes (showings before) in
      list_any-append passes (showings (part ++ before)) whole
      ∙ ap (λ t. t || list_any passes whole) (showings-joined part after.1)
      ∙ ap (λ t. (a || (b || c)) || t) (act-shows entry.0 entry.1 part after.1)
      ∙ or-mix a b c (list_any passes (flat_map (shown_by Known) first)) (list_any passes own)
      ∙ (λ i. sym (list_any-append passes (flat_map (shown_by Known) (first_wakings part)) (flat_map (shown_by Known) first)) i || (sym (list_any-append passes (showings part) own) i || c))
      ∙ ap (λ (ss : List Showing). list_any passes ss || (list_any passes (showings part ++ own) || c)) (sym (flat_map-append (shown_by Known) (first_wakings part) first))

-- ---- first wakings

some-or : {X : Type 0} (a b : Option X) → is_some (option_or a b) ≡ (is_some a || is_some b)
some-or None b = refl
some-or (Some x) b = refl

neither : (l w c s k v d t : Bool) → not (((l || k) || ((w || v) || (c || d))) || (s || t)) ≡ (not ((l || (w || c)) || s) && not ((k || (v || d)) || t))
neither true w c s k v d t = refl
neither false true c s true v d t = refl
neither false true c s false v d t = refl
neither false false true s true v d t = refl
neither false false true s false true d t = refl
neither false false true s false false d t = refl
neither false false false true true v d t = refl
neither false false false true false true d t = refl
neither false false false true false false true t = refl
neither false false false true false false false t = refl
neither false false false false k v d t = refl

unsaid-over : (own before : Since) → is_unsaid (over own before) ≡ (is_unsaid own && is_unsaid before)
unsaid-over own before =
    (λ i. not ((some-or own.left before.left i || (some-or own.woken before.woken i || some-or own.created before.created i)) || some-or own.seen before.seen i))
    ∙ neither (is_some own.left) (is_some own.woken) (is_some own.created) (is_some own.seen) (is_some before.left) (is_some before.woken) (is_some before.created) (is_some before.seen)

seen-said : (a s : Bool) → s ≡ true → not (a || s) ≡ false
seen-said true s is = refl
seen-said false s is = ap not is

unsaid-behind : (has_run : Bool) (own before : Since) → (has_run ≡ true → is_some own.seen ≡ true) → is_unsaid (known_behind has_run own before) ≡ (is_unsaid own && is_unsaid before)
unsaid-behind true own before ran_it =
    let none = seen-said (is_some own.left || (is_some own.woken || is_some own.created)) (is_some own.seen) (ran_it refl) in
    none ∙ ap (λ b. b && is_unsaid before) (sym none)
unsaid-behind false own before ran_it = unsaid-over own before

some-place : (o : Option Entry) → is_some (place_of o) ≡ is_some o
some-place None = refl
some-place (Some entry) = refl

unsaid-joined : (pid : ℤ) (part before : List Entry) → is_unsaid (runnable_since pid (part ++ before)) ≡ (is_unsaid (runnable_since pid part) && is_unsaid (runnable_since pid before))
unfolding runnable_since
unsaid-joined pid part before =
    ap is_unsaid (known-joined pid part before)
    ∙ unsaid-behind (ran pid part) (runnable_since pid part) (runnable_since pid before) (λ h. some-place (last_seen pid part) ∙ ran-seen pid part h)

first-both : (own before : Bool) (first : FirstWaking) → cond (own && before) (first ∷ []) [] ≡ flat_map (λ (f : FirstWaking). cond before (f ∷ []) []) (cond own (first ∷ []) [])
first-both true true first = refl
first-both true false first = refl
first-both false before first = refl

first-unless : (known : ℤ → Since) (idle own_act : Bool) (whole firsts : List FirstWaking) → whole ≡ flat_map (first_by known) firsts
    → cond idle [] (cond own_act [] whole) ≡ flat_map (first_by known) (cond idle [] (cond own_act [] firsts))
first-unless known true own_act whole firsts is = refl
first-unless known false true whole firsts is = refl
first-unless known false false whole firsts is = is

first-kept : (at : ℕ) (woken : ℤ) (known : ℤ → Since) (own : Bool) → cond (own && is_unsaid (known woken)) (record { pid = woken; at = at } ∷ []) [] ≡ flat_map (first_by known) (cond own (record { pid = woken; at = at } ∷ []) [])
first-kept at woken known true = sym (append-nil (first_at at woken (known woken)))
first-kept at woken known false = refl

act-first : (place : Pos) (act : Act) (part before : List Entry)
    → first_of place act (λ pid. runnable_since pid (part ++ before)) ≡ flat_map (first_by (λ pid. runnable_since pid before)) (first_of place act (λ pid. runnable_since pid part))
act-first place (Waking by woken) part before =
    let known : ℤ → Since = λ pid. runnable_since pid before in
    let own = runnable_since woken part in
    first-unless known (int_eq woken (pos 0)) (int_eq by woken) (first_at place.stamp woken (runnable_since woken (part ++ before))) (first_at place.stamp woken own)
    (ap (λ (b : Bool). cond b (record { pid = woken; at = place.stamp } ∷ []) []) (unsaid-joined woken part before) ∙ first-kept place.stamp woken known (is_unsaid own))
act-first place (Creation by created) part before = refl
act-first place (Wakeup by woken) part before = refl
act-first place (Switch turn) part before = refl

-- the first wakings of a part and the acts before it
pub firsts-joined : (part before : List Entry) → first_wakings (part ++ before) ≡ first_wakings before ++ flat_map (first_by (λ pid. runnable_since pid before)) (first_wakings part)
unfolding first_wakings
firsts-joined [] before = sym (append-nil (first_wakings before))
firsts-joined (entry ∷ part) before =
    let known : ℤ → Since = λ pid. runnable_since pid before in
    let own = first_of entry.0 entry.1 (λ pid. runnable_since pid part) in
    ap (λ (fs : List FirstWaking). fs ++ first_of entry.0 entry.1 (λ pid. runnable_since pid (part ++ before))) (firsts-joined part before)
    ∙ append_assoc (first_wakings before) (flat_map (first_by known) (first_wakings part)) (first_of entry.0 entry.1 (λ pid. runnable_since pid (part ++ before)))
    ∙ ap (λ (fs : List FirstWaking). first_wakings before ++ (flat_map (first_by known) (first_wakings part) ++ fs)) (act-first entry.0 entry.1 part before)
    ∙ ap (λ (fs : List FirstWaking). first_wakings before ++ fs) (sym (flat_map-append (first_by known) (first_wakings part) own))

-- ---- other places

module _ (move : Pos → Pos) (keeps : KeepsOrder move) where
  later-moved : (a b : Option Pos) → is_later (option_map move a) (option_map move b) ≡ is_later a b
  later-moved None None = refl
  later-moved (Some a) None = refl
  later-moved None (Some b) = refl
  later-moved (Some a) (Some b) = ap is_lt (keeps.order a b)

  cond-moved : (b : Bool) (p q : Option Pos) → cond b (option_map move p) (option_map move q) ≡ option_map move (cond b p q)
  cond-moved true p q = refl
  cond-moved false p q = refl

  latest-moved : (a b : Option Pos) → latest_of (option_map move a) (option_map move b) ≡ option_map move (latest_of a b)
  latest-moved a b = ap (λ t. cond t (option_map move b) (option_map move a)) (later-moved a b) ∙ cond-moved (is_later a b) b a

  queued-moved : (left : Left) → queued_at (left_behind move left) ≡ option_map move (queued_at left)
  queued-moved left = cond-moved left.queued (Some left.place) None

  ready-moved : (l : Option Left) (m : Option Pos) → ready_by (option_map (left_behind move) l) (option_map move m) ≡ option_map move (ready_by l m)
  ready-moved None m = refl
  ready-moved (Some l) m =
      (λ i. cond (later-moved (Some l.place) m i) (option_map move m) (queued-moved l i)) ∙ cond-moved (is_later (Some l.place) m) m (queued_at l)

  seen-moved : (s p : Option Pos) → unless_seen (option_map move s) (option_map move p) ≡ option_map move (unless_seen s p)
  seen-moved s None = refl
  seen-moved None (Some p) = refl
  seen-moved (Some s) (Some p) = (λ i. cond (nat_lt (keeps.stamps s i) (keeps.stamps p i)) (Some (move p)) None) ∙ cond-moved (nat_lt s.stamp p.stamp) (Some p) None

  since-ready : (since : Since) → ready_since (since_behind move since) ≡ option_map move (ready_since since)
  since-ready since =
      ap (λ m. unless_seen (option_map move since.seen) (ready_by (option_map (left_behind move) since.left) m)) (latest-moved since.woken since.created)
      ∙ ap (unless_seen (option_map move since.seen)) (ready-moved since.left (latest_of since.woken since.created))
      ∙ seen-moved since.seen (ready_by since.left (latest_of since.woken since.created))

  abbrev from-at : ℕ → ℕ → List Showing
  from-at at from = cond (nat_lt from at) (record { from = from; at = at } ∷ []) []

  at-moved : (at : ℕ) (p : Option Pos) → showing_at at (option_map move p) ≡ showing_at at p
  at-moved at None = refl
  at-moved at (Some p) = ap (from-at at) (keeps.stamps p)

  waking-moved : (place : Pos) (since : Since) → showing_at (move place).stamp (ready_since (since_behind move since)) ≡ showing_at place.stamp (ready_since since)
  waking-moved place since =
      (λ i. showing_at (keeps.stamps place i) (since-ready since i)) ∙ at-moved place.stamp (ready_since since)

  act-moved : (place : Pos) (act : Act) (acts : List Entry) → showing_of (move place) act (λ pid. runnable_since pid (list_map (act_behind move) acts)) ≡ showing_of place act (λ pid. runnable_since pid acts)
  act-moved place (Waking by woken) acts =
      ap (λ (ss : List Showing). cond (int_eq woken (pos 0)) [] (cond (int_eq by woken) [] ss)) (ap (λ (s : Since). showing_at (move place).stamp (ready_since s)) (since-placed move woken acts) ∙ waking-moved place (runnable_since woken acts))
  act-moved place (Creation by created) acts = refl
  act-moved place (Wakeup by woken) acts = refl
  act-moved place (Switch turn) acts = refl

  pub showings-moved : (acts : List Entry) → showings (list_map (act_behind move) acts) ≡ showings acts
  unfolding showings
  showings-moved [] = refl
  showings-moved (entry ∷ acts) = λ i. showings-moved acts i ++ act-moved entry.0 entry.1 acts i

  some-moved : (p : Option Pos) → is_some (option_map move p) ≡ is_some p
  some-moved None = refl
  some-moved (Some p) = refl

  left-moved : (l : Option Left) → is_some (option_map (left_behind move) l) ≡ is_some l
  left-moved None = refl
  left-moved (Some l) = refl

  unsaid-moved : (since : Since) → is_unsaid (since_behind move since) ≡ is_unsaid since
  unsaid-moved since = λ i. not ((left-moved since.left i || (some-moved since.woken i || some-moved since.created i)) || some-moved since.seen i)

  abbrev woken-at : ℤ → Bool → ℕ → List FirstWaking
  woken-at woken unsaid at = cond unsaid (record { pid = woken; at = at } ∷ []) []

  first-moved : (place : Pos) (act : Act) (acts : List Entry) → first_of (move place) act (λ pid. runnable_since pid (list_map (act_behind move) acts)) ≡ first_of place act (λ pid. runnable_since pid acts)
  first-moved place (Waking by woken) acts =
      ap (λ (s : Since). cond (int_eq woken (pos 0)) [] (cond (int_eq by woken) [] (first_at (move place).stamp woken s))) (since-placed move woken acts)
      ∙ (λ i. cond (int_eq woken (pos 0)) [] (cond (int_eq by woken) [] (woken-at woken (unsaid-moved (runnable_since woken acts) i) (keeps.stamps place i))))
  first-moved place (Creation by created) acts = refl
  first-moved place (Wakeup by woken) acts = refl
  first-moved place (Switch turn) acts = refl

  pub firsts-moved : (acts : List Entry) → first_wakings (list_map (act_behind move) acts) ≡ first_wakings acts
  unfolding first_wakings
  firsts-moved [] = refl
  firsts-moved (entry ∷ acts) = λ i. firsts-moved acts i ++ first-moved entry.0 entry.1 acts i

-- ---- tasks of first wakings

-- what the first wakings of a part show, and which of them are kept, by the same of each task except task 0
abbrev IsSame : (ℤ → Since) → (ℤ → Since) → Type 0
IsSame f g = (pid : ℤ) → int_eq pid (pos 0) ≡ false → f pid ≡ g pid

one-same : {X : Type 0} (by : Since → FirstWaking → List X) (f g : ℤ → Since) (idle own_act unsaid : Bool) (first : FirstWaking) → (idle ≡ false → f first.pid ≡ g first.pid)
    → flat_map (λ (w : FirstWaking). by (f w.pid) w) (cond idle [] (cond own_act [] (cond unsaid (first ∷ []) []))) ≡ flat_map (λ (w : FirstWaking). by (g w.pid) w) (cond idle [] (cond own_act [] (cond unsaid (first ∷ []) [])))
one-same by f g true own_act unsaid first same = refl
one-same by f g false true unsaid first same = refl
one-same by f g false false true first same = ap (λ (s : Since). by s first ++ []) (same refl)
one-same by f g false false false first same = refl

act-same : {X : Type 0} (by : Since → FirstWaking → List X) (f g : ℤ → Since) (place : Pos) (act : Act) (since : ℤ → Since) → IsSame f g
    → flat_map (λ (w : FirstWaking). by (f w.pid) w) (first_of place act since) ≡ flat_map (λ (w : FirstWaking). by (g w.pid) w) (first_of place act since)
act-same by f g place (Waking own woken) since same = one-same by f g (int_eq woken (pos 0)) (int_eq own woken) (is_unsaid (since woken)) (record { pid = woken; at = place.stamp }) (same woken)
act-same by f g place (Creation own created) since same = refl
act-same by f g place (Wakeup own woken) since same = refl
act-same by f g place (Switch turn) since same = refl

pub same-firsts : {X : Type 0} (by : Since → FirstWaking → List X) (f g : ℤ → Since) (acts : List Entry) → IsSame f g
    → flat_map (λ (w : FirstWaking). by (f w.pid) w) (first_wakings acts) ≡ flat_map (λ (w : FirstWaking). by (g w.pid) w) (first_wakings acts)
unfolding first_wakings
same-firsts by f g [] same = refl
same-firsts by f g (entry ∷ acts) same =
    let more = first_of entry.0 entry.1 (λ pid. runnable_since pid acts) in
    flat_map-append (λ (w : FirstWaking). by (f w.pid) w) (first_wakings acts) more
    ∙ (λ i. same-firsts by f g acts same i ++ act-same by f g entry.0 entry.1 (λ pid. runnable_since pid acts) same i)
    ∙ sym (flat_map-append (λ (w : FirstWaking). by (g w.pid) w) (first_wakings acts) more)
