-- Acts of a part behind the acts before it, in order.
use Rattle.std.specs.Prelude.{◌≡◌, ◌≤◌, ◌<◌, ◌+◌, ◌-◌, ℕ, List, [], ◌∷◌, ◌++◌, reverse, map as list_map, Option, Some, None, is_some, false, IsPermutation, slice_index}
use Rattle.std.specs.List.{AllByRecursion, IsDistinct}
use Rattle.std.specs.List.Sorted.{IsStrictlySortedBy}
use Rattle.std.specs.Map.{keys_of}
use Rattle.std.specs.Cmp.{ranks, nat_cmp_is}
use Rattle.std.specs.Ordering.{nat_cmp, eq_by_cmp, ordering_then}
use Rattle.std.specs.declared.cmp.Ordering.{Ordering}
use Rattle.std.specs.declared.cmp.Ordering.TheVariants.{Less, Equal, Greater}
use Rattle.std.proofs.Common.{refl, sym, ap, subst, ◌∙◌, append_assoc, arith}
use Rattle.std.proofs.lemmas.List.{append-nil, reverse-append, map-append}
use Rattle.std.proofs.lemmas.List.Elements.{All-from_recursion, recursion_from_All}
use Rattle.std.proofs.lemmas.List.Sorted.{All-permutation, IsPermutation-map, IsPermutation-trans, IsPermutation-append_left, IsPermutation-append_right, IsPermutation-append_comm}
use Rattle.ft_fields.specs.Traced.{Traced}
use Rattle.ft_fields.specs.Places.{pos_cmp}
use Rattle.ft_fields.specs.declared.pos.Pos.{Pos}
use Rattle.ft_dispatch.specs.Acts.{Act}
use Rattle.ft_dispatch.specs.Joining.{place_behind, act_behind, joined_behind, AreOfTasks, Joins}
use Rattle.ft_dispatch.specs.Telling.{act_from, entries_of, Tells}
use Rattle.ft_dispatch.specs.declared.act.Kind.{Kind}
use Rattle.ft_dispatch.specs.declared.act.Kind.TheVariants as kinds
use Rattle.ft_dispatch.specs.declared.act.PlacedAct.{PlacedAct}
use Rattle.ft_dispatch.specs.declared.dispatch.Dispatch.{Dispatch}
use Rattle.ft_waits.specs.declared.kept.KeptActs.{KeptActs}
use Rattle.ft_waits.specs.Reading.{in_order}
use Rattle.ft_summary.specs.declared.summary.Summary.{Summary}
use Rattle.ft_waits.specs.inner.Known.{HasShown, Orders, SumsTell}
use Rattle.ft_waits.specs.inner.Seams.{HasNumber, ShowsBoth, held_behind}
use Rattle.ft_waits.proofs.Ordering.{all-append, all-map, at-keys, strict-append, keys-append, earlier-first, entries-moved}

-- ---- lists

map-reverse : {X Y : Type 0} (f : X → Y) (xs : List X) → list_map f (reverse xs) ≡ reverse (list_map f xs)
map-reverse f [] = refl
map-reverse {Y = Y} f (x ∷ xs) =
    ap (list_map f) (reverse-append (x ∷ []) xs) ∙ map-append f (reverse xs) (x ∷ [])
    ∙ ap (λ (ys : List Y). ys ++ f x ∷ []) (map-reverse f xs) ∙ sym (reverse-append (f x ∷ []) (list_map f xs))

front-all : {X : Type 0} (Q : X → Type 0) (xs ys : List X) → AllByRecursion Q (xs ++ ys) → AllByRecursion Q xs
front-all Q [] ys all = tt
front-all Q (x ∷ xs) ys all = (all.0, front-all Q xs ys all.1)

all-reverse : {X : Type 0} (Q : X → Type 0) (xs : List X) → AllByRecursion Q xs → AllByRecursion Q (reverse xs)
all-reverse Q [] all = tt
all-reverse Q (x ∷ xs) all = subst (AllByRecursion Q) (sym (reverse-append (x ∷ []) xs)) (all-append Q (reverse xs) (x ∷ []) (all-reverse Q xs all.1) (all.0, tt))

-- ---- places in order

module _ (counts : List ℕ) where
  abbrev move : Pos → Pos
  move = place_behind counts

  by-line : (p q : Pos) → p.cpu ≡ q.cpu → nat_cmp p.line q.line ≡ Less → q.line + slice_index counts q.cpu ≤ 4294967295 → nat_cmp (move p).line (move q).line ≡ Less
  by-line p q same less fits =
      let low : p.line < q.line = rw less at (ranks p.line q.line) in
      let count : slice_index counts p.cpu ≡ slice_index counts q.cpu = ap (slice_index counts) same in
      sym (nat_cmp_is (move p).line (move q).line Less (omega (arith, low, count, fits)))

  by-cpu : (r : Ordering) (p q : Pos) → r ≡ nat_cmp p.cpu q.cpu → q.line + slice_index counts q.cpu ≤ 4294967295 → ordering_then r (nat_cmp p.line q.line) ≡ Less → ordering_then r (nat_cmp (move p).line (move q).line) ≡ Less
  by-cpu Less p q is fits less = refl
  by-cpu Equal p q is fits less = by-line p q (rw (sym is) at (ranks p.cpu q.cpu)) less fits
  by-cpu Greater p q is fits less = absurd (cc)

  by-stamp : (r : Ordering) (p q : Pos) → q.line + slice_index counts q.cpu ≤ 4294967295 → ordering_then r (ordering_then (nat_cmp p.cpu q.cpu) (nat_cmp p.line q.line)) ≡ Less
      → ordering_then r (ordering_then (nat_cmp p.cpu q.cpu) (nat_cmp (move p).line (move q).line)) ≡ Less
  by-stamp Less p q fits less = refl
  by-stamp Equal p q fits less = by-cpu (nat_cmp p.cpu q.cpu) p q refl fits less
  by-stamp Greater p q fits less = absurd (cc)

  -- a place before another one is before it behind, too
  less-behind : (p q : Pos) → q.line + slice_index counts q.cpu ≤ 4294967295 → pos_cmp p q ≡ Less → pos_cmp (move p) (move q) ≡ Less
  less-behind p q fits less = by-stamp (nat_cmp p.stamp q.stamp) p q fits less

  below-behind : (place : Pos) (es : List (Pos × Act)) → AllByRecursion (HasNumber counts) es → AllByRecursion (λ y. pos_cmp place y ≡ Less) (keys_of es) → AllByRecursion (λ y. pos_cmp (move place) y ≡ Less) (keys_of (list_map (act_behind move) es))
  below-behind place [] fits below = tt
  below-behind place (e ∷ es) fits below = (less-behind place e.0 fits.0 below.0, below-behind place es fits.1 below.1)

  sorted-behind : (es : List (Pos × Act)) → AllByRecursion (HasNumber counts) es → IsStrictlySortedBy pos_cmp (keys_of es) → IsStrictlySortedBy pos_cmp (keys_of (list_map (act_behind move) es))
  unfolding IsStrictlySortedBy
  sorted-behind [] fits sorted = tt
  sorted-behind (e ∷ es) fits sorted = (below-behind e.0 es fits.1 sorted.0, sorted-behind es fits.1 sorted.1)

  -- stamps stay
  pub stamps-behind : (Q : ℕ → Type 0) (es : List (Pos × Act)) → AllByRecursion (λ e. Q e.0.stamp) es → AllByRecursion (λ e. Q e.0.stamp) (list_map (act_behind move) es)
  stamps-behind Q [] all = tt
  stamps-behind Q (e ∷ es) all = (all.0, stamps-behind Q es all.1)

  -- ---- held acts

  same-act : (kind : Kind) (act : PlacedAct) → act_from kind (held_behind move act) ≡ act_from kind act
  same-act kinds.Waking act = refl
  same-act kinds.Creation act = refl
  same-act kinds.Wakeup act = refl
  same-act kinds.Switch act = refl

  pub held-entries : (held : List PlacedAct) → entries_of (list_map (held_behind move) held) ≡ list_map (act_behind move) (entries_of held)
  held-entries [] = refl
  held-entries (act ∷ held) =
      ap (λ (a : Act). (move act.place, a) ∷ entries_of (list_map (held_behind move) held)) (same-act act.kind act)
      ∙ ap (λ (es : List (Pos × Act)). (move act.place, act_from act.kind act) ∷ es) (held-entries held)

  -- ---- both

  -- without sums nothing is told of them
  nothing-summed : (sums : Option Summary) → is_some sums ≡ false → (acts : List (Pos × Act)) → SumsTell sums acts
  nothing-summed None unsummed acts = tt
  nothing-summed (Some summary) unsummed acts = absurd (cc)

  all-before : (stamp : ℕ) (xs ys : List (Pos × Act)) → AllByRecursion (λ e. e.0.stamp < stamp) xs → AllByRecursion (λ e. stamp ≤ e.0.stamp) ys → AllByRecursion (λ x. AllByRecursion (λ y. pos_cmp x y ≡ Less) (keys_of ys)) (keys_of xs)
  all-before stamp xs ys low at = at-keys (λ x. AllByRecursion (λ y. pos_cmp x y ≡ Less) (keys_of ys)) xs
      (all-map _ _ (λ x under. at-keys (λ y. pos_cmp x.0 y ≡ Less) ys (all-map _ _ (λ y above. earlier-first x.0 y.0 (omega (arith, under, above))) ys at)) xs low)

  module _ (old part new : KeptActs) (sums sums_own sums_now : Option Summary) (stamp latest : ℕ) (events events_own : List Traced) (acts own whole : List (Pos × Act)) (told apart ones behind : List Dispatch) where
    pub orders-joined : Orders old sums stamp events acts told → old.held.items ≡ [] → Orders part sums_own latest events_own own apart → 0 < stamp → ShowsBoth counts old part new → new.held.items ≡ list_map (held_behind move) part.held.items → is_some sums_now ≡ false → Joins move old.tasks part.tasks ones new.tasks behind → AreOfTasks apart ones
        → whole ≡ list_map (act_behind move) own ++ acts → IsDistinct (eq_by_cmp pos_cmp) (keys_of whole) → AllByRecursion (HasNumber counts) own → AllByRecursion (λ e. stamp ≤ e.0.stamp) own → stamp ≤ latest
        → Orders new sums_now latest (events_own ++ events) whole (told ++ joined_behind move (reverse (in_order acts)) apart) × (behind ≡ joined_behind move (reverse (in_order acts)) ones)
    orders-joined orders none orders_own some shows held_is unsummed joins of is distinct fits after last =
        let held : List PlacedAct = part.held.items in
        let first : List (Pos × Act) = orders.done in
        let second : List (Pos × Act) = list_map (act_behind move) orders_own.done in
        let done : List (Pos × Act) = first ++ second in
        let kept : List (Pos × Act) = list_map (act_behind move) (entries_of held) in
        let all_first : IsPermutation acts first = subst (IsPermutation acts) (append-nil first) (subst (λ (kept : List PlacedAct). IsPermutation acts (first ++ entries_of kept)) none orders.all) in
        let ordered : first ≡ in_order acts = entries-moved acts first all_first orders.distinct orders.sorted in
        let fits_done : AllByRecursion (HasNumber counts) orders_own.done =
        front-all (HasNumber counts) orders_own.done (entries_of held)
        (recursion_from_All (HasNumber counts) (orders_own.done ++ entries_of held) (All-permutation (HasNumber counts) own (orders_own.done ++ entries_of held) orders_own.all (All-from_recursion (HasNumber counts) own fits))) in
        let after_done : AllByRecursion (λ e. stamp ≤ e.0.stamp) orders_own.done =
        front-all (λ (e : Pos × Act). stamp ≤ e.0.stamp) orders_own.done (entries_of held)
        (recursion_from_All (λ (e : Pos × Act). stamp ≤ e.0.stamp) (orders_own.done ++ entries_of held) (All-permutation (λ (e : Pos × Act). stamp ≤ e.0.stamp) own (orders_own.done ++ entries_of held) orders_own.all (All-from_recursion (λ (e : Pos × Act). stamp ≤ e.0.stamp) own after))) in
        let entries_is : entries_of new.held.items ≡ kept = ap entries_of held_is ∙ held-entries held in
        let both = joins (reverse first) (reverse orders_own.done) told apart orders.tells orders_own.tells of in
        let back : list_map (act_behind move) (reverse orders_own.done) ++ reverse first ≡ reverse done =
        ap (λ (es : List (Pos × Act)). es ++ reverse first) (map-reverse (act_behind move) orders_own.done) ∙ sym (reverse-append first second) in
        let moved : IsPermutation (list_map (act_behind move) own) (second ++ kept) =
        subst (IsPermutation (list_map (act_behind move) own)) (map-append (act_behind move) orders_own.done (entries_of held)) (IsPermutation-map (act_behind move) own (orders_own.done ++ entries_of held) orders_own.all) in
        let together : IsPermutation (list_map (act_behind move) own ++ acts) (done ++ kept) =
        subst (IsPermutation (list_map (act_behind move) own ++ acts)) (sym (append_assoc first second kept))
        (IsPermutation-trans _ _ _ (IsPermutation-append_comm (list_map (act_behind move) own) acts)
        (IsPermutation-trans _ _ _ (IsPermutation-append_left (list_map (act_behind move) own) acts first all_first) (IsPermutation-append_right first (list_map (act_behind move) own) (second ++ kept) moved))) in (
          record {
            done = done;
            sorted = subst (IsStrictlySortedBy pos_cmp) (sym (keys-append first second))
                (strict-append (keys_of first) (keys_of second) orders.sorted (sorted-behind orders_own.done fits_done orders_own.sorted) (all-before stamp first second orders.earlier (stamps-behind (λ n. stamp ≤ n) orders_own.done after_done)));
            earlier = all-append (λ e. e.0.stamp < latest) first second (all-map _ _ (λ e low. omega (arith, low, last)) first orders.earlier) (stamps-behind (λ n. n < latest) orders_own.done orders_own.earlier);
            now = subst (AllByRecursion (λ (e : Pos × Act). e.0.stamp ≡ latest)) (sym entries_is) (stamps-behind (λ n. n ≡ latest) (entries_of held) orders_own.now);
            all = subst (λ (es : List (Pos × Act)). IsPermutation whole (done ++ es)) (sym entries_is) (subst (λ (es : List (Pos × Act)). IsPermutation es (done ++ kept)) (sym is) together);
            distinct = distinct;
            tells = subst (λ (es : List (Pos × Act)). Tells new.tasks (reverse done) (told ++ joined_behind move (reverse es) apart)) ordered (subst (λ (es : List (Pos × Act)). Tells new.tasks es (told ++ joined_behind move (reverse first) apart)) back both.0);
            shows = subst (HasShown new (events_own ++ events)) back
                (shows (stamp - 1) events events_own (reverse first) (reverse orders_own.done) told orders.tells orders.shows orders_own.shows
                (all-reverse (λ (e : Pos × Act). e.0.stamp ≤ stamp - 1) first (all-map _ _ (λ e low. omega (arith, low)) first orders.earlier))
                (all-reverse (λ (e : Pos × Act). stamp - 1 < e.0.stamp) orders_own.done (all-map _ _ (λ e high. omega (arith, high, some)) orders_own.done after_done))
                (all-reverse (HasNumber counts) orders_own.done fits_done));
            sums = nothing-summed sums_now unsummed (reverse done);
          },
          both.1 ∙ ap (λ (es : List (Pos × Act)). joined_behind move (reverse es) ones) ordered,
        )
