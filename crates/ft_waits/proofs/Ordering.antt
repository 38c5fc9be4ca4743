-- Acts that are held until their microsecond is over come in the order of their places.
use Rattle.std.specs.Prelude.{◌≡◌, ◌<◌, ◌+◌, ℕ, suc, List, [], ◌∷◌, ◌++◌, length, reverse, Option, Some, None, Vec, IsPermutation, map as list_map}
use Rattle.std.specs.List.{AllByRecursion, IsDistinct}
use Rattle.std.specs.List.Sorted.{IsSorted, IsSortedByKey, IsStrictlySortedBy}
use Rattle.std.specs.FinMap as map
use Rattle.std.specs.FinMap.{get-from_entries, same_map}
use Rattle.std.specs.Map.{keys_of}
use Rattle.std.specs.declared.alloc.Global.{Global}
use Rattle.std.specs.declared.cmp.Ordering.{Ordering}
use Rattle.std.specs.declared.cmp.Ordering.TheVariants.{Less}
use Rattle.std.specs.Ordering.{nat_cmp, eq_by_cmp, is_lt, ordering_then}
use Rattle.std.specs.Cmp.{nat_cmp_is, eq_by_cmp_equiv}
use Rattle.std.proofs.Common.{refl, sym, ap, subst, ◌∙◌, append_assoc, arith, get_or}
use Rattle.std.proofs.lemmas.List.{append-nil, reverse-append, get_or-map, length-map}
use Rattle.std.proofs.lemmas.List.Elements.{All-from_recursion, recursion_from_All}
use Rattle.std.proofs.lemmas.List.Sorted.{All-permutation, IsPermutation-refl, IsPermutation-map, IsPermutation-trans, IsPermutation-append_left, IsPermutation-append_right, IsPermutation-append_comm}
use Rattle.std.proofs.lemmas.Map.Keys.{IsDistinct-IsPermutation, IsDistinct-from_sorted}
use Rattle.ft_maps.specs.Entries.{entries-from_entries}
use Rattle.ft_table.proofs.Rising.{strictly}
use Rattle.ft_replay.proofs.Placing.{find-moved}
use Rattle.ft_fields.specs.Places.{pos_cmp, pos_cmp_total, pos_same}
use Rattle.ft_fields.specs.declared.pos.Pos.{Pos}
use Rattle.ft_dispatch.specs.Acts.{Act}
use Rattle.ft_waits.specs.Reading.{act_at, in_order}
use Rattle.ft_dispatch.specs.Dispatches.{dispatches}
use Rattle.ft_dispatch.specs.Showings.{showings}
use Rattle.ft_dispatch.specs.declared.showing.Showing.{Showing}
use Rattle.ft_fields.specs.Traced.{Traced}
use Rattle.ft_windows.specs.Telling.{Keeps}
use Rattle.ft_windows.specs.declared.windows.Windows.{Windows}
use Rattle.ft_dispatch.specs.Telling.{entry_of, entries_of, Tells}
use Rattle.ft_waits.specs.inner.Known.{HasShown, Settles, Orders, SumsTell}
use Rattle.ft_dispatch.specs.declared.dispatch.Dispatch.{Dispatch}
use Rattle.ft_dispatch.specs.declared.act.PlacedAct.{PlacedAct}
use Rattle.ft_waits.specs.declared.kept.KeptActs.{KeptActs}
use Rattle.ft_summary.specs.declared.summary.Summary.{Summary}

-- ---- lists

pub all-append : {X : Type 0} (Q : X → Type 0) (xs ys : List X) → AllByRecursion Q xs → AllByRecursion Q ys → AllByRecursion Q (xs ++ ys)
all-append Q [] ys p q = q
all-append Q (x ∷ xs) ys p q = (p.0, all-append Q xs ys p.1 q)

pub all-map : {X : Type 0} (P Q : X → Type 0) → ((x : X) → P x → Q x) → (xs : List X) → AllByRecursion P xs → AllByRecursion Q xs
all-map P Q f [] h = tt
all-map P Q f (x ∷ xs) h = (f x h.0, all-map P Q f xs h.1)

pub at-keys : (P : Pos → Type 0) (es : List (Pos × Act)) → AllByRecursion (λ e. P e.0) es → AllByRecursion P (keys_of es)
at-keys P [] h = tt
at-keys P (e ∷ es) h = (h.0, at-keys P es h.1)

distinct-end : (xs ys : List Pos) → IsDistinct (eq_by_cmp pos_cmp) (xs ++ ys) → IsDistinct (eq_by_cmp pos_cmp) ys
unfolding IsDistinct
distinct-end [] ys h = h
distinct-end (x ∷ xs) ys h = distinct-end xs ys h.1

pub strict-append : (xs ys : List Pos) → IsStrictlySortedBy pos_cmp xs → IsStrictlySortedBy pos_cmp ys → AllByRecursion (λ x. AllByRecursion (λ y. pos_cmp x y ≡ Less) ys) xs → IsStrictlySortedBy pos_cmp (xs ++ ys)
unfolding IsStrictlySortedBy
strict-append [] ys one other below = other
strict-append (x ∷ xs) ys one other below = (all-append (λ y. pos_cmp x y ≡ Less) xs ys one.0 below.0, strict-append xs ys one.1 other below.1)

pub keys-append : (xs ys : List (Pos × Act)) → keys_of (xs ++ ys) ≡ keys_of xs ++ keys_of ys
keys-append [] ys = refl
keys-append (x ∷ xs) ys = ap (λ ks. x.0 ∷ ks) (keys-append xs ys)

-- a place of an earlier stamp comes first
pub earlier-first : (p q : Pos) → p.stamp < q.stamp → pos_cmp p q ≡ Less
earlier-first p q low = ap (λ (o : Ordering). ordering_then o (ordering_then (nat_cmp p.cpu q.cpu) (nat_cmp p.line q.line))) (sym (nat_cmp_is p.stamp q.stamp Less low))

-- those of earlier stamps come before those of a later one
all-below : (stamp : ℕ) (xs ys : List (Pos × Act)) → AllByRecursion (λ e. e.0.stamp < stamp) xs → AllByRecursion (λ e. e.0.stamp ≡ stamp) ys → AllByRecursion (λ x. AllByRecursion (λ y. pos_cmp x y ≡ Less) (keys_of ys)) (keys_of xs)
all-below stamp xs ys low at = at-keys (λ x. AllByRecursion (λ y. pos_cmp x y ≡ Less) (keys_of ys)) xs
    (all-map _ _ (λ x under. at-keys (λ y. pos_cmp x.0 y ≡ Less) ys (all-map _ _ (λ y is. earlier-first x.0 y.0 (omega (arith, under, is))) ys at)) xs low)

-- ---- held acts

places-of : (held : List PlacedAct) → keys_of (entries_of held) ≡ list_map (λ one. one.place) held
places-of [] = refl
places-of (x ∷ held) = ap (λ ks. x.place ∷ ks) (places-of held)

keys-sorted : (held : List PlacedAct) → IsSortedByKey (λ one. one.place) pos_cmp held → IsSorted pos_cmp (keys_of (entries_of held))
keys-sorted [] up = λ k d low inside. absurd (omega (arith, inside))
keys-sorted (x ∷ held) up = λ k d low inside.
    let xs : List PlacedAct = x ∷ held in
    let keys : List Pos = keys_of (entries_of xs) in
    let size : length keys ≡ length xs = ap length (places-of xs) ∙ length-map xs (λ one. one.place) in
    let within : k + 1 < length xs = omega (arith, inside, size) in
    let at : get_or keys k d ≡ (get_or xs k x).place = ap (λ (ks : List Pos). get_or ks k d) (places-of xs) ∙ get_or-map (λ one. one.place) xs k x d (omega (arith, within)) in
    let next : get_or keys (k + 1) d ≡ (get_or xs (k + 1) x).place = ap (λ (ks : List Pos). get_or ks (k + 1) d) (places-of xs) ∙ get_or-map (λ one. one.place) xs (k + 1) x d within in
    (λ i. is_lt (pos_cmp (next i) (at i))) ∙ up k x low within

-- acts at different places have one order, whichever they came in
pub entries-moved : (xs ys : List (Pos × Act)) → IsPermutation xs ys → IsDistinct (eq_by_cmp pos_cmp) (keys_of xs) → IsStrictlySortedBy pos_cmp (keys_of ys) → ys ≡ in_order xs
entries-moved xs ys moved distinct sorted =
    sym (entries-from_entries pos_cmp_total ys sorted)
    ∙ ap map.entries (same_map pos_cmp_total pos_same (map.from_entries ys) (map.from_entries xs) (λ q.
    get-from_entries pos_cmp_total ys q
    ∙ sym (find-moved pos_cmp_total pos_same q xs ys moved distinct (IsDistinct-from_sorted pos_cmp (keys_of ys) sorted))
    ∙ sym (get-from_entries pos_cmp_total xs q)))

-- the acts of a microsecond are taken when a later one begins
pub settled : (old new : KeptActs) (sums sums_now : Option Summary) (latest stamp : ℕ) (events : List Traced) (acts : List (Pos × Act)) (told out out_now : List Dispatch)
    → latest < stamp → Settles old sums out new sums_now out_now → Orders old sums latest events acts (told ++ out) → Orders new sums_now stamp events acts (told ++ out_now)
settled old new sums sums_now latest stamp events acts told out out_now later settles orders =
    let now : List (Pos × Act) = entries_of settles.ordered in
    let done : List (Pos × Act) = orders.done ++ now in
    let held : List PlacedAct = old.held.items in
    let moved : IsPermutation (entries_of held) now = IsPermutation-map entry_of held settles.ordered settles.moved in
    let all : IsPermutation acts done = IsPermutation-trans _ _ _ orders.all (IsPermutation-append_right orders.done (entries_of held) now moved) in
    let at : AllByRecursion (λ (e : Pos × Act). e.0.stamp ≡ latest) now =
    recursion_from_All _ now (All-permutation (λ (e : Pos × Act). e.0.stamp ≡ latest) (entries_of held) now moved (All-from_recursion _ (entries_of held) orders.now)) in
    let distinct : IsDistinct (eq_by_cmp pos_cmp) (keys_of done) =
    IsDistinct-IsPermutation (eq_by_cmp pos_cmp) (eq_by_cmp_equiv pos_cmp_total).symm (keys_of acts) (keys_of done) (IsPermutation-map (λ e. e.0) acts done all) orders.distinct in
    let apart : IsDistinct (eq_by_cmp pos_cmp) (keys_of now) =
    distinct-end (keys_of orders.done) (keys_of now) (subst (IsDistinct (eq_by_cmp pos_cmp)) (keys-append orders.done now) distinct) in
    let up : IsStrictlySortedBy pos_cmp (keys_of now) = strictly pos_cmp_total (keys_of now) (keys-sorted settles.ordered settles.sorted) apart in
    record {
      done = done;
      sorted = subst (IsStrictlySortedBy pos_cmp) (sym (keys-append orders.done now)) (strict-append (keys_of orders.done) (keys_of now) orders.sorted up (all-below latest orders.done now orders.earlier at));
      earlier = all-append (λ e. e.0.stamp < stamp) orders.done now (all-map _ _ (λ e low. omega (arith, low, later)) orders.done orders.earlier) (all-map _ _ (λ e is. omega (arith, is, later)) now at);
      now = subst (λ (kept : List PlacedAct). AllByRecursion (λ (e : Pos × Act). e.0.stamp ≡ stamp) (entries_of kept)) (sym settles.none) tt;
      all = subst (λ (kept : List PlacedAct). IsPermutation acts (done ++ entries_of kept)) (sym settles.none) (subst (IsPermutation acts) (sym (append-nil done)) all);
      distinct = orders.distinct;
      tells = subst (λ (before : List (Pos × Act)). Tells new.tasks before (told ++ out_now)) (sym (reverse-append orders.done now)) (settles.takes (reverse orders.done) told orders.tells);
      shows = subst (HasShown new events) (sym (reverse-append orders.done now)) (settles.shows events (reverse orders.done) told orders.tells orders.shows);
      sums = subst (λ (before : List (Pos × Act)). SumsTell sums_now before) (sym (reverse-append orders.done now)) (settles.sums.takes (reverse orders.done) orders.sums);
    }

-- one event more is known, and its act is held, if it has one
pub held-more : (kept : KeptActs) (sums : Option Summary) (new : Vec PlacedAct Global) (windows : Windows) (stamp : ℕ) (events more_events : List Traced) (place : Pos) (act : Option Act) (acts : List (Pos × Act)) (told : List Dispatch)
    → entries_of new.items ≡ entries_of kept.held.items ++ act_at place act → place.stamp ≡ stamp → IsDistinct (eq_by_cmp pos_cmp) (keys_of (act_at place act ++ acts)) → ((shown : List Showing) → Keeps kept.windows events shown → Keeps windows more_events shown)
    → Orders kept sums stamp events acts told → Orders (record kept { held = new; windows = windows }) sums stamp more_events (act_at place act ++ acts) told
held-more kept sums new windows stamp events more_events place act acts told is at distinct takes orders =
    let old : List PlacedAct = kept.held.items in
    let more : List (Pos × Act) = act_at place act in
    let one : (act : Option Act) → AllByRecursion (λ (e : Pos × Act). e.0.stamp ≡ stamp) (act_at place act) = one_at stamp place at in
    record {
      done = orders.done;
      sorted = orders.sorted;
      earlier = orders.earlier;
      now = subst (AllByRecursion (λ (e : Pos × Act). e.0.stamp ≡ stamp)) (sym is) (all-append _ (entries_of old) more orders.now (one act));
      all = subst (IsPermutation (more ++ acts)) (append_assoc orders.done (entries_of old) more ∙ ap (λ (es : List (Pos × Act)). orders.done ++ es) (sym is))
          (IsPermutation-trans _ _ _ (IsPermutation-append_comm more acts) (IsPermutation-append_left more acts (orders.done ++ entries_of old) orders.all));
      distinct = distinct;
      tells = orders.tells;
      shows = record {
        windows = takes (showings (reverse orders.done)) orders.shows.windows;
        given = orders.shows.given;
        firsts = orders.shows.firsts;
      };
      sums = orders.sums;
    }
  where
    one_at : (stamp : ℕ) (place : Pos) → place.stamp ≡ stamp → (act : Option Act) → AllByRecursion (λ (e : Pos × Act). e.0.stamp ≡ stamp) (act_at place act)
    one_at stamp place at None = tt
    one_at stamp place at (Some act) = (at, tt)

-- at the end all acts are taken in order
pub all-settled : (old new : KeptActs) (sums sums_now : Option Summary) (latest : ℕ) (events : List Traced) (acts : List (Pos × Act)) (told out out_now : List Dispatch)
    → Settles old sums out new sums_now out_now → Orders old sums latest events acts (told ++ out) → (told ++ out_now ≡ dispatches (reverse (in_order acts))) × SumsTell sums_now (reverse (in_order acts)) × Keeps new.windows events (showings (reverse (in_order acts)))
all-settled old new sums sums_now latest events acts told out out_now settles orders =
    let last = settled old new sums sums_now latest (suc latest) events acts told out out_now (omega arith) settles orders in
    let all : IsPermutation acts last.done = subst (IsPermutation acts) (append-nil last.done) (subst (λ (kept : List PlacedAct). IsPermutation acts (last.done ++ entries_of kept)) settles.none last.all) in
    let same = entries-moved acts last.done all orders.distinct last.sorted in (
      last.tells.tells ∙ ap (λ (es : List (Pos × Act)). dispatches (reverse es)) same,
      subst (λ (es : List (Pos × Act)). SumsTell sums_now (reverse es)) same last.sums,
      subst (λ (es : List (Pos × Act)). Keeps new.windows events (showings (reverse es))) same last.shows.windows,
    )

-- no acts
pub orders-nothing : (kept : KeptActs) → kept.held.items ≡ [] → Tells kept.tasks [] [] → HasShown kept [] [] → Orders kept None 0 [] [] []
unfolding IsDistinct IsStrictlySortedBy
orders-nothing kept none tells shows = record {
  done = [];
  sorted = tt;
  earlier = tt;
  now = subst (λ (h : List PlacedAct). AllByRecursion (λ (e : Pos × Act). e.0.stamp ≡ 0) (entries_of h)) (sym none) tt;
  all = subst (λ (h : List PlacedAct). IsPermutation [] (entries_of h)) (sym none) (IsPermutation-refl []);
  distinct = tt;
  tells = tells;
  shows = shows;
  sums = tt;
}
