-- Runs: all hits of a key, by spot.
use Rattle.std.proofs.Common.{◌≡◌, ℕ, ◌+◌, ◌%◌, ◌^◌, ◌<◌, ◌≤◌, Bool, true, false, cond, List, [], ◌∷◌, length, drop, get_or, add-one, drop-cons, refl, sym, ap, ◌∙◌, arith, Some, None, Option}
use Rattle.std.specs.Prelude.{ℤ, ◌&&◌, is_some, if◌then◌else◌}
use Rattle.std.specs.List.{filter, sum_by}
use Rattle.std.specs.Option.{option_or}
use Rattle.std.specs.declared.cmp.Ordering.{Ordering}
use Rattle.std.specs.declared.cmp.Ordering.TheVariants.{Less, Equal, Greater}
use Rattle.std.specs.Ordering.{is_lt, eq_by_cmp}
use Rattle.std.specs.Map.{values_of}
use Rattle.std.specs.FinMap as map
use Rattle.std.specs.FinMap.{find, get-empty, get-from_entries, get-insert, len-entries, same_map}
use Rattle.std.proofs.Math.Nat.{mod-add-mod}
use Rattle.std.proofs.lemmas.Grind.{common_steps}
use Rattle.std.proofs.lemmas.List.Sums.{sum_by-cons}
use Rattle.std.proofs.lemmas.Option.{none-some}
use Rattle.std.proofs.option.Match.{None-if_not_some}
use Rattle.std.proofs.lemmas.Bool.{and_parts}
use Rattle.ft_blocks.specs.Sorted as blocks
use Rattle.ft_blocks.specs.Sorted.{AllAbove, Ascend, first_above}
use Rattle.ft_blocks.specs.Seen.{entries-ascend}
use Rattle.ft_hits.specs.declared.spot.Spot.{Spot}
use Rattle.ft_hits.specs.Spots.{spot_cmp, spot_cmp_total, spot_same}
use Rattle.ft_hits.specs.Hits.{EntryHits, least_key, first_entry, hits_after, is_after, unsigned_at, column, sums_of}
use Rattle.ft_hits.specs.inner.Held.{only}
use Rattle.ft_hits.proofs.Flat.{is_equal}

-- ---- left to right

pub next_hit : (run : List (Spot × List ℤ)) (i : ℕ) (d : Spot × List ℤ) → i < length run → drop i run ≡ get_or run i d ∷ drop (i + 1) run
next_hit run i d lt = rw (add-one, drop-cons run i d) refl

pub none_left : (run : List (Spot × List ℤ)) (i : ℕ) → length run ≤ i → drop i run ≡ []
none_left run i le = grind (arith, common_steps)

-- ---- in order

-- whether spots ascend, all after one
abbrev pub rises : Option Spot → List (Spot × List ℤ) → Bool
rises before [] = true
rises before (e ∷ es) = is_after before e.0 && rises (Some e.0) es

is_less : (o : Ordering) → is_lt o ≡ true → o ≡ Less
is_less Less e = refl
is_less Equal e = cc
is_less Greater e = cc

and_first : (a b : Bool) → (a && b) ≡ true → a ≡ true
and_first true b e = refl
and_first false b e = e

above_all : (a b : Spot) (es : List (Spot × List ℤ)) → spot_cmp a b ≡ Less → AllAbove spot_cmp b es → AllAbove spot_cmp a es
above_all a b [] lt h = tt
above_all a b (e ∷ es) lt h = (spot_cmp_total.trans a b e.0 lt h.0, above_all a b es lt h.1)

all_behind : (a : Spot) (es : List (Spot × List ℤ)) → rises (Some a) es ≡ true → AllAbove spot_cmp a es
all_behind a [] h = tt
all_behind a (e ∷ es) h =
    let lt : spot_cmp a e.0 ≡ Less = is_less _ (and_first (is_lt (spot_cmp a e.0)) (rises (Some e.0) es) h) in
    (lt, above_all a e.0 es lt (all_behind e.0 es ((and_parts (is_lt (spot_cmp a e.0)) (rises (Some e.0) es) h).1)))

pub rises-ascend : (before : Option Spot) (es : List (Spot × List ℤ)) → rises before es ≡ true → Ascend spot_cmp es
rises-ascend before [] h = tt
rises-ascend before (e ∷ es) h =
    let rest = (and_parts (is_after before e.0) (rises (Some e.0) es) h).1 in
    (all_behind e.0 es rest, rises-ascend (Some e.0) es rest)

-- ---- their sums

-- three sums, with the values of a hit
abbrev pub sums_with : List ℕ → List ℤ → List ℕ
sums_with sums v = (get_or sums 0 0 + unsigned_at 0 v) % 2 ^ 64 ∷ (get_or sums 1 0 + unsigned_at 1 v) % 2 ^ 64 ∷ (get_or sums 2 0 + unsigned_at 2 v) % 2 ^ 64 ∷ []

-- and with those of several
abbrev pub sums_behind : List ℕ → List (Spot × List ℤ) → List ℕ
sums_behind sums [] = sums
sums_behind sums (e ∷ es) = sums_behind (sums_with sums e.1) es

abbrev total : ℕ → List (Spot × List ℤ) → ℕ
total j es = sum_by (unsigned_at j) (values_of es)

alone : (n : ℕ) → n ≡ n + 0
alone n = omega arith

from_none : (n : ℕ) → 0 + n ≡ n
from_none n = omega arith

apart_from : (a b c : ℕ) → a + b + c ≡ a + (b + c)
apart_from a b c = omega arith

one_more : (m n u s t : ℕ) → t ≡ u + s → (n % m + u + s) % m ≡ (n + t) % m
one_more m n u s t is = ap (λ k. k % m) (apart_from (n % m) u s) ∙ mod-add-mod n m (u + s) ∙ ap (λ k. (n + k) % m) (sym is)

all_sums : (a b d : ℕ) (es : List (Spot × List ℤ)) → sums_behind (a % 2 ^ 64 ∷ b % 2 ^ 64 ∷ d % 2 ^ 64 ∷ []) es ≡ (a + total 0 es) % 2 ^ 64 ∷ (b + total 1 es) % 2 ^ 64 ∷ (d + total 2 es) % 2 ^ 64 ∷ []
all_sums a b d [] = λ i. alone a i % 2 ^ 64 ∷ alone b i % 2 ^ 64 ∷ alone d i % 2 ^ 64 ∷ []
all_sums a b d (e ∷ es) =
    all_sums (a % 2 ^ 64 + unsigned_at 0 e.1) (b % 2 ^ 64 + unsigned_at 1 e.1) (d % 2 ^ 64 + unsigned_at 2 e.1) es
    ∙ (λ i. at 0 a i ∷ at 1 b i ∷ at 2 d i ∷ []) where
      at : (j n : ℕ) → (n % 2 ^ 64 + unsigned_at j e.1 + total j es) % 2 ^ 64 ≡ (n + total j (e ∷ es)) % 2 ^ 64
      at j n = one_more (2 ^ 64) n (unsigned_at j e.1) (total j es) (total j (e ∷ es)) (sum_by-cons (unsigned_at j) e.1 (values_of es))

-- if the spots ascend, the sums are those of the map
pub sums-run : (run : List (Spot × List ℤ)) → Ascend spot_cmp run → sums_behind (0 ∷ 0 ∷ 0 ∷ []) run ≡ sums_of (map.from_entries run)
sums-run run up = all_sums 0 0 0 run ∙ (λ i. at 0 i ∷ at 1 i ∷ at 2 i ∷ []) where
  at : (j : ℕ) → (0 + total j run) % 2 ^ 64 ≡ column j (map.from_entries run)
  at j = ap (λ n. n % 2 ^ 64) (from_none (total j run)) ∙ ap (λ (es : List (Spot × List ℤ)). total j es % 2 ^ 64) (sym (entries-ascend spot_cmp_total run up))

-- ---- entries in order, as a map

-- the first of them is the map's
pub first-ascend : (es : List (Spot × List ℤ)) → Ascend spot_cmp es → least_key (map.entries (map.from_entries {R = spot_cmp} es)) ≡ least_key es
first-ascend es up = ap least_key (entries-ascend spot_cmp_total es up)

-- and so is how many they are
pub len-ascend : (es : List (Spot × List ℤ)) → Ascend spot_cmp es → map.len (map.from_entries {R = spot_cmp} es) ≡ length es
len-ascend es up = len-entries (map.from_entries es) ∙ ap length (entries-ascend spot_cmp_total es up)

found_first : (b : Bool) (e : Spot × List ℤ) (o : Option (Spot × List ℤ)) (es : List (Spot × List ℤ)) → o ≡ first_entry es → (if b then Some e else o) ≡ first_entry (cond b (e ∷ es) es)
found_first true e o es is = refl
found_first false e o es is = is

first_behind : (spot : Spot) (es : List (Spot × List ℤ)) → first_above spot_cmp spot es ≡ first_entry (filter (λ e. is_after (Some spot) e.0) es)
first_behind spot [] = refl
first_behind spot (e ∷ es) = found_first (is_lt (spot_cmp spot e.0)) e (first_above spot_cmp spot es) _ (first_behind spot es)

-- the first above a spot is the first after it
pub after-ascend : (spot : Spot) (es : List (Spot × List ℤ)) → Ascend spot_cmp es → first_above spot_cmp spot es ≡ first_entry (hits_after (Some spot) (map.from_entries es))
after-ascend spot es up = first_behind spot es ∙ ap (λ l. first_entry (filter (λ e. is_after (Some spot) e.0) l)) (sym (entries-ascend spot_cmp_total es up))

every : (es : List (Spot × List ℤ)) → filter (λ e. is_after None e.0) es ≡ es
every [] = refl
every (e ∷ es) = ap (λ (l : List (Spot × List ℤ)). e ∷ l) (every es)

first_same : (es : List (Spot × List ℤ)) → blocks.first_entry es ≡ first_entry es
first_same [] = refl
first_same (e ∷ es) = refl

pub all-ascend : (es : List (Spot × List ℤ)) → Ascend spot_cmp es → blocks.first_entry es ≡ first_entry (hits_after None (map.from_entries es))
all-ascend es up = first_same es ∙ ap first_entry (sym (every es)) ∙ ap (λ l. first_entry (filter (λ e. is_after None e.0) l)) (sym (entries-ascend spot_cmp_total es up))

least_first : (es : List (Spot × List ℤ)) (o : Option (Spot × List ℤ)) → o ≡ blocks.first_entry es → (o ≡ None → least_key es ≡ None) × ((e : Spot × List ℤ) → o ≡ Some e → least_key es ≡ Some e.0)
least_first [] o is = (λ n. refl, λ e at. absurd (none-some e (sym is ∙ at)))
least_first (x ∷ es) o is = (λ n. absurd (none-some x (sym n ∙ is)), λ e at. let same : Some x ≡ Some e = sym is ∙ at in cc)

pub least-none : (es : List (Spot × List ℤ)) → Ascend spot_cmp es → None ≡ blocks.first_entry es → None ≡ least_key (map.entries (map.from_entries {R = spot_cmp} es))
least-none es up is = sym (first-ascend es up ∙ (least_first es None is).0 refl)

pub least-some : (es : List (Spot × List ℤ)) (e : Spot × List ℤ) → Ascend spot_cmp es → Some e ≡ blocks.first_entry es → Some e.0 ≡ least_key (map.entries (map.from_entries {R = spot_cmp} es))
least-some es e up is = sym (first-ascend es up ∙ (least_first es (Some e) is).1 e refl)

-- ---- in any order: the hits so far, and after them the rest

none_or : {X : Type 0} (o p : Option X) → o ≡ None → option_or o p ≡ p
none_or None p e = refl
none_or (Some x) p e = cc

some_or : {X : Type 0} (o p q : Option X) → is_some o ≡ true → option_or o p ≡ option_or o q
some_or None p q e = cc
some_or (Some x) p q e = refl

pub or_none : {X : Type 0} (o : Option X) → option_or o None ≡ o
or_none None = refl
or_none (Some x) = refl

module _ (hits : EntryHits) (e : Spot × List ℤ) (es : List (Spot × List ℤ)) (q : Spot) where
  -- a spot that has a hit keeps it
  pub skips : map.contains_key hits e.0 ≡ true → option_or (map.get hits q) (find spot_cmp q es) ≡ option_or (map.get hits q) (find spot_cmp q (e ∷ es))
  skips has = at (eq_by_cmp spot_cmp q e.0) refl where
    at : (b : Bool) → eq_by_cmp spot_cmp q e.0 ≡ b → option_or (map.get hits q) (find spot_cmp q es) ≡ option_or (map.get hits q) (cond b (Some e.1) (find spot_cmp q es))
    at true tie = some_or _ _ _ (ap (λ p. is_some (map.get hits p)) (spot_same q e.0 (is_equal _ tie)) ∙ has)
    at false tie = refl

  -- and one that has none gets it
  pub takes : map.contains_key hits e.0 ≡ false → option_or (map.get (map.insert hits e.0 e.1) q) (find spot_cmp q es) ≡ option_or (map.get hits q) (find spot_cmp q (e ∷ es))
  takes none = ap (λ o. option_or o (find spot_cmp q es)) (get-insert spot_cmp_total hits e.0 e.1 q) ∙ at (eq_by_cmp spot_cmp q e.0) refl where
    at : (b : Bool) → eq_by_cmp spot_cmp q e.0 ≡ b → option_or (cond b (Some e.1) (map.get hits q)) (find spot_cmp q es) ≡ option_or (map.get hits q) (cond b (Some e.1) (find spot_cmp q es))
    at true tie = sym (none_or _ _ (ap (map.get hits) (spot_same q e.0 (is_equal _ tie)) ∙ None-if_not_some _ none))
    at false tie = refl

-- none yet, and all after them
pub all-left : (run : List (Spot × List ℤ)) (hits : EntryHits) → hits ≡ map.empty → (q : Spot) → option_or (map.get hits q) (find spot_cmp q run) ≡ find spot_cmp q run
all-left run hits is q = none_or _ _ (ap (λ (h : EntryHits). map.get h q) is ∙ get-empty spot_cmp q)

-- and all, and none after them
pub none-left : (run : List (Spot × List ℤ)) (hits : EntryHits) → ((q : Spot) → option_or (map.get hits q) None ≡ find spot_cmp q run) → hits ≡ map.from_entries run
none-left run hits h = same_map spot_cmp_total spot_same _ _ (λ q. sym (or_none (map.get hits q)) ∙ h q ∙ sym (get-from_entries spot_cmp_total run q))

-- ---- one hit, or none

pub run-none : (run : List (Spot × List ℤ)) → length run ≡ 0 → map.empty ≡ map.from_entries {R = spot_cmp} run
run-none [] is = refl
run-none (e ∷ es) is = cc

pub run-one : (run : List (Spot × List ℤ)) (e : Spot × List ℤ) → ((d : Spot × List ℤ) → e ≡ get_or run 0 d) → length run ≡ 1 → only e ≡ map.from_entries run
run-one [] e at is = cc
run-one (x ∷ []) e at is = ap only (at x)
run-one (x ∷ y ∷ es) e at is = cc
