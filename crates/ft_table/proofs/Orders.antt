-- Entries in order: the keys that they list, and what stands before a key and after it.
use Rattle.std.proofs.Common.{◌≡◌, ℕ, zero, suc, ◌<◌, ◌≤◌, cond, List, [], ◌∷◌, length, get_or, refl, sym, ap, subst, ◌∙◌, arith, Bool, true, false, Some, None, Option}
use Rattle.std.specs.Prelude.{◌+◌, if◌then◌else◌, not, option_map, slice_get}
use Rattle.std.specs.List.{Contains, filter, remove}
use Rattle.std.specs.Map.{keys_of}
use Rattle.std.specs.declared.cmp.Ordering.{Ordering}
use Rattle.std.specs.declared.cmp.Ordering.TheVariants.{Less, Equal, Greater}
use Rattle.std.specs.Ordering.{is_lt, is_eq, eq_by_cmp, ordering_reverse}
use Rattle.std.specs.Cmp.{IsTotalOrder}
use Rattle.std.specs.FinMap as map
use Rattle.std.specs.FinMap.{IsAntisymmetric, find}
use Rattle.std.proofs.lemmas.Cmp.{tied_itself, alike_right}
use Rattle.std.proofs.lemmas.Option.{slice_get-get_or, none-some}
use Rattle.ft_blocks.specs.Sorted.{AllAbove, Ascend, without, later, last_below, first_above, first_entry, from_key}
use Rattle.ft_blocks.specs.Seen.{entries-ascend}
use Rattle.ft_blocks.proofs.Nexts.{above_first_entry}
use Rattle.ft_blocks.proofs.Taken.{above_tied, tied, without_above}
use Rattle.ft_table.specs.inner.Ascending.{Rises, IsRank}
use Rattle.ft_table.proofs.Sorted.{rises-keys, rank-keys, next_rank}

-- the key of an entry, if there is one
abbrev pub key_in : {K X : Type 0} → Option (K × X) → Option K
key_in o = option_map (λ e. e.0) o

-- what stands before a rank
abbrev pub before_place : {K : Type 0} → List K → ℕ → Option K
before_place ks zero = None
before_place ks (suc i) = slice_get ks i

abbrev pub Lacking : {K : Type 0} → List K → K → Type 0
Lacking ks k = Contains ks k → ⊥

not_lt : (o : Ordering) → (o ≡ Less → ⊥) → is_lt o ≡ false
not_lt Less n = absurd (n refl)
not_lt Equal n = refl
not_lt Greater n = refl

module _ {K : Type 0} where
  pub lacking_first : (x : K) (ks : List K) (k : K) → Lacking (x ∷ ks) k → x ≡ k → ⊥
  lacking_first x ks k lacks is = lacks (zero, omega arith, is)

  pub lacking_rest : (x : K) (ks : List K) (k : K) → Lacking (x ∷ ks) k → Lacking ks k
  lacking_rest x ks k lacks has = lacks (suc has.0, (let lt = has.1 in omega arith), has.2)

module _ {K X : Type 0} {R : K → K → Ordering} (total : IsTotalOrder R) where
  pub rises_in : (es : List (K × X)) → Ascend R es → Rises R (keys_of es)
  rises_in es up = subst (λ (es : List (K × X)). Rises R (keys_of es)) (entries-ascend total es up) (rises-keys (map.from_entries {R = R} es))

  pub rank_of : (es : List (K × X)) → Ascend R es → (k : K) → (i : ℕ) × IsRank R (keys_of es) k i
  rank_of es up k = subst (λ (es : List (K × X)). (i : ℕ) × IsRank R (keys_of es) k i) (entries-ascend total es up) (rank-keys total (map.from_entries {R = R} es) k)

  above_found : (x k : K) (v : X) (es : List (K × X)) → AllAbove R x es → find R k es ≡ Some v → R x k ≡ Less
  above_found x k v [] above is = absurd (none-some v is)
  above_found x k v (e ∷ es) above is =
      elim (R k e.0) as (λ o. R k e.0 ≡ o → cond (is_eq o) (Some e.1) (find R k es) ≡ Some v → R x k ≡ Less) [
        | Less ↦ λ o is. above_found x k v es above.1 is
        | Equal ↦ λ o is. alike_right total k e.0 x o ∙ above.0
        | Greater ↦ λ o is. above_found x k v es above.1 is
      ] refl is

  -- without an entry, its key is taken out at its rank
  pub without_rank : (es : List (K × X)) → Ascend R es → (k : K) (v : X) (i : ℕ) → find R k es ≡ Some v → IsRank R (keys_of es) k i → keys_of (without R k es) ≡ remove (keys_of es) i
  without_rank [] up k v i is at = absurd (none-some v is)
  without_rank (e ∷ es) up k v zero is at =
      elim (eq_by_cmp R k e.0) as (λ b. eq_by_cmp R k e.0 ≡ b → cond b (Some e.1) (find R k es) ≡ Some v → keys_of (cond (not b) (e ∷ without R k es) (without R k es)) ≡ keys_of es) [
        | true ↦ λ b is. ap (λ (es : List (K × X)). keys_of es) (without_above R k es (above_tied total k e.0 es (tied _ b) up.0))
        | false ↦ λ b is. absurd (at.above zero k (omega arith) (omega arith) (above_found e.0 k v es up.0 is))
      ] refl is
  without_rank (e ∷ es) up k v (suc i) is at =
      let below : R e.0 k ≡ Less = at.below zero k (omega arith) in
      let other : eq_by_cmp R k e.0 ≡ false = ap is_eq (total.antisymm k e.0 ∙ ap ordering_reverse below) in
      ap (λ b. keys_of (cond (not b) (e ∷ without R k es) (without R k es))) other
      ∙ ap (λ (ks : List K). e.0 ∷ ks) (without_rank es up.1 k v i (sym (ap (λ b. cond b (Some e.1) (find R k es)) other) ∙ is) (next_rank total e.0 (keys_of es) k i at))

  none_behind : (x k : K) (es : List (K × X)) → AllAbove R x es → (R x k ≡ Less → ⊥) → last_below R k es ≡ None
  none_behind x k [] above n = refl
  none_behind x k (e ∷ es) above n =
      ap (λ b. if b then Some (later e (last_below R k es)) else last_below R k es) (not_lt (R e.0 k) (λ less. n (total.trans x e.0 k above.0 less)))
      ∙ none_behind x k es above.1 n

  before_by : (e : K × X) (ks : List K) (i : ℕ) (o : Option (K × X)) → i ≤ length ks → key_in o ≡ before_place ks i → Some (later e o).0 ≡ slice_get (e.0 ∷ ks) i
  before_by e ks zero None le is = refl
  before_by e ks zero (Some f) le is = absurd (none-some f.0 (sym is))
  before_by e ks (suc i) None le is = absurd (none-some (get_or ks i e.0) (is ∙ slice_get-get_or ks i e.0 (omega arith)))
  before_by e ks (suc i) (Some f) le is = is

  -- the last entry below a key stands before the key's rank
  pub before_rank : (es : List (K × X)) → Ascend R es → (k : K) (i : ℕ) → IsRank R (keys_of es) k i → key_in (last_below R k es) ≡ before_place (keys_of es) i
  before_rank [] up k zero at = refl
  before_rank [] up k (suc i) at = absurd (let w = at.within in omega arith)
  before_rank (e ∷ es) up k zero at =
      let first : R e.0 k ≡ Less → ⊥ = at.above zero k (omega arith) (omega arith) in
      ap key_in (ap (λ b. if b then Some (later e (last_below R k es)) else last_below R k es) (not_lt (R e.0 k) first) ∙ none_behind e.0 k es up.0 first)
  before_rank (e ∷ es) up k (suc i) at =
      let rest = next_rank total e.0 (keys_of es) k i at in
      let w = rest.within in
      ap (λ o. key_in (if is_lt o then Some (later e (last_below R k es)) else last_below R k es)) (at.below zero k (omega arith))
      ∙ before_by e (keys_of es) i (last_below R k es) w (before_rank es up.1 k i rest)

  passed : (k : K) (e : K × X) (es : List (K × X)) → R e.0 k ≡ Less → first_above R k (e ∷ es) ≡ first_above R k es
  passed k e es below = ap (λ o. if is_lt o then Some e else first_above R k es) (total.antisymm k e.0 ∙ ap ordering_reverse below)

  first_key : (es : List (K × X)) → key_in (first_entry es) ≡ slice_get (keys_of es) 0
  first_key [] = refl
  first_key (e ∷ es) = refl

  module _ (same : IsAntisymmetric R) where
    -- a key that isn't listed has no entry, and one that is has one
    pub find_lacking : (es : List (K × X)) (k : K) → Lacking (keys_of es) k → find R k es ≡ None
    find_lacking [] k lacks = refl
    find_lacking (e ∷ es) k lacks =
        elim (R k e.0) as (λ o. R k e.0 ≡ o → cond (is_eq o) (Some e.1) (find R k es) ≡ None) [
          | Less ↦ λ o. find_lacking es k (lacking_rest e.0 (keys_of es) k lacks)
          | Equal ↦ λ o. absurd (lacking_first e.0 (keys_of es) k lacks (sym (same k e.0 o)))
          | Greater ↦ λ o. find_lacking es k (lacking_rest e.0 (keys_of es) k lacks)
        ] refl

    -- the first entry above a key that isn't listed stands at the key's rank
    pub after_lacking : (es : List (K × X)) (k : K) (i : ℕ) → Lacking (keys_of es) k → IsRank R (keys_of es) k i → key_in (first_above R k es) ≡ slice_get (keys_of es) i
    after_lacking [] k zero lacks at = refl
    after_lacking [] k (suc i) lacks at = absurd (let w = at.within in omega arith)
    after_lacking (e ∷ es) k zero lacks at =
        elim (R k e.0) as (λ o. R k e.0 ≡ o → key_in (if is_lt o then Some e else first_above R k es) ≡ Some e.0) [
          | Less ↦ λ o. refl
          | Equal ↦ λ o. absurd (lacking_first e.0 (keys_of es) k lacks (sym (same k e.0 o)))
          | Greater ↦ λ o. absurd (at.above zero k (omega arith) (omega arith) (total.antisymm e.0 k ∙ ap ordering_reverse o))
        ] refl
    after_lacking (e ∷ es) k (suc i) lacks at =
        ap key_in (passed k e es (at.below zero k (omega arith)))
        ∙ after_lacking es k i (lacking_rest e.0 (keys_of es) k lacks) (next_rank total e.0 (keys_of es) k i at)

  find_here : (e : K × X) (es : List (K × X)) (k : K) → e.0 ≡ k → (v : X) × (find R k (e ∷ es) ≡ Some v)
  find_here e es k is = (e.1, ap (λ q. cond (eq_by_cmp R q e.0) (Some e.1) (find R q es)) (sym is) ∙ ap (λ o. cond (is_eq o) (Some e.1) (find R e.0 es)) (tied_itself total e.0))

  pub find_listed : (es : List (K × X)) (k : K) → Contains (keys_of es) k → (v : X) × (find R k es ≡ Some v)
  find_listed [] k has = absurd (omega (arith, has.1))
  find_listed (e ∷ es) k (zero, lt, is) = find_here e es k is
  find_listed (e ∷ es) k (suc j, lt, is) =
      let rest = find_listed es k (j, omega (arith, lt), is) in
      elim (R k e.0) as (λ o. (v : X) × (cond (is_eq o) (Some e.1) (find R k es) ≡ Some v)) [
        | Less ↦ rest
        | Equal ↦ (e.1, refl)
        | Greater ↦ rest
      ]

  later_listed : (e : K × X) (es : List (K × X)) (k : K) → Ascend R (e ∷ es) → (j : ℕ) → j < length (keys_of es) → get_or (keys_of es) j k ≡ k → R e.0 k ≡ Less
  later_listed e es k up j lt is = let v = find_listed es k (j, lt, is) in above_found e.0 k v.0 es up.0 v.1

  -- and the first above one that is listed stands after it
  pub after_listed : (es : List (K × X)) → Ascend R es → (k : K) (i : ℕ) → Contains (keys_of es) k → IsRank R (keys_of es) k i → key_in (first_above R k es) ≡ slice_get (keys_of es) (i + 1)
  after_listed [] up k i has at = absurd (omega (arith, has.1))
  after_listed (e ∷ es) up k zero (zero, lt, is) at =
      let tie : R k e.0 ≡ Equal = ap (λ q. R q e.0) (sym is) ∙ tied_itself total e.0 in
      ap (λ o. key_in (if is_lt o then Some e else first_above R k es)) tie
      ∙ ap key_in (above_first_entry R k es (above_tied total k e.0 es tie up.0)) ∙ first_key es
  after_listed (e ∷ es) up k zero (suc j, lt, is) at = absurd (at.above zero k (omega arith) (omega arith) (later_listed e es k up j (omega (arith, lt)) is))
  after_listed (e ∷ es) up k (suc i) (zero, lt, is) at =
      absurd (let both : Less ≡ Equal = sym (at.below zero k (omega arith)) ∙ ap (R e.0) (sym is) ∙ tied_itself total e.0 in cc)
  after_listed (e ∷ es) up k (suc i) (suc j, lt, is) at =
      let on : suc i + 1 ≡ suc (i + 1) = omega arith in
      ap key_in (passed k e es (at.below zero k (omega arith)))
      ∙ after_listed es up.1 k i (j, omega (arith, lt), is) (next_rank total e.0 (keys_of es) k i at)
      ∙ sym (ap (slice_get (e.0 ∷ keys_of es)) on)

-- the keys from a key on
pub keys_from : {K X : Type 0} (R : K → K → Ordering) (k : K) (es : List (K × X)) → keys_of (from_key R k es) ≡ filter (λ q. not (is_lt (R q k))) (keys_of es)
keys_from R k [] = refl
keys_from R k (e ∷ es) = by (is_lt (R e.0 k)) (keys_from R k es) where
  by : (b : Bool) → keys_of (from_key R k es) ≡ filter (λ q. not (is_lt (R q k))) (keys_of es)
      → keys_of (cond (not b) (e ∷ from_key R k es) (from_key R k es)) ≡ cond (not b) (e.0 ∷ filter (λ q. not (is_lt (R q k))) (keys_of es)) (filter (λ q. not (is_lt (R q k))) (keys_of es))
  by true rest = rest
  by false rest = ap (λ (ks : List _). e.0 ∷ ks) rest
