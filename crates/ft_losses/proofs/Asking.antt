-- What the rows before a place tell of stretches.
use Rattle.std.specs.Prelude.{◌≡◌, ℕ, ◌+◌, ◌<◌, ◌≤◌, ◌&&◌, Bool, true, false, List, length, take, drop, Option, Some, None}
use Rattle.std.specs.List.{list_any, slice_get}
use Rattle.std.specs.List.Sorted.{IsPartitionedBy}
use Rattle.std.specs.Ordering.{is_lt}
use Rattle.std.proofs.Common.{sym, ap, subst, ◌∙◌, arith, inl, inr, get_or, ◌-◌, ◌⊎◌}
use Rattle.std.proofs.lemmas.Bool.{cases_Bool, false_from_ne_true, true_from_ne_false, and_left}
use Rattle.std.proofs.lemmas.List.{get_or-take, get_or-drop, length-take, length-drop, get_or_default}
use Rattle.std.proofs.lemmas.List.Folds.{list_any_none}
use Rattle.std.proofs.lemmas.Option.{slice_get_cases, slice_get_within, get_or_from_slice_get}
use Rattle.std.proofs.lemmas.List.Sorted.{list_any-IsPermutation}
use Rattle.ft_losses.specs.Doubt.{begins_before, ends_after}
use Rattle.ft_losses.specs.inner.Stretches.{start_cmp, AreInOrder, AreBefore, is_before, is_on, is_in, Indexes}
use Rattle.ft_losses.specs.declared.stretches.Start.{Start}
use Rattle.ft_losses.specs.declared.stretches.Stretch.{Stretch}
use Rattle.ft_losses.proofs.Anywhere.{any-same, any-first}
use Rattle.ft_losses.proofs.Extended.{goes_on, cpus-rise, risen}
use Rattle.ft_losses.proofs.Starts.{rank, same-option, other-option, Before, NotBefore, before-from, not_before-from, begins-early, begins-late}

-- ---- rows in order

-- the rows are in the order of their stretches
pub rows-rise : (rows stretches : List Stretch) → Indexes rows stretches → AreInOrder rows
rows-rise rows stretches index k d low within =
    let first : (get_or rows k d).start ≡ (get_or index.sorted k d).start = (index.reach k d (omega arith)).start in
    let next : (get_or rows (k + 1) d).start ≡ (get_or index.sorted (k + 1) d).start = (index.reach (k + 1) d (omega arith)).start in
    ap (λ (s : Start). is_lt (start_cmp s (get_or rows k d).start)) next ∙ ap (λ (s : Start). is_lt (start_cmp (get_or index.sorted (k + 1) d).start s)) first
    ∙ index.rises k d low (omega (arith, index.size))

-- those before a place are the first ones
pub rows-part : (rows : List Stretch) (limit : Start) → AreInOrder rows → IsPartitionedBy (λ (row : Stretch). is_before limit row) rows
rows-part rows limit up i j d le within later =
    true_from_ne_false (is_before limit (get_or rows i d)) (λ away.
    overtakes (get_or rows i d).start (get_or rows j d).start limit (not_before-from (get_or rows i d).start limit away) (before-from (get_or rows j d).start limit later) (risen rows up i j d le within))
  where
    overtakes : (a b l : Start) → NotBefore a l → Before b l → NotBefore b a → ⊥
    overtakes a b l h k r = elim h [
      | inl above ↦ elim k [ inl less ↦ elim r [ inl up ↦ omega arith | inr up ↦ omega arith ] | inr less ↦ elim r [ inl up ↦ omega arith | inr up ↦ omega arith ] ]
      | inr above ↦ elim k [ inl less ↦ elim r [ inl up ↦ omega arith | inr up ↦ omega arith ] | inr less ↦ elim r [ inl up ↦ omega arith | inr up ↦ omega arith ] ]
    ]

-- ---- one stretch

-- a place on a CPU, at the end of a time
abbrev pub end_of : Option ℕ → ℕ → Start
end_of cpu ended = record { cpu = cpu; after = Some ended }

-- a stretch on a CPU that begins before a time ends and ends after it began
abbrev pub meets : Option ℕ → ℕ → ℕ → Stretch → Bool
meets cpu began ended one = is_on cpu one && is_in began ended one

-- one before the place begins in time
pub meets-early : (cpu : Option ℕ) (began ended : ℕ) (one : Stretch) → is_before (end_of cpu ended) one ≡ true → meets cpu began ended one ≡ goes_on cpu began one
meets-early cpu began ended one before = elim (cases_Bool (is_on cpu one)) [
  | inl here ↦
      let same : one.start.cpu ≡ cpu = same-option one.start.cpu cpu here in
      let early : begins_before one.start.after ended ≡ true = begins-early one.start.after ended (is_early (before-from one.start (end_of cpu ended) before) (ap rank same)) in
      ap (λ b. is_on cpu one && (b && ends_after one.before began)) early
  | inr away ↦ and_left (is_on cpu one) (is_in began ended one) away ∙ sym (and_left (is_on cpu one) (ends_after one.before began) away)
]
  where
    is_early : {x y u v : ℕ} → (x < y) ⊎ ((x ≡ y) × (u < v)) → x ≡ y → u < v
    is_early h same = elim h [ inl less ↦ absurd (omega arith) | inr less ↦ less.1 ]

-- one that isn't before it begins late, or is on another CPU
pub meets-late : (cpu : Option ℕ) (began ended : ℕ) (one : Stretch) → is_before (end_of cpu ended) one ≡ false → meets cpu began ended one ≡ false
meets-late cpu began ended one after = elim (cases_Bool (is_on cpu one)) [
  | inl here ↦
      let same : one.start.cpu ≡ cpu = same-option one.start.cpu cpu here in
      let late : begins_before one.start.after ended ≡ false = begins-late one.start.after ended (is_late (not_before-from one.start (end_of cpu ended) after) (ap rank same)) in
      ap (λ b. b && is_in began ended one) here ∙ ap (λ b. b && ends_after one.before began) late
  | inr away ↦ and_left (is_on cpu one) (is_in began ended one) away
]
  where
    is_late : {x y u v : ℕ} → (y < x) ⊎ ((x ≡ y) × (v ≤ u)) → x ≡ y → v ≤ u
    is_late h same = elim h [ inl more ↦ absurd (omega arith) | inr more ↦ more.1 ]

-- ---- all stretches

-- the rows before a place are so many
abbrev pub Counts : List Stretch → Option ℕ → ℕ → ℕ → Type 0
Counts rows cpu ended n = (n ≤ length rows) × AreBefore (end_of cpu ended) rows n

module _ (rows stretches : List Stretch) (index : Indexes rows stretches) (cpu : Option ℕ) (began ended n : ℕ) (counts : Counts rows cpu ended n) where
  -- a row begins as its stretch does
  start_at : (k : ℕ) (d : Stretch) → k < length index.sorted → (get_or rows k d).start ≡ (get_or index.sorted k d).start
  start_at k d within = (index.reach k d (omega (arith, index.size, within))).start

  -- the first ones begin before the place, and the others don't
  early : (k : ℕ) (d : Stretch) → k < n → is_before (end_of cpu ended) (get_or index.sorted k d) ≡ true
  early k d below =
      ap (λ (s : Start). is_lt (start_cmp s (end_of cpu ended))) (sym (start_at k d (omega (arith, index.size, counts.0, below)))) ∙ counts.1.0 k d (omega arith) below

  late : (k : ℕ) (d : Stretch) → n ≤ k → k < length index.sorted → is_before (end_of cpu ended) (get_or index.sorted k d) ≡ false
  late k d above within =
      ap (λ (s : Start). is_lt (start_cmp s (end_of cpu ended))) (sym (start_at k d within)) ∙ counts.1.1 k d above (omega (arith, index.size, within))

  -- the first ones tell of all
  pub met-first : list_any (meets cpu began ended) stretches ≡ list_any (goes_on cpu began) (take n index.sorted)
  met-first =
      list_any-IsPermutation (meets cpu began ended) stretches index.sorted index.moved
      ∙ any-first (meets cpu began ended) n index.sorted (list_any_none (meets cpu began ended) (drop n index.sorted) (λ k d within.
      subst (λ (s : Stretch). meets cpu began ended s ≡ false) (sym (get_or-drop n index.sorted k d))
      (meets-late cpu began ended (get_or index.sorted (n + k) d) (late (n + k) d (omega arith) (omega (arith, length-drop n index.sorted, within))))))
      ∙ any-same (meets cpu began ended) (goes_on cpu began) (take n index.sorted) (λ k d within.
      let below : k < n = omega (arith, length-take n index.sorted, within) in
      subst (λ (s : Stretch). meets cpu began ended s ≡ goes_on cpu began s) (sym (get_or-take n index.sorted k d below))
      (meets-early cpu began ended (get_or index.sorted k d) (early k d below)))

  -- none is before the place
  pub met-none : n ≡ 0 → list_any (meets cpu began ended) stretches ≡ false
  met-none none = met-first ∙ ap (λ (m : ℕ). list_any (goes_on cpu began) (take m index.sorted)) none

  -- the last one before it is on the CPU
  pub met-last : (m : ℕ) (d : Stretch) → m + 1 ≡ n → is_on cpu (get_or rows m d) ≡ true → list_any (meets cpu began ended) stretches ≡ ends_after (get_or rows m d).before began
  met-last m d next here =
      let same : (get_or rows m d).start.cpu ≡ cpu = same-option (get_or rows m d).start.cpu cpu here in
      met-first
      ∙ ap (λ (k : ℕ). list_any (goes_on cpu began) (take k index.sorted)) (sym next)
      ∙ ap (λ (c : Option ℕ). list_any (goes_on c began) (take (m + 1) index.sorted)) (sym same)
      ∙ sym ((index.reach m d (omega (arith, counts.0, next))).before began)

  -- or on another one
  pub met-apart : (m : ℕ) (d : Stretch) → m + 1 ≡ n → is_on cpu (get_or rows m d) ≡ false → list_any (meets cpu began ended) stretches ≡ false
  met-apart m d next away = met-first ∙ list_any_none (goes_on cpu began) (take n index.sorted) (λ k e within.
      let below : k < n = omega (arith, length-take n index.sorted, within) in
      let one : Stretch = get_or index.sorted k e in
      let elsewhere : is_on cpu one ≡ false = false_from_ne_true (is_on cpu one) (λ hit. passed m d next away k e below (same-option one.start.cpu cpu hit)) in
      subst (λ (s : Stretch). goes_on cpu began s ≡ false) (sym (get_or-take n index.sorted k e below)) (and_left (is_on cpu one) (ends_after one.before began) elsewhere))
    where
      up_to : (a b : Start) → Before a b → rank a.cpu ≤ rank b.cpu
      up_to a b h = elim h [ inl less ↦ omega arith | inr same ↦ omega arith ]

      -- those before one that is past the CPU aren't on it
      passed : (m : ℕ) (d : Stretch) → m + 1 ≡ n → is_on cpu (get_or rows m d) ≡ false → (k : ℕ) (e : Stretch) → k < n → (get_or index.sorted k e).start.cpu ≡ cpu → ⊥
      passed m d next away k e below on =
          let inside : m < length index.sorted = omega (arith, counts.0, index.size, next) in
          let first : rank (get_or index.sorted k d).start.cpu ≡ rank cpu = ap (λ (s : Stretch). rank s.start.cpu) (get_or_default index.sorted k d e (omega (arith, below, next, inside))) ∙ ap rank on in
          let low = cpus-rise index.sorted index.rises k m d (omega (arith, below, next)) inside in
          let high : rank (get_or index.sorted m d).start.cpu ≤ rank cpu = up_to (get_or index.sorted m d).start (end_of cpu ended) (before-from (get_or index.sorted m d).start (end_of cpu ended) (early m d (omega (arith, next)))) in
          let row : rank (get_or rows m d).start.cpu ≡ rank (get_or index.sorted m d).start.cpu = ap (λ (s : Start). rank s.cpu) (start_at m d inside) in
          other-option (get_or rows m d).start.cpu cpu away (omega (arith, first, low, high, row))

-- ---- the last of the first rows

-- it stands at the last index
pub last-row : (rows : List Stretch) (n : ℕ) (row : Stretch) → n ≤ length rows → slice_get (take n rows) (length (take n rows) - 1) ≡ Some row → (n - 1 + 1 ≡ n) × (get_or rows (n - 1) row ≡ row)
last-row rows n row within is =
    let size : length (take n rows) ≡ n = omega (arith, length-take n rows) in
    let some : 0 < n = omega (arith, slice_get_within (take n rows) (length (take n rows) - 1) row is, size) in
    (omega arith, sym (get_or-take n rows (n - 1) row (omega arith)) ∙ ap (λ (m : ℕ). get_or (take n rows) (m - 1) row) (sym size) ∙ get_or_from_slice_get (take n rows) (length (take n rows) - 1) row row is)

-- there is none
pub no-row : (rows : List Stretch) (n : ℕ) → n ≤ length rows → slice_get (take n rows) (length (take n rows) - 1) ≡ None → n ≡ 0
no-row rows n within none = elim (slice_get_cases (take n rows) (length (take n rows) - 1)).1 [
  | inl here ↦ absurd (let e : Some here.0 ≡ None = sym here.2 ∙ none in cc)
  | inr past ↦ omega (arith, past.0, length-take n rows)
]
