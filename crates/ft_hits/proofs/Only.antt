-- Only one hit.
use Rattle.std.proofs.Common.{◌≡◌, ℕ, ◌+◌, ◌%◌, ◌^◌, Bool, true, false, cond, List, [], ◌∷◌, length, refl, sym, ap, ◌∙◌, Some, None, Option}
use Rattle.std.specs.Prelude.{ℤ, is_some}
use Rattle.std.specs.List.{filter, sum_by}
use Rattle.std.specs.Map.{values_of}
use Rattle.std.specs.Ordering.{eq_by_cmp}
use Rattle.std.specs.FinMap as map
use Rattle.std.specs.FinMap.{put, entries-insert, get-empty, get-insert, get-remove, len-entries, same_map}
use Rattle.ft_hits.specs.declared.spot.Spot.{Spot}
use Rattle.ft_hits.specs.Spots.{spot_cmp, spot_cmp_total, spot_same}
use Rattle.ft_maps.specs.Entries.{entries-empty}
use Rattle.ft_hits.specs.inner.Held.{only}
use Rattle.ft_hits.specs.Hits.{least_key, first_entry, hits_after, is_after, unsigned_at, sums_of, column}
use Rattle.ft_hits.proofs.Columns.{column-more}
use Rattle.ft_hits.proofs.Flat.{is_equal}

abbrev total : ℕ → List (Spot × List ℤ) → ℕ
total j es = sum_by (unsigned_at j) (values_of es) % 2 ^ 64

pub sums-empty : sums_of map.empty ≡ 0 ∷ 0 ∷ 0 ∷ []
sums-empty = ap (λ (es : List (Spot × List ℤ)). total 0 es ∷ total 1 es ∷ total 2 es ∷ []) (entries-empty {X = List ℤ} spot_cmp)

column-empty : (j : ℕ) → 0 ≡ column j map.empty
column-empty j = sym (ap (λ (es : List (Spot × List ℤ)). total j es) (entries-empty {X = List ℤ} spot_cmp))

pub column-only : (j : ℕ) (hit : Spot × List ℤ) (new : ℕ) → new ≡ (0 + unsigned_at j hit.1) % 2 ^ 64 → new ≡ column j (only hit)
column-only j hit new e = column-more j map.empty hit.0 hit.1 0 new (get-empty spot_cmp hit.0) (column-empty j) e

pub entries-only : (hit : Spot × List ℤ) → map.entries (only hit) ≡ hit ∷ []
entries-only hit = entries-insert spot_cmp_total map.empty hit.0 hit.1 ∙ ap (put spot_cmp hit.0 hit.1) (entries-empty {X = List ℤ} spot_cmp)

pub len-only : (hit : Spot × List ℤ) → map.len (only hit) ≡ 1
len-only hit = len-entries (only hit) ∙ ap length (entries-only hit)

pub first-only : (hit : Spot × List ℤ) → least_key (map.entries (only hit)) ≡ Some hit.0
first-only hit = ap least_key (entries-only hit)

pub first-empty : least_key (map.entries (map.empty {X = List ℤ} {R = spot_cmp})) ≡ None
first-empty = ap least_key (entries-empty {X = List ℤ} spot_cmp)

pub after-empty : (place : Option Spot) → first_entry (hits_after place map.empty) ≡ None
after-empty place = ap (λ (es : List (Spot × List ℤ)). first_entry (filter (λ e. is_after place e.0) es)) (entries-empty {X = List ℤ} spot_cmp)

one-after : (place : Option Spot) (hit : Spot × List ℤ) (b : Bool) → is_after place hit.0 ≡ b → first_entry (filter (λ (e : Spot × List ℤ). is_after place e.0) (hit ∷ [])) ≡ cond b (Some hit) None
one-after place hit true is = rw is refl
one-after place hit false is = rw is refl

pub after-only : (place : Option Spot) (hit : Spot × List ℤ) (b : Bool) → is_after place hit.0 ≡ b → first_entry (hits_after place (only hit)) ≡ cond b (Some hit) None
after-only place hit b is = ap (λ (es : List (Spot × List ℤ)). first_entry (filter (λ e. is_after place e.0) es)) (entries-only hit) ∙ one-after place hit b is

pub get-only : (hit : Spot × List ℤ) (q : Spot) → map.get (only hit) q ≡ cond (eq_by_cmp spot_cmp q hit.0) (Some hit.1) None
get-only hit q = get-insert spot_cmp_total map.empty hit.0 hit.1 q ∙ ap (cond (eq_by_cmp spot_cmp q hit.0) (Some hit.1)) (get-empty spot_cmp q)

none_here : (b : Bool) (v : List ℤ) → cond b None (cond b (Some v) None) ≡ None
none_here true v = refl
none_here false v = refl

none_still : (b : Bool) (o : Option (List ℤ)) → o ≡ None → cond b None o ≡ None
none_still true o e = refl
none_still false o e = e

pub remove-empty : (spot : Spot) → map.remove (map.empty {X = List ℤ} {R = spot_cmp}) spot ≡ map.empty
remove-empty spot = same_map spot_cmp_total spot_same _ _ (λ q. get-remove spot_cmp_total map.empty spot q ∙ none_still (eq_by_cmp spot_cmp q spot) _ (get-empty spot_cmp q) ∙ sym (get-empty spot_cmp q))

some_here : (b : Bool) (v : List ℤ) → is_some (cond b (Some v) None) ≡ b
some_here true v = refl
some_here false v = refl

-- only its own place has it
pub has-only : (hit : Spot × List ℤ) (spot : Spot) → map.contains_key (only hit) spot ≡ eq_by_cmp spot_cmp spot hit.0
has-only hit spot = ap is_some (get-only hit spot) ∙ some_here (eq_by_cmp spot_cmp spot hit.0) hit.1

-- a hit is taken from where it stands
pub remove-only : (hit : Spot × List ℤ) (spot : Spot) → eq_by_cmp spot_cmp spot hit.0 ≡ true → map.remove (only hit) spot ≡ map.empty
remove-only hit spot tie = ap (map.remove (only hit)) (spot_same spot hit.0 (is_equal _ tie)) ∙ same_map spot_cmp_total spot_same _ _ (λ q.
    get-remove spot_cmp_total (only hit) hit.0 q ∙ ap (cond (eq_by_cmp spot_cmp q hit.0) None) (get-only hit q)
    ∙ none_here (eq_by_cmp spot_cmp q hit.0) hit.1 ∙ sym (get-empty spot_cmp q))

still : (hit : Spot × List ℤ) (spot q : Spot) (b : Bool) → eq_by_cmp spot_cmp spot hit.0 ≡ false → eq_by_cmp spot_cmp q spot ≡ b → cond b None (map.get (only hit) q) ≡ map.get (only hit) q
still hit spot q true apart tie = sym (ap (map.get (only hit)) (spot_same q spot (is_equal _ tie)) ∙ get-only hit spot ∙ ap (λ b. cond b (Some hit.1) None) apart)
still hit spot q false apart tie = refl

-- and from nowhere else
pub remove-beside : (hit : Spot × List ℤ) (spot : Spot) → eq_by_cmp spot_cmp spot hit.0 ≡ false → map.remove (only hit) spot ≡ only hit
remove-beside hit spot apart = same_map spot_cmp_total spot_same _ _ (λ q. get-remove spot_cmp_total (only hit) spot q ∙ still hit spot q (eq_by_cmp spot_cmp q spot) apart refl)
