-- Hits: values by spot and key.
use Rattle.std.specs.Prelude.{◌≡◌, ℕ, ◌%◌, ◌^◌, ℤ, pos, Bool, true, List, [], ◌∷◌, Option, Some, None, option_map, map as list_map, slice_index_or}
use Rattle.std.specs.List.{filter, sum_by}
use Rattle.std.specs.Int.{w64, cast_unsigned}
use Rattle.std.specs.Ordering.{is_lt}
use Rattle.std.specs.FinMap as map
use Rattle.std.specs.FinMap.{FinMap}
use Rattle.ft_hits.specs.declared.spot.Spot.{Spot}
use Rattle.ft_hits.specs.Spots.{IsMade, spot_cmp}
use Rattle.ft_fields.specs.declared.key.Part.{Part}
use Rattle.ft_fields.specs.Parts.{same_key}
use Rattle.ft_hits.specs.declared.hit.Hit.{Hit}
use Rattle.ft_hits.specs.declared.mark.Mark.{Mark}
use Rattle.ft_hits.specs.Marks.{mark_cmp}

-- the hits of a trigger: values by spot and key
abbrev pub Hits : Type 0
Hits = FinMap mark_cmp (List ℤ)

-- the hits of one key: values by spot
abbrev pub EntryHits : Type 0
EntryHits = FinMap spot_cmp (List ℤ)

-- all hits are of events of the trace
abbrev pub AreTraced : Hits → Type 0
AreTraced hits = (m : Mark) → IsMade m.spot → map.get hits m ≡ None

-- the hits of a key among all
unfoldable pub hits_of : Hits → List Part → EntryHits
hits_of hits key = map.from_entries (list_map (λ e. (e.0.spot, e.1)) (filter (λ e. same_key e.0.key key) (map.entries hits)))

-- how many hits a key has (kernel: histogram.rst, `hitcount`)
abbrev pub hitcount : Hits → List Part → ℕ
hitcount hits key = map.len (hits_of hits key)

-- a value as an unsigned number (kernel: histogram.rst, `values`; modulo 2^64 is our own choice)
abbrev pub unsigned_at : ℕ → List ℤ → ℕ
unsigned_at j values = cast_unsigned w64 (slice_index_or values j (pos 0))

-- the sum of one value over hits, modulo 2^64 (kernel: histogram.rst, `values`; modulo 2^64 is our own choice)
abbrev pub column : ℕ → EntryHits → ℕ
column j hits = sum_by (unsigned_at j) (map.values hits) % 2 ^ 64

-- the sums of the three values (kernel: histogram.rst, `values`)
abbrev pub sums_of : EntryHits → List ℕ
sums_of hits = column 0 hits ∷ column 1 hits ∷ column 2 hits ∷ []

-- the key of the first of some entries
abbrev pub least_key : {K X : Type 0} → List (K × X) → Option K
least_key [] = None
least_key (e ∷ es) = Some e.0

-- the spot of a key's first hit
abbrev pub first_place : Hits → List Part → Option Spot
first_place hits key = least_key (map.entries (hits_of hits key))

-- the first of a list
abbrev pub first_entry : {X : Type 0} → List X → Option X
first_entry [] = None
first_entry (x ∷ xs) = Some x

-- whether a spot is after another, if there is another
abbrev pub is_after : Option Spot → Spot → Bool
is_after None p = true
is_after (Some a) p = is_lt (spot_cmp a p)

-- the hits after a spot, in order; without a spot all
abbrev pub hits_after : Option Spot → EntryHits → List (Spot × List ℤ)
hits_after place hits = filter (λ e. is_after place e.0) (map.entries hits)

-- the first hit of a key after a spot; without a spot its first
abbrev pub hit_after : Hits → List Part → Option Spot → Option Hit
hit_after hits key after = option_map (λ e. record { spot = e.0; key = key; values = e.1 }) (first_entry (hits_after after (hits_of hits key)))

-- a key has these hits, and all other hits stay
pub record TakesHits (key : List Part) (entry : EntryHits) (old new : Hits) : Type 0 where
  pub here : (spot : Spot) → map.get new (record { spot = spot; key = key }) ≡ map.get entry spot
  pub others : (mark : Mark) → (mark.key ≡ key → ⊥) → map.get new mark ≡ map.get old mark
