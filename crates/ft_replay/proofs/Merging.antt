-- Merging lane by lane and event by event gives the merged events.
use Rattle.std.proofs.Common.{◌≡◌, ℕ, List, [], ◌∷◌, ◌++◌, map as list_map, refl, sym, ◌∙◌}
use Rattle.std.specs.Prelude.{fold}
use Rattle.std.specs.List.{flat_map}
use Rattle.std.specs.FinMap.{FinMap}
use Rattle.ft_fields.specs.Traced.{Traced}
use Rattle.ft_fields.specs.Places.{pos_cmp}
use Rattle.ft_lanes.specs.Held.{Lane}
use Rattle.ft_replay.specs.Merged.{place_of, placed, merged_with, merged_with_lane}

-- the merged events with those of some lines of a lane
abbrev pub merged_with_lines : ℕ → FinMap pos_cmp Traced → List (ℕ × Traced) → FinMap pos_cmp Traced
merged_with_lines cpu m lines = fold merged_with m (list_map (λ entry. (place_of cpu entry, entry.1)) lines)

fold-append : {A B : Type 0} (f : B → A → B) (b : B) (xs ys : List A) → fold f b (xs ++ ys) ≡ fold f (fold f b xs) ys
fold-append f b [] ys = refl
fold-append f b (x ∷ xs) ys = fold-append f (f b x) xs ys

-- lane by lane is event by event
pub by_lane : (m : FinMap pos_cmp Traced) (lanes : List (ℕ × Lane)) → fold merged_with_lane m lanes ≡ fold merged_with m (flat_map placed lanes)
by_lane m [] = refl
by_lane m (lane ∷ lanes) = by_lane (merged_with_lane m lane) lanes ∙ sym (fold-append merged_with m (placed lane) (flat_map placed lanes))
