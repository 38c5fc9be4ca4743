-- The first hit of a key among all hits in order.
use Rattle.std.proofs.Common.{◌≡◌, true, false, cond, T, List, [], ◌∷◌, map as list_map, refl, sym, ap, ◌∙◌}
use Rattle.std.specs.Prelude.{ℤ}
use Rattle.std.specs.List.{filter, AllByRecursion}
use Rattle.std.specs.List.Sorted.{IsStrictlySortedBy}
use Rattle.std.specs.declared.cmp.Ordering.{Ordering}
use Rattle.std.specs.declared.cmp.Ordering.TheVariants.{Less, Equal, Greater}
use Rattle.std.specs.Ordering.{ordering_then}
use Rattle.std.specs.Map.{keys_of}
use Rattle.std.specs.FinMap as map
use Rattle.std.specs.FinMap.{is_sorted, entries_sorted}
use Rattle.std.proofs.lemmas.Cmp.{tied_itself}
use Rattle.ft_hits.specs.declared.spot.Spot.{Spot}
use Rattle.ft_fields.specs.declared.key.Part.{Part}
use Rattle.ft_fields.specs.Parts.{key_cmp, same_key}
use Rattle.ft_hits.specs.declared.mark.Mark.{Mark}
use Rattle.ft_hits.specs.Spots.{spot_cmp, spot_cmp_total}
use Rattle.ft_hits.specs.Marks.{mark_cmp}
use Rattle.ft_hits.specs.Hits.{Hits, hits_of}
use Rattle.ft_fields.specs.Orders.{key_cmp_total}
use Rattle.ft_hits.proofs.Flat.{same_is}
use Rattle.ft_maps.specs.Entries.{and_left, and_right, is_less, entries-from_entries}

abbrev Pair : Type 0
Pair = Mark × List ℤ

-- the hits of a key among others, by place
abbrev pub of_key : List Part → List Pair → List (Spot × List ℤ)
of_key key es = list_map (λ e. (e.0.spot, e.1)) (filter (λ e. same_key e.0.key key) es)

only : (r s : Ordering) → s ≡ Equal → ordering_then r s ≡ Less → r ≡ Less
only Less s tie h = refl
only Equal s tie h = cc
only Greater s tie h = cc

-- marks of one key are ordered by their places
by_place : (a b : Mark) → a.key ≡ b.key → mark_cmp a b ≡ Less → spot_cmp a.spot b.spot ≡ Less
by_place a b same less = only (spot_cmp a.spot b.spot) (key_cmp a.key b.key) (ap (key_cmp a.key) (sym same) ∙ tied_itself key_cmp_total a.key) less

below_of_key : (key : List Part) (m : Mark) (es : List Pair) → m.key ≡ key → T (map.Entries.below_all mark_cmp m es) → AllByRecursion (λ q. spot_cmp m.spot q ≡ Less) (keys_of (of_key key es))
below_of_key key m [] is h = tt
below_of_key key m (e ∷ es) is h =
    elim (same_key e.0.key key) as (λ b. same_key e.0.key key ≡ b → AllByRecursion (λ q. spot_cmp m.spot q ≡ Less) (keys_of (list_map (λ e. (e.0.spot, e.1)) (cond b (e ∷ filter (λ e. same_key e.0.key key) es) (filter (λ e. same_key e.0.key key) es))))) [
      | true ↦ λ same. (by_place m e.0 (is ∙ sym (same_is e.0.key key same)) (is_less _ (and_left _ _ h)), below_of_key key m es is (and_right _ _ h))
      | false ↦ λ apart. below_of_key key m es is (and_right _ _ h)
    ] refl

sorted_of_key : (key : List Part) (es : List Pair) → T (is_sorted mark_cmp es) → IsStrictlySortedBy spot_cmp (keys_of (of_key key es))
unfolding IsStrictlySortedBy
sorted_of_key key [] h = tt
sorted_of_key key (e ∷ es) h =
    elim (same_key e.0.key key) as (λ b. same_key e.0.key key ≡ b → IsStrictlySortedBy spot_cmp (keys_of (list_map (λ e. (e.0.spot, e.1)) (cond b (e ∷ filter (λ e. same_key e.0.key key) es) (filter (λ e. same_key e.0.key key) es))))) [
      | true ↦ λ same. (below_of_key key e.0 es (same_is e.0.key key same) (and_left _ _ h), sorted_of_key key es (and_right _ _ h))
      | false ↦ λ apart. sorted_of_key key es (and_right _ _ h)
    ] refl

-- the entries of the hits of a key are those of its marks
pub entries-hits_of : (hits : Hits) (key : List Part) → map.entries (hits_of hits key) ≡ of_key key (map.entries hits)
unfolding hits_of
entries-hits_of hits key = entries-from_entries spot_cmp_total (of_key key (map.entries hits)) (sorted_of_key key (map.entries hits) (entries_sorted hits))
