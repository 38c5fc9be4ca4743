-- Spots of events of the trace: they stand as their places do.
use Rattle.std.proofs.Common.{◌≡◌, List, [], ◌∷◌, map as list_map, refl, sym, ap, ◌∙◌}
use Rattle.std.specs.Prelude.{◌||◌}
use Rattle.std.specs.List.{AllByRecursion, list_any}
use Rattle.std.specs.List.Sorted.{IsStrictlySortedBy}
use Rattle.std.specs.declared.cmp.Ordering.{Ordering}
use Rattle.std.specs.declared.cmp.Ordering.TheVariants.{Less, Equal, Greater}
use Rattle.std.specs.Ordering.{is_eq, eq_by_cmp, ordering_then}
use Rattle.ft_fields.specs.declared.pos.Pos.{Pos}
use Rattle.ft_fields.specs.Places.{pos_cmp}
use Rattle.ft_hits.specs.declared.spot.Spot.{Spot}
use Rattle.ft_table.specs.Spots.{traced, spot_cmp}

-- a spot is that of an event of the trace
abbrev pub IsTraced : Spot → Type 0
IsTraced spot = spot ≡ traced spot.pos

then_equal : (o : Ordering) → ordering_then o Equal ≡ o
then_equal Less = refl
then_equal Equal = refl
then_equal Greater = refl

-- they are ordered by place
pub traced-cmp : (p q : Pos) → spot_cmp (traced p) (traced q) ≡ pos_cmp p q
traced-cmp p q = then_equal (pos_cmp p q)

-- one before another stands at an earlier place
pub traced-before : (a b : Spot) → IsTraced a → IsTraced b → spot_cmp a b ≡ Less → pos_cmp a.pos b.pos ≡ Less
traced-before a b first second less =
    sym (traced-cmp a.pos b.pos) ∙ ap (spot_cmp (traced a.pos)) (sym second) ∙ ap (λ s. spot_cmp s b) (sym first) ∙ less

-- one ties with that of a place exactly if the places do
pub traced-tie : (at : Pos) (s : Spot) → IsTraced s → eq_by_cmp spot_cmp (traced at) s ≡ eq_by_cmp pos_cmp at s.pos
traced-tie at s is = ap (λ x. is_eq (spot_cmp (traced at) x)) is ∙ ap is_eq (traced-cmp at s.pos)

traced_behind : (p : Pos) (places : List Pos) → AllByRecursion (λ q. pos_cmp p q ≡ Less) places → AllByRecursion (λ s. spot_cmp (traced p) s ≡ Less) (list_map traced places)
traced_behind p [] h = tt
traced_behind p (q ∷ places) h = (traced-cmp p q ∙ h.0, traced_behind p places h.1)

-- those of ascending places ascend
pub traced_ascend : (places : List Pos) → IsStrictlySortedBy pos_cmp places → IsStrictlySortedBy spot_cmp (list_map traced places)
unfolding IsStrictlySortedBy
traced_ascend [] sorted = tt
traced_ascend (p ∷ places) sorted = (traced_behind p places sorted.0, traced_ascend places sorted.1)

-- one is among those of places exactly if its place is among these
pub traced_among : (p : Pos) (places : List Pos) → list_any (eq_by_cmp spot_cmp (traced p)) (list_map traced places) ≡ list_any (eq_by_cmp pos_cmp p) places
traced_among p [] = refl
traced_among p (q ∷ places) = (λ i. is_eq (traced-cmp p q i) || traced_among p places i)
