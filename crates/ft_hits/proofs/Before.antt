-- A hit that isn't after its key's first is before it.
use Rattle.std.proofs.Common.{◌≡◌, cond, List, [], ◌∷◌, refl, sym, ap, ◌∙◌, Some, None}
use Rattle.std.specs.declared.cmp.Ordering.TheVariants.{Less, Equal, Greater}
use Rattle.std.specs.Ordering.{is_eq, eq_by_cmp, ordering_reverse}
use Rattle.std.specs.FinMap as map
use Rattle.std.specs.FinMap.{find, get-entries}
use Rattle.std.proofs.lemmas.Cmp.{tied_itself}
use Rattle.std.proofs.lemmas.Option.{none-some}
use Rattle.ft_hits.specs.declared.spot.Spot.{Spot}
use Rattle.ft_hits.specs.Spots.{spot_cmp, spot_cmp_total, spot_same}
use Rattle.ft_hits.specs.Hits.{EntryHits, least_key}

-- a hit stands at the first spot
first_held : {X : Type 0} (at : Spot) (es : List (Spot × X)) → least_key es ≡ Some at → (v : X) × (find spot_cmp at es ≡ Some v)
first_held at [] is = absurd (none-some at is)
first_held at (e ∷ es) is =
    let same : e.0 ≡ at = cc in (
      e.1,
      ap (λ q. cond (eq_by_cmp spot_cmp q e.0) (Some e.1) (find spot_cmp q es)) (sym same)
          ∙ ap (λ o. cond (is_eq o) (Some e.1) (find spot_cmp e.0 es)) (tied_itself spot_cmp_total e.0),
    )

pub before_first : (hits : EntryHits) (spot at : Spot) → map.get hits spot ≡ None → least_key (map.entries hits) ≡ Some at → (spot_cmp at spot ≡ Less → ⊥) → spot_cmp spot at ≡ Less
before_first hits spot at absent first ne =
    elim (spot_cmp at spot) as (λ o. spot_cmp at spot ≡ o → spot_cmp spot at ≡ Less) [
      | Less ↦ λ is. absurd (ne is)
      | Equal ↦ λ is.
          let held = first_held at (map.entries hits) first in
          absurd (none-some held.0 (sym absent ∙ ap (map.get hits) (sym (spot_same at spot is)) ∙ get-entries hits at ∙ held.1))
      | Greater ↦ λ is. spot_cmp_total.antisymm spot at ∙ ap ordering_reverse is
    ] refl
