-- Marks: where hits stand, and under which key.
use Rattle.std.specs.Prelude.{List}
use Rattle.std.specs.declared.cmp.Ordering.{Ordering}
use Rattle.std.specs.Ordering.{on, then_cmp}
use Rattle.std.specs.Cmp.{IsTotalOrder, on_total, then_total}
use Rattle.std.specs.FinMap.{IsAntisymmetric}
use Rattle.std.proofs.Common.{ap}
use Rattle.std.proofs.lemmas.Map.Lookups.{exact_pairs}
use Rattle.ft_hits.specs.declared.spot.Spot.{Spot}
use Rattle.ft_hits.specs.Spots.{spot_cmp, spot_cmp_total, spot_same}
use Rattle.ft_fields.specs.declared.key.Part.{Part}
use Rattle.ft_fields.specs.Parts.{key_cmp}
use Rattle.ft_fields.specs.Orders.{key_cmp_total}
use Rattle.ft_fields.specs.Ties.{key_same}
use Rattle.ft_hits.specs.declared.hit.Hit.{Hit}
use Rattle.ft_hits.specs.declared.mark.Mark.{Mark}

-- marks in order: by spot, then by key
abbrev pub mark_cmp : Mark → Mark → Ordering
mark_cmp = then_cmp (on (λ m. m.spot) spot_cmp) (on (λ m. m.key) key_cmp)

-- the order of marks is total
pub mark_cmp_total : IsTotalOrder mark_cmp
mark_cmp_total = then_total (on_total (λ m. m.spot) spot_cmp_total) (on_total (λ m. m.key) key_cmp_total)

-- marks that tie are equal
pub mark_same : IsAntisymmetric mark_cmp
mark_same a b h =
    ap (λ (p : Spot × List Part). record { spot = p.0; key = p.1 })
    (exact_pairs spot_cmp key_cmp spot_same key_same (a.spot, a.key) (b.spot, b.key) h)

-- where a hit stands
abbrev pub mark_of : Hit → Mark
mark_of hit = record { spot = hit.spot; key = hit.key }
