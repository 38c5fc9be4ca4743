-- Spots: where hits stand.
use Rattle.std.specs.Prelude.{◌≡◌, ℕ, ◌==◌, Option, Some, None, if◌then◌else◌}
use Rattle.std.specs.declared.cmp.Ordering.{Ordering}
use Rattle.std.specs.Ordering.{nat_cmp, on, then_cmp}
use Rattle.std.specs.Cmp.{IsTotalOrder, on_total, then_total, nat_cmp_total}
use Rattle.std.specs.FinMap.{IsAntisymmetric}
use Rattle.std.proofs.Common.{ap}
use Rattle.std.proofs.lemmas.Map.Lookups.{exact_pairs, exact_unsigned}
use Rattle.ft_fields.specs.declared.pos.Pos.{Pos}
use Rattle.ft_fields.specs.Places.{pos_cmp, pos_cmp_total, pos_same}
use Rattle.ft_hits.specs.declared.spot.Spot.{Spot}

-- where a hit of an event of the trace stands: no trigger made the event
abbrev pub traced : Pos → Spot
traced pos = record { pos = pos; maker = 0 }

-- the place of a spot if an event of the trace stands there; none if a trigger made the event
abbrev pub traced_place : Spot → Option Pos
traced_place spot = if spot.maker == 0 then Some spot.pos else None

-- a trigger made the event that stands at a spot (kernel: histogram.rst, synthetic events)
abbrev pub IsMade : Spot → Type 0
IsMade spot = spot.maker ≡ 0 → ⊥

-- spots in order: by the event's place, then by who made it
abbrev pub spot_cmp : Spot → Spot → Ordering
spot_cmp = then_cmp (on (λ s. s.pos) pos_cmp) (on (λ s. s.maker) nat_cmp)

-- the order of spots is total
pub spot_cmp_total : IsTotalOrder spot_cmp
spot_cmp_total = then_total (on_total (λ s. s.pos) pos_cmp_total) (on_total (λ s. s.maker) nat_cmp_total)

-- spots that tie are equal
pub spot_same : IsAntisymmetric spot_cmp
spot_same a b h =
    ap (λ (p : Pos × ℕ). record { pos = p.0; maker = p.1 })
    (exact_pairs pos_cmp nat_cmp pos_same exact_unsigned (a.pos, a.maker) (b.pos, b.maker) h)
