-- The order in which triggers act.
use Rattle.std.specs.Prelude.{ℕ}
use Rattle.std.specs.declared.cmp.Ordering.{Ordering}
use Rattle.std.specs.Ordering.{nat_cmp, on, then_cmp}
use Rattle.std.specs.Cmp.{IsTotalOrder, on_total, then_total, nat_cmp_total}
use Rattle.std.specs.FinMap.{IsAntisymmetric}
use Rattle.std.proofs.Common.{ap}
use Rattle.std.proofs.lemmas.Map.Lookups.{exact_pairs, exact_unsigned}
use Rattle.ft_fields.specs.declared.pos.Pos.{Pos}
use Rattle.ft_fields.specs.Places.{pos_cmp, pos_cmp_total, pos_same}
use Rattle.ft_pairs.specs.declared.at.At.{At}

-- acts in order: by the event's place, then by the trigger's id
abbrev pub at_cmp : At → At → Ordering
at_cmp = then_cmp (on (λ at. at.pos) pos_cmp) (on (λ at. at.trigger) nat_cmp)

-- the order of acts is total
pub at_cmp_total : IsTotalOrder at_cmp
at_cmp_total = then_total (on_total (λ at. at.pos) pos_cmp_total) (on_total (λ at. at.trigger) nat_cmp_total)

-- acts that tie are one
pub at_same : IsAntisymmetric at_cmp
at_same a b h =
    ap (λ (p : Pos × ℕ). record { pos = p.0; trigger = p.1 })
    (exact_pairs pos_cmp nat_cmp pos_same exact_unsigned (a.pos, a.trigger) (b.pos, b.trigger) h)
