-- Places in the merged order.
use Rattle.std.specs.Prelude.{ℕ}
use Rattle.std.specs.declared.cmp.Ordering.{Ordering}
use Rattle.std.specs.Ordering.{nat_cmp, on, then_cmp}
use Rattle.std.specs.Cmp.{IsTotalOrder, on_total, then_total, nat_cmp_total}
use Rattle.std.specs.FinMap.{IsAntisymmetric}
use Rattle.std.proofs.Common.{ap}
use Rattle.std.proofs.lemmas.Map.Lookups.{exact_pairs, exact_unsigned}
use Rattle.ft_fields.specs.declared.pos.Pos.{Pos}

-- places in order: by stamp, then CPU, then line
abbrev pub pos_cmp : Pos → Pos → Ordering
pos_cmp = then_cmp (on (λ p. p.stamp) nat_cmp) (then_cmp (on (λ p. p.cpu) nat_cmp) (on (λ p. p.line) nat_cmp))

-- the order of places is total
pub pos_cmp_total : IsTotalOrder pos_cmp
pos_cmp_total = then_total (on_total (λ p. p.stamp) nat_cmp_total) (then_total (on_total (λ p. p.cpu) nat_cmp_total) (on_total (λ p. p.line) nat_cmp_total))

-- places that tie are equal
pub pos_same : IsAntisymmetric pos_cmp
pos_same a b h =
    ap (λ (p : ℕ × (ℕ × ℕ)). record { stamp = p.0; cpu = p.1.0; line = p.1.1 })
    (exact_pairs nat_cmp _ exact_unsigned (exact_pairs nat_cmp nat_cmp exact_unsigned exact_unsigned) (a.stamp, (a.cpu, a.line)) (b.stamp, (b.cpu, b.line)) h)
