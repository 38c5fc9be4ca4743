-- Variables: what a saver saves for one key (kernel: histogram.rst, inter-event hist triggers).
use Rattle.std.specs.Prelude.{ℕ, List}
use Rattle.std.specs.declared.cmp.Ordering.{Ordering}
use Rattle.std.specs.Ordering.{nat_cmp, on, then_cmp}
use Rattle.std.specs.Cmp.{IsTotalOrder, on_total, then_total, nat_cmp_total}
use Rattle.std.specs.FinMap.{IsAntisymmetric}
use Rattle.std.proofs.Common.{ap}
use Rattle.std.proofs.lemmas.Map.Lookups.{exact_pairs, exact_unsigned}
use Rattle.ft_fields.specs.declared.key.Part.{Part}
use Rattle.ft_fields.specs.Parts.{key_cmp}
use Rattle.ft_fields.specs.Orders.{key_cmp_total}
use Rattle.ft_fields.specs.Ties.{key_same}
use Rattle.ft_pairs.specs.declared.role.Variable.{Variable}

-- variables in order: by the saver's id, then by key
abbrev pub variable_cmp : Variable → Variable → Ordering
variable_cmp = then_cmp (on (λ v. v.saver) nat_cmp) (on (λ v. v.key) key_cmp)

-- the order of variables is total
pub variable_cmp_total : IsTotalOrder variable_cmp
variable_cmp_total = then_total (on_total (λ v. v.saver) nat_cmp_total) (on_total (λ v. v.key) key_cmp_total)

-- variables that tie are equal
pub variable_same : IsAntisymmetric variable_cmp
variable_same a b h =
    ap (λ (p : ℕ × List Part). record { saver = p.0; key = p.1 })
    (exact_pairs nat_cmp key_cmp exact_unsigned key_same (a.saver, a.key) (b.saver, b.key) h)
