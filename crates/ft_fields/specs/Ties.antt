-- Parts and keys that tie in the order are equal, by which finite maps tell them apart.
use Rattle.std.specs.Prelude.{ℕ, ℤ, List}
use Rattle.std.specs.Ordering.{nat_cmp, int_cmp}
use Rattle.std.specs.Cmp.Lexicographic.{slice_cmp}
use Rattle.std.specs.FinMap.{IsAntisymmetric, slice_cmp-IsAntisymmetric}
use Rattle.std.proofs.Common.{sym, ap, ◌∙◌}
use Rattle.std.proofs.lemmas.Map.Lookups.{exact_pairs, exact_unsigned, exact_signed, exact_bytes}
use Rattle.ft_fields.specs.Parts.{part_kind, part_number, bytes_of, part_with, part_with-of, part_cmp, key_cmp}

-- parts that tie are equal
pub part_same : IsAntisymmetric part_cmp
part_same a b tie =
    sym (part_with-of a)
    ∙ ap (λ (p : ℕ × (ℤ × List ℕ)). part_with p.0 p.1.0 p.1.1)
    (exact_pairs nat_cmp _ exact_unsigned (exact_pairs int_cmp (slice_cmp nat_cmp) exact_signed exact_bytes)
    (part_kind a, (part_number a, bytes_of a)) (part_kind b, (part_number b, bytes_of b)) tie)
    ∙ part_with-of b

-- keys that tie are equal
pub key_same : IsAntisymmetric key_cmp
key_same = slice_cmp-IsAntisymmetric part_same
