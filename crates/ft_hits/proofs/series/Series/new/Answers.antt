-- No values have no sums.
use Rattle.std.proofs.Common.{◌≡◌, sym, ap, ◌∙◌, arith}
use Rattle.std.specs.Prelude.{ℤ, List}
use Rattle.std.specs.FinMap as map
use Rattle.std.specs.FinMap.{len-empty}
use Rattle.ft_hits.specs.Spots.{spot_cmp}
use Rattle.ft_hits.specs.Hits.{EntryHits, sums_of}
use Rattle.ft_hits.proofs.Only.{sums-empty}
use Rattle.ft_hits.proofs.series.Series.new.Goals as goal

pub invariant_of-result : goal.invariant_of-result
invariant_of-result c =
    let empty : map.from_entries {R = spot_cmp} c.new.result ≡ map.empty = ap (λ es. map.from_entries {R = spot_cmp} es) c.new.ensures in
    (sym (ap sums_of empty ∙ sums-empty), sym (ap (λ (h : EntryHits). map.len h) empty ∙ len-empty spot_cmp (List ℤ)), omega arith)
