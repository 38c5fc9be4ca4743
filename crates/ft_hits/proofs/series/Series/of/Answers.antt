-- A run in order is what its blocks show, with its sums and as many hits.
use Rattle.std.proofs.Common.{◌≡◌, length, sym, ap, subst, ◌∙◌, arith}
use Rattle.std.specs.FinMap as map
use Rattle.ft_blocks.specs.Sorted.{Ascend}
use Rattle.ft_hits.specs.Spots.{spot_cmp}
use Rattle.ft_hits.specs.Hits.{sums_of}
use Rattle.ft_hits.proofs.Runs.{len-ascend}
use Rattle.ft_hits.proofs.series.Series.of.Goals as goal

pub of-requires : goal.of-requires
of-requires c = subst (Ascend spot_cmp) c.deref.ensures.value c.in-Some.ensures.rise

pub invariant_of-result : goal.invariant_of-result
invariant_of-result c =
    let run = c.args.run in
    let up : Ascend spot_cmp run.items = subst (Ascend spot_cmp) c.deref.ensures.value c.in-Some.ensures.rise in
    let same = c.in_ok-hits-in-Some.ensures in
    let count : c.len-count.result ≡ length run.items = c.len-count.ensures ∙ run.ok.0 in (
      c.in-Some.ensures.sums ∙ ap (λ es. sums_of (map.from_entries es)) (c.deref.ensures.value ∙ sym same),
      count ∙ sym (len-ascend run.items up) ∙ ap (λ es. map.len (map.from_entries {R = spot_cmp} es)) (sym same),
      grind (arith, c.len-count.ensures, run.small),
    )
