-- A key's entry without hits is the empty map.
use Rattle.std.proofs.Common.{◌≡◌, sym, ap, ◌∙◌, arith, Some}
use Rattle.std.specs.FinMap as map
use Rattle.std.specs.FinMap.{empty_of_len}
use Rattle.std.proofs.lemmas.Bool.Decides.{nat_tests}
use Rattle.ft_fields.specs.Parts.{key_cmp}
use Rattle.ft_fields.specs.Orders.{key_cmp_total}
use Rattle.ft_maps.specs.Seen.{seen, get-seen}
use Rattle.ft_hits.specs.Hits.{EntryHits}
use Rattle.ft_hits.proofs.entry.is_clear.Goals as goal

pub returns-in-Some : goal.returns-in-Some
returns-in-Some c zero =
    let none : c.len.result ≡ 0 = grind (arith, nat_tests, zero) in
    let at : map.get (seen key_cmp c.args.by_key.now) c.args.key.now ≡ Some c.in-Some.entry.now = get-seen key_cmp_total c.args.by_key.now c.args.key.now ∙ sym c.in-Some.ensures.value in
    at ∙ ap (λ (es : EntryHits). Some es) (empty_of_len c.in-Some.entry.now (sym c.len.ensures.len ∙ none))
