-- A tree without entries has no key.
use Rattle.std.proofs.Common.{ap, sym, ◌∙◌}
use Rattle.std.specs.FinMap as map
use Rattle.std.specs.FinMap.{get-empty}
use Rattle.std.proofs.lemmas.Bool.{eqb-true}
use Rattle.std.proofs.lemmas.List.{nil_from_length}
use Rattle.ft_fields.specs.Parts.{key_cmp}
use Rattle.ft_maps.specs.Seen.{seen-empty}
use Rattle.ft_pairs.specs.ByKey.{OpsByKey}
use Rattle.ft_pairs.proofs.Found.{found_in}
use Rattle.ft_pairs.proofs.pairs.Pairs.is_empty.Goals as goal

pub returns : goal.returns
returns c none key at =
    let m = c.self.inside.by_key in
    let empty = nil_from_length m.entries (sym c.len.ensures.len ∙ eqb-true c.len.result 0 none) in
    ap (λ held. found_in held at)
    (ap (λ (l : OpsByKey). map.get l key) (sym c.self.view_is ∙ seen-empty key_cmp m empty) ∙ get-empty key_cmp key)
