-- A key that ties with the one at its number's index is that one, and what the tree has of a key is what the finite map has.
use Rattle.std.proofs.Common.{◌≡◌, List, Some, sym, ap, ◌∙◌, arith}
use Rattle.std.specs.Prelude.{slice_get}
use Rattle.std.proofs.lemmas.Grind.{common_steps}
use Rattle.std.proofs.lemmas.Option.{gets}
use Rattle.ft_fields.specs.declared.key.Part.{Part}
use Rattle.ft_fields.specs.Orders.{key_cmp_total}
use Rattle.ft_fields.specs.Ties.{key_same}
use Rattle.ft_maps.specs.Seen.{get-seen}
use Rattle.ft_groups.proofs.runs.Runs.index_of.Goals as goal

pub returns-in-Some-get : goal.returns-in-Some-get
returns-in-Some-get c =
    let index = c.in-Some.index in
    let keys : List (List Part) = c.deref.result.now in
    let found = c.in-Some-get.ensures.lookup in
    let same = key_same c.in-Some-get.other.now c.args.key.now in
    let stands : slice_get keys index ≡ Some c.args.key.now = grind (arith, common_steps, gets, found, same) in
    sym (c.requires.indexed.found c.args.key.now index (ap (λ (ks : List (List Part)). slice_get ks index) (sym c.deref.ensures.value) ∙ stands))

pub returns : goal.returns
returns c = c.copied.ensures ∙ c.get-2.ensures.value ∙ sym (get-seen key_cmp_total c.args.self.now.indices c.args.key.now)
