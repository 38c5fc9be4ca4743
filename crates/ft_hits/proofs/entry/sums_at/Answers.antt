-- What the tree answers at a key is what the finite map has there.
use Rattle.std.proofs.Common.{◌≡◌, ℕ, ◌%◌, ◌^◌, List, [], ◌∷◌, sym, ap, ◌∙◌, Some, None, unwrap_or}
use Rattle.std.specs.Prelude.{ℤ}
use Rattle.std.specs.List.{sum_by}
use Rattle.std.specs.Map.{values_of}
use Rattle.std.specs.FinMap as map
use Rattle.ft_hits.specs.declared.spot.Spot.{Spot}
use Rattle.ft_fields.specs.Parts.{key_cmp}
use Rattle.ft_hits.specs.Spots.{spot_cmp}
use Rattle.ft_hits.specs.Hits.{unsigned_at, sums_of}
use Rattle.ft_maps.specs.Seen.{seen, get-seen}
use Rattle.ft_fields.specs.Orders.{key_cmp_total}
use Rattle.ft_maps.specs.Entries.{entries-empty}
use Rattle.ft_hits.proofs.Flat.{hits_of-flat}
use Rattle.ft_hits.proofs.entry.sums_at.Goals as goal

abbrev total : ℕ → List (Spot × List ℤ) → ℕ
total j es = sum_by (unsigned_at j) (values_of es) % 2 ^ 64

pub returns-in-Some : goal.returns-in-Some
returns-in-Some c =
    let at : map.get (seen key_cmp c.args.by_key.now) c.args.key.now ≡ Some c.in-Some.entry.now = get-seen key_cmp_total c.args.by_key.now c.args.key.now ∙ sym c.in-Some.ensures.value in
    c.sums.ensures ∙ sym (ap sums_of (hits_of-flat (seen key_cmp c.args.by_key.now) c.args.key.now ∙ ap (λ o. unwrap_or o map.empty) at))

pub returns-in-None : goal.returns-in-None
returns-in-None c =
    let at : map.get (seen key_cmp c.args.by_key.now) c.args.key.now ≡ None = get-seen key_cmp_total c.args.by_key.now c.args.key.now ∙ sym c.in-None.ensures.value in
    sym (ap sums_of (hits_of-flat (seen key_cmp c.args.by_key.now) c.args.key.now ∙ ap (λ o. unwrap_or o map.empty) at)
    ∙ ap (λ (es : List (Spot × List ℤ)). total 0 es ∷ total 1 es ∷ total 2 es ∷ []) (entries-empty {X = List ℤ} spot_cmp))
