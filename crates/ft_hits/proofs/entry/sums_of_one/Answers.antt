use Rattle.std.proofs.Common.{◌≡◌, ◌+◌, ◌%◌, ◌^◌, [], ◌∷◌, arith}
use Rattle.std.proofs.lemmas.Int.{to_z-of_z}
use Rattle.ft_hits.specs.Hits.{unsigned_at}
use Rattle.ft_hits.proofs.Only.{column-only}
use Rattle.ft_hits.proofs.entry.sums_of_one.Goals as goal

pub returns : goal.returns
returns c spot =
    let v = c.args.values in
    let e0 : c.added.result ≡ (0 + unsigned_at 0 v) % 2 ^ 64 = grind (arith, to_z-of_z, c.added.ensures) in
    let e1 : c.added-2.result ≡ (0 + unsigned_at 1 v) % 2 ^ 64 = grind (arith, to_z-of_z, c.added-2.ensures) in
    let e2 : c.added-3.result ≡ (0 + unsigned_at 2 v) % 2 ^ 64 = grind (arith, to_z-of_z, c.added-3.ensures) in
    let a = column-only 0 (spot, v) _ e0 in
    let b = column-only 1 (spot, v) _ e1 in
    let d = column-only 2 (spot, v) _ e2 in
    (λ i. a i ∷ b i ∷ d i ∷ [])
