-- What `insert` of the blocks leaves is what the clause says, seen as a finite map.
use Rattle.std.proofs.Common.{◌≡◌, ◌+◌, ◌%◌, ◌^◌, [], ◌∷◌, cond, get_or, ap, sym, ◌∙◌, arith, None}
use Rattle.std.specs.Prelude.{is_some}
use Rattle.std.specs.FinMap as map
use Rattle.std.specs.FinMap.{len-insert}
use Rattle.std.proofs.lemmas.Int.{to_z-of_z}
use Rattle.ft_blocks.specs.Seen.{seen-put}
use Rattle.ft_hits.specs.Spots.{spot_cmp_total, spot_same}
use Rattle.ft_hits.specs.Hits.{EntryHits, unsigned_at, sums_of}
use Rattle.ft_hits.proofs.Columns.{column-more}
use Rattle.ft_hits.proofs.series.Series.insert.Goals as goal

pub returns-clause-ok : goal.returns-clause-ok
returns-clause-ok c =
    ap (λ es. map.from_entries es) c.in_ok-insert.ensures.ok
    ∙ seen-put spot_cmp_total spot_same c.self.inside.hits c.args.spot c.args.values
    ∙ ap (λ l. map.insert l c.args.spot c.args.values) c.self.view_is

pub invariant_of-self-2 : goal.invariant_of-self-2
invariant_of-self-2 c =
    let entry : EntryHits = map.from_entries c.self.inside.hits in
    let v = c.args.values in
    let sums : c.self.inside.sums ≡ sums_of entry = c.self.invariant.0 in
    let count : c.self.inside.count ≡ map.len entry = c.self.invariant.1 in
    let none : map.get entry c.args.spot ≡ None = ap (λ (l : EntryHits). map.get l c.args.spot) c.self.view_is ∙ c.requires in
    let new : map.from_entries c.insert.new.self ≡ map.insert entry c.args.spot v = ap (λ es. map.from_entries es) c.in_ok-insert.ensures.ok ∙ seen-put spot_cmp_total spot_same c.self.inside.hits c.args.spot v in
    let e0 : c.added.result ≡ (get_or c.self.inside.sums 0 0 + unsigned_at 0 v) % 2 ^ 64 = grind (arith, to_z-of_z, c.added.ensures) in
    let e1 : c.added-2.result ≡ (get_or c.self.inside.sums 1 0 + unsigned_at 1 v) % 2 ^ 64 = grind (arith, to_z-of_z, c.added-2.ensures) in
    let e2 : c.added-3.result ≡ (get_or c.self.inside.sums 2 0 + unsigned_at 2 v) % 2 ^ 64 = grind (arith, to_z-of_z, c.added-3.ensures) in
    let a = column-more 0 entry c.args.spot v _ _ none (ap (λ xs. get_or xs 0 0) sums) e0 in
    let b = column-more 1 entry c.args.spot v _ _ none (ap (λ xs. get_or xs 1 0) sums) e1 in
    let d = column-more 2 entry c.args.spot v _ _ none (ap (λ xs. get_or xs 2 0) sums) e2 in
    let more : map.len (map.insert entry c.args.spot v) ≡ map.len entry + 1 =
    len-insert spot_cmp_total entry c.args.spot v ∙ ap (λ o. cond (is_some o) (map.len entry) (map.len entry + 1)) none
    in (
      (λ i. a i ∷ b i ∷ d i ∷ []) ∙ ap sums_of (sym new),
      ap (λ n. n + 1) count ∙ sym more ∙ ap (λ (h : EntryHits). map.len h) (sym new),
      omega (arith, c.if-self-ge-MOST.false),
    )
