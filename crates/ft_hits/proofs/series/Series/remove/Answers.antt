-- What `remove` of the blocks leaves is what the clause says, seen as a finite map.
use Rattle.std.proofs.Common.{◌≡◌, ℕ, ◌<◌, ◌+◌, ◌-◌, ◌%◌, ◌^◌, [], ◌∷◌, cond, get_or, ap, sym, ◌∙◌, arith, Some}
use Rattle.std.specs.Prelude.{is_some}
use Rattle.std.specs.List.{sum_by}
use Rattle.std.specs.FinMap as map
use Rattle.std.specs.FinMap.{len-remove}
use Rattle.std.proofs.lemmas.Int.{to_z-of_z}
use Rattle.ft_blocks.specs.Seen.{get-found, seen-without, without-none}
use Rattle.ft_hits.specs.Spots.{spot_cmp, spot_cmp_total, spot_same}
use Rattle.ft_hits.specs.Hits.{EntryHits, unsigned_at, sums_of}
use Rattle.ft_hits.proofs.Columns.{column-less, some-len}
use Rattle.ft_hits.proofs.series.Series.remove.Goals as goal

pub returns-in-None-clause-left : goal.returns-in-None-clause-left
returns-in-None-clause-left c =
    ap (λ es. map.from_entries es) c.remove.ensures.left ∙ seen-without spot_cmp_total spot_same c.self.inside.hits c.args.spot ∙ ap (λ l. map.remove l c.args.spot) c.self.view_is

pub returns-in-Some-clause-left : goal.returns-in-Some-clause-left
returns-in-Some-clause-left c =
    ap (λ es. map.from_entries es) c.remove.ensures.left ∙ seen-without spot_cmp_total spot_same c.self.inside.hits c.args.spot ∙ ap (λ l. map.remove l c.args.spot) c.self.view_is

pub returns-in-None-clause-found : goal.returns-in-None-clause-found
returns-in-None-clause-found c =
    ap is_some (sym c.in-None.is ∙ c.remove.ensures.value ∙ sym (get-found spot_cmp_total c.self.inside.hits c.args.spot) ∙ ap (λ l. map.get l c.args.spot) c.self.view_is)

pub returns-in-Some-clause-found : goal.returns-in-Some-clause-found
returns-in-Some-clause-found c =
    ap is_some (sym c.in-Some.is ∙ c.remove.ensures.value ∙ sym (get-found spot_cmp_total c.self.inside.hits c.args.spot) ∙ ap (λ l. map.get l c.args.spot) c.self.view_is)

pub overflow_sub-self : goal.overflow_sub-self
overflow_sub-self c =
    let entry : EntryHits = map.from_entries c.self.inside.hits in
    let has : map.get entry c.args.spot ≡ Some c.in-Some.values = get-found spot_cmp_total c.self.inside.hits c.args.spot ∙ sym c.remove.ensures.value ∙ c.in-Some.is in
    let some : 0 < map.len entry = some-len entry c.args.spot c.in-Some.values has in
    omega (arith, some, c.self.invariant.1)

pub invariant_of-self : goal.invariant_of-self
invariant_of-self c =
    let same : c.remove.new.self ≡ c.self.inside.hits = c.remove.ensures.left ∙ without-none spot_cmp c.args.spot c.self.inside.hits (sym c.remove.ensures.value ∙ c.in-None.is) in
    let shown : map.from_entries {R = spot_cmp} c.remove.new.self ≡ map.from_entries c.self.inside.hits = ap (λ es. map.from_entries es) same in (
      c.self.invariant.0 ∙ ap sums_of (sym shown),
      c.self.invariant.1 ∙ ap (λ (h : EntryHits). map.len h) (sym shown),
      c.self.invariant.2,
    )

pub invariant_of-self-in-Some : goal.invariant_of-self-in-Some
invariant_of-self-in-Some c =
    let entry : EntryHits = map.from_entries c.self.inside.hits in
    let v = c.in-Some.values in
    let sums : c.self.inside.sums ≡ sums_of entry = c.self.invariant.0 in
    let count : c.self.inside.count ≡ map.len entry = c.self.invariant.1 in
    let few : c.self.inside.count < 2 ^ 63 = c.self.invariant.2 in
    let has : map.get entry c.args.spot ≡ Some v = get-found spot_cmp_total c.self.inside.hits c.args.spot ∙ sym c.remove.ensures.value ∙ c.in-Some.is in
    let new : map.from_entries c.remove.new.self ≡ map.remove entry c.args.spot = ap (λ es. map.from_entries es) c.remove.ensures.left ∙ seen-without spot_cmp_total spot_same c.self.inside.hits c.args.spot in
    let rest : ℕ → ℕ = λ j. sum_by (unsigned_at j) (map.values (map.remove entry c.args.spot)) in
    let p0 : get_or c.self.inside.sums 0 0 ≡ (rest 0 + unsigned_at 0 v) % 2 ^ 64 = column-less 0 entry c.args.spot v _ has (ap (λ xs. get_or xs 0 0) sums) in
    let p1 : get_or c.self.inside.sums 1 0 ≡ (rest 1 + unsigned_at 1 v) % 2 ^ 64 = column-less 1 entry c.args.spot v _ has (ap (λ xs. get_or xs 1 0) sums) in
    let p2 : get_or c.self.inside.sums 2 0 ≡ (rest 2 + unsigned_at 2 v) % 2 ^ 64 = column-less 2 entry c.args.spot v _ has (ap (λ xs. get_or xs 2 0) sums) in
    let a = c.taken.ensures (rest 0) (grind (arith, to_z-of_z, p0)) in
    let b = c.taken-in-Some.ensures (rest 1) (grind (arith, to_z-of_z, p1)) in
    let d = c.taken-in-Some-2.ensures (rest 2) (grind (arith, to_z-of_z, p2)) in
    let less : map.len (map.remove entry c.args.spot) ≡ map.len entry - 1 =
    len-remove spot_cmp_total entry c.args.spot ∙ ap (λ o. cond (is_some o) (map.len entry - 1) (map.len entry)) has
    in (
      (λ i. a i ∷ b i ∷ d i ∷ []) ∙ ap sums_of (sym new),
      ap (λ n. n - 1) count ∙ sym less ∙ ap (λ (h : EntryHits). map.len h) (sym new),
      omega (arith, few),
    )
