-- The marks from the start on are those near the table's edge.
use Rattle.std.proofs.Common.{◌≡◌, ℕ, zero, suc, ◌-◌, ◌<◌, ◌≤◌, List, [], ◌∷◌, length, min, take, drop, map as list_map, ap, sym, ◌∙◌, arith, refl, Some, None, inl, inr}
use Rattle.std.specs.Prelude.{slice_get}
use Rattle.std.specs.List.{filter}
use Rattle.std.specs.Map.{keys_of}
use Rattle.std.proofs.lemmas.Bool.{cases_lt}
use Rattle.std.proofs.lemmas.List.{take_all, length-drop}
use Rattle.std.proofs.lemmas.Option.{none-some, slice_get_within, get_or_from_slice_get}
use Rattle.std.proofs.lemmas.Result.{IfOk-weaker}
use Rattle.ft_hits.specs.declared.mark.Mark.{Mark}
use Rattle.ft_hits.specs.Marks.{mark_cmp}
use Rattle.ft_table.specs.Tabled.{order_of}
use Rattle.ft_table.specs.inner.Ascending.{IsRank}
use Rattle.ft_table.proofs.AtEdge.{rank_at}
use Rattle.ft_table.proofs.Comings.{rises_any}
use Rattle.ft_table.proofs.Distinct.{key_of}
use Rattle.ft_changes.specs.Rivals.{is_of}
use Rattle.ft_changes.specs.inner.Edge.{inside, others_of}
use Rattle.ft_changes.proofs.Fronts.{nothing}
use Rattle.ft_changes.proofs.FromMark.{from_rank, all_before, by_marks, others_same}
use Rattle.ft_changes.proofs.NearEdge.{near_edge}
use Rattle.ft_changes.proofs.edge.rivals.Goals as goal

short_of : (ms : List Mark) (n : ℕ) → None ≡ slice_get ms n → length ms ≤ n
short_of ms n none = elim (cases_lt n (length ms)) [
  | inl lt ↦ absurd (some_at ms n lt none)
  | inr le ↦ le
] where
  some_at : (ms : List Mark) (n : ℕ) → n < length ms → None ≡ slice_get ms n → ⊥
  some_at [] n lt none = omega (arith, lt)
  some_at (m ∷ ms) zero lt none = none-some m none
  some_at (m ∷ ms) (suc n) lt none = some_at ms n (omega (arith, lt)) none

pub returns-in-None : goal.returns-in-None
returns-in-None c =
    let keys = c.args.keys.now in
    let table = c.args.table.now in
    let order : List Mark = order_of table.hits in
    let few = c.min-few.result in
    let start : ℕ = min (table.size - few) (length order) in
    let passed : ℕ = length (filter (is_of (inside order start)) keys) in
    let none : length order ≤ table.size - few = short_of order (table.size - few) (sym c.in-None.is ∙ c.mark_near_edge.ensures) in
    let zero_left : length order - start ≡ 0 = omega (arith, none) in
    c.new.ensures.items ∙ ap (list_map key_of) (sym (nothing few passed))
    ∙ ap (λ n. list_map key_of (take few (drop passed (others_of keys (take n (drop start order)))))) (sym zero_left)
    ∙ near_edge table keys c.requires order refl few start passed (omega (arith, c.min-few.ensures, c.size.ensures)) refl refl

pub returns-in_ok-sorted-in-Some : goal.returns-in_ok-sorted-in-Some
returns-in_ok-sorted-in-Some c =
    let keys = c.args.keys.now in
    let table = c.args.table.now in
    let order : List Mark = order_of table.hits in
    let few = c.min-few.result in
    let start : ℕ = table.size - few in
    let m = c.in-Some.start in
    let sorted = c.in_ok-sorted-in-Some.sorted in
    let found : slice_get order start ≡ Some m = sym c.mark_near_edge.ensures ∙ c.in-Some.is in
    let within = slice_get_within order start m found in
    let at : IsRank mark_cmp order m start = rank_at order m start (rises_any table.hits) within (λ d. get_or_from_slice_get order start m d found) in
    let passed : c.count_before-passed.result ≡ length (filter (is_of (inside order start)) keys) = c.count_before-passed.ensures ∙ ap length (all_before table.hits keys m start at) in
    let marks : keys_of c.marks_from.result ≡ take (length order - start) (drop start order) =
    c.marks_from.ensures ∙ from_rank m order start at ∙ sym (take_all (length order - start) (drop start order) (omega (arith, length-drop start order))) in
    IfOk-weaker c.other_keys.result _ _ (λ keys_found is.
    is ∙ by_marks sorted c.marks_from.result few c.count_before-passed.result
    ∙ ap (λ (ms : List Mark). list_map (λ m. m.key) (take few (drop c.count_before-passed.result ms))) (others_same sorted keys c.in_ok-sorted-in-Some.ensures (keys_of c.marks_from.result))
    ∙ ap (λ (ms : List Mark). list_map (λ m. m.key) (take few (drop c.count_before-passed.result (others_of keys ms)))) marks
    ∙ near_edge table keys c.requires order refl few start c.count_before-passed.result (omega (arith, c.min-few.ensures, c.size.ensures)) (omega (arith, within)) passed)
    c.other_keys.ensures
