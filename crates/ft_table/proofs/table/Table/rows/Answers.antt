-- What was sorted is the rows of the keys in the table, no two of one key.
use Rattle.std.proofs.Common.{◌≡◌, ℕ, zero, suc, List, [], ◌∷◌, length, take, map as list_map, refl, sym, ap, subst, ◌∙◌}
use Rattle.std.specs.Map.{keys_of}
use Rattle.ft_hits.specs.declared.mark.Mark.{Mark}
use Rattle.ft_hits.specs.Hits.{Hits}
use Rattle.ft_table.specs.Counted.{Counted}
use Rattle.ft_table.specs.Sorting.{in_order, HasDistinctKeys}
use Rattle.ft_table.specs.inner.InStep.{table_of}
use Rattle.ft_table.specs.Rows.{counted_row, rows_of}
use Rattle.ft_table.specs.Tabled.{Tabled}
use Rattle.ft_table.proofs.Distinct.{rows_distinct, rows-listed}
use Rattle.ft_table.proofs.table.Table.rows.Goals as goal

of_keys : {X : Type 0} (hits : Hits) (es : List (Mark × X)) (n : ℕ) → list_map (λ e. counted_row hits e.0.key) (take n es) ≡ list_map (λ mark. counted_row hits mark.key) (take n (keys_of es))
of_keys hits [] zero = refl
of_keys hits [] (suc n) = refl
of_keys hits (e ∷ es) zero = refl
of_keys hits (e ∷ es) (suc n) = ap (λ (rows : List Counted). counted_row hits e.0.key ∷ rows) (of_keys hits es n)

pub sort_rows-requires : goal.sort_rows-requires
sort_rows-requires c =
    let hits : Hits = c.self.inside.hits in
    let order = c.self.inside.ranked.order in
    let listed = rows-listed hits order.marks (keys_of c.marks.result) c.inside.result (length order.marks) order.size c.in_ok-rows.rows.items c.inside.ensures refl c.marks.ensures c.self.invariant.order (c.in_ok-rows.ensures ∙ of_keys hits c.marks.result c.inside.result) in
    subst HasDistinctKeys (sym listed) (rows_distinct (table_of c.self.inside))

pub returns : goal.returns
returns c =
    let sort = c.args.sort.now in
    let hits : Hits = c.self.inside.hits in
    let order = c.self.inside.ranked.order in
    let listed = rows-listed hits order.marks (keys_of c.marks.result) c.inside.result (length order.marks) order.size c.in_ok-rows.rows.items c.inside.ensures refl c.marks.ensures c.self.invariant.order (c.in_ok-rows.ensures ∙ of_keys hits c.marks.result c.inside.result) in
    c.sort_rows.ensures ∙ ap (λ (rows : List Counted). in_order sort rows) listed ∙ ap (λ (t : Tabled). rows_of t sort) c.self.view_is
