-- Without first hits there are none, and without hits no first ones.
use Rattle.std.proofs.Common.{◌≡◌, ◌+◌, List, [], ◌∷◌, length, take, drop, map as list_map, refl, sym, ap, ◌∙◌, arith}
use Rattle.std.specs.List.{sum_by}
use Rattle.std.specs.FinMap as map
use Rattle.std.specs.FinMap.{empty_of_len}
use Rattle.std.proofs.lemmas.Bool.{eq-eqb, eqb-true}
use Rattle.ft_hits.specs.declared.mark.Mark.{Mark}
use Rattle.ft_hits.specs.Hits.{Hits, hitcount}
use Rattle.ft_table.specs.Tabled.{Tabled, order_of}
use Rattle.ft_table.proofs.Empty.{order-empty}
use Rattle.ft_table.proofs.Tallies.{whole_count}
use Rattle.ft_table.proofs.table.Table.is_empty.Goals as goal

no_marks : (ms : List Mark) → length ms ≡ 0 → ms ≡ []
no_marks [] is = refl
no_marks (m ∷ ms) is = cc

no_hits : (hits : Hits) → order_of hits ≡ [] → hits ≡ map.empty
no_hits hits none =
    let table : Tabled = record { hits = hits; size = 0 } in
    empty_of_len hits (sym (whole_count table) ∙ ap (λ (ms : List Mark). sum_by (hitcount hits) (list_map (λ m. m.key) (take 0 ms)) + sum_by (hitcount hits) (list_map (λ m. m.key) (drop 0 ms))) none)

pub returns : goal.returns
returns c =
    let order = c.self.invariant.order in
    let room = c.self.invariant.room in
    let inside = c.inside.ensures in
    let same : c.self.inside.hits ≡ c.args.self.now.hits = ap (λ (t : Tabled). t.hits) c.self.view_is in (
      λ is. let none : c.inside.result ≡ 0 = eqb-true _ 0 is in sym same ∙ no_hits c.self.inside.hits (sym order ∙ no_marks c.self.inside.ranked.order.marks (omega (arith, none, room, inside))),
      λ none.
          let empty : length c.self.inside.ranked.order.marks ≡ 0 = ap (λ (ms : List Mark). length ms) (order ∙ ap order_of (same ∙ none) ∙ order-empty) in
          eq-eqb _ 0 (omega (arith, empty, inside)),
    )
