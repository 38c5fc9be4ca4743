-- A key is in exactly if its first mark is.
use Rattle.std.proofs.Common.{List, take, map as list_map, sym, ap, subst, ◌∙◌}
use Rattle.std.specs.List.{Contains, list_any}
use Rattle.ft_fields.specs.Parts.{same_key}
use Rattle.ft_hits.specs.declared.mark.Mark.{Mark}
use Rattle.ft_hits.specs.Marks.{mark_cmp}
use Rattle.ft_hits.proofs.Flat.{mark}
use Rattle.ft_table.specs.inner.Ascending.{IsRank}
use Rattle.ft_table.specs.Tabled.{Tabled, is_in}
use Rattle.ft_table.proofs.Firsts.{order-none, order-some}
use Rattle.ft_table.proofs.Members.{in-without, in-with}
use Rattle.ft_table.proofs.Standings.{rank_with, stands}
use Rattle.ft_table.proofs.table.Table.is_in.Goals as goal

pub is_inside-requires : goal.is_inside-requires
is_inside-requires c =
    let m = mark c.in-Some.spot c.args.key.now in
    subst (λ ms. Contains ms m) (sym (c.self.invariant.order ∙ order-some c.self.inside.hits c.args.key.now c.in-Some.spot (sym c.first_at.ensures ∙ c.in-Some.is))) (stands c.self.inside.hits m 0)

pub returns-in-Some : goal.returns-in-Some
returns-in-Some c =
    let hits = c.self.inside.hits in
    let key = c.args.key.now in
    let m = mark c.in-Some.spot key in
    let size = c.self.inside.ranked.order.size in
    let order = order-some hits key c.in-Some.spot (sym c.first_at.ensures ∙ c.in-Some.is) in
    let at = rank_with hits m size in
    c.is_inside.ensures at.0 (subst (λ ms. IsRank mark_cmp ms m at.0) (sym (c.self.invariant.order ∙ order)) at.1)
    ∙ sym (in-with hits size m at.0 at.1)
    ∙ ap (λ (ms : List Mark). list_any (same_key key) (list_map (λ m. m.key) (take size ms))) (sym order)
    ∙ ap (λ (t : Tabled). is_in t key) c.self.view_is

pub returns-in-None : goal.returns-in-None
returns-in-None c =
    let hits = c.self.inside.hits in
    let key = c.args.key.now in
    let size = c.self.inside.ranked.order.size in
    let order = order-none hits key (sym c.first_at.ensures ∙ c.in-None.is) in
    sym (in-without hits size key)
    ∙ ap (λ (ms : List Mark). list_any (same_key key) (list_map (λ m. m.key) (take size ms))) (sym order)
    ∙ ap (λ (t : Tabled). is_in t key) c.self.view_is
