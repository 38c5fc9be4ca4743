use Rattle.std.proofs.Common.{rules, ◌≡◌, List, reverse, ap, sym, subst, ◌∙◌}
use Rattle.std.specs.Prelude.{IfOk, IsPermutation}
use Rattle.std.specs.List.Sorted.{IsStrictlySortedBy}
use Rattle.std.specs.FinMap as map
use Rattle.std.proofs.lemmas.Iterator.{YieldsList-from_map, items_from_collect}
use Rattle.std.proofs.lemmas.Iterator.Consumers.{YieldsList-at, YieldsList-from_rest}
use Rattle.std.proofs.lemmas.List.{reverse-reverse}
use Rattle.ft_fields.specs.Places.{pos_cmp}
use Rattle.ft_fields.specs.declared.pos.Pos.{Pos}
use Rattle.ft_maps.specs.Seen.{seen}
use Rattle.ft_session.proofs.Fronts.{front_listed, in_order}
use Rattle.ft_session.proofs.front.front_of.Goals as goal

-- the set's places, in order
listed : (c : goal.After-drop-held-2) → c.in_ok-front.front.items ≡ map.keys (seen pos_cmp c.held_first-held.result)
listed c =
    subst (λ r. IfOk r (λ w. w.items ≡ map.keys (seen pos_cmp c.held_first-held.result))) c.in_ok-front.was
    (items_from_collect c.collect.result c.collect.ensures.ran
    (YieldsList-from_map _ (λ e. e.0) (YieldsList-at c.map.ensures.source (YieldsList-from_rest _ c.entries.ensures.rest)) c.map.ensures.closure (λ x r q k. search rules)))

pub returns-clause-front : goal.returns-clause-front
returns-clause-front c = front_listed c.args.desk.now.base c.args.places.now (seen pos_cmp c.held_first-held.result) c.held_first-held.ensures c.reverse.new.self.items
    (subst (λ (es : List Pos). IsPermutation es c.reverse.new.self.items) (listed c) c.reverse.ensures.permutation)

pub returns-clause-last : goal.returns-clause-last
returns-clause-last c =
    let same : map.keys (seen pos_cmp c.held_first-held.result) ≡ reverse c.reverse.new.self.items =
    sym (ap reverse c.reverse.ensures.items ∙ reverse-reverse c.in_ok-front.front.items ∙ listed c) in
    subst (λ (es : List Pos). IsStrictlySortedBy pos_cmp es) same (in_order (seen pos_cmp c.held_first-held.result))
