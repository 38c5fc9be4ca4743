use Rattle.std.proofs.Common.{rules, ◌≡◌, List, reverse, ap, sym, subst, ◌∙◌}
use Rattle.std.specs.Prelude.{IsPermutation}
use Rattle.std.specs.List.Sorted.{IsSortedByKey}
use Rattle.std.proofs.lemmas.Fn.{always_returns_same}
use Rattle.std.proofs.lemmas.List.{reverse-reverse}
use Rattle.std.proofs.lemmas.List.Sorted.{IsPermutation-map, IsPermutation-trans}
use Rattle.ft_fields.specs.Places.{pos_cmp}
use Rattle.ft_fields.specs.Traced.{Traced}
use Rattle.ft_fields.specs.declared.pos.Pos.{Pos}
use Rattle.ft_maps.specs.Mapped.{entries_by}
use Rattle.ft_store.specs.Stored.{held}
use Rattle.ft_store.specs.declared.stored.Stored.{Stored}
use Rattle.ft_repair.proofs.lane.last_first.Goals as goal

pub returns-clause-all : goal.returns-clause-all
returns-clause-all c =
    subst (λ (es : List (Pos × Traced)). IsPermutation es (entries_by held c.reverse.new.self.items)) c.in_ok-events.ensures
    (IsPermutation-map (λ (e : Pos × Stored). (e.0, held e.1)) c.in_ok-events.events.items c.reverse.new.self.items
    (IsPermutation-trans _ _ _ c.sort_by_key.ensures.permutation c.reverse.ensures.permutation))

pub returns-clause-last : goal.returns-clause-last
returns-clause-last c =
    subst (IsSortedByKey (λ (e : Pos × Stored). e.0) pos_cmp) (sym (ap reverse c.reverse.ensures.items ∙ reverse-reverse c.sort_by_key.new.self.items))
    (c.in_ok-sort_by_key.ensures.sorted (λ entry. entry.0) (always_returns_same _ (λ a r. r ≡ a.0.now.0) _ (λ a r q k. search rules)))
