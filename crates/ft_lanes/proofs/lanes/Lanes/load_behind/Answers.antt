-- The events after the old store have slots of their own.
use Rattle.std.proofs.Common.{◌≡◌, ◌+◌, ◌++◌, List, sym, ap, ◌∙◌, subst, length, None, arith}
use Rattle.std.specs.Ordering.{nat_cmp}
use Rattle.std.specs.FinMap as map
use Rattle.std.proofs.lemmas.List.{length-append}
use Rattle.std.proofs.lemmas.Result.{on_ok_weaker}
use Rattle.ft_fields.specs.Traced.{Traced}
use Rattle.ft_maps.specs.Seen.{seen}
use Rattle.ft_lanes.specs.Held.{Lanes}
use Rattle.ft_lanes.specs.Loaded.{first_held, with_lanes}
use Rattle.ft_store.specs.Stored.{stored_at}
use Rattle.ft_lanes.specs.inner.Slots.{AllSlots, lanes_by, all_from, first_cpu, slots_in, AreStored}
use Rattle.ft_lanes.proofs.Views.{at_ok}
use Rattle.ft_lanes.proofs.Loads.{behind, first_held-slots, free-from, lanes-loaded, stored-all}
use Rattle.ft_lanes.proofs.lanes.Lanes.load_behind.Goals as goal

-- if the CPUs are free of lanes, they are free of slots
apart : (store : List Traced) (all : AllSlots) (lanes : Lanes) (es : List Traced) → lanes_by (stored_at store) all ≡ lanes → first_held lanes es ≡ None → first_cpu (map.contains_key all) es ≡ None
apart store all lanes es is none = first_held-slots (stored_at store) all es ∙ ap (λ m. first_held m es) is ∙ none

pub push_load-loaded-requires-clause-apart : goal.push_load-loaded-requires-clause-apart
push_load-loaded-requires-clause-apart c = ap (first_cpu (map.contains_key (seen nat_cmp c.self.inside.lanes))) (behind c.self.inside.store c.args.events c.append.new.self c.in_ok-first.first c.in_ok-append.ensures.ok (omega arith)) ∙ apart c.self.inside.store (seen nat_cmp c.self.inside.lanes) c.args.self.now c.args.events c.self.view_is c.requires.apart

pub invariant_of-self-2 : goal.invariant_of-self-2
invariant_of-self-2 c =
    let all = seen nat_cmp c.self.inside.lanes in
    let new = seen nat_cmp c.push_load-loaded.new.lanes in
    let store = c.self.inside.store in
    let es = c.args.events in
    let ok = c.if-is_err.ensures.value in
    let lent = behind c.self.inside.store c.args.events c.append.new.self c.in_ok-first.first c.in_ok-append.ensures.ok (omega arith) in
    subst (λ n. AreStored n (c.self.inside.held + c.len-count.result) new) (sym (ap length c.in_ok-append.ensures.ok ∙ length-append store es))
    (stored-all (length store) c.self.inside.held c.in_ok-first.first c.len-count.result es all new c.self.invariant c.in_ok-first.ensures.value (omega arith)
    (at_ok c.push_load-loaded.result ok c.push_load-loaded.ensures.ok ∙ ap (all_from all c.in_ok-first.first) lent)
    (at_ok c.push_load-loaded.result ok c.push_load-loaded.ensures.count ∙ ap (λ (l : List Traced). slots_in all + length l) lent))

pub returns-clause-ok : goal.returns-clause-ok
returns-clause-ok c =
    let all = seen nat_cmp c.self.inside.lanes in
    let store = c.self.inside.store in
    let es = c.args.events in
    let lent = behind c.self.inside.store c.args.events c.append.new.self c.in_ok-first.first c.in_ok-append.ensures.ok (omega arith) in
    on_ok_weaker c.push_load-loaded.result (λ e.
    (λ i. lanes_by (stored_at (c.in_ok-append.ensures.ok i)) (e i))
    ∙ (λ i. lanes_by (stored_at (store ++ es)) (all_from all (c.in_ok-first.ensures.value i) (lent i)))
    ∙ lanes-loaded store es all c.self.invariant.within (free-from all es (apart c.self.inside.store (seen nat_cmp c.self.inside.lanes) c.args.self.now c.args.events c.self.view_is c.requires.apart))
    ∙ ap (λ (lanes : Lanes). with_lanes lanes es) c.self.view_is) c.push_load-loaded.ensures.ok
