use Rattle.std.proofs.Common.{ℕ, ◌≡◌, [], sym, ap, ◌∙◌}
use Rattle.std.specs.Prelude.{fold}
use Rattle.std.specs.Ordering.{nat_cmp}
use Rattle.std.specs.FinMap as map
use Rattle.std.specs.Map.Iter.{deref_pair}
use Rattle.std.proofs.lemmas.Map.Iter.{rest_more, rest_all}
use Rattle.ft_hist.specs.Hist.{Hist}
use Rattle.ft_maps.specs.Seen.{seen, seen-empty}
use Rattle.ft_base.specs.Base.{Triggers}
use Rattle.ft_base.specs.Roles.{role_of}
use Rattle.ft_replay.specs.Counters.{Counters}
use Rattle.ft_replay.specs.inner.Replaying.{with_counter, new_counter}
use Rattle.ft_replay.proofs.Counters.{new_counters-fold}
use Rattle.ft_replay.proofs.replay.new_counters.Goals as goal

pub loop-id-init : goal.loop-id-init
loop-id-init c =
    let triggers : Triggers = c.args.triggers.now in
    ap (λ (counters : Counters). fold (with_counter triggers) counters c.into_iter-id-iterator.result) (seen-empty nat_cmp c.new-counters.result c.new-counters.ensures.empty)
    ∙ ap (fold (with_counter triggers) map.empty) (c.into_iter-id-iterator.ensures.into_iter_gives ∙ c.iter-id-items.ensures.rest)
    ∙ new_counters-fold triggers

pub loop-id-preserved : goal.loop-id-preserved
loop-id-preserved c =
    let triggers : Triggers = c.args.triggers.now in
    let counters : Counters = seen nat_cmp c.loop-id.counters in
    let e : ℕ × Hist = (c.in-Some.id.now, c.in-Some.attached.now) in
    let counter : c.new.result ≡ new_counter triggers e.1 =
    c.new.ensures ∙ (λ i. record { role = (c.role_of-role.ensures ∙ ap (role_of triggers) c.variable.ensures) i; table = record { hits = map.empty; size = c.size.ensures.value i }; pairs = [] }) in
    let put : seen nat_cmp c.put.new.map ≡ with_counter triggers counters e = c.in_ok-put.ensures.ok ∙ ap (map.insert counters e.0) counter in
    ap (λ (s : Counters). fold (with_counter triggers) s c.next.new.self) put
    ∙ sym (ap (fold (with_counter triggers) counters) (rest_more (deref_pair {K = ℕ} {X = Hist}) _ _ _ _ c.in-Some.is c.next.ensures.steps))
    ∙ c.loop-id.invariant

pub returns : goal.returns
returns c =
    sym (ap (fold (with_counter c.args.triggers.now) (seen nat_cmp c.loop-id.counters)) (rest_all (deref_pair {K = ℕ} {X = Hist}) _ _ _ c.in-None.is c.next.ensures.steps))
    ∙ c.loop-id.invariant
