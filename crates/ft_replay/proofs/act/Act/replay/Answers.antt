-- The counter that `get_mut` finds is the one that the finite map has.
use Rattle.std.proofs.Common.{◌≡◌, Some, None, sym, ap, ◌∙◌}
use Rattle.std.specs.Ordering.{nat_cmp}
use Rattle.std.specs.Cmp.{nat_cmp_total}
use Rattle.std.specs.FinMap as map
use Rattle.std.specs.FinMap.{nat_cmp-IsAntisymmetric}
use Rattle.std.proofs.lemmas.Result.{on_ok_weaker}
use Rattle.ft_maps.specs.Seen.{seen, get-seen, seen-found}
use Rattle.ft_replay.specs.Counters.{Counting, Counters}
use Rattle.ft_replay.specs.inner.Replaying.{Saved}
use Rattle.ft_pairs.specs.Variables.{variable_cmp}
use Rattle.ft_replay.proofs.Counting.{after_act-no_hit, after_act-no_counter, after_act-hit}
use Rattle.ft_replay.proofs.act.Act.replay.Goals as goal

pub returns-in_default-clause-acts : goal.returns-in_default-clause-acts
returns-in_default-clause-acts c =
    sym (after_act-no_hit c.args.self.now.trigger.now c.args.self.now.event.now c.args.self.now.at (seen nat_cmp c.args.counters.now) (seen variable_cmp c.args.saved.now) (sym c.in_default.ensures.value))

pub count-requires-clause-free : goal.count-requires-clause-free
count-requires-clause-free c =
    c.requires.free c.in-Some-get_mut.counter.now c.in-Some.key (get-seen nat_cmp_total c.args.counters.now c.args.self.now.at.trigger ∙ sym c.in-Some-get_mut.ensures.value)

pub returns-in-Some-get_mut-clause-acts : goal.returns-in-Some-get_mut-clause-acts
returns-in-Some-get_mut-clause-acts c =
    let counters : Counters = seen nat_cmp c.args.counters.now in
    let saved : Saved = seen variable_cmp c.args.saved.now in
    let there : map.get counters c.args.self.now.at.trigger ≡ Some c.in-Some-get_mut.counter.now = get-seen nat_cmp_total c.args.counters.now c.args.self.now.at.trigger ∙ sym c.in-Some-get_mut.ensures.value in
    let written : seen nat_cmp (c.get_mut.follows.lender c.count.new.counter) ≡ map.insert counters c.args.self.now.at.trigger c.count.new.counter =
    seen-found nat_cmp_total nat_cmp-IsAntisymmetric c.args.counters.now (c.get_mut.follows.lender c.count.new.counter) c.args.self.now.at.trigger c.in-Some-get_mut.counter.now c.count.new.counter
    c.in-Some-get_mut.ensures.value (c.get_mut.follows.holds c.count.new.counter) in
    on_ok_weaker c.count.result (λ e.
    ap (λ (s : Counters). (s, seen variable_cmp c.count.new.saved)) written
    ∙ ap (λ (p : Counting × Saved). (map.insert counters c.args.self.now.at.trigger p.0, p.1)) e
    ∙ sym (after_act-hit c.args.self.now.trigger.now c.args.self.now.event.now c.args.self.now.at counters saved c.in-Some.key c.in-Some-get_mut.counter.now (sym c.in-Some.ensures.value) there)) c.count.ensures.acts

pub returns-in-None-clause-acts : goal.returns-in-None-clause-acts
returns-in-None-clause-acts c =
    let counters : Counters = seen nat_cmp c.args.counters.now in
    let none : map.get counters c.args.self.now.at.trigger ≡ None = get-seen nat_cmp_total c.args.counters.now c.args.self.now.at.trigger ∙ sym c.in-None.ensures.value in
    ap (λ m. (seen nat_cmp m, seen variable_cmp c.args.saved.now)) c.get_mut.follows.holds-at-none
    ∙ sym (after_act-no_counter c.args.self.now.trigger.now c.args.self.now.event.now c.args.self.now.at counters (seen variable_cmp c.args.saved.now) c.in-Some.key (sym c.in-Some.ensures.value) none)
