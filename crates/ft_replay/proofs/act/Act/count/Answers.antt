-- An unset variable, unset again, changes nothing.
use Rattle.std.proofs.Common.{◌≡◌, None, sym, ap, ◌∙◌}
use Rattle.std.specs.FinMap as map
use Rattle.ft_maps.specs.Seen.{seen}
use Rattle.ft_table.specs.Values.{values_at}
use Rattle.ft_replay.specs.inner.Replaying.{Saved, after_hit}
use Rattle.ft_pairs.specs.Variables.{variable_cmp, variable_cmp_total, variable_same}
use Rattle.ft_pairs.specs.declared.role.Variable.{Variable}
use Rattle.ft_pairs.specs.declared.role.Role.{Role}
use Rattle.ft_replay.proofs.Counting.{remove_absent, after_hit-unset}
use Rattle.ft_replay.proofs.act.Act.count.Goals as goal

pub returns-in_default-clause-acts : goal.returns-in_default-clause-acts
returns-in_default-clause-acts c =
    let saved : Saved = seen variable_cmp c.args.saved.now in
    let variable : Variable = record { saver = c.in-Reads.saver; key = c.args.key } in
    let none : map.get saved variable ≡ None = sym c.in_default.ensures.value in
    ap (λ (s : Saved). (c.args.counter.now, s)) (c.take_saved.ensures.unset ∙ remove_absent variable_cmp_total variable_same saved variable none)
    ∙ sym (ap (λ (role : Role). after_hit (values_at c.args.self.now.trigger.now c.args.self.now.at.pos c.args.self.now.event.now) role c.args.self.now.at c.args.key (c.args.counter.now, saved)) (sym c.role.ensures ∙ c.in-Reads.is)
    ∙ after_hit-unset (values_at c.args.self.now.trigger.now c.args.self.now.at.pos c.args.self.now.event.now) c.in-Reads.saver c.args.self.now.at c.args.key c.args.counter.now saved none)
