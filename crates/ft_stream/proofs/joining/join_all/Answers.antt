use Rattle.std.proofs.Common.{rules, ap, ◌∙◌, ◌++◌, subst, List}
use Rattle.ft_dispatch.specs.declared.dispatch.Dispatch.{Dispatch}
use Rattle.ft_waits.specs.Joining.{JoinsTexts}
use Rattle.ft_stream.specs.Telling.{waits_of}
use Rattle.ft_stream.proofs.Seams.{written, joins-told}
use Rattle.ft_stream.proofs.joining.join_all.Goals as goal

pub returns : goal.returns
returns c =
    let law = c.first_ones_join.ensures in
    let late = c.join_met.new.out.items in
    let joins = subst (λ (ds : List Dispatch). JoinsTexts c.args.running.now c.args.part.waits c.clear.new.self.items ds c.join_met.new.self late c.join_met.new.ones) c.deref_mut.ensures.value c.in_ok-join_met.ensures.joins in
    let all = c.in_ok-append.ensures.items ∙ ap (λ (ds : List Dispatch). late ++ ds) (written c.args.part.firsts.ones.items c.join_met.new.ones c.args.part.firsts.ones.len (search rules) (search rules)) in
    joins-told c.args.running.now c.join_met.new.self c.args.part c.clear.new.self.items late c.join_met.new.ones c.keep_waits.new.told.items
    c.clear.ensures.items joins c.in_ok-join_met.ensures.well (c.keep_waits.ensures ∙ ap waits_of all) law.tasks law.firsts_behind law.others_behind law.all
