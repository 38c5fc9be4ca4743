use Rattle.std.proofs.Common.{◌<◌, List, length, subst, ap, ◌∙◌, cond, rules}
use Rattle.std.specs.Ordering.{int_eq}
use Rattle.ft_pids.specs.Numbers.{number_of}
use Rattle.ft_dispatch.specs.Telling.{known}
use Rattle.ft_dispatch.specs.declared.tasks.Entry.{Entry}
use Rattle.ft_dispatch.proofs.Written.{changed-in}
use Rattle.ft_dispatch.proofs.tasks.Known.replace.Goals as goal

pub returns-then-is_of-clause-is : goal.returns-then-is_of-clause-is
returns-then-is_of-clause-is c = λ q.
    let old = c.args.self.now in
    changed-in (number_of old.numbers) old.entries.items c.args.pid q c.get-number.result c.index_mut.result.now c.replace.new.dest (search rules) (search rules) (subst (λ (es : List Entry). c.get-number.result < length es) c.deref.ensures.value (c.is_of.ensures.within c.if-is_of.true)) c.index_mut.ensures.value
    ∙ ap (λ s. cond (int_eq c.args.pid q) s (known old q)) c.replace.ensures.after
