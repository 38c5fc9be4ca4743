use Rattle.std.proofs.Common.{◌≡◌, length, to_z, of_z, w32, ap, ◌∙◌, rules, cond, List, slice_get}
use Rattle.std.proofs.lemmas.Result.{on_ok_weaker}
use Rattle.std.proofs.lemmas.Int.{to_z-of_z}
use Rattle.std.specs.Ordering.{int_eq}
use Rattle.ft_pids.specs.Entries.{own, entry_in, entry_in-push}
use Rattle.ft_pids.specs.Numbers.{number_of}
use Rattle.ft_dispatch.specs.Telling.{said, task_of}
use Rattle.ft_dispatch.specs.declared.tasks.Entry.{Entry}
use Rattle.ft_dispatch.proofs.Written.{said-cond}
use Rattle.ft_dispatch.proofs.tasks.Known.add.Goals as goal

pub returns : goal.returns
returns c =
    let old = c.args.self.now in
    let counted : c.len-number.result ≡ length old.entries.items = search rules in
    let entry : Entry = record { pid = to_z w32 (of_z w32 c.args.pid); since = c.args.since } in
    on_ok_weaker c.put.result (λ put. λ q.
    ap (λ (es : List Entry). said (own task_of q (slice_get es (number_of c.put.new.self q)))) c.in_ok-push.ensures.items
    ∙ ap said (entry_in-push task_of old.entries.items entry c.args.pid q (number_of old.numbers q) (number_of c.put.new.self q) (to_z-of_z w32 c.args.pid c.ranges.pid)
    (put q ∙ (λ i. cond (int_eq (to_z-of_z w32 c.args.pid c.ranges.pid i) q) (counted i) (number_of old.numbers q))))
    ∙ said-cond (int_eq c.args.pid q) entry (entry_in task_of (number_of old.numbers) old.entries.items q)) c.put.ensures
