use Rattle.std.proofs.Common.{subst, sym}
use Rattle.ft_head.specs.Draft.{with_kind}
use Rattle.ft_head.specs.inner.Leaving.{Leaves}
use Rattle.ft_head.proofs.draft.Draft.add_kind.Goals as goal

pub returns-in-Sort : goal.returns-in-Sort
returns-in-Sort c =
    subst (λ kind. Leaves (with_kind c.args.event c.args.self.now kind c.args.text.now.place c.args.text.now.bytes) c.add_sort.new.self c.add_sort.result) (sym c.in-Sort.is) (c.add_sort.ensures c.args.event)

pub returns-in-Size : goal.returns-in-Size
returns-in-Size c =
    subst (λ kind. Leaves (with_kind c.args.event c.args.self.now kind c.args.text.now.place c.args.text.now.bytes) c.add_size.new.self c.add_size.result) (sym c.in-Size.is) (c.add_size.ensures c.args.event)
