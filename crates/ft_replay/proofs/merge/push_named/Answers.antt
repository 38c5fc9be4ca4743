use Rattle.std.proofs.Common.{true, ap, sym, ◌∙◌}
use Rattle.ft_maps.specs.Mapped.{entries_by}
use Rattle.ft_store.specs.Stored.{held}
use Rattle.ft_replay.specs.inner.Rests.{traced_entry}
use Rattle.ft_replay.specs.Named.{has_name}
use Rattle.ft_replay.proofs.Naming.{has_one}
use Rattle.ft_replay.proofs.Taking.{listed_one, pushed_entry}
use Rattle.ft_replay.proofs.merge.push_named.Goals as goal

pub returns-in_ok-push : goal.returns-in_ok-push
returns-in_ok-push c =
    listed_one (has_one (has_name c.args.names)) true (entries_by held c.args.ordered.now.events.items) (entries_by held c.push.new.self.events.items) (traced_entry (c.args.pos, c.args.stored)) (ap (has_name c.args.names) (sym c.name.ensures) ∙ sym c.has.ensures ∙ c.if-has.true)
    (pushed_entry c.args.ordered.now.events.items c.push.new.self.events.items (c.args.pos, c.args.stored) c.in_ok-push.ensures)
