use Rattle.std.proofs.Common.{List, sym, subst, IsPermutation}
use Rattle.ft_fields.specs.Traced.{Traced}
use Rattle.ft_fields.specs.declared.pos.Pos.{Pos}
use Rattle.ft_maps.specs.Mapped.{entries_by}
use Rattle.ft_store.specs.Stored.{held}
use Rattle.ft_replay.specs.inner.Rests.{traced_entry, entries_left, listed_and_left}
use Rattle.std.proofs.lemmas.List.Sorted.{IsPermutation-refl}
use Rattle.ft_replay.specs.Named.{has_name}
use Rattle.ft_replay.proofs.Naming.{has_one}
use Rattle.ft_replay.proofs.Placing.{on_ok}
use Rattle.ft_replay.proofs.Taking.{taken_listed}
use Rattle.ft_replay.proofs.merge.take_one.Goals as goal

pub returns-in-Some : goal.returns-in-Some
returns-in-Some c =
    on_ok c.push_named.result _ _
    (taken_listed (has_one (has_name c.args.names)) (entries_by held c.args.ordered.now.events.items) (entries_by held c.push_named.new.ordered.events.items) (entries_left c.args.rests.now.rests.items) (entries_left c.take_at.new.self.rests.items)
    (traced_entry (c.in-Some.pos, c.in-Some.stored)) c.in-Some.ensures) c.push_named.ensures

pub returns-in-None : goal.returns-in-None
returns-in-None c =
    let old = listed_and_left c.args.names c.args.ordered.now.events.items (entries_left c.args.rests.now.rests.items) in
    subst (λ (left : List (Pos × Traced)). IsPermutation old (listed_and_left c.args.names c.args.ordered.now.events.items left)) (sym c.in-None.ensures) (IsPermutation-refl old)
