use Rattle.std.proofs.Common.{sym, subst, ◌∙◌}
use Rattle.ft_pairs.specs.inner.Sides.{IsLastOf}
use Rattle.ft_pairs.proofs.Sides.{lt_is}
use Rattle.ft_pairs.proofs.Beside.{no_save, no_read, save_later, read_later}
use Rattle.ft_pairs.proofs.sequence.source_after.Goals as goal

pub returns-then-is_before : goal.returns-then-is_before
returns-then-is_before c own last =
    save_later c.args.saves.now own c.args.at c.in-Some.save c.in-Some-read.read c.in-Some.ensures (subst (IsLastOf own c.args.at) c.in-Some-read.is last) (lt_is _ (sym c.is_before.ensures ∙ c.if-is_before.true))

pub returns-in-None : goal.returns-in-None
returns-in-None c own last = no_save c.args.saves.now own c.args.at c.args.read c.in-None.ensures last

pub returns-in-None-read : goal.returns-in-None-read
returns-in-None-read c own last = no_read c.args.saves.now own c.args.at c.in-Some.save c.in-Some.ensures (subst (IsLastOf own c.args.at) c.in-None-read.is last)

pub returns-else-is_before : goal.returns-else-is_before
returns-else-is_before c own last =
    read_later c.args.saves.now own c.args.at c.in-Some.save c.in-Some-read.read c.in-Some.ensures (subst (IsLastOf own c.args.at) c.in-Some-read.is last) (sym c.is_before.ensures ∙ c.if-is_before.false)
