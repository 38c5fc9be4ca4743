use Rattle.std.proofs.Common.{refl}
use Rattle.ft_event.specs.Bytes.{is_space}
use Rattle.ft_quick.proofs.Marked.{ended}
use Rattle.ft_quick.proofs.Places.{skip_at, run_within}
use Rattle.ft_quick.proofs.columns.Columns.behind_spaces.Goals as goal

pub returns-clause-skip : goal.returns-clause-skip
returns-clause-skip c = skip_at c.args.self.now.line.now c.args.from c.in_ok-at.at c.requires.within (ended _ c.args.self.now.spaces c.args.from c.in_ok-at.at c.requires.marked.spaces c.in_ok-at.ensures)

pub returns-clause-within : goal.returns-clause-within
returns-clause-within c = run_within is_space c.args.self.now.line.now c.args.from c.in_ok-at.at refl c.requires.within (ended _ c.args.self.now.spaces c.args.from c.in_ok-at.at c.requires.marked.spaces c.in_ok-at.ensures).before
