use Rattle.std.proofs.Common.{refl}
use Rattle.ft_event.specs.Bytes.{is_digit}
use Rattle.ft_quick.proofs.Marked.{ended}
use Rattle.ft_quick.proofs.Places.{run_within}
use Rattle.ft_quick.proofs.columns.Columns.number.Goals as goal

pub number_of-requires-clause-within : goal.number_of-requires-clause-within
number_of-requires-clause-within c = run_within is_digit c.args.self.now.line.now c.args.from c.in_ok-end.end refl c.requires.within (ended _ c.args.self.now.digits c.args.from c.in_ok-end.end c.requires.marked.digits c.in_ok-end.ensures).before

pub number_of-requires-clause-digits : goal.number_of-requires-clause-digits
number_of-requires-clause-digits c = (ended _ c.args.self.now.digits c.args.from c.in_ok-end.end c.requires.marked.digits c.in_ok-end.ensures).before

pub returns-clause-within : goal.returns-clause-within
returns-clause-within c = run_within is_digit c.args.self.now.line.now c.args.from c.in_ok-end.end refl c.requires.within (ended _ c.args.self.now.digits c.args.from c.in_ok-end.end c.requires.marked.digits c.in_ok-end.ensures).before
