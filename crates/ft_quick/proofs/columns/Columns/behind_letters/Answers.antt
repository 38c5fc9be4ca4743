use Rattle.std.proofs.Common.{ℕ, List, drop, arith}
use Rattle.ft_quick.proofs.ColumnCuts.{no_letters}
use Rattle.ft_quick.proofs.Marked.{found}
use Rattle.ft_quick.proofs.Places.{letters_at}
use Rattle.ft_quick.proofs.columns.Columns.behind_letters.Goals as goal

pub returns-then-colon-end-clause-lettered : goal.returns-then-colon-end-clause-lettered
returns-then-colon-end-clause-lettered c = no_letters (drop c.args.at c.args.self.now.line.now) (drop c.in_ok-word.word c.args.self.now.line.now) c.in_ok-word.ensures.skip

pub returns-clause-lettered : goal.returns-clause-lettered
returns-clause-lettered c =
    let line : List ℕ = c.args.self.now.line.now in
    letters_at line (drop c.args.at line) (drop c.in_ok-next_word.next_word line) c.in_ok-word.word c.in_ok-end.end c.in_ok-colon.colon c.in_ok-word.ensures.skip (found _ c.args.self.now.spaces c.in_ok-word.word c.in_ok-end.end c.requires.marked.spaces c.in_ok-end.ensures)
    c.if-end-word.false c.if-end-word-gt16.false (found _ c.args.self.now.colons c.in_ok-word.word c.in_ok-colon.colon c.requires.marked.colons c.in_ok-colon.ensures) (omega arith) c.in_ok-next_word.ensures.skip
