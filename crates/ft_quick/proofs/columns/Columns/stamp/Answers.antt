use Rattle.std.proofs.Common.{ℕ, List, drop, arith}
use Rattle.std.proofs.lemmas.List.{length-drop}
use Rattle.ft_quick.proofs.ColumnCuts.{stamp_found}
use Rattle.ft_quick.proofs.columns.Columns.stamp.Goals as goal

pub returns-clause-stamped : goal.returns-clause-stamped
returns-clause-stamped c =
    let line : List ℕ = c.args.self.now.line.now in
    let from : ℕ → List ℕ = λ n. drop n line in
    let word = length-drop c.in_ok-word.word line in
    let dot = length-drop c.in_ok-seconds.dot line in
    let begin = length-drop c.in_ok-begin.begin line in
    let colon = length-drop c.in_ok-part.colon line in
    let shorter = c.in_ok-seconds.ensures.within in
    let behind = c.in_ok-seconds.ensures.behind in
    let within = c.in_ok-part.ensures.within in
    let later = c.in_ok-part.ensures.behind in
    rw (c.from.ensures, c.from-2.ensures) (stamp_found (from c.args.at) (from c.in_ok-word.word) (from c.in_ok-seconds.dot) (from c.in_ok-begin.begin) (from c.in_ok-part.colon) (from c.in_ok-rest.rest) c.in_ok-seconds.seconds c.in_ok-part.part
    c.in_ok-word.ensures.lettered c.in_ok-seconds.ensures.number (omega arith) c.in_ok-begin.ensures.cut c.in_ok-part.ensures.number c.if-part-gt999999.false (omega arith) c.in_ok-rest.ensures.cut (c.ends_word.ensures c.if-not-ends_word.false))
