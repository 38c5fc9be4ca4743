use Rattle.std.proofs.Common.{◌≡◌, ◌+◌, ◌-◌, ℕ, List, take, drop, arith, subst, sym, ℤ, pos, Ok, w32, to_z}
use Rattle.std.proofs.lemmas.Int.{ints}
use Rattle.std.proofs.lemmas.List.{take_rest}
use Rattle.ft_event.specs.declared.fault.Line.TheVariants as lines
use Rattle.ft_event.specs.LineIs.{LineIs}
use Rattle.ft_quick.proofs.Fronts.{front_found}
use Rattle.ft_quick.proofs.Labels.{taken_short}
use Rattle.ft_quick.proofs.line.front_of.Goals as goal

pub returns-clause-front : goal.returns-clause-front
returns-clause-front c = λ body is.
    let from : ℕ → List ℕ = λ n. drop n c.args.line.now in
    let task : List ℕ = take (c.in_ok-end.end - c.in_ok-begin.begin) (from c.in_ok-begin.begin) in
    let own = c.of-columns.ensures.line in
    let named_task = rw take_rest at c.new.ensures in
    let skip = rw own at c.in_ok-begin.ensures.skip in
    let dash = rw own at c.in_ok-end.ensures.task in
    let tail = rw own at c.in_ok-pid.ensures.tail in
    let stamped = rw own at c.in_ok-stamp.ensures.stamped in
    let line = front_found c.args.line.now (from c.in_ok-begin.begin) task (from (c.in_ok-end.end + 1)) (from c.in_ok-pid.at) (from c.in_ok-stamp.rest) c.in_ok-pid.pid c.in_ok-pid.cpu c.in_ok-stamp.stamp body
    c.requires (c.is_plain.ensures c.if-not-is_plain.false) skip dash (taken_short (c.in_ok-end.end - c.in_ok-begin.begin) (from c.in_ok-begin.begin) c.if-len-gt31.false) tail stamped is in
    let same : pos c.in_ok-pid.pid ≡ to_z w32 c.in_ok-pid.pid = omega (arith, ints, tail.pid_is.below) in
    subst (λ (name : List ℕ). LineIs c.args.line.now (Ok (lines.Event (record { task = name; pid = to_z w32 c.in_ok-pid.pid; cpu = c.in_ok-pid.cpu; stamp = c.in_ok-stamp.stamp; body = body })))) (sym named_task)
    (subst (λ (z : ℤ). LineIs c.args.line.now (Ok (lines.Event (record { task = task; pid = z; cpu = c.in_ok-pid.cpu; stamp = c.in_ok-stamp.stamp; body = body })))) same line)
