use Rattle.std.proofs.Common.{◌+◌, ℕ, Bool, drop}
use Rattle.ft_answers.specs.Shown.{Shown}
use Rattle.ft_session.specs.inner.JointReports.{Joins}
use Rattle.ft_session.proofs.Fronts.{IsStriking}
use Rattle.ft_session.proofs.front.strike_front.Given as goal

-- the others are left, and what the strikes report is joined
abbrev pub invariant-loop-pos : goal.invariant-loop-pos
invariant-loop-pos l = record {
  striking : IsStriking l.fn.desk.base l.front (drop l.pos-index l.front) l.desk.base;
  joins : (reports : Bool) (first : Shown) (count : ℕ) → Joins reports first l.fn.desk count l.fn.joint → Joins reports first l.desk (count + l.pos-index) l.joint;
}
