use Rattle.std.proofs.Common.{◌≡◌, ◌+◌, Bool, drop}
use Rattle.ft_answers.specs.Shown.{Shown}
use Rattle.ft_session.specs.Strikes.{after_strikes}
use Rattle.ft_session.specs.inner.Fronts.{after_others}
use Rattle.ft_session.specs.inner.JointReports.{Joins}
use Rattle.ft_session.proofs.strikes.strike_each.Given as goal

-- with the strikes that are left they are all, as many as were taken are struck, and what they report is joined
abbrev pub invariant-loop-place : goal.invariant-loop-place
invariant-loop-place l = record {
  gives : after_others l.struck (after_strikes l.fn.desk.base l.places) ≡ after_others l.count (after_strikes l.desk.base (drop l.place-index l.places));
  counts : l.count ≡ l.struck + l.place-index;
  joins : (reports : Bool) (first : Shown) → Joins reports first l.fn.desk l.struck l.fn.joint → Joins reports first l.desk l.count l.joint;
}
