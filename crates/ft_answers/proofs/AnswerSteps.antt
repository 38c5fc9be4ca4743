-- What an answer or an edit of a board that keeps no tables says and costs.
use Rattle.std.proofs.Common.{◌≡◌, ◌*◌, ℕ, Bool, true, false, refl, subst, Result, Ok, Err}
use Rattle.std.proofs.Math.Nat.{le-add_right}
use Rattle.ft_fields.specs.Traced.{Traced}
use Rattle.ft_hist.specs.Steps.{Steps, StepsGrow}
use Rattle.ft_hist.specs.Tests.{count_on}
use Rattle.ft_base.specs.declared.refused.Refused.{Refused}
use Rattle.ft_base.specs.Base.{Base, Triggers}
use Rattle.ft_answers.specs.Costs.{AnswerCosts, CostsOf, RepairCosts, UnloadCosts, count_on_lane}
use Rattle.ft_answers.specs.Edited.{AnswerKeeps}
use Rattle.ft_replay.specs.Merged.{Events, merged}
use Rattle.ft_answers.specs.Shown.{Shown}

-- a board that keeps no tables, with its steps
abbrev pub plain_shown : Base → Steps → Shown
plain_shown base steps = record { base = base; deferred = false; keeps = false; steps = steps }

-- replaying takes steps, which an answer of a board that keeps no tables may cost
pub replayed_steps : (base : Base) (work more : Steps) (shown : Shown) → plain_shown base work ≡ shown → StepsGrow work more → AnswerCosts shown (plain_shown base more)
replayed_steps base work more shown is grow = subst (λ (s : Shown). AnswerCosts s (plain_shown base more)) is (record {
  keeps = refl;
  grow = grow;
  none = λ up. let never : ◌≡◌ {A = Bool} false true = up.keeps in absurd cc;
})

-- its tables are never deferred
pub never-deferred : {S : Type 0} (answer : Result S Refused) → AnswerKeeps false false answer
never-deferred (Ok answer) = refl
never-deferred (Err refused) = (λ e. e, λ _. refl)

-- no step is within what an event may cost
pub no_step : (triggers : Triggers) (event : Traced) (before after : Events) (steps : Steps) → CostsOf triggers event before after steps steps
no_step triggers event before after steps = record { evals = le-add_right steps.evals (count_on triggers event); puts = λ _. le-add_right steps.puts (3 * count_on triggers event) }

-- and an edit takes none
pub edited_costs : (base new : Base) (event : Traced) (work : Steps) (shown : Shown) → plain_shown base work ≡ shown → RepairCosts event shown (plain_shown new work)
edited_costs base new event work shown is =
    subst (λ (s : Shown). RepairCosts event s (plain_shown new work)) is (λ _. no_step base.triggers event (merged base.lanes) (merged new.lanes) work)

-- nor does it take one to unload a lane
pub unload_costs : (base new : Base) (cpu : ℕ) (work : Steps) (shown : Shown) → plain_shown base work ≡ shown → UnloadCosts cpu shown (plain_shown new work)
unload_costs base new cpu work shown is = subst (λ (s : Shown). UnloadCosts cpu s (plain_shown new work)) is (λ _ lane _ _. le-add_right work.evals (count_on_lane base.triggers lane))
