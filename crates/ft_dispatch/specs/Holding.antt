-- First dispatches that are held back from the others. Dispatches stand oldest first.
use Rattle.std.specs.Prelude.{◌≡◌, ℤ, Bool, List, ◌++◌}
use Rattle.std.specs.BTreeSet.{BTreeSet, contains_by}
use Rattle.std.specs.Ordering.{int_cmp}
use Rattle.ft_dispatch.specs.Joining.{has_one, firsts, others}
use Rattle.ft_dispatch.specs.declared.dispatch.Dispatch.{Dispatch}
use Rattle.ft_dispatch.specs.declared.holding.FirstOnes.{FirstOnes}
use Rattle.ft_dispatch.specs.declared.holding.Task.{Task}

-- whether a task is among some
abbrev pub has_task : ℤ → BTreeSet Task → Bool
has_task pid tasks = contains_by (λ task. int_cmp pid task.pid) tasks

-- of these dispatches the first one of each task is held, with the tasks that have one
pub record Holds (held : FirstOnes) (told : List Dispatch) : Type 0 where
  pub ones : held.ones.items ≡ firsts told
  pub tasks : (pid : ℤ) → has_task pid held.tasks ≡ has_one pid told

-- after whatever dispatches, these follow: the first ones are held, and the others are passed on
abbrev pub TakesOn : List Dispatch → FirstOnes → List Dispatch → FirstOnes → List Dispatch → Type 0
TakesOn more old out new out_now = (told given : List Dispatch) → Holds old told → given ++ out ≡ others told → Holds new (told ++ more) × (given ++ out_now ≡ others (told ++ more))
