-- How many tasks wait, after a write.
use Rattle.std.specs.Prelude.{◌≡◌, ◌+◌, ◌<◌, ◌^◌, ℕ, Bool, true, false, Some, None}
use Rattle.std.specs.List.{sum_by}
use Rattle.std.specs.Map.{lookup, set_value, values_of}
use Rattle.std.specs.Option.{unwrap_or}
use Rattle.std.specs.Prelude.{option_map}
use Rattle.std.specs.BTreeMap.{BTreeMap, IsOrdered, insert_entry, is_at, btree_map_len, values}
use Rattle.std.specs.Cmp.{IsTotalOrder, on_total, int_cmp_total}
use Rattle.std.proofs.Common.{ap, arith, cond, sym, ◌∙◌}
use Rattle.std.proofs.lemmas.List.Sums.{count_by-le-length}
use Rattle.std.proofs.lemmas.Map.Entries.{length-values_of, sum_by-insert_entry, sum_by-set_value}
use Rattle.ft_summary.specs.inner.Changes.{number_waiting, count_after, standing_waits, task_cmp}
use Rattle.ft_summary.specs.declared.standing.Standing.{Standing}
use Rattle.ft_summary.specs.declared.tasks.Task.{Task}

abbrev one : Standing → ℕ
one standing = cond (standing_waits standing) 1 0

-- the order of tasks is total
pub task_total : IsTotalOrder task_cmp
task_total = on_total (λ task. task.pid) int_cmp_total

-- the number of tasks that wait is below the greatest number
pub few : (n : BTreeMap Task Standing) → btree_map_len n < 2 ^ 63 → number_waiting n < 2 ^ 64
few n small =
    let most = count_by-le-length standing_waits (values n) in
    let all = length-values_of n.entries in
    omega arith

-- a task came that no act had named
pub count-added : (m n : BTreeMap Task Standing) (task : Task) (v : Standing) → n.entries ≡ insert_entry task_cmp m.entries task v → IsOrdered task_cmp m → lookup (is_at (task_cmp task)) m.entries ≡ None
    → number_waiting n + cond false 1 0 ≡ number_waiting m + one v
count-added m n task v is sorted absent =
    ap (λ es. sum_by one (values_of es) + 0) is
    ∙ ap (λ o. sum_by one (values_of (insert_entry task_cmp m.entries task v)) + unwrap_or (option_map one o) 0) (sym absent)
    ∙ sum_by-insert_entry one task_total m.entries task v sorted

-- a task changed
pub count-changed : (m n : BTreeMap Task Standing) (task : Task) (v w : Standing) → n.entries ≡ set_value (is_at (task_cmp task)) m.entries w → Some v ≡ lookup (is_at (task_cmp task)) m.entries
    → number_waiting n + one v ≡ number_waiting m + one w
count-changed m n task v w is here =
    ap (λ es. sum_by one (values_of es) + one v) is
    ∙ sum_by-set_value one (is_at (task_cmp task)) m.entries v w (sym here)

-- the number that is kept
pub recount : (waiting n m : ℕ) (a b : Bool) → waiting ≡ n → m + cond a 1 0 ≡ n + cond b 1 0 → m < 2 ^ 64 → count_after waiting a b ≡ m
recount waiting n m true true same sum small = omega arith
recount waiting n m true false same sum small = omega arith
recount waiting n m false true same sum small = omega arith
recount waiting n m false false same sum small = omega arith
