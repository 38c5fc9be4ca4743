-- The lists of sums, from what is kept of tasks and CPUs.
use Rattle.std.specs.Prelude.{◌≡◌, ℕ, ℤ, Bool, true, false, ◌||◌, List, [], ◌∷◌, Option, Some, None, is_some, option_map, nat_eq, map as list_map}
use Rattle.std.specs.declared.cmp.Ordering.{Ordering}
use Rattle.std.specs.declared.cmp.Ordering.TheVariants.{Less, Equal, Greater}
use Rattle.std.specs.Cmp.{IsTotalOrder, int_cmp_total, int_eq_equiv, nat_cmp_total, nat_eq_equiv, unsigned_Decides, unsigned_tied}
use Rattle.std.specs.List.{list_any}
use Rattle.std.specs.Map.{values_of}
use Rattle.std.specs.Option.{option_or}
use Rattle.std.specs.Ordering.{int_cmp, int_eq, nat_cmp}
use Rattle.std.specs.BTreeMap as tree
use Rattle.std.specs.BTreeMap.{BTreeMap, IsOrdered, values}
use Rattle.std.specs.FinMap as finite
use Rattle.std.specs.FinMap.{FinMap, IsAntisymmetric, find, put, entries-insert, get-from_entries, int_cmp-IsAntisymmetric, nat_cmp-IsAntisymmetric, same_map}
use Rattle.std.specs.FinMap.Entries.{by_order}
use Rattle.std.proofs.Common.{ap, cond, refl, sym, ◌∙◌}
use Rattle.ft_fields.specs.declared.pos.Pos.{Pos}
use Rattle.ft_dispatch.specs.Acts.{Act, Waking, Creation, Wakeup, Switch, Handover}
use Rattle.ft_maps.specs.Entries.{entries-empty}
use Rattle.ft_maps.specs.Mapped.{entries_by, entries-map_by, get-map_by, map_by}
use Rattle.ft_maps.specs.Seen.{entries-seen, get-seen, seen}
use Rattle.ft_summary.specs.Figures.{cpu_sum, cpu_sums, cpus_of, task_sum, task_sums}
use Rattle.ft_summary.specs.Runs.{last_switch}
use Rattle.ft_summary.specs.Telling.{cpu_since, standing, standing_if_named}
use Rattle.ft_summary.specs.Waiting.{tasks_of}
use Rattle.ft_summary.specs.inner.Changes.{found_cpu, found_task, task_cmp}
use Rattle.ft_summary.specs.declared.cpus.Cpu.{Cpu}
use Rattle.ft_summary.specs.declared.standing.Standing.{Standing}
use Rattle.ft_summary.specs.declared.sums.CpuSum.{CpuSum}
use Rattle.ft_summary.specs.declared.sums.TaskSum.{TaskSum}
use Rattle.ft_summary.specs.declared.tasks.Task.{Task}
use Rattle.ft_summary.proofs.Counting.{task_total}
use Rattle.ft_summary.proofs.Written.{same-pid}

abbrev Entry : Type 0
Entry = Pos × Act

-- ---- values, seen through a function

seen-values : {K X Y : Type 0} (f : X → Y) (es : List (K × X)) → list_map f (values_of es) ≡ list_map (λ e. e.1) (entries_by f es)
seen-values f [] = refl
seen-values f (e ∷ es) = ap (λ ys. f e.1 ∷ ys) (seen-values f es)

-- the values of a tree, seen so, are those of a finite map that answers so
by-values : {K X Y : Type 0} {R : K → K → Ordering} (total : IsTotalOrder R) → IsAntisymmetric R → (f : X → Y) (m : BTreeMap K X) (F : FinMap R Y) → IsOrdered R m
    → ((q : K) → option_map f (tree.get R m q) ≡ finite.get F q) → list_map f (values m) ≡ finite.values F
by-values {R = R} total same f m F sorted h =
    seen-values f m.entries
    ∙ ap (λ es. list_map (λ e. e.1) (entries_by f es)) (sym (entries-seen total m sorted))
    ∙ ap (λ es. list_map (λ e. e.1) es) (sym (entries-map_by f total (seen R m)))
    ∙ ap (λ M. finite.values M) (same_map total same (map_by f (seen R m)) F (λ q. get-map_by f total (seen R m) q ∙ ap (option_map f) (get-seen total m q) ∙ h q))

-- ---- tasks

task-same : IsAntisymmetric task_cmp
task-same a b h = ap (λ pid. record { pid = pid }) (int_cmp-IsAntisymmetric a.pid b.pid h)

abbrev by_task : (ℤ → TaskSum) → List ℤ → List (Task × TaskSum)
by_task f pids = list_map (λ pid. (record { pid = pid }, f pid)) pids

abbrev by_pid : (ℤ → TaskSum) → List ℤ → List (ℤ × TaskSum)
by_pid f pids = list_map (λ pid. (pid, f pid)) pids

found-first : (b : Bool) (q : ℤ) (f : ℤ → TaskSum) (pid : ℤ) (any : Bool) → int_eq pid q ≡ b → cond b (Some (f pid)) (cond any (Some (f q)) None) ≡ cond (b || any) (Some (f q)) None
found-first true q f pid any h = ap (λ p. Some (f p)) (same-pid pid q h)
found-first false q f pid any h = refl

find-task : (f : ℤ → TaskSum) (q : Task) (pids : List ℤ) → find task_cmp q (by_task f pids) ≡ cond (list_any (λ named. int_eq named q.pid) pids) (Some (f q.pid)) None
find-task f q [] = refl
find-task f q (pid ∷ pids) =
    ap (λ b. cond b (Some (f pid)) (find task_cmp q (by_task f pids))) (int_eq_equiv.symm q.pid pid)
    ∙ ap (cond (int_eq pid q.pid) (Some (f pid))) (find-task f q pids)
    ∙ found-first (int_eq pid q.pid) q.pid f pid (list_any (λ named. int_eq named q.pid) pids) refl

-- keys that are records of a number, or the number
abbrev unkeyed : Task × TaskSum → ℤ × TaskSum
unkeyed e = (e.0.pid, e.1)

put-ordered : (o : Ordering) (k : ℤ) (v : TaskSum) (e : Task × TaskSum) (es rest : List (Task × TaskSum)) (more : List (ℤ × TaskSum)) → list_map unkeyed rest ≡ more →
    list_map unkeyed (by_order o ((record { pid = k }, v) ∷ e ∷ es) ((e.0, v) ∷ es) (e ∷ rest)) ≡ by_order o ((k, v) ∷ unkeyed e ∷ list_map unkeyed es) ((e.0.pid, v) ∷ list_map unkeyed es) (unkeyed e ∷ more)
put-ordered Less k v e es rest more h = refl
put-ordered Equal k v e es rest more h = refl
put-ordered Greater k v e es rest more h = ap (λ ys. unkeyed e ∷ ys) h

put-unkeyed : (k : ℤ) (v : TaskSum) (es : List (Task × TaskSum)) → list_map unkeyed (put task_cmp (record { pid = k }) v es) ≡ put int_cmp k v (list_map unkeyed es)
put-unkeyed k v [] = refl
put-unkeyed k v (e ∷ es) = put-ordered (int_cmp k e.0.pid) k v e es (put task_cmp (record { pid = k }) v es) (put int_cmp k v (list_map unkeyed es)) (put-unkeyed k v es)

entries-unkeyed : (f : ℤ → TaskSum) (pids : List ℤ) →
    list_map unkeyed (finite.entries (finite.from_entries {R = task_cmp} (by_task f pids))) ≡ finite.entries (finite.from_entries {R = int_cmp} (by_pid f pids))
entries-unkeyed f [] = ap (λ es. list_map unkeyed es) (entries-empty task_cmp) ∙ sym (entries-empty int_cmp)
entries-unkeyed f (pid ∷ pids) =
    ap (λ es. list_map unkeyed es) (entries-insert task_total (finite.from_entries (by_task f pids)) (record { pid = pid }) (f pid))
    ∙ put-unkeyed pid (f pid) (finite.entries (finite.from_entries (by_task f pids)))
    ∙ ap (put int_cmp pid (f pid)) (entries-unkeyed f pids)
    ∙ sym (entries-insert int_cmp_total (finite.from_entries (by_pid f pids)) pid (f pid))

values-unkeyed : (es : List (Task × TaskSum)) → list_map (λ e. e.1) es ≡ list_map (λ e. e.1) (list_map unkeyed es)
values-unkeyed [] = refl
values-unkeyed (e ∷ es) = ap (λ ys. e.1 ∷ ys) (values-unkeyed es)

summed-task : (n : Bool) (s : Standing) → option_map (λ standing. standing.sum) (cond n (Some s) None) ≡ cond n (Some s.sum) None
summed-task true s = refl
summed-task false s = refl

-- the sums of tasks are those of the acts
pub listed-tasks : (m : BTreeMap Task Standing) (acts : List Entry) → ((pid : ℤ) → found_task m pid ≡ standing_if_named pid acts) → IsOrdered task_cmp m → list_map (λ standing. standing.sum) (values m) ≡ task_sums acts
unfolding task_sums standing
listed-tasks m acts told sorted =
    let f : ℤ → TaskSum = λ pid. task_sum pid acts in
    let F : FinMap task_cmp TaskSum = finite.from_entries (by_task f (tasks_of acts)) in
    by-values task_total task-same (λ standing. standing.sum) m F sorted
    (λ task. ap (option_map (λ standing. standing.sum)) (told task.pid) ∙ summed-task _ (standing task.pid acts) ∙ sym (get-from_entries task_total (by_task f (tasks_of acts)) task ∙ find-task f task (tasks_of acts)))
    ∙ values-unkeyed (finite.entries F) ∙ ap (λ es. list_map (λ e. e.1) es) (entries-unkeyed f (tasks_of acts))

-- ---- CPUs

abbrev by_number : (ℕ → CpuSum) → List ℕ → List (ℕ × CpuSum)
by_number f cpus = list_map (λ cpu. (cpu, f cpu)) cpus

found-cpu : (b : Bool) (q : ℕ) (f : ℕ → CpuSum) (cpu : ℕ) (any : Bool) → nat_eq cpu q ≡ b → cond b (Some (f cpu)) (cond any (Some (f q)) None) ≡ cond (b || any) (Some (f q)) None
found-cpu true q f cpu any h = ap (λ p. Some (f p)) ((unsigned_Decides cpu q).0 h)
found-cpu false q f cpu any h = refl

find-cpu : (f : ℕ → CpuSum) (q : ℕ) (cpus : List ℕ) → find nat_cmp q (by_number f cpus) ≡ cond (list_any (λ named. nat_eq named q) cpus) (Some (f q)) None
find-cpu f q [] = refl
find-cpu f q (cpu ∷ cpus) =
    ap (λ b. cond b (Some (f cpu)) (find nat_cmp q (by_number f cpus))) (unsigned_tied q cpu ∙ nat_eq_equiv.symm q cpu)
    ∙ ap (cond (nat_eq cpu q) (Some (f cpu))) (find-cpu f q cpus)
    ∙ found-cpu (nat_eq cpu q) q f cpu (list_any (λ named. nat_eq named q) cpus) refl

switch-or : (b : Bool) (one : Pos × Handover) (last : Option (Pos × Handover)) → is_some (option_or (cond b (Some one) None) last) ≡ (b || is_some last)
switch-or true one last = refl
switch-or false one last = refl

-- a CPU is listed if a switch stands on it
pub named-cpu : (q : ℕ) (acts : List Entry) → is_some (last_switch q acts) ≡ list_any (λ named. nat_eq named q) (cpus_of acts)
unfolding last_switch cpus_of
named-cpu q [] = refl
named-cpu q ((place, Waking by woken) ∷ before) = named-cpu q before
named-cpu q ((place, Creation by created) ∷ before) = named-cpu q before
named-cpu q ((place, Wakeup by woken) ∷ before) = named-cpu q before
named-cpu q ((place, Switch turn) ∷ before) = switch-or (nat_eq place.cpu q) (place, turn) (last_switch q before) ∙ ap (λ b. nat_eq place.cpu q || b) (named-cpu q before)

summed-cpu : (q : ℕ) (acts : List Entry) (last : Option (Pos × Handover)) → option_map (λ cpu. cpu.sum) (option_map (cpu_since q acts) last) ≡ cond (is_some last) (Some (cpu_sum q acts)) None
summed-cpu q acts None = refl
summed-cpu q acts (Some last) = refl

-- the sums of CPUs are those of the acts
pub listed-cpus : (m : BTreeMap ℕ Cpu) (acts : List Entry) → ((cpu : ℕ) → found_cpu m cpu ≡ option_map (cpu_since cpu acts) (last_switch cpu acts)) → IsOrdered nat_cmp m → list_map (λ cpu. cpu.sum) (values m) ≡ cpu_sums acts
unfolding cpu_sums
listed-cpus m acts told sorted =
    let f : ℕ → CpuSum = λ cpu. cpu_sum cpu acts in
    by-values nat_cmp_total nat_cmp-IsAntisymmetric (λ cpu. cpu.sum) m (finite.from_entries (by_number f (cpus_of acts))) sorted
    (λ q. ap (option_map (λ cpu. cpu.sum)) (told q) ∙ summed-cpu q acts (last_switch q acts)
    ∙ ap (λ b. cond b (Some (cpu_sum q acts)) None) (named-cpu q acts)
    ∙ sym (get-from_entries nat_cmp_total (by_number f (cpus_of acts)) q ∙ find-cpu f q (cpus_of acts)))
