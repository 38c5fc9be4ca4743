-- Whether some task waits, by the number of those that do.
use Rattle.std.specs.Prelude.{◌≡◌, ◌+◌, ◌<◌, ℕ, ℤ, Bool, true, false, ◌&&◌, ◌||◌, List, [], ◌∷◌, Option, Some, None}
use Rattle.std.specs.List.{count_by, list_any}
use Rattle.std.specs.Map.{lookup, keys_of, values_of}
use Rattle.std.specs.Option.{IfSome}
use Rattle.std.specs.Ordering.{int_eq}
use Rattle.std.specs.BTreeMap.{BTreeMap, IsOrdered, values}
use Rattle.std.specs.Cmp.{eq_by_cmp_equiv, signed_Decides}
use Rattle.std.proofs.Common.{ap, arith, cond, refl, subst, sym, ◌∙◌}
use Rattle.std.proofs.lemmas.List.Folds.{list_any_none}
use Rattle.std.proofs.lemmas.List.Sums.{sum_by-cons}
use Rattle.std.proofs.lemmas.Map.Keys.{IsDistinct-from_sorted}
use Rattle.std.proofs.lemmas.Map.Views.{All-values_from_lookup}
use Rattle.ft_fields.specs.declared.pos.Pos.{Pos}
use Rattle.ft_dispatch.specs.Acts.{Act}
use Rattle.ft_summary.specs.Telling.{is_named, standing, standing_if_named}
use Rattle.ft_summary.specs.Waiting.{is_counted, some_task_waits, tasks_of, waits}
use Rattle.ft_summary.specs.inner.Changes.{found_task, number_waiting, standing_waits, task_cmp}
use Rattle.ft_summary.specs.declared.standing.Standing.{Standing}
use Rattle.ft_summary.specs.declared.tasks.Task.{Task}
use Rattle.ft_summary.proofs.Counting.{task_total}
use Rattle.ft_summary.proofs.Naming.{and-second, either-one, named-counted, or-left, or-right}
use Rattle.ft_summary.proofs.Written.{same-pid}

abbrev Entry : Type 0
Entry = Pos × Act

abbrev one : Standing → ℕ
one standing = cond (standing_waits standing) 1 0

-- ---- a number above 0

above-zero : (b : Bool) (n m : ℕ) → b ≡ true → m ≡ cond b 1 0 + n → 0 < m
above-zero true n m h e = omega arith
above-zero false n m h e = cc

still-above : (b : Bool) (n m : ℕ) → 0 < n → m ≡ cond b 1 0 + n → 0 < m
still-above b n m h e = omega arith

-- none waits, so that the number is 0
none-counted : (xs : List Standing) → list_any standing_waits xs ≡ false → count_by standing_waits xs ≡ 0
none-counted [] h = refl
none-counted (x ∷ xs) h =
    let k : one x ≡ 0 = ap (λ b. cond b 1 0) (or-left (standing_waits x) (list_any standing_waits xs) h) in
    let rest = none-counted xs (or-right (standing_waits x) (list_any standing_waits xs) h) in
    let sum = sum_by-cons one x xs in
    omega arith

-- one that a look-up finds waits, so that the number isn't
found-counts : (test : Task → Bool) (b : Bool) (e : Task × Standing) (es : List (Task × Standing)) (v : Standing) → cond b (Some e.1) (lookup test es) ≡ Some v → standing_waits v ≡ true
    → (lookup test es ≡ Some v → 0 < count_by standing_waits (values_of es)) → 0 < count_by standing_waits (values_of (e ∷ es))
found-counts test true e es v is h more =
    let same : e.1 ≡ v = cc in
    above-zero (standing_waits e.1) (count_by standing_waits (values_of es)) (count_by standing_waits (values_of (e ∷ es))) (ap standing_waits same ∙ h) (sum_by-cons one e.1 (values_of es))
found-counts test false e es v is h more = still-above (standing_waits e.1) (count_by standing_waits (values_of es)) (count_by standing_waits (values_of (e ∷ es))) (more is) (sum_by-cons one e.1 (values_of es))

one-counted : (test : Task → Bool) (es : List (Task × Standing)) (v : Standing) → lookup test es ≡ Some v → standing_waits v ≡ true → 0 < count_by standing_waits (values_of es)
one-counted test [] v is h = cc
one-counted test (e ∷ es) v is h = found-counts test (test e.0) e es v is h (λ k. one-counted test es v k h)

-- ---- which task waits

-- a task waits by how it stands
waits-by : (pid : ℤ) (acts : List Entry) → waits pid acts ≡ (is_counted pid && standing_waits (standing pid acts))
unfolding waits standing
waits-by pid acts = refl

or-true : (a : Bool) → (a || true) ≡ true
or-true true = refl
or-true false = refl

first-passes : (b : Bool) (p : ℤ → Bool) (pid : ℤ) (pids : List ℤ) → p pid ≡ b → (b || list_any p pids) ≡ true
    → (list_any p pids ≡ true → (q : ℤ) × (p q ≡ true) × (list_any (λ named. int_eq named q) pids ≡ true))
    → (q : ℤ) × (p q ≡ true) × ((int_eq pid q || list_any (λ named. int_eq named q) pids) ≡ true)
first-passes true p pid pids is h more = (pid, is, ap (λ b. b || list_any (λ named. int_eq named pid) pids) ((signed_Decides pid pid).1 refl))
first-passes false p pid pids is h more =
    let rest = more h in
    (rest.0, rest.1, ap (λ b. int_eq pid rest.0 || b) rest.2 ∙ or-true (int_eq pid rest.0))

-- one of a list's tasks passes a test
one-passes : (p : ℤ → Bool) (pids : List ℤ) → list_any p pids ≡ true → (q : ℤ) × (p q ≡ true) × (list_any (λ named. int_eq named q) pids ≡ true)
one-passes p [] h = cc
one-passes p (pid ∷ pids) h = first-passes (p pid) p pid pids refl h (one-passes p pids)

-- a listed one that passes
passes-one : (p : ℤ → Bool) (q : ℤ) (pids : List ℤ) → list_any (λ named. int_eq named q) pids ≡ true → p q ≡ true → list_any p pids ≡ true
passes-one p q [] h k = cc
passes-one p q (pid ∷ pids) h k =
    either-one (int_eq pid q) (list_any (λ named. int_eq named q) pids) h
    (λ e. ap (λ b. b || list_any p pids) (ap p (same-pid pid q e) ∙ k))
    (λ rest. ap (λ b. p pid || b) (passes-one p q pids rest k) ∙ or-true (p pid))

found-as : (n : Bool) (s : Standing) (o : Option Standing) → o ≡ cond n (Some s) None → n ≡ true → o ≡ Some s
found-as true s o e h = e
found-as false s o e h = cc

not-both : (b : Bool) → b ≡ true → b ≡ false → ⊥
not-both true h k = cc
not-both false h k = cc

no-waiting : (b : Bool) → (b ≡ true → ⊥) → b ≡ false
no-waiting true h = absurd (h refl)
no-waiting false h = refl

as-found : (n : Bool) (s : Standing) → (n ≡ true → standing_waits s ≡ false) → IfSome (cond n (Some s) None) (λ v. standing_waits v ≡ false)
as-found true s h = h refl
as-found false s h = tt

found-waits-not : (n : Bool) (s : Standing) (o : Option Standing) → o ≡ cond n (Some s) None → (n ≡ true → standing_waits s ≡ false) → IfSome o (λ v. standing_waits v ≡ false)
found-waits-not n s o e h = subst (λ x. IfSome x (λ v. standing_waits v ≡ false)) (sym e) (as-found n s h)

module _ (m : BTreeMap Task Standing) (acts : List Entry) (told : (q : ℤ) → found_task m q ≡ standing_if_named q acts) where
  pub some-counted : some_task_waits acts ≡ true → 0 < number_waiting m
  unfolding some_task_waits
  some-counted h =
      let one = one-passes (λ pid. waits pid acts) (tasks_of acts) h in
      let q = one.0 in
      one-counted _ m.entries (standing q acts) (found-as (is_named q acts) (standing q acts) (found_task m q) (told q) one.2)
      (and-second (is_counted q) (standing_waits (standing q acts)) (sym (waits-by q acts) ∙ one.1))

  pub none-left : IsOrdered task_cmp m → some_task_waits acts ≡ false → number_waiting m ≡ 0
  unfolding some_task_waits
  none-left sorted h =
      none-counted (values m) (list_any_none standing_waits (values m)
      (All-values_from_lookup (eq_by_cmp_equiv task_total) (λ v. standing_waits v ≡ false) m.entries (IsDistinct-from_sorted task_cmp (keys_of m.entries) sorted)
      (λ task. found-waits-not (is_named task.pid acts) (standing task.pid acts) (found_task m task.pid) (told task.pid)
      (λ named. no-waiting (standing_waits (standing task.pid acts)) (λ w.
      not-both (some_task_waits acts) (passes-one (λ pid. waits pid acts) task.pid (tasks_of acts) named
      (waits-by task.pid acts ∙ ap (λ b. b && standing_waits (standing task.pid acts)) (named-counted task.pid acts named) ∙ w)) h)))))
