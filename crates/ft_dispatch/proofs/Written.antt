-- What is known of tasks after the entry of one is changed.
use Rattle.std.specs.Prelude.{◌≡◌, ◌<◌, ℕ, ℤ, Bool, true, false, List, Option, Some, None, is_some, length, nat_eq, slice_get, slice_set}
use Rattle.std.specs.Ordering.{int_eq}
use Rattle.std.specs.Cmp.{signed_Decides}
use Rattle.std.proofs.Common.{get_or, refl, sym, cond, ap, ◌∙◌, true≢false}
use Rattle.std.proofs.lemmas.Bool.{eq-eqb}
use Rattle.std.proofs.lemmas.Option.{slice_get_read}
use Rattle.ft_pids.specs.Entries.{own, entry_in, own-its, own-pid, entry_in-set}
use Rattle.ft_dispatch.specs.declared.dispatch.Since.{Since}
use Rattle.ft_dispatch.specs.declared.tasks.Entry.{Entry}
use Rattle.ft_dispatch.specs.Telling.{unknown, said, task_of}

-- two numbers that are the same
pub same-pid : (p q : ℤ) → int_eq p q ≡ true → p ≡ q
same-pid p q h = (signed_Decides p q).0 h

-- what one of two entries says
pub said-cond : (b : Bool) (entry : Entry) (o : Option Entry) → said (cond b (Some entry) o) ≡ cond b entry.since (said o)
said-cond true entry o = refl
said-cond false entry o = refl

-- a choice with another first part, which is the same if the first part is taken
pub pick : {A : Type 0} (b : Bool) (x y z : A) → (b ≡ true → x ≡ y) → cond b x z ≡ cond b y z
pick true x y z h = h refl
pick false x y z h = refl

-- what is known of each task, once what its entry says of one was changed where it stands
pub changed-in : (number : ℤ → ℕ) (es : List Entry) (pid q : ℤ) (n : ℕ) (was : Entry) (since : Since)
    → n ≡ number pid → is_some (own task_of pid (slice_get es n)) ≡ true → n < length es → was ≡ get_or es n was
    → said (entry_in task_of number (slice_set es n (record { pid = was.pid; since = since })) q) ≡ cond (int_eq pid q) since (said (entry_in task_of number es q))
changed-in number es pid q n was since at is within found =
    let here : slice_get es n ≡ Some was = slice_get_read es (length es) n was refl within found in
    let own_pid : was.pid ≡ pid = own-pid task_of pid was (ap (λ o. is_some (own task_of pid o)) (sym here) ∙ is) in
    let entry : Entry = record { pid = was.pid; since = since } in
    ap (λ k. said (entry_in task_of number (slice_set es k entry) q)) at
    ∙ ap said (entry_in-set task_of number es pid q entry (ap (λ k. is_some (own task_of pid (slice_get es k))) (sym at) ∙ is) own_pid)
    ∙ said-cond (int_eq pid q) entry (entry_in task_of number es q)

-- what was known of that task
pub was-said : (number : ℤ → ℕ) (es : List Entry) (pid q : ℤ) (n : ℕ) (was : Entry)
    → n ≡ number pid → is_some (own task_of pid (slice_get es n)) ≡ true → n < length es → was ≡ get_or es n was → int_eq pid q ≡ true
    → was.since ≡ said (entry_in task_of number es q)
was-said number es pid q n was at is within found hit =
    let here : slice_get es n ≡ Some was = slice_get_read es (length es) n was refl within found in
    let own_pid : was.pid ≡ pid = own-pid task_of pid was (ap (λ o. is_some (own task_of pid o)) (sym here) ∙ is) in
    sym (ap (λ (p : ℤ). said (entry_in task_of number es p)) (sym (same-pid pid q hit)) ∙ ap (λ k. said (own task_of pid (slice_get es k))) (sym at)
    ∙ ap (λ o. said (own task_of pid o)) here ∙ ap said (own-its task_of pid pid was own_pid) ∙ ap (λ b. said (cond b (Some was) None)) ((signed_Decides pid pid).1 refl))

-- nothing is known of a task if the entry at its number isn't its own
nothing-said : (o : Option Entry) → is_some o ≡ false → said o ≡ unknown
nothing-said None h = refl
nothing-said (Some entry) h = absurd (true≢false h)

pub not-said : (number : ℤ → ℕ) (es : List Entry) (pid q : ℤ) (n : ℕ) → n ≡ number pid → is_some (own task_of pid (slice_get es n)) ≡ false → int_eq pid q ≡ true
    → said (entry_in task_of number es q) ≡ unknown
not-said number es pid q n at other hit =
    ap (λ (p : ℤ). said (entry_in task_of number es p)) (sym (same-pid pid q hit)) ∙ ap (λ k. said (own task_of pid (slice_get es k))) (sym at)
    ∙ nothing-said (own task_of pid (slice_get es n)) other

-- ---- a part

-- an entry at a number that isn't its task's says nothing
pub stray : (number : ℤ → ℕ) (es : List Entry) (n : ℕ) (entry : Entry) (pid : ℤ) → slice_get es n ≡ Some entry → nat_eq (number entry.pid) n ≡ false
    → number pid ≡ n → said (entry_in task_of number es pid) ≡ unknown
stray number es n entry pid at other here = ap (λ k. said (own task_of pid (slice_get es k))) here ∙ ap (λ o. said (own task_of pid o)) at ∙ beside (int_eq entry.pid pid) refl
  where
    beside : (hit : Bool) → int_eq entry.pid pid ≡ hit → said (own task_of pid (Some entry)) ≡ unknown
    beside true hit = absurd (true≢false (sym (eq-eqb (number entry.pid) n (ap number (same-pid entry.pid pid hit) ∙ here)) ∙ other))
    beside false hit = ap (λ b. said (cond b (Some entry) None)) hit
