-- Which tasks acts name, and how these stand, after one act more.
use Rattle.std.specs.Prelude.{◌≡◌, ℤ, Bool, true, false, ◌&&◌, ◌||◌, List, [], ◌∷◌, ◌++◌, Option, Some, None, filter}
use Rattle.std.specs.List.{list_any}
use Rattle.std.specs.Option.{unwrap_or}
use Rattle.std.specs.Ordering.{int_eq}
use Rattle.std.proofs.Common.{ap, cond, refl, sym, ◌∙◌}
use Rattle.ft_fields.specs.declared.pos.Pos.{Pos}
use Rattle.ft_dispatch.specs.Acts.{Act, Waking, Creation, Wakeup, Switch, Handover}
use Rattle.ft_summary.specs.Figures.{last_cpu, task_sum}
use Rattle.ft_summary.specs.Runs.{total}
use Rattle.ft_summary.specs.Telling.{is_named, standing, standing_if_named}
use Rattle.ft_summary.specs.Waiting.{is_counted, is_runnable, is_running, tasks_of}
use Rattle.ft_summary.specs.inner.Changes.{awoken_now, changed, changed_in, none, ran_on}
use Rattle.ft_summary.specs.declared.standing.Change.{Change}
use Rattle.ft_summary.specs.declared.standing.Change.TheVariants as changes
use Rattle.ft_summary.specs.declared.standing.Standing.{Standing}
use Rattle.ft_summary.proofs.Summing.{created-step, leaving, left_and_run, roused-step, turned-step, woken-step}
use Rattle.ft_summary.proofs.Written.{pick, same-pid}

abbrev Entry : Type 0
Entry = Pos × Act

-- ---- truth values

pub or-left : (a b : Bool) → (a || b) ≡ false → a ≡ false
or-left true b h = h
or-left false b h = refl

pub or-right : (a b : Bool) → (a || b) ≡ false → b ≡ false
or-right true b h = cc
or-right false b h = h

-- one of the two
pub either-one : {A : Type 0} (a b : Bool) → (a || b) ≡ true → (a ≡ true → A) → (b ≡ true → A) → A
either-one true b h f g = f refl
either-one false b h f g = g h

pub and-first : (a b : Bool) → (a && b) ≡ true → a ≡ true
and-first true b h = refl
and-first false b h = h

pub and-second : (a b : Bool) → (a && b) ≡ true → b ≡ true
and-second true b h = h
and-second false b h = cc

-- ---- names

-- whether an act changes something for a task by its PID
abbrev pub touched : ℤ → ℤ → Bool
touched pid q = is_counted pid && int_eq pid q

named-one : (b : Bool) (pid q : ℤ) (rest : List ℤ) → list_any (λ named. int_eq named q) (cond b (pid ∷ rest) rest) ≡ ((b && int_eq pid q) || list_any (λ named. int_eq named q) rest)
named-one true pid q rest = refl
named-one false pid q rest = refl

append-cond : (b : Bool) (pid : ℤ) (xs rest : List ℤ) → cond b (pid ∷ xs) xs ++ rest ≡ cond b (pid ∷ (xs ++ rest)) (xs ++ rest)
append-cond true pid xs rest = refl
append-cond false pid xs rest = refl

-- whether acts name a task, with one more that names one
named-first : (pid q : ℤ) (xs rest : List ℤ) → list_any (λ named. int_eq named q) (filter is_counted (pid ∷ xs) ++ rest) ≡ (touched pid q || list_any (λ named. int_eq named q) (filter is_counted xs ++ rest))
named-first pid q xs rest =
    ap (list_any (λ named. int_eq named q)) (append-cond (is_counted pid) pid (filter is_counted xs) rest)
    ∙ named-one (is_counted pid) pid q (filter is_counted xs ++ rest)

pub named-woken : (place : Pos) (by woken q : ℤ) (before : List Entry) → is_named q ((place, Waking by woken) ∷ before) ≡ (touched woken q || is_named q before)
unfolding tasks_of
named-woken place by woken q before = named-first woken q [] (tasks_of before)

pub named-created : (place : Pos) (by created q : ℤ) (before : List Entry) → is_named q ((place, Creation by created) ∷ before) ≡ (touched created q || is_named q before)
unfolding tasks_of
named-created place by created q before = named-first created q [] (tasks_of before)

-- the end of a waking names none
pub named-roused : (place : Pos) (by woken q : ℤ) (before : List Entry) → is_named q ((place, Wakeup by woken) ∷ before) ≡ is_named q before
unfolding tasks_of
named-roused place by woken q before = refl

pub named-turned : (place : Pos) (turn : Handover) (q : ℤ) (before : List Entry) → is_named q ((place, Switch turn) ∷ before) ≡ (touched turn.next_pid q || (touched turn.prev_pid q || is_named q before))
unfolding tasks_of
named-turned place turn q before =
    named-first turn.next_pid q (turn.prev_pid ∷ []) (tasks_of before)
    ∙ ap (λ b. touched turn.next_pid q || b) (named-first turn.prev_pid q [] (tasks_of before))

touched-counted : (pid q : ℤ) → touched pid q ≡ true → is_counted q ≡ true
touched-counted pid q h = sym (ap is_counted (same-pid pid q (and-second (is_counted pid) (int_eq pid q) h))) ∙ and-first (is_counted pid) (int_eq pid q) h

-- a task that acts name isn't task 0
pub named-counted : (q : ℤ) (acts : List Entry) → is_named q acts ≡ true → is_counted q ≡ true
unfolding tasks_of
named-counted q [] h = cc
named-counted q ((place, Waking by woken) ∷ before) h =
    either-one (touched woken q) (is_named q before) (sym (named-woken place by woken q before) ∙ h) (touched-counted woken q) (named-counted q before)
named-counted q ((place, Creation by created) ∷ before) h =
    either-one (touched created q) (is_named q before) (sym (named-created place by created q before) ∙ h) (touched-counted created q) (named-counted q before)
named-counted q ((place, Wakeup by woken) ∷ before) h = named-counted q before (sym (named-roused place by woken q before) ∙ h)
named-counted q ((place, Switch turn) ∷ before) h =
    either-one (touched turn.next_pid q) (touched turn.prev_pid q || is_named q before) (sym (named-turned place turn q before) ∙ h) (touched-counted turn.next_pid q)
    (λ k. either-one (touched turn.prev_pid q) (is_named q before) k (touched-counted turn.prev_pid q) (named-counted q before))

touch-is : (b c : Bool) → (c ≡ true → b ≡ true) → (b && c) ≡ c
touch-is true c h = refl
touch-is false true h = h refl
touch-is false false h = refl

-- an act changes something for a task that isn't task 0 if and only if it has the task's PID
pub touched-is : (pid q : ℤ) → is_counted q ≡ true → touched pid q ≡ int_eq pid q
touched-is pid q counted = touch-is (is_counted pid) (int_eq pid q) (λ e. ap is_counted (same-pid pid q e) ∙ counted)

-- ---- how tasks stand that no act names

none-woken : (t : Bool) (s n : Standing) → t ≡ false → s ≡ n → cond t (awoken_now s) s ≡ n
none-woken true s n h e = cc
none-woken false s n h e = e

none-turned : (b d : Bool) (pid : ℤ) (place : Pos) (turn : Handover) (before : List Entry) (s n : Standing) → b ≡ false → d ≡ false → s ≡ n → left_and_run b d (leaving place turn before) place.cpu s ≡ n
none-turned b d pid place turn before s n p q e = ap (λ x. left_and_run x d (leaving place turn before) place.cpu s) p ∙ ap (λ x. left_and_run false x (leaving place turn before) place.cpu s) q ∙ e

pub unnamed : (q : ℤ) (acts : List Entry) → is_counted q ≡ true → is_named q acts ≡ false → standing q acts ≡ none q
unfolding standing task_sum total last_cpu is_running is_runnable tasks_of
unnamed q [] counted h = refl
unnamed q ((place, Waking by woken) ∷ before) counted h =
    let k = sym (named-woken place by woken q before) ∙ h in
    woken-step q place by woken before
    ∙ none-woken (int_eq woken q) (standing q before) (none q) (sym (touched-is woken q counted) ∙ or-left (touched woken q) (is_named q before) k) (unnamed q before counted (or-right (touched woken q) (is_named q before) k))
unnamed q ((place, Creation by created) ∷ before) counted h =
    let k = sym (named-created place by created q before) ∙ h in
    created-step q place by created before
    ∙ none-woken (int_eq created q) (standing q before) (none q) (sym (touched-is created q counted) ∙ or-left (touched created q) (is_named q before) k) (unnamed q before counted (or-right (touched created q) (is_named q before) k))
unnamed q ((place, Wakeup by woken) ∷ before) counted h =
    roused-step q place by woken before ∙ unnamed q before counted (sym (named-roused place by woken q before) ∙ h)
unnamed q ((place, Switch turn) ∷ before) counted h =
    let k = sym (named-turned place turn q before) ∙ h in
    let l = or-right (touched turn.next_pid q) (touched turn.prev_pid q || is_named q before) k in
    turned-step q place turn before
    ∙ none-turned (int_eq turn.prev_pid q) (int_eq turn.next_pid q) q place turn before (standing q before) (none q)
    (sym (touched-is turn.prev_pid q counted) ∙ or-left (touched turn.prev_pid q) (is_named q before) l)
    (sym (touched-is turn.next_pid q counted) ∙ or-left (touched turn.next_pid q) (touched turn.prev_pid q || is_named q before) k)
    (unnamed q before counted (or-right (touched turn.prev_pid q) (is_named q before) l))

-- ---- one change more

-- each named task stands so, and each other as one that no act named
pub record Stands (tasks : ℤ → Option Standing) (named : ℤ → Bool) (f : ℤ → Standing) : Type 0 where
  pub has : (q : ℤ) → tasks q ≡ cond (named q) (Some (f q)) None
  pub others : (q : ℤ) → is_counted q ≡ true → named q ≡ false → f q ≡ none q

unwrapped : (n : Bool) (s d : Standing) → (n ≡ false → s ≡ d) → unwrap_or (cond n (Some s) None) d ≡ s
unwrapped true s d h = refl
unwrapped false s d h = sym (h refl)

changed-at : (t n : Bool) (x y : Standing) (o : Option Standing) → (t ≡ true → x ≡ y) → o ≡ cond n (Some y) None → (s : Standing) → cond t (Some s) o ≡ cond (t || n) (Some (cond t s y)) None
changed-at true n x y o h e s = refl
changed-at false n x y o h e s = e

untouched : (t : Bool) (x y n : Standing) → t ≡ false → y ≡ n → cond t x y ≡ n
untouched true x y n h e = cc
untouched false x y n h e = e

-- one of them changed
pub stands-changed : (tasks new : ℤ → Option Standing) (named : ℤ → Bool) (f : ℤ → Standing) (change : Change) (pid : ℤ) → Stands tasks named f → ((q : ℤ) → new q ≡ changed_in tasks change pid q)
    → Stands new (λ q. touched pid q || named q) (λ q. cond (touched pid q) (changed change (f q)) (f q))
stands-changed tasks new named f change pid old is = record {
  has = λ q. is q
      ∙ pick (touched pid q) (Some (changed change (unwrap_or (tasks pid) (none pid)))) (Some (changed change (f q))) (tasks q)
      (λ t. ap (λ s. Some (changed change s)) (
      ap (λ o. unwrap_or o (none pid)) (old.has pid)
      ∙ unwrapped (named pid) (f pid) (none pid) (old.others pid (and-first (is_counted pid) (int_eq pid q) t))
      ∙ ap f (same-pid pid q (and-second (is_counted pid) (int_eq pid q) t))))
      ∙ changed-at (touched pid q) (named q) (f q) (f q) (tasks q) (λ t. refl) (old.has q) (changed change (f q));
  others = λ q counted h. untouched (touched pid q) (changed change (f q)) (f q) (none q) (or-left (touched pid q) (named q) h) (old.others q counted (or-right (touched pid q) (named q) h));
}

-- the tasks that acts name
pub stands-told : (tasks : ℤ → Option Standing) (acts : List Entry) → ((q : ℤ) → tasks q ≡ standing_if_named q acts) → Stands tasks (λ q. is_named q acts) (λ q. standing q acts)
stands-told tasks acts h = record { has = h; others = λ q. unnamed q acts }

-- and from there how acts say that they stand
pub told-stands : (tasks : ℤ → Option Standing) (named : ℤ → Bool) (f : ℤ → Standing) (acts : List Entry) → Stands tasks named f → ((q : ℤ) → is_named q acts ≡ named q) → ((q : ℤ) → is_counted q ≡ true → f q ≡ standing q acts)
    → (q : ℤ) → tasks q ≡ standing_if_named q acts
told-stands tasks named f acts stands same is q =
    stands.has q ∙ ap (λ b. cond b (Some (f q)) None) (sym (same q))
    ∙ pick (is_named q acts) (Some (f q)) (Some (standing q acts)) None (λ n. ap Some (is q (named-counted q acts n)))

-- ---- one act more

pub told-woken : (tasks new : ℤ → Option Standing) (place : Pos) (by woken : ℤ) (before : List Entry) → ((q : ℤ) → tasks q ≡ standing_if_named q before) → ((q : ℤ) → new q ≡ changed_in tasks changes.Awoken woken q)
    → (q : ℤ) → new q ≡ standing_if_named q ((place, Waking by woken) ∷ before)
told-woken tasks new place by woken before h is =
    told-stands new (λ q. touched woken q || is_named q before) (λ q. cond (touched woken q) (awoken_now (standing q before)) (standing q before)) ((place, Waking by woken) ∷ before)
    (stands-changed tasks new (λ q. is_named q before) (λ q. standing q before) changes.Awoken woken (stands-told tasks before h) is)
    (λ q. named-woken place by woken q before)
    (λ q counted. ap (λ b. cond b (awoken_now (standing q before)) (standing q before)) (touched-is woken q counted) ∙ sym (woken-step q place by woken before))

pub told-created : (tasks new : ℤ → Option Standing) (place : Pos) (by created : ℤ) (before : List Entry) → ((q : ℤ) → tasks q ≡ standing_if_named q before) → ((q : ℤ) → new q ≡ changed_in tasks changes.Awoken created q)
    → (q : ℤ) → new q ≡ standing_if_named q ((place, Creation by created) ∷ before)
told-created tasks new place by created before h is =
    told-stands new (λ q. touched created q || is_named q before) (λ q. cond (touched created q) (awoken_now (standing q before)) (standing q before)) ((place, Creation by created) ∷ before)
    (stands-changed tasks new (λ q. is_named q before) (λ q. standing q before) changes.Awoken created (stands-told tasks before h) is)
    (λ q. named-created place by created q before)
    (λ q counted. ap (λ b. cond b (awoken_now (standing q before)) (standing q before)) (touched-is created q counted) ∙ sym (created-step q place by created before))

-- the end of a waking changes none
pub told-roused : (tasks : ℤ → Option Standing) (place : Pos) (by woken : ℤ) (before : List Entry) → ((q : ℤ) → tasks q ≡ standing_if_named q before)
    → (q : ℤ) → tasks q ≡ standing_if_named q ((place, Wakeup by woken) ∷ before)
told-roused tasks place by woken before h q =
    h q ∙ ap (λ b. cond b (Some (standing q before)) None) (sym (named-roused place by woken q before))
    ∙ ap (λ (s : Standing). cond (is_named q ((place, Wakeup by woken) ∷ before)) (Some s) None) (sym (roused-step q place by woken before))

-- a switch leaves one, and runs one
pub told-turned : (tasks mid new : ℤ → Option Standing) (place : Pos) (turn : Handover) (before : List Entry) → ((q : ℤ) → tasks q ≡ standing_if_named q before)
    → ((q : ℤ) → mid q ≡ changed_in tasks (changes.Left (leaving place turn before)) turn.prev_pid q) → ((q : ℤ) → new q ≡ changed_in mid (changes.Run place.cpu) turn.next_pid q)
    → (q : ℤ) → new q ≡ standing_if_named q ((place, Switch turn) ∷ before)
told-turned tasks mid new place turn before h left run =
    let lv = leaving place turn before in
    let f : ℤ → Standing = λ q. cond (touched turn.prev_pid q) (changed (changes.Left lv) (standing q before)) (standing q before) in
    told-stands new (λ q. touched turn.next_pid q || (touched turn.prev_pid q || is_named q before)) (λ q. cond (touched turn.next_pid q) (ran_on place.cpu (f q)) (f q)) ((place, Switch turn) ∷ before)
    (stands-changed mid new (λ q. touched turn.prev_pid q || is_named q before) f (changes.Run place.cpu) turn.next_pid
    (stands-changed tasks mid (λ q. is_named q before) (λ q. standing q before) (changes.Left lv) turn.prev_pid (stands-told tasks before h) left) run)
    (λ q. named-turned place turn q before)
    (λ q counted. ap (λ b. left_and_run b (touched turn.next_pid q) lv place.cpu (standing q before)) (touched-is turn.prev_pid q counted)
    ∙ ap (λ d. left_and_run (int_eq turn.prev_pid q) d lv place.cpu (standing q before)) (touched-is turn.next_pid q counted)
    ∙ sym (turned-step q place turn before))
