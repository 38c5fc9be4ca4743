-- How a task stands after a write.
use Rattle.std.specs.Prelude.{◌≡◌, ℤ, Bool, true, false, ◌&&◌, Some}
use Rattle.std.specs.Option.{unwrap_or}
use Rattle.std.specs.Ordering.{int_eq}
use Rattle.std.specs.Cmp.{signed_Decides}
use Rattle.std.specs.BTreeMap.{BTreeMap}
use Rattle.std.proofs.Common.{refl, cond, ap, sym, ◌∙◌}
use Rattle.ft_summary.specs.Waiting.{is_counted}
use Rattle.ft_summary.specs.inner.Changes.{changed, changed_in, found_task, none}
use Rattle.ft_summary.specs.declared.standing.Change.{Change}
use Rattle.ft_summary.specs.declared.standing.Standing.{Standing}
use Rattle.ft_summary.specs.declared.tasks.Task.{Task}

-- two numbers that are the same
pub same-pid : (p q : ℤ) → int_eq p q ≡ true → p ≡ q
same-pid p q h = (signed_Decides p q).0 h

-- a choice with another first part, which is the same if the first part is taken
pub pick : {A : Type 0} (b : Bool) (x y z : A) → (b ≡ true → x ≡ y) → cond b x z ≡ cond b y z
pick true x y z h = h refl
pick false x y z h = refl

-- how each task stands after a write at one, whose number was stored and read
pub found-written : (m n : BTreeMap Task Standing) (stored pid q : ℤ) (v w : Standing) → stored ≡ pid → v ≡ w → found_task n q ≡ cond (int_eq stored q) (Some v) (found_task m q) → found_task n q ≡ cond (int_eq pid q) (Some w) (found_task m q)
found-written m n stored pid q v w same is h =
    h ∙ ap (λ p. cond (int_eq p q) (Some v) (found_task m q)) same ∙ ap (λ (s : Standing). cond (int_eq pid q) (Some s) (found_task m q)) is

-- after a found one was changed where it stands
pub found-changed : (m n : BTreeMap Task Standing) (stored pid q : ℤ) (was new : Standing) (change : Change) → stored ≡ pid → is_counted pid ≡ true → Some was ≡ found_task m stored → new ≡ changed change was
    → found_task n q ≡ cond (int_eq stored q) (Some new) (found_task m q) → found_task n q ≡ changed_in (found_task m) change pid q
found-changed m n stored pid q was new change same counted here is h =
    found-written m n stored pid q new (changed change (unwrap_or (found_task m pid) (none pid))) same
    (is ∙ ap (λ o. changed change (unwrap_or o (none pid))) (here ∙ ap (found_task m) same)) h
    ∙ ap (λ b. cond (b && int_eq pid q) (Some (changed change (unwrap_or (found_task m pid) (none pid)))) (found_task m q)) (sym counted)
