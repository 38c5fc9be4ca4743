-- One dispatch more, which is held or passed on.
use Rattle.std.specs.Prelude.{◌≡◌, ◌+◌, ◌<◌, ℕ, ℤ, Bool, true, false, ◌||◌, List, [], ◌∷◌, ◌++◌, length, reverse, take}
use Rattle.std.specs.List.{list_any}
use Rattle.std.specs.Ordering.{int_cmp, int_eq, is_eq}
use Rattle.std.proofs.Common.{refl, sym, ap, ◌∙◌, cond, append_assoc, subst, get_or}
use Rattle.std.proofs.Math.Bool.{or-false}
use Rattle.std.proofs.lemmas.List.{append-nil, reverse-append, take_more}
use Rattle.std.proofs.lemmas.List.Folds.{list_any-append}
use Rattle.ft_dispatch.specs.Joining.{has_one, first_ones, firsts, other_ones, others}
use Rattle.ft_dispatch.specs.Holding.{has_task, Holds, TakesOn}
use Rattle.ft_dispatch.specs.declared.dispatch.Dispatch.{Dispatch}
use Rattle.ft_dispatch.specs.declared.holding.Task.{Task}
use Rattle.ft_dispatch.specs.declared.holding.FirstOnes.{FirstOnes}
use Rattle.ft_dispatch.proofs.Firsts.{has-reverse}
use Rattle.ft_dispatch.proofs.Written.{same-pid}

has-more : (pid : ℤ) (told : List Dispatch) (one : Dispatch) → has_one pid (told ++ one ∷ []) ≡ (has_one pid told || int_eq one.pid pid)
has-more pid told one = list_any-append (λ (d : Dispatch). int_eq d.pid pid) told (one ∷ []) ∙ ap (λ b. has_one pid told || b) (or-false (int_eq one.pid pid))

firsts-more : (told : List Dispatch) (one : Dispatch) → firsts (told ++ one ∷ []) ≡ cond (has_one one.pid told) (firsts told) (firsts told ++ one ∷ [])
unfolding first_ones
firsts-more told one =
    ap (λ (ds : List Dispatch). reverse (first_ones ds)) (reverse-append told (one ∷ []))
    ∙ ap (λ b. reverse (cond b (first_ones (reverse told)) (one ∷ first_ones (reverse told)))) (has-reverse one.pid told)
    ∙ step (has_one one.pid told)
  where
    step : (has : Bool) → reverse (cond has (first_ones (reverse told)) (one ∷ first_ones (reverse told))) ≡ cond has (firsts told) (firsts told ++ one ∷ [])
    step true = refl
    step false = reverse-append (one ∷ []) (first_ones (reverse told))

others-more : (told : List Dispatch) (one : Dispatch) → others (told ++ one ∷ []) ≡ cond (has_one one.pid told) (others told ++ one ∷ []) (others told)
unfolding other_ones
others-more told one =
    ap (λ (ds : List Dispatch). reverse (other_ones ds)) (reverse-append told (one ∷ []))
    ∙ ap (λ b. reverse (cond b (one ∷ other_ones (reverse told)) (other_ones (reverse told)))) (has-reverse one.pid told)
    ∙ step (has_one one.pid told)
  where
    step : (has : Bool) → reverse (cond has (one ∷ other_ones (reverse told)) (other_ones (reverse told))) ≡ cond has (others told ++ one ∷ []) (others told)
    step true = reverse-append (one ∷ []) (other_ones (reverse told))
    step false = refl

-- a task that has a dispatch has one still
had-one : (told : List Dispatch) (one : Dispatch) (pid : ℤ) (same : Bool) → same ≡ int_eq one.pid pid → has_one one.pid told ≡ true → has_one pid told ≡ (has_one pid told || same)
had-one told one pid false is has = sym (or-false (has_one pid told))
had-one told one pid true is has =
    let here : has_one pid told ≡ true = ap (λ (p : ℤ). has_one p told) (sym (same-pid one.pid pid (sym is))) ∙ has in
    here ∙ sym (ap (λ b. b || true) here)

-- a dispatch of a task that has one is passed on
pub given-more : (held : FirstOnes) (told given out : List Dispatch) (one : Dispatch) → Holds held told → given ++ out ≡ others told → has_task one.pid held.tasks ≡ true
    → Holds held (told ++ one ∷ []) × (given ++ (out ++ one ∷ []) ≡ others (told ++ one ∷ []))
given-more held told given out one holds is found =
    let has : has_one one.pid told ≡ true = sym (holds.tasks one.pid) ∙ found in (
      record {
        ones = holds.ones ∙ sym (ap (λ b. cond b (firsts told) (firsts told ++ one ∷ [])) has) ∙ sym (firsts-more told one);
        tasks = λ pid. holds.tasks pid ∙ had-one told one pid (int_eq one.pid pid) refl has ∙ sym (has-more pid told one);
      },
      sym (append_assoc given out (one ∷ [])) ∙ ap (λ (ds : List Dispatch). ds ++ one ∷ []) is
          ∙ sym (ap (λ b. cond b (others told ++ one ∷ []) (others told)) has) ∙ sym (others-more told one),
    )

either : (a b : Bool) → cond a true b ≡ (b || a)
either true true = refl
either true false = refl
either false b = sym (or-false b)

-- the first dispatch of a task is held
pub held-more : (held new : FirstOnes) (told given out : List Dispatch) (one : Dispatch) → Holds held told → given ++ out ≡ others told → has_task one.pid held.tasks ≡ false
    → new.ones.items ≡ held.ones.items ++ one ∷ [] → ((pid : ℤ) → has_task pid new.tasks ≡ cond (int_eq one.pid pid) true (has_task pid held.tasks))
    → Holds new (told ++ one ∷ []) × (given ++ out ≡ others (told ++ one ∷ []))
held-more held new told given out one holds is missing pushed added =
    let has : has_one one.pid told ≡ false = sym (holds.tasks one.pid) ∙ missing in (
      record {
        ones = pushed ∙ ap (λ (ds : List Dispatch). ds ++ one ∷ []) holds.ones ∙ sym (ap (λ b. cond b (firsts told) (firsts told ++ one ∷ [])) has) ∙ sym (firsts-more told one);
        tasks = λ pid. added pid ∙ ap (λ b. cond (int_eq one.pid pid) true b) (holds.tasks pid) ∙ either (int_eq one.pid pid) (has_one pid told) ∙ sym (has-more pid told one);
      },
      is ∙ sym (ap (λ b. cond b (others told ++ one ∷ []) (others told)) has) ∙ sym (others-more told one),
    )

-- ---- the calls

pub holds-none : (held : FirstOnes) → held.ones.items ≡ [] → held.tasks.keys ≡ [] → Holds held []
unfolding first_ones
holds-none held none no_tasks = record {
  ones = none;
  tasks = λ pid. ap (λ (ts : List Task). list_any (λ task. is_eq (int_cmp pid task.pid)) ts) no_tasks;
}

-- the others by the list that one was pushed to
pub pushed : (P : Type 0) (all given out out_now : List Dispatch) (one : Dispatch) → out_now ≡ out ++ one ∷ [] → P × (given ++ (out ++ one ∷ []) ≡ all) → P × (given ++ out_now ≡ all)
pushed P all given out out_now one is parts = (parts.0, ap (λ (ds : List Dispatch). given ++ ds) is ∙ parts.1)

pub none-taken : (held : FirstOnes) (out : List Dispatch) → TakesOn [] held out held out
none-taken held out told given holds is = subst (λ (ds : List Dispatch). Holds held ds × (given ++ out ≡ others ds)) (sym (append-nil told)) (holds, is)

pub one-taken : (all : List Dispatch) (i : ℕ) (one : Dispatch) (old : FirstOnes) (out : List Dispatch) (held : FirstOnes) (out_then : List Dispatch) (new : FirstOnes) (out_now : List Dispatch)
    → i < length all → one ≡ get_or all i one → TakesOn (take i all) old out held out_then → TakesOn (one ∷ []) held out_then new out_now → TakesOn (take (i + 1) all) old out new out_now
one-taken all i one old out held out_then new out_now within is before more told given holds gave =
    let so_far = before told given holds gave in
    let both : (told ++ take i all) ++ one ∷ [] ≡ told ++ take (i + 1) all =
    append_assoc told (take i all) (one ∷ []) ∙ ap (λ (d : Dispatch). told ++ (take i all ++ d ∷ [])) is ∙ ap (λ (ds : List Dispatch). told ++ ds) (sym (take_more all i one within)) in
    subst (λ (ds : List Dispatch). Holds new ds × (given ++ out_now ≡ others ds)) both (more (told ++ take i all) given so_far.0 so_far.1)
