use Rattle.std.proofs.Common.{◌≡◌, ℕ, ◌+◌, ◌++◌, true, List, [], ◌∷◌, drop, get_or, sym, ap, ◌∙◌, Some, None}
use Rattle.std.specs.Prelude.{◌&&◌}
use Rattle.std.specs.Map.{keys_of}
use Rattle.std.proofs.lemmas.List.{append_assoc, append-nil}
use Rattle.ft_pairs.specs.declared.at.At.{At}
use Rattle.ft_pairs.specs.declared.at.Op.{Op}
use Rattle.ft_pairs.specs.declared.at.Op.TheVariants.{Save}
use Rattle.ft_pairs.specs.inner.Sides.{as_ops, is_after}
use Rattle.ft_pairs.proofs.Sides.{keys-ops, next_one, none_after, ops-push, rises, rises-ascend}
use Rattle.ft_pairs.proofs.sequence.saves_in_order.Goals as goal

pub loop-operation-preserved : goal.loop-operation-preserved
loop-operation-preserved c =
    let run : List (At × Op) = c.args.run.now in
    let i : ℕ = c.loop-operation.operation-index in
    let e : At × Op = get_or run i (record { pos = record { stamp = 0; cpu = 0; line = 0 }; trigger = 0 }, Save) in
    let rest : List (At × Op) = drop (i + 1) run in
    let places = c.loop-operation.places.items in
    let left : drop i run ≡ e ∷ rest = next_one run i _ c.loop-operation-test.true in
    let after : is_after c.loop-operation.before e.0 ≡ true = sym c.is_after.ensures ∙ c.if-not-is_after.false in
    record {
      same =
          ap (λ l. as_ops Save l ++ rest) c.in_ok-push-in-Save.ensures.items
          ∙ ap (λ l. l ++ rest) (ops-push Save places _)
          ∙ append_assoc (as_ops Save places) ((e.0, Save) ∷ []) rest
          ∙ ap (λ (op : Op). as_ops Save places ++ (e.0, op) ∷ rest) (sym c.in-Save.is)
          ∙ ap (λ l. as_ops Save places ++ l) (sym left)
          ∙ c.loop-operation.invariant.same;
      rise =
          ap (λ b. b && rises (Some e.0) (keys_of rest)) (sym after)
          ∙ ap (λ l. rises c.loop-operation.before (keys_of l)) (sym left)
          ∙ c.loop-operation.invariant.rise;
    }

pub returns-clause-rise : goal.returns-clause-rise
returns-clause-rise c =
    let run : List (At × Op) = c.args.run.now in
    let places = c.loop-operation.places.items in
    let left : drop c.loop-operation.operation-index run ≡ [] = none_after run c.loop-operation.operation-index c.loop-operation-test.false in
    let up : rises None (keys_of run) ≡ true = sym c.loop-operation.invariant.rise ∙ ap (λ l. rises c.loop-operation.before (keys_of l)) left in
    let all : as_ops Save places ≡ run = sym (append-nil (as_ops Save places)) ∙ ap (λ l. as_ops Save places ++ l) (sym left) ∙ c.loop-operation.invariant.same in
    rises-ascend None places (ap (rises None) (sym (keys-ops Save places) ∙ ap keys_of all) ∙ up)
