-- Places and variables are the same or not.
use Rattle.std.proofs.Common.{◌≡◌, true, false, refl, sym, ap, subst, ◌∙◌, arith, Some, None, Option, inl, inr}
use Rattle.std.specs.Prelude.{◌⊎◌, List, OnOk, IfOk, Result, Ok, Err}
use Rattle.std.specs.declared.cmp.Ordering.{Ordering}
use Rattle.std.specs.Ordering.{eq_by_cmp}
use Rattle.std.specs.Cmp.{IsTotalOrder, eq_by_cmp_equiv}
use Rattle.std.specs.FinMap.{IsAntisymmetric}
use Rattle.ft_fields.specs.Orders.{key_cmp_total}
use Rattle.ft_fields.specs.Ties.{key_same}
use Rattle.ft_fields.specs.declared.key.Part.{Part}
use Rattle.ft_maps.specs.Entries.{same_from_tie}
use Rattle.ft_pairs.specs.Order.{at_cmp_total, at_same}
use Rattle.ft_pairs.specs.declared.at.At.{At}
use Rattle.ft_pairs.specs.Variables.{variable_cmp_total, variable_same}
use Rattle.ft_pairs.specs.declared.role.Variable.{Variable}

module _ {K : Type 0} {R : K → K → Ordering} (total : IsTotalOrder R) where
  -- each is itself
  pub itself : (p : K) → eq_by_cmp R p p ≡ true
  itself p = (eq_by_cmp_equiv total).refl p

  module _ (same : IsAntisymmetric R) where
    -- what ties is equal
    pub tied : (p q : K) → eq_by_cmp R p q ≡ true → p ≡ q
    tied = same_from_tie same

    -- what differs does not tie
    pub untied : (p q : K) → (p ≡ q → ⊥) → eq_by_cmp R p q ≡ false
    untied p q apart = grind (arith, same p q, apart)

    -- equal or not
    pub decided : (p q : K) → (p ≡ q) ⊎ (p ≡ q → ⊥)
    decided p q = elim (eq_by_cmp R p q) as (λ b. eq_by_cmp R p q ≡ b → (p ≡ q) ⊎ (p ≡ q → ⊥)) [
      | true ↦ λ tie. inl (tied p q tie)
      | false ↦ λ not_tied. inr (λ e. absurd (cc (sym (itself q) ∙ ap (λ x. eq_by_cmp R x q) (sym e) ∙ not_tied)))
    ] refl

pub at_decided : (p q : At) → (p ≡ q) ⊎ (p ≡ q → ⊥)
at_decided = decided at_cmp_total at_same

pub key_decided : (p q : List Part) → (p ≡ q) ⊎ (p ≡ q → ⊥)
key_decided = decided key_cmp_total key_same

pub variable_decided : (p q : Variable) → (p ≡ q) ⊎ (p ≡ q → ⊥)
variable_decided = decided variable_cmp_total variable_same

-- ---- truth values

pub none_not_some : {X : Type 0} (o : Option X) (x : X) → o ≡ None → o ≡ Some x → ⊥
none_not_some o x none some = absurd (cc (sym none ∙ some))

-- ---- results

-- what a fact of a success and one of its value tell together
pub if_ok_both : {T E : Type 0} (P : Type 0) (Q S : T → Type 0) (r s : Result T E) → r ≡ s → ((x : T) → P → Q x → S x) → OnOk s P → IfOk s Q → IfOk r S
if_ok_both {T = T} {E = E} P Q S r s is f p q = subst (λ x. IfOk x S) (sym is) (by s p q)
  where
    by : (x : Result T E) → OnOk x P → IfOk x Q → IfOk x S
    by (Ok x) p q = f x p q
    by (Err e) p q = tt
