-- There is one next operation.
use Rattle.std.proofs.Common.{◌≡◌, refl, sym, ap, ◌∙◌, Some, None, Option, unwrap_or}
use Rattle.std.specs.declared.cmp.Ordering.TheVariants.{Less, Equal, Greater}
use Rattle.std.specs.Ordering.{ordering_reverse}
use Rattle.ft_pairs.specs.declared.at.At.{At}
use Rattle.ft_pairs.specs.declared.at.Op.{Op}
use Rattle.ft_pairs.specs.Order.{at_cmp, at_cmp_total, at_same}
use Rattle.ft_pairs.specs.Source.{Ops}
use Rattle.ft_pairs.specs.Next.{IsNext, IsBehind}
use Rattle.ft_pairs.proofs.Local.{there_not_none}

-- operations at one place are one
pub same_step : (ops : Ops) (p q : At) (v w : Op) → p ≡ q → ops p ≡ Some v → ops q ≡ Some w → ◌≡◌ {A = Option (At × Op)} (Some (p, v)) (Some (q, w))
same_step ops p q v w same a b =
    let op : v ≡ w = ap (λ o. unwrap_or o v) (sym a ∙ ap ops same ∙ b) in
    λ i. Some (same i, op i)

pub behind_too : (after : Option At) (n q : At) → IsBehind after n → at_cmp n q ≡ Less → IsBehind after q
behind_too None n q h less = tt
behind_too (Some at) n q h less = at_cmp_total.trans at n q h less

module _ (ops : Ops) (after : Option At) where
  steps_same : (a b : At × Op) → IsNext ops after (Some a) → IsNext ops after (Some b) → Some a ≡ Some b
  steps_same a b h k = elim (at_cmp a.0 b.0) as (λ o. at_cmp a.0 b.0 ≡ o → Some a ≡ Some b) [
    | Less ↦ λ less. absurd (there_not_none ops a.0 a.1 h.there (k.none a.0 h.behind less))
    | Equal ↦ λ tie. same_step ops a.0 b.0 a.1 b.1 (at_same a.0 b.0 tie) h.there k.there
    | Greater ↦ λ more. absurd (there_not_none ops b.0 b.1 k.there (h.none b.0 k.behind (at_cmp_total.antisymm b.0 a.0 ∙ ap ordering_reverse more)))
  ] refl

  pub one_next : (a b : Option (At × Op)) → IsNext ops after a → IsNext ops after b → a ≡ b
  one_next None None h k = refl
  one_next None (Some b) h k = absurd (there_not_none ops b.0 b.1 k.there (h b.0 k.behind))
  one_next (Some a) None h k = absurd (there_not_none ops a.0 a.1 h.there (k a.0 h.behind))
  one_next (Some a) (Some b) h k = steps_same a b h k

-- operations that agree have one next operation
pub same_next : (old new : Ops) → ((q : At) → new q ≡ old q) → (after : Option At) (next : Option (At × Op)) → IsNext old after next → IsNext new after next
same_next old new same after None h = λ q behind. same q ∙ h q behind
same_next old new same after (Some next) h = record {
  there = same next.0 ∙ h.there;
  behind = h.behind;
  none = λ q behind before. same q ∙ h.none q behind before;
}
