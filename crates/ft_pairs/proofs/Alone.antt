-- There is one last operation before a place, and so one source.
use Rattle.std.proofs.Common.{◌≡◌, refl, sym, ap, ◌∙◌, Some, None, Option, inl, inr}
use Rattle.std.specs.declared.cmp.Ordering.TheVariants.{Less, Equal, Greater}
use Rattle.std.specs.Ordering.{ordering_reverse}
use Rattle.ft_pairs.specs.declared.at.At.{At}
use Rattle.ft_pairs.specs.declared.at.Op.{Op}
use Rattle.ft_pairs.specs.declared.at.Op.TheVariants.{Save, Read}
use Rattle.ft_pairs.specs.Order.{at_cmp, at_cmp_total, at_same}
use Rattle.ft_pairs.specs.Source.{Ops, IsLastBefore, IsSource}
use Rattle.ft_pairs.proofs.Local.{there_not_none}

module _ (ops : Ops) (at : At) where
  -- two last operations before a place stand at one place
  one_last : (p q : At) (v w : Op) → IsLastBefore ops at p v → IsLastBefore ops at q w → p ≡ q
  one_last p q v w a b = elim (at_cmp p q) as (λ o. at_cmp p q ≡ o → p ≡ q) [
    | Less ↦ λ less. absurd (there_not_none ops q w b.there (a.none q less b.before))
    | Equal ↦ λ tie. at_same p q tie
    | Greater ↦ λ more. absurd (there_not_none ops p v a.there (b.none p (at_cmp_total.antisymm q p ∙ ap ordering_reverse more) a.before))
  ] refl

  save_not_read : (p q : At) → IsLastBefore ops at p Save → IsLastBefore ops at q Read → ⊥
  save_not_read p q a b =
      let one : Some Save ≡ Some Read = sym a.there ∙ ap ops (one_last p q Save Read a b) ∙ b.there in
      cc

  saved_not_none : (p : At) → IsLastBefore ops at p Save → IsSource ops at None → ⊥
  saved_not_none p a (inl none) = there_not_none ops p Save a.there (none p a.before)
  saved_not_none p a (inr last) = save_not_read p last.0 a last.1

  pub one_source : (a b : Option At) → IsSource ops at a → IsSource ops at b → a ≡ b
  one_source None None h k = refl
  one_source None (Some q) h k = absurd (saved_not_none q k h)
  one_source (Some p) None h k = absurd (saved_not_none p h k)
  one_source (Some p) (Some q) h k = ap (λ s. Some s) (one_last p q Save Save h k)
