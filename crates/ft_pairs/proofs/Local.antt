-- What a reading finds depends only on the operations before it, back to the last one that stays.
use Rattle.std.proofs.Common.{◌≡◌, refl, sym, ap, subst, ◌∙◌, Some, None, Option, inl, inr}
use Rattle.std.specs.Prelude.{is_some}
use Rattle.std.proofs.lemmas.Bool.{true≢false}
use Rattle.std.specs.declared.cmp.Ordering.TheVariants.{Less, Equal, Greater}
use Rattle.std.specs.Ordering.{ordering_reverse}
use Rattle.ft_pairs.specs.declared.at.At.{At}
use Rattle.ft_pairs.specs.declared.at.Op.{Op}
use Rattle.ft_pairs.specs.declared.at.Op.TheVariants.{Save, Read}
use Rattle.ft_pairs.specs.Order.{at_cmp, at_cmp_total, at_same}
use Rattle.ft_pairs.specs.Source.{Ops, IsLastBefore, IsSource}

module _ (old new : Ops) (at : At) where
  same_last : ((q : At) → at_cmp q at ≡ Less → new q ≡ old q) → (last : At) (op : Op) → IsLastBefore old at last op → IsLastBefore new at last op
  same_last same last op h = record {
    there = same last h.before ∙ h.there;
    before = h.before;
    none = λ q after before. same q before ∙ h.none q after before;
  }

  -- operations that agree before a place have one source there
  pub same_source : ((q : At) → at_cmp q at ≡ Less → new q ≡ old q) → (found : Option At) → IsSource old at found → IsSource new at found
  same_source same (Some saved) h = same_last same saved Save h
  same_source same None (inl none) = inl (λ q before. same q before ∙ none q before)
  same_source same None (inr h) = inr (h.0, same_last same h.0 Read h.1)

-- a place where an operation stands is no place where none does
pub there_not_none : (ops : Ops) (q : At) (op : Op) → ops q ≡ Some op → ops q ≡ None → ⊥
there_not_none ops q op there none = true≢false (sym (ap is_some there) ∙ ap is_some none)

module _ (old new : Ops) (at mid : At) (op : Op)
    (was : old mid ≡ Some op) (is : new mid ≡ Some op) (front : at_cmp mid at ≡ Less)
    (same : (q : At) → at_cmp mid q ≡ Less → at_cmp q at ≡ Less → new q ≡ old q) where
  -- the last operation before a place is not in front of another that is before the place
  back_last : (last : At) (w : Op) → IsLastBefore old at last w → IsLastBefore new at last w
  back_last last w h = elim (at_cmp mid last) as (λ o. at_cmp mid last ≡ o → IsLastBefore new at last w) [
    | Less ↦ λ less. record {
      there = same last less h.before ∙ h.there;
      before = h.before;
      none = λ q after before. same q (at_cmp_total.trans mid last q less after) before ∙ h.none q after before;
    }
    | Equal ↦ λ tie.
        let one : mid ≡ last = at_same mid last tie in
        record {
          there = subst (λ q. new q ≡ old q) one (is ∙ sym was) ∙ h.there;
          before = h.before;
          none = λ q after before. same q (subst (λ p. at_cmp p q ≡ Less) (sym one) after) before ∙ h.none q after before;
        }
    | Greater ↦ λ more. absurd (there_not_none old mid op was (h.none mid (at_cmp_total.antisymm last mid ∙ ap ordering_reverse more) front))
  ] refl

  -- so a change in front of an operation changes no source after it
  pub far_source : (found : Option At) → IsSource old at found → IsSource new at found
  far_source (Some saved) h = back_last saved Save h
  far_source None (inl none) = absurd (there_not_none old mid op was (none mid front))
  far_source None (inr h) = inr (h.0, back_last h.0 Read h.1)
