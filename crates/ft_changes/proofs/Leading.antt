-- Changes that lead from what readings found to what they find.
use Rattle.std.proofs.Common.{◌≡◌, Bool, true, false, cond, List, [], ◌∷◌, ◌++◌, Option, refl, sym, ap, ◌∙◌}
use Rattle.std.specs.Prelude.{◌==◌, ℕ}
use Rattle.std.specs.Ordering.{eq_by_cmp}
use Rattle.std.specs.Cmp.{eq_by_cmp_equiv}
use Rattle.std.proofs.lemmas.Bool.{eqb-true, eqb-false, true≢false}
use Rattle.std.proofs.lemmas.Map.Views.{tells_apart}
use Rattle.ft_fields.specs.Places.{pos_cmp, pos_cmp_total, pos_same}
use Rattle.ft_fields.specs.declared.pos.Pos.{Pos}
use Rattle.ft_changes.specs.declared.changed.ReadingChange.{ReadingChange}
use Rattle.ft_changes.specs.Findings.{Findings, after_change, Lead}

-- two findings are the same of each reading
abbrev pub SameFindings : Findings → Findings → Type 0
SameFindings found others = (id : ℕ) (pos : Pos) → others id pos ≡ found id pos

-- no change leads from what was found to the same
pub lead_refl : (found now : Findings) → SameFindings found now → Lead [] found now
lead_refl found now same = same

-- a change makes the same of the same findings
after-same : (change : ReadingChange) (found others : Findings) → SameFindings found others → SameFindings (after_change change found) (after_change change others)
after-same change found others same id pos =
    ap (λ (o : Option Pos). cond (id == change.id) (cond (eq_by_cmp pos_cmp pos change.pos) change.after o) o) (same id pos)

-- changes lead from the same findings
pub lead_from : (changes : List ReadingChange) (found others now : Findings) → SameFindings found others → Lead changes found now → Lead changes others now
lead_from [] found others now same lead = λ id pos. lead id pos ∙ sym (same id pos)
lead_from (change ∷ more) found others now same lead = (
  same change.id change.pos ∙ lead.0,
  lead_from more (after_change change found) (after_change change others) now (after-same change found others same) lead.1,
)

-- and to the same findings
pub lead_to : (changes : List ReadingChange) (found now others : Findings) → SameFindings now others → Lead changes found now → Lead changes found others
lead_to [] found now others same lead = λ id pos. same id pos ∙ lead id pos
lead_to (change ∷ more) found now others same lead = (lead.0, lead_to more (after_change change found) now others same lead.1)

-- changes and then others lead as they do one after the other
pub lead_trans : (xs ys : List ReadingChange) (a b c : Findings) → Lead xs a b → Lead ys b c → Lead (xs ++ ys) a c
lead_trans [] ys a b c first then = lead_from ys b a c (λ id pos. sym (first id pos)) then
lead_trans (change ∷ more) ys a b c first then = (first.0, lead_trans more ys (after_change change a) b c first.1 then)

-- one reading changed, and the others found the same
pub lead_one : (change : ReadingChange) (found now : Findings) → found change.id change.pos ≡ change.before → now change.id change.pos ≡ change.after
    → ((id : ℕ) (pos : Pos) → (id ≡ change.id → pos ≡ change.pos → ⊥) → now id pos ≡ found id pos) → Lead (change ∷ []) found now
lead_one change found now before after elsewhere = (before, λ id pos. at id pos (id == change.id) refl (eq_by_cmp pos_cmp pos change.pos) refl) where
  at : (id : ℕ) (pos : Pos) (own : Bool) → (id == change.id) ≡ own → (here : Bool) → eq_by_cmp pos_cmp pos change.pos ≡ here → now id pos ≡ after_change change found id pos
  at id pos false apart here tie = elsewhere id pos (λ is place. eqb-false id change.id apart is) ∙ sym (ap (λ b. cond b (cond (eq_by_cmp pos_cmp pos change.pos) change.after (found id pos)) (found id pos)) apart)
  at id pos true is false apart = elsewhere id pos (λ own place. true≢false (sym (ap (λ p. eq_by_cmp pos_cmp p change.pos) place ∙ (eq_by_cmp_equiv pos_cmp_total).refl change.pos) ∙ apart))
      ∙ sym (λ i. cond (is i) (cond (apart i) change.after (found id pos)) (found id pos))
  at id pos true is true tie = (λ i. now (eqb-true id change.id is i) (tells_apart pos_same pos change.pos tie i)) ∙ after
      ∙ sym (λ i. cond (is i) (cond (tie i) change.after (found id pos)) (found id pos))
