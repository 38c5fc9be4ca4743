-- The parts of a key that fits, one after another.
use Rattle.std.proofs.Common.{◌≡◌, ℕ, zero, suc, ◌+◌, ◌<◌, List, [], ◌∷◌, ◌++◌, length, get_or, drop, refl, sym, ap, ◌∙◌, arith, append_assoc}
use Rattle.std.specs.Prelude.{Some, IsSome, slice_get, codes}
use Rattle.std.proofs.lemmas.Option.{same_Some}
use Rattle.ft_hist.specs.declared.item.KeyItem.{KeyItem}
use Rattle.ft_fields.specs.declared.key.Part.{Part}
use Rattle.ft_hist.specs.Fitting.{KeyFits}
use Rattle.ft_table.specs.Text.{named_part, more_parts}

-- a key that fits has a part for each item
pub part-there : (items : List KeyItem) (parts : List Part) (at : ℕ) → KeyFits items parts → at < length items → IsSome (slice_get parts at)
part-there [] parts at fits inside = absurd (omega (arith, inside))
part-there (item ∷ items) [] at fits inside = absurd fits
part-there (item ∷ items) (part ∷ parts) zero fits inside = refl
part-there (item ∷ items) (part ∷ parts) (suc at) fits inside = part-there items parts at fits.1 (omega (arith, inside))

-- the item and the part at a place come next
next-part : (items : List KeyItem) (parts : List Part) (at : ℕ) (d : KeyItem) (part : Part) → at < length items → slice_get parts at ≡ Some part
    → more_parts (drop at items) (drop at parts) ≡ codes ", " ++ named_part (get_or items at d) part ++ more_parts (drop (suc at) items) (drop (suc at) parts)
next-part [] parts at d part inside is = absurd (omega (arith, inside))
next-part (item ∷ items) [] at d part inside is = absurd cc
next-part (item ∷ items) (first ∷ parts) zero d part inside is = ap (λ p. codes ", " ++ named_part item p ++ more_parts items parts) (same_Some first part is)
next-part (item ∷ items) (first ∷ parts) (suc at) d part inside is = next-part items parts at d part (omega (arith, inside)) is

-- when a part is added, the text with those still to come stays the same
pub part-added : (items : List KeyItem) (parts : List Part) (at : ℕ) (d : KeyItem) (part : Part) (now one two whole : List ℕ) → at < length items → slice_get parts at ≡ Some part
    → one ≡ now ++ codes ", " → two ≡ one ++ named_part (get_or items at d) part → now ++ more_parts (drop at items) (drop at parts) ≡ whole
    → two ++ more_parts (drop (at + 1) items) (drop (at + 1) parts) ≡ whole
part-added items parts at d part now one two whole inside is first second before =
    let later : at + 1 ≡ suc at = omega arith in
    let rest : List ℕ = more_parts (drop (suc at) items) (drop (suc at) parts) in
    ap (λ n. two ++ more_parts (drop n items) (drop n parts)) later
    ∙ ap (λ (t : List ℕ). t ++ rest) (second ∙ ap (λ (t : List ℕ). t ++ named_part (get_or items at d) part) first)
    ∙ regrouped now (codes ", ") (named_part (get_or items at d) part) rest
    ∙ ap (λ (t : List ℕ). now ++ t) (sym (next-part items parts at d part inside is))
    ∙ before
  where
    regrouped : (a b c e : List ℕ) → ((a ++ b) ++ c) ++ e ≡ a ++ (b ++ c ++ e)
    regrouped a b c e = simp append_assoc
