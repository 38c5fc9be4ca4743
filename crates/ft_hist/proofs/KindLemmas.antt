-- Key items match exactly if they make parts of the same kinds.
use Rattle.std.specs.Prelude.{◌≡◌, ◌↔◌, Bool, true, false, IsTrue, ◌&&◌, List, [], ◌∷◌, map}
use Rattle.std.proofs.Common.{refl, sym, ap, ◌∙◌}
use Rattle.std.proofs.lemmas.Bool.{and_parts}
use Rattle.ft_hist.specs.declared.item.KeyItem.{KeyItem}
use Rattle.ft_hist.specs.Matching.{item_kind, keys_match}
use Rattle.ft_hist.specs.Modifiers.{same_kind}
use Rattle.ft_hist.proofs.ModifierLemmas.{kind_same, kind_itself}

-- the first of two tests passes if both do
first_true : (a b : Bool) → (a && b) ≡ true → a ≡ true
first_true true b e = refl
first_true false b e = cc

-- two tests that pass
both_true : (a b : Bool) → a ≡ true → b ≡ true → (a && b) ≡ true
both_true true b d e = e
both_true false b d e = cc

-- key items that match make parts of the same kinds
kinds_are : (xs ys : List KeyItem) → keys_match xs ys ≡ true → map item_kind xs ≡ map item_kind ys
kinds_are [] [] e = refl
kinds_are [] (y ∷ ys) e = cc
kinds_are (x ∷ xs) [] e = cc
kinds_are (x ∷ xs) (y ∷ ys) e =
    let first : item_kind x ≡ item_kind y = kind_same (item_kind x) (item_kind y) (first_true (same_kind (item_kind x) (item_kind y)) (keys_match xs ys) e) in
    let rest : map item_kind xs ≡ map item_kind ys = kinds_are xs ys ((and_parts (same_kind (item_kind x) (item_kind y)) (keys_match xs ys) e).1) in
    cc

-- key items that make parts of the same kinds match
kinds_match : (xs ys : List KeyItem) → map item_kind xs ≡ map item_kind ys → keys_match xs ys ≡ true
kinds_match [] [] e = refl
kinds_match [] (y ∷ ys) e = cc
kinds_match (x ∷ xs) [] e = cc
kinds_match (x ∷ xs) (y ∷ ys) e =
    let first : item_kind x ≡ item_kind y = cc in
    let rest : map item_kind xs ≡ map item_kind ys = cc in
    both_true (same_kind (item_kind x) (item_kind y)) (keys_match xs ys)
    (ap (λ kind. same_kind (item_kind x) kind) (sym first) ∙ kind_itself (item_kind x)) (kinds_match xs ys rest)

-- key items match exactly if they make parts of the same kinds
pub keys_match_is : (xs ys : List KeyItem) → IsTrue (keys_match xs ys) ↔ (map item_kind xs ≡ map item_kind ys)
keys_match_is xs ys = (kinds_are xs ys, kinds_match xs ys)
