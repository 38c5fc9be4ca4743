-- Whether a pattern reads as items, by its first one.
use Rattle.std.proofs.Common.{◌≡◌, ◌≢◌, ◌<◌, ◌↔◌, ℕ, Bool, inl, inr, List, [], ◌∷◌, length, refl, ap, arith, eqb, false}
use Rattle.std.proofs.lemmas.Bool.{cases_eq}
use Rattle.ft_text.specs.Glob.{Item, IsBracketed}
use Rattle.ft_text.specs.inner.Walk.{ReadsAsItems, ReadsAsMembers}
use Rattle.ft_text.proofs.Cuts.{class_first, class_found}
use Rattle.ft_text.proofs.FirstMembers.{star_first, one_first, byte_first}

-- after any byte except a `[`
pub reads_byte : (first : ℕ) (rest : List ℕ) → first ≢ 91 → ReadsAsItems (first ∷ rest) ↔ ReadsAsItems rest
reads_byte first rest other =
    elim (cases_eq first 42) [
      | inl star ↦ (λ h. let f = star_first (first ∷ rest) rest h.0 (ap (λ (x : ℕ). x ∷ rest) star) h.1 in (f.behind, f.read), λ h. (Item.Any ∷ h.0, (rest, ap (λ (x : ℕ). x ∷ rest) star, h.1)))
      | inr no_star ↦
          elim (cases_eq first 63) [
            | inl one ↦ (λ h. let f = one_first (first ∷ rest) rest h.0 (ap (λ (x : ℕ). x ∷ rest) one) h.1 in (f.behind, f.read), λ h. (Item.One ∷ h.0, (rest, ap (λ (x : ℕ). x ∷ rest) one, h.1)))
            | inr not_one ↦ (λ h. let f = byte_first first (first ∷ rest) rest h.0 (no_star, not_one, other) refl h.1 in (f.behind, f.read), λ h. (Item.Byte first ∷ h.0, (rest, (refl, (no_star, not_one, other)), h.1)))
          ]
    ]

-- after a class
pub reads_class : (behind inside rest : List ℕ) (negated : Bool) → IsBracketed behind negated inside rest → 0 < length inside → ReadsAsMembers inside → ReadsAsItems (91 ∷ behind) ↔ ReadsAsItems rest
reads_class behind inside rest negated cut some members = (
  λ h. let f = class_found behind h.0 negated inside rest cut h.1 in (f.behind, f.read),
  λ h. (Item.Class negated members.0 ∷ h.0, (rest, (behind, refl, record { inside = inside; cut = cut; some = some; read = members.1 }), h.1)),
)

-- no class is closed
pub reads_none : (behind : List ℕ) → ((negated : Bool) (inside rest : List ℕ) → IsBracketed behind negated inside rest → ⊥) → ReadsAsItems (91 ∷ behind) → ⊥
reads_none behind none h = let f = class_first behind (91 ∷ behind) h.0 refl h.1 in none f.negated f.class.inside f.rest f.class.cut

-- the class that is closed has no members, or none that can be read
pub reads_empty : (behind inside rest : List ℕ) (negated : Bool) → IsBracketed behind negated inside rest → length inside ≡ 0 → ReadsAsItems (91 ∷ behind) → ⊥
reads_empty behind inside rest negated cut none h = let some = (class_found behind h.0 negated inside rest cut h.1).some in omega arith

pub reads_unread : (behind inside rest : List ℕ) (negated : Bool) → IsBracketed behind negated inside rest → (ReadsAsMembers inside → ⊥) → ReadsAsItems (91 ∷ behind) → ⊥
reads_unread behind inside rest negated cut none h = let f = class_found behind h.0 negated inside rest cut h.1 in none (f.members, f.inside_is)

-- what `is_empty` says
pub some_inside : (text : List ℕ) → false ≡ eqb (length text) 0 → 0 < length text
some_inside [] e = absurd cc
some_inside (b ∷ text) e = omega arith
