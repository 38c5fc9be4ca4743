-- Events of some names that pass a filter, and their places.
use Rattle.std.proofs.Common.{◌≡◌, Bool, true, false, cond, List, [], ◌∷◌, refl, ap, ◌∙◌}
use Rattle.std.specs.Prelude.{◌&&◌, filter}
use Rattle.std.specs.Map.{keys_of}
use Rattle.ft_maps.specs.Mapped.{entries_by}

module _ {X : Type 0} where
  -- if each passes, all are left
  pub all_left : (fits : X → Bool) (xs : List X) → ((x : X) → fits x ≡ true) → filter fits xs ≡ xs
  all_left fits [] all = refl
  all_left fits (x ∷ xs) all =
      ap (λ (b : Bool). cond b (x ∷ filter fits xs) (filter fits xs)) (all x) ∙ ap (λ (rest : List X). x ∷ rest) (all_left fits xs all)

  -- those that pass one and then the other pass both
  pub passing_both : (p q : X → Bool) (xs : List X) → filter q (filter p xs) ≡ filter (λ x. p x && q x) xs
  passing_both p q [] = refl
  passing_both p q (x ∷ xs) =
      let rest = passing_both p q xs in
      elim (p x) as (λ b. filter q (cond b (x ∷ filter p xs) (filter p xs)) ≡ cond (b && q x) (x ∷ filter (λ x. p x && q x) xs) (filter (λ x. p x && q x) xs)) [
        | true ↦ ap (λ (more : List X). cond (q x) (x ∷ more) more) rest
        | false ↦ rest
      ]

module _ {K X Y : Type 0} (g : Y → X) where
  -- the keys of the entries whose values pass, as they are seen
  pub keys-passing : (p : X → Bool) (es : List (K × Y)) → keys_of (filter (λ e. p (g e.1)) es) ≡ keys_of (filter (λ (e : K × X). p e.1) (entries_by g es))
  keys-passing p [] = refl
  keys-passing p (e ∷ es) =
      let rest = keys-passing p es in
      elim (p (g e.1)) as (λ b. keys_of (cond b (e ∷ filter (λ e. p (g e.1)) es) (filter (λ e. p (g e.1)) es)) ≡ keys_of (cond b ((e.0, g e.1) ∷ filter (λ (e : K × X). p e.1) (entries_by g es)) (filter (λ (e : K × X). p e.1) (entries_by g es)))) [
        | true ↦ ap (λ (ks : List K). e.0 ∷ ks) rest
        | false ↦ rest
      ]
