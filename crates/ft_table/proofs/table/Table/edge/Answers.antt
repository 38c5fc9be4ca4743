-- The keys on both sides of the size.
use Rattle.std.proofs.Common.{◌≡◌, ℕ, zero, suc, ◌-◌, ◌<◌, List, [], ◌∷◌, length, take, drop, map as list_map, refl, sym, ap, ◌∙◌, arith}
use Rattle.std.specs.Prelude.{min, option_map, slice_get}
use Rattle.std.proofs.lemmas.List.{length-map, length-take}
use Rattle.ft_hits.specs.declared.mark.Mark.{Mark}
use Rattle.ft_table.specs.Tabled.{last_in, first_out}
use Rattle.ft_table.proofs.table.Table.edge.Goals as goal

module _ {X Y : Type 0} (f : X → Y) where
  mapped_at : (xs : List X) (i : ℕ) → slice_get (list_map f xs) i ≡ option_map f (slice_get xs i)
  mapped_at [] i = refl
  mapped_at (x ∷ xs) zero = refl
  mapped_at (x ∷ xs) (suc i) = mapped_at xs i

  taken_at : (xs : List X) (n i : ℕ) → i < n → slice_get (list_map f (take n xs)) i ≡ option_map f (slice_get xs i)
  taken_at xs zero i lt = absurd (omega (arith, lt))
  taken_at [] (suc n) i lt = refl
  taken_at (x ∷ xs) (suc n) zero lt = refl
  taken_at (x ∷ xs) (suc n) (suc i) lt = taken_at xs n i (omega (arith, lt))

  dropped_at : (xs : List X) (n : ℕ) → slice_get (list_map f (drop n xs)) 0 ≡ option_map f (slice_get xs n)
  dropped_at [] zero = refl
  dropped_at [] (suc n) = refl
  dropped_at (x ∷ xs) zero = refl
  dropped_at (x ∷ xs) (suc n) = dropped_at xs n

  last_taken : (xs : List X) (n : ℕ) → 0 < n → option_map f (slice_get xs (min (length xs) n - 1)) ≡ slice_get (list_map f (take n xs)) (length (list_map f (take n xs)) - 1)
  last_taken xs n some =
      let long : length (list_map f (take n xs)) ≡ min (length xs) n = omega (arith, length-map (take n xs) f, length-take n xs) in
      sym (ap (λ k. slice_get (list_map f (take n xs)) (k - 1)) long ∙ taken_at xs n (min (length xs) n - 1) (omega (arith, some)))

pub returns-clause-last : goal.returns-clause-last
returns-clause-last c =
    let order = c.self.inside.ranked.order in
    c.key_of.ensures ∙ ap (option_map (λ (m : Mark). m.key)) c.last_inside.ensures
    ∙ last_taken (λ (m : Mark). m.key) order.marks order.size c.self.invariant.room
    ∙ ap (λ (ms : List Mark). slice_get (list_map (λ m. m.key) (take order.size ms)) (length (list_map (λ m. m.key) (take order.size ms)) - 1)) c.self.invariant.order
    ∙ ap last_in c.self.view_is

pub returns-clause-first : goal.returns-clause-first
returns-clause-first c =
    let order = c.self.inside.ranked.order in
    c.key_of-2.ensures ∙ ap (option_map (λ (m : Mark). m.key)) c.first_outside.ensures
    ∙ sym (dropped_at (λ (m : Mark). m.key) order.marks order.size)
    ∙ ap (λ (ms : List Mark). slice_get (list_map (λ m. m.key) (drop order.size ms)) 0) c.self.invariant.order
    ∙ ap first_out c.self.view_is
