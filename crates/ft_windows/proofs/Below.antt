-- The windows of CPUs below a number.
use Rattle.std.specs.Prelude.{◌≡◌, ◌<◌, ◌+◌, ℕ, zero, suc, Bool, List, [], ◌∷◌, ◌++◌}
use Rattle.std.specs.FinMap as finite
use Rattle.std.specs.List.{flat_map}
use Rattle.std.proofs.Common.{refl, sym, ap, ◌∙◌, append_assoc, arith, add-one}
use Rattle.std.proofs.lemmas.List.{append-nil}
use Rattle.std.proofs.lemmas.Grind.{flat_map-append}
use Rattle.std.proofs.lemmas.List.Concat.{flat_map-cons}
use Rattle.ft_fields.specs.Traced.{Traced}
use Rattle.ft_losses.specs.Holes.{cpus_below}
use Rattle.ft_losses.specs.Telling.{told_in, Tells}
use Rattle.ft_losses.specs.declared.hole.Hole.{Hole}
use Rattle.ft_windows.specs.Naming.{named_before, named_after, first_edge, last_edge}
use Rattle.ft_windows.specs.Showings.{shown_before, shown_from, span_cmp}
use Rattle.ft_windows.specs.Telling.{lane_in, named_in, begins_before, ends_after, is_before, is_from, Keeps}
use Rattle.ft_windows.specs.Windows.{late_window, early_window, windows, unspanned, with_windows}
use Rattle.ft_dispatch.specs.declared.showing.Showing.{Showing}
use Rattle.ft_windows.specs.declared.windows.Windows.{Windows}
use Rattle.ft_windows.proofs.Stretches.{spans-are}
use Rattle.ft_maps.specs.Seen.{seen}

-- those of one CPU more
pub one-more : (f : ℕ → List Hole) (old found : List Hole) (cpu : ℕ) → found ≡ old ++ flat_map f (cpus_below cpu) → found ++ f cpu ≡ old ++ flat_map f (cpus_below (cpu + 1))
unfolding cpus_below
one-more f old found cpu is =
    ap (λ (hs : List Hole). hs ++ f cpu) is ∙ append_assoc old (flat_map f (cpus_below cpu)) (f cpu)
    ∙ ap (λ (hs : List Hole). old ++ hs) (ap (λ (hs : List Hole). flat_map f (cpus_below cpu) ++ hs) (sym (flat_map-cons f cpu [] ∙ append-nil (f cpu))) ∙ sym (flat_map-append f (cpus_below cpu) (cpu ∷ [])))
    ∙ ap (λ (n : ℕ). old ++ flat_map f (cpus_below n)) (sym (add-one cpu))

-- the same windows, if they are the same of each CPU below a number
same-below : (f g : ℕ → List Hole) (n : ℕ) → ((cpu : ℕ) → cpu < n → f cpu ≡ g cpu) → flat_map f (cpus_below n) ≡ flat_map g (cpus_below n)
unfolding cpus_below
same-below f g zero same = refl
same-below f g (suc n) same =
    flat_map-append f (cpus_below n) (n ∷ []) ∙ ap (λ (hs : List Hole). flat_map f (cpus_below n) ++ hs) (flat_map-cons f n [] ∙ append-nil (f n) ∙ same n (omega arith) ∙ sym (flat_map-cons g n [] ∙ append-nil (g n)))
    ∙ ap (λ (hs : List Hole). hs ++ flat_map g (n ∷ [])) (same-below f g n (λ cpu low. same cpu (omega (arith, low))))
    ∙ sym (flat_map-append g (cpus_below n) (n ∷ []))

-- the windows by what is kept
module _ (self : Windows) (events : List Traced) (showings : List Showing) (told : List Bool) (is_told : ℕ → Bool) (keeps : Keeps self events showings) (tells : Tells told is_told) where
  late-is : flat_map (λ cpu. late_window (told_in told) (λ pid stamp. begins_before (named_in self.tasks pid) stamp) (is_before self.least_at) cpu (lane_in self.lanes.items cpu).first) (cpus_below 8192)
      ≡ flat_map (λ cpu. late_window is_told (named_before events) (shown_before showings) cpu (first_edge cpu events)) (cpus_below 8192)
  late-is =
      same-below (λ cpu. late_window (told_in told) (λ pid stamp. begins_before (named_in self.tasks pid) stamp) (is_before self.least_at) cpu (lane_in self.lanes.items cpu).first)
      (λ cpu. late_window is_told (named_before events) (shown_before showings) cpu (first_edge cpu events)) 8192
      (λ cpu low. (λ i. late_window (λ other. tells cpu (omega (arith, low)) i) (λ pid stamp. keeps.before pid stamp i) (λ stamp. keeps.shown stamp i) cpu (keeps.first cpu (omega (arith, low)) i)))

  early-is : flat_map (λ cpu. early_window (λ pid stamp. ends_after (named_in self.tasks pid) stamp) (is_from self.greatest_from) cpu (lane_in self.lanes.items cpu).last) (cpus_below 8192)
      ≡ flat_map (λ cpu. early_window (named_after events) (shown_from showings) cpu (last_edge cpu events)) (cpus_below 8192)
  early-is =
      same-below (λ cpu. early_window (λ pid stamp. ends_after (named_in self.tasks pid) stamp) (is_from self.greatest_from) cpu (lane_in self.lanes.items cpu).last)
      (λ cpu. early_window (named_after events) (shown_from showings) cpu (last_edge cpu events)) 8192
      (λ cpu low. (λ i. early_window (λ pid stamp. keeps.after pid stamp i) (λ stamp. keeps.from stamp i) cpu (keeps.last cpu (omega (arith, low)) i)))

  pub all-windows : (old late found : List Hole)
      → late ≡ old ++ flat_map (λ cpu. late_window (told_in told) (λ pid stamp. begins_before (named_in self.tasks pid) stamp) (is_before self.least_at) cpu (lane_in self.lanes.items cpu).first) (cpus_below 8192)
      → found ≡ late ++ flat_map (λ cpu. early_window (λ pid stamp. ends_after (named_in self.tasks pid) stamp) (is_from self.greatest_from) cpu (lane_in self.lanes.items cpu).last) (cpus_below 8192)
      → found ≡ old ++ windows is_told events showings
  all-windows old late found first is =
      is ∙ (λ i. first i ++ early-is i) ∙ ap (λ (hs : List Hole). (old ++ hs) ++ flat_map (λ cpu. early_window (named_after events) (shown_from showings) cpu (last_edge cpu events)) (cpus_below 8192)) late-is
      ∙ append_assoc old (flat_map (λ cpu. late_window is_told (named_before events) (shown_before showings) cpu (first_edge cpu events)) (cpus_below 8192)) (flat_map (λ cpu. early_window (named_after events) (shown_from showings) cpu (last_edge cpu events)) (cpus_below 8192))

  -- and the stretches that no hole spans
  pub all-holes : (old spanning found : List Hole) → spanning ≡ old ++ windows is_told events showings → found ≡ spanning ++ flat_map (unspanned spanning) (finite.keys (seen span_cmp self.spans))
      → found ≡ with_windows is_told old events showings
  all-holes old spanning found are is =
      is ∙ (λ i. are i ++ flat_map (unspanned (are i)) (spans-are self.spans showings keeps.all i))
