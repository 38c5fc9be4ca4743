-- What is kept behind the lines before a part.
use Rattle.std.specs.Prelude.{◌≡◌, ◌≤◌, ◌+◌, ℕ, false, List, [], ◌∷◌, ◌++◌, length, map as list_map, Option, option_map}
use Rattle.std.specs.List.{AllByRecursion}
use Rattle.std.specs.Option.{option_or}
use Rattle.std.proofs.Common.{refl, sym, ap, subst, ◌∙◌}
use Rattle.ft_event.specs.Marks.{last_count}
use Rattle.ft_fields.specs.Traced.{last_cpu}
use Rattle.ft_losses.specs.Joining.{any_lost, loss_behind, hole_behind}
use Rattle.ft_losses.specs.Notes.{Note}
use Rattle.ft_losses.specs.Telling.{IsCpu, IsKept}
use Rattle.ft_losses.specs.declared.hole.Beginning.{Beginning}
use Rattle.ft_losses.specs.declared.hole.Hole.{Hole}
use Rattle.ft_losses.specs.declared.lanes.Lane.{Lane}
use Rattle.ft_losses.specs.inner.Lanes.{lane_in}
use Rattle.ft_losses.specs.inner.Joined.{lane_behind}
use Rattle.ft_losses.proofs.Behind.{first-behind, last-behind, overwritten-behind, lost-behind, ended-behind, begun-behind, begun_behind, lasts, none-lost, all-cpus}
use Rattle.ft_losses.proofs.Lasting.{same-at}
use Rattle.ft_losses.proofs.Noting.{all-more}

-- holes by the last stamps of their CPUs
same-behind : (lines : ℕ) (f g : ℕ → Option ℕ) (hs : List Hole) → ((cpu : ℕ) → cpu ≤ last_cpu → f cpu ≡ g cpu) → AllByRecursion (λ (hole : Hole). IsCpu hole.cpu) hs
    → list_map (hole_behind lines f) hs ≡ list_map (hole_behind lines g) hs
same-behind lines f g [] same within = refl
same-behind lines f g (h ∷ hs) same within =
    ap (λ (o : Option ℕ). record { cpu = h.cpu; line = (hole_behind lines f h).line; after = option_or h.after o; before = h.before; count = h.count } ∷ list_map (hole_behind lines f) hs) (same-at f g h.cpu same within.0)
    ∙ ap (λ (rest : List Hole). hole_behind lines g h ∷ rest) (same-behind lines f g hs same within.1)

-- they are on the same CPUs
within-behind : (lines : ℕ) (f : ℕ → Option ℕ) (hs : List Hole) → AllByRecursion (λ (hole : Hole). IsCpu hole.cpu) hs → AllByRecursion (λ (hole : Hole). IsCpu hole.cpu) (list_map (hole_behind lines f) hs)
within-behind lines f [] within = tt
within-behind lines f (h ∷ hs) within = (within.0, within-behind lines f hs within.1)

module _ (lanes own new : List Lane) (ended own_ended : List Hole) (begins own_begins begins_now : Beginning) (before notes : List Note) (keeps : IsKept lanes ended begins before) (keeps_own : IsKept own own_ended own_begins notes)
    (fits : length notes + length before ≤ last_count) (none : any_lost before ≡ false) where
  pub kept-together : (ended_now : List Hole) → ((cpu : ℕ) → cpu ≤ last_cpu → lane_in new cpu ≡ lane_behind (length before) (lane_in lanes cpu) (lane_in own cpu))
      → ended_now ≡ ended ++ list_map (hole_behind (length before) (λ cpu. (lane_in lanes cpu).last)) own_ended → begins_now ≡ begun_behind (length before) begins own_begins
      → IsKept new ended_now begins_now (notes ++ before)
  kept-together ended_now at is begun = record {
    first = λ cpu low. ap (λ (l : Lane). l.first) (at cpu low)
        ∙ (λ i. option_or (keeps.first cpu low i) (keeps_own.first cpu low i)) ∙ sym (first-behind cpu notes before);
    last = λ cpu low. ap (λ (l : Lane). l.last) (at cpu low)
        ∙ (λ i. option_or (keeps_own.last cpu low i) (keeps.last cpu low i)) ∙ sym (last-behind cpu notes before);
    lost = λ cpu low. ap (λ (l : Lane). l.lost) (at cpu low)
        ∙ ap (option_map (loss_behind (length before))) (keeps_own.lost cpu low) ∙ sym (lost-behind cpu notes before fits (none-lost before none cpu low));
    overwritten = λ cpu low. ap (λ (l : Lane). l.overwritten) (at cpu low)
        ∙ (λ i. option_or (keeps_own.overwritten cpu low i) (keeps.overwritten cpu low i)) ∙ sym (overwritten-behind cpu notes before);
    ended = is ∙ ap (λ (hs : List Hole). ended ++ hs) (same-behind (length before) (λ cpu. (lane_in lanes cpu).last) (lasts before) own_ended keeps.last keeps_own.within)
        ∙ (λ i. keeps.ended i ++ list_map (hole_behind (length before) (lasts before)) (keeps_own.ended i))
        ∙ sym (ended-behind notes before fits none keeps_own.cpus);
    within = subst (AllByRecursion (λ (hole : Hole). IsCpu hole.cpu)) (sym is)
        (all-more ended (list_map (hole_behind (length before) (λ cpu. (lane_in lanes cpu).last)) own_ended) keeps.within (within-behind (length before) (λ cpu. (lane_in lanes cpu).last) own_ended keeps_own.within));
    begun = begun ∙ (λ i. begun_behind (length before) (keeps.begun i) (keeps_own.begun i)) ∙ sym (begun-behind notes before fits);
    cpus = all-cpus notes before keeps_own.cpus keeps.cpus;
  }
