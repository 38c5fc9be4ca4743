-- What is kept after one note more.
use Rattle.std.specs.Prelude.{◌≡◌, ◌≤◌, ◌==◌, ℕ, suc, List, [], ◌∷◌, ◌++◌, length, true, Option, Some, None, if◌then◌else◌}
use Rattle.std.specs.List.{AllByRecursion}
use Rattle.std.specs.Option.{option_or, unwrap_or}
use Rattle.std.proofs.Common.{refl, sym, ap, subst, ◌∙◌}
use Rattle.std.proofs.lemmas.List.{append-nil}
use Rattle.ft_event.specs.declared.mark.Mark.TheVariants as marks
use Rattle.ft_fields.specs.Traced.{Traced, last_cpu}
use Rattle.ft_losses.specs.Holes.{first_stamp, last_stamp, lost_since, overwritten, ended_holes, beginning, reported, hole_of}
use Rattle.ft_losses.specs.Notes.{Note, Passed, Marked, Silent}
use Rattle.ft_losses.specs.Telling.{IsCpu, IsKept}
use Rattle.ft_losses.specs.declared.hole.Beginning.{Beginning}
use Rattle.ft_losses.specs.declared.hole.Hole.{Hole}
use Rattle.ft_losses.specs.declared.hole.Loss.{Loss}
use Rattle.ft_losses.specs.declared.lanes.Lane.{Lane}
use Rattle.ft_losses.specs.inner.Lanes.{lane_in, with_event, with_loss, with_overwritten}
use Rattle.ft_losses.proofs.Keeping.{ChangesLane, changed-part, kept-part}

abbrev first_of : Lane → Option ℕ
first_of lane = lane.first

abbrev last_of : Lane → Option ℕ
last_of lane = lane.last

abbrev lost_of : Lane → Option Loss
lost_of lane = lane.lost

abbrev overwritten_of : Lane → Option ℕ
overwritten_of lane = lane.overwritten

-- a line that reports a loss
module _ (old new : List Lane) (holes holes_now : List Hole) (begins begins_now : Beginning) (line cpu : ℕ) (notes : List Note) (ended : holes_now ≡ holes) (number : line ≡ suc (length notes)) (keeps : IsKept old holes begins notes) where
  lost-at : (count : Option ℕ) → ChangesLane old cpu (with_loss line count) new → (other : ℕ) → other ≤ last_cpu
      → (lane_in new other).lost ≡ if cpu == other then Some (reported (suc (length notes)) count (lost_since other notes)) else lost_since other notes
  lost-at count at other fits =
      changed-part lost_of old new cpu (with_loss line count) (λ lost. Some (reported line count lost)) (λ k. lost_since k notes) at (λ l. refl) keeps.lost other fits
      ∙ ap (λ (n : ℕ). if cpu == other then Some (reported n count (lost_since other notes)) else lost_since other notes) number

  pub lost-more : (count : Option ℕ) → begins_now ≡ begins → ChangesLane old cpu (with_loss line count) new → IsKept new holes_now begins_now (Marked (marks.Lost cpu count) ∷ notes)
  unfolding first_stamp last_stamp lost_since overwritten ended_holes beginning
  lost-more count same at = record {
    first = kept-part first_of old new cpu (with_loss line count) (λ k. first_stamp k notes) at (λ l. refl) keeps.first;
    last = kept-part last_of old new cpu (with_loss line count) (λ k. last_stamp k notes) at (λ l. refl) keeps.last;
    lost = lost-at count at;
    overwritten = kept-part overwritten_of old new cpu (with_loss line count) (λ k. overwritten k notes) at (λ l. refl) keeps.overwritten;
    ended = ended ∙ keeps.ended ∙ sym (append-nil (ended_holes notes));
    within = subst (AllByRecursion (λ (hole : Hole). IsCpu hole.cpu)) (sym ended) keeps.within;
    begun = same ∙ keeps.begun;
    cpus = (tt, keeps.cpus);
  }

  pub started-more : begins_now ≡ record { header = begins.header; is_marked = true } → ChangesLane old cpu (with_loss line None) new → IsKept new holes_now begins_now (Marked (marks.Started cpu) ∷ notes)
  unfolding first_stamp last_stamp lost_since overwritten ended_holes beginning
  started-more same at = record {
    first = kept-part first_of old new cpu (with_loss line None) (λ k. first_stamp k notes) at (λ l. refl) keeps.first;
    last = kept-part last_of old new cpu (with_loss line None) (λ k. last_stamp k notes) at (λ l. refl) keeps.last;
    lost = lost-at None at;
    overwritten = kept-part overwritten_of old new cpu (with_loss line None) (λ k. overwritten k notes) at (λ l. refl) keeps.overwritten;
    ended = ended ∙ keeps.ended ∙ sym (append-nil (ended_holes notes));
    within = subst (AllByRecursion (λ (hole : Hole). IsCpu hole.cpu)) (sym ended) keeps.within;
    begun = same ∙ ap (λ (known : Beginning). record { header = known.header; is_marked = true }) keeps.begun;
    cpus = (tt, keeps.cpus);
  }

-- a line that reports how many events were overwritten
pub overwritten-more : (old new : List Lane) (holes holes_now : List Hole) (begins begins_now : Beginning) (cpu count : ℕ) (notes : List Note) → holes_now ≡ holes → begins_now ≡ begins → ChangesLane old cpu (with_overwritten count) new
    → IsKept old holes begins notes → IsKept new holes_now begins_now (Marked (marks.Overwritten cpu count) ∷ notes)
unfolding first_stamp last_stamp lost_since overwritten ended_holes beginning
overwritten-more old new holes holes_now begins begins_now cpu count notes ended same at keeps = record {
  first = kept-part first_of old new cpu (with_overwritten count) (λ k. first_stamp k notes) at (λ l. refl) keeps.first;
  last = kept-part last_of old new cpu (with_overwritten count) (λ k. last_stamp k notes) at (λ l. refl) keeps.last;
  lost = kept-part lost_of old new cpu (with_overwritten count) (λ k. lost_since k notes) at (λ l. refl) keeps.lost;
  overwritten = changed-part overwritten_of old new cpu (with_overwritten count) (λ before. Some count) (λ k. overwritten k notes) at (λ l. refl) keeps.overwritten;
  ended = ended ∙ keeps.ended ∙ sym (append-nil (ended_holes notes));
  within = subst (AllByRecursion (λ (hole : Hole). IsCpu hole.cpu)) (sym ended) keeps.within;
  begun = same ∙ keeps.begun;
  cpus = (tt, keeps.cpus);
}

-- the beginning, with a line of the header
abbrev pub with_header : ℕ → ℕ → ℕ → Beginning → Beginning
with_header line held written known = record { header = option_or known.header (Some (record { line = line; buffers = record { held = held; written = written } })); is_marked = known.is_marked }

-- the header's line
pub written-more : (old new : List Lane) (holes holes_now : List Hole) (begins begins_now : Beginning) (line held written : ℕ) (notes : List Note) → line ≡ suc (length notes) → new ≡ old → holes_now ≡ holes
    → begins_now ≡ with_header line held written begins → IsKept old holes begins notes → IsKept new holes_now begins_now (Marked (marks.Written held written) ∷ notes)
unfolding first_stamp last_stamp lost_since overwritten ended_holes beginning
written-more old new holes holes_now begins begins_now line held written notes number lanes ended counts keeps = record {
  first = λ cpu fits. ap (λ (ls : List Lane). (lane_in ls cpu).first) lanes ∙ keeps.first cpu fits;
  last = λ cpu fits. ap (λ (ls : List Lane). (lane_in ls cpu).last) lanes ∙ keeps.last cpu fits;
  lost = λ cpu fits. ap (λ (ls : List Lane). (lane_in ls cpu).lost) lanes ∙ keeps.lost cpu fits;
  overwritten = λ cpu fits. ap (λ (ls : List Lane). (lane_in ls cpu).overwritten) lanes ∙ keeps.overwritten cpu fits;
  ended = ended ∙ keeps.ended ∙ sym (append-nil (ended_holes notes));
  within = subst (AllByRecursion (λ (hole : Hole). IsCpu hole.cpu)) (sym ended) keeps.within;
  begun = counts ∙ ap (λ (n : ℕ). with_header n held written begins) number ∙ ap (with_header (suc (length notes)) held written) keeps.begun;
  cpus = (tt, keeps.cpus);
}

-- one hole more
pub all-more : (xs ys : List Hole) → AllByRecursion (λ (hole : Hole). IsCpu hole.cpu) xs → AllByRecursion (λ (hole : Hole). IsCpu hole.cpu) ys → AllByRecursion (λ (hole : Hole). IsCpu hole.cpu) (xs ++ ys)
all-more [] ys p q = q
all-more (x ∷ xs) ys p q = (p.0, all-more xs ys p.1 q)

pub hole-within : (cpu : ℕ) (after before : Option ℕ) (lost : Option Loss) → cpu ≤ last_cpu → AllByRecursion (λ (hole : Hole). IsCpu hole.cpu) (hole_of cpu after before lost)
hole-within cpu after before None fits = tt
hole-within cpu after before (Some loss) fits = (fits, tt)

-- an event
pub passed-more : (old new : List Lane) (holes holes_now : List Hole) (begins begins_now : Beginning) (event : Traced) (notes : List Note) → event.cpu ≤ last_cpu → begins_now ≡ begins
    → ChangesLane old event.cpu (with_event event.stamp) new
    → holes_now ≡ holes ++ hole_of event.cpu (lane_in old event.cpu).last (Some event.stamp) (lane_in old event.cpu).lost
    → IsKept old holes begins notes → IsKept new holes_now begins_now (Passed event ∷ notes)
unfolding first_stamp last_stamp lost_since overwritten ended_holes beginning
passed-more old new holes holes_now begins begins_now event notes fits same at ended keeps = record {
  first = changed-part first_of old new event.cpu (with_event event.stamp) (λ first. option_or first (Some event.stamp)) (λ k. first_stamp k notes) at (λ l. refl) keeps.first;
  last = changed-part last_of old new event.cpu (with_event event.stamp) (λ last. Some event.stamp) (λ k. last_stamp k notes) at (λ l. refl) keeps.last;
  lost = changed-part lost_of old new event.cpu (with_event event.stamp) (λ lost. None) (λ k. lost_since k notes) at (λ l. refl) keeps.lost;
  overwritten = kept-part overwritten_of old new event.cpu (with_event event.stamp) (λ k. overwritten k notes) at (λ l. refl) keeps.overwritten;
  ended = ended
      ∙ ap (λ (hs : List Hole). hs ++ hole_of event.cpu (lane_in old event.cpu).last (Some event.stamp) (lane_in old event.cpu).lost) keeps.ended
      ∙ ap (λ (last : Option ℕ). ended_holes notes ++ hole_of event.cpu last (Some event.stamp) (lane_in old event.cpu).lost) (keeps.last event.cpu fits)
      ∙ ap (λ (lost : Option Loss). ended_holes notes ++ hole_of event.cpu (last_stamp event.cpu notes) (Some event.stamp) lost) (keeps.lost event.cpu fits);
  within = subst (AllByRecursion (λ (hole : Hole). IsCpu hole.cpu)) (sym ended)
      (all-more holes (hole_of event.cpu (lane_in old event.cpu).last (Some event.stamp) (lane_in old event.cpu).lost) keeps.within
      (hole-within event.cpu (lane_in old event.cpu).last (Some event.stamp) (lane_in old event.cpu).lost fits));
  begun = same ∙ keeps.begun;
  cpus = (fits, keeps.cpus);
}

-- the first of two, if there is one
pub or-some : {T : Type 0} (o : Option T) (x : T) → Some (unwrap_or o x) ≡ option_or o (Some x)
or-some None x = refl
or-some (Some y) x = refl

-- a line that reports nothing
pub silent-more : (lanes : List Lane) (holes : List Hole) (begins : Beginning) (notes : List Note) → IsKept lanes holes begins notes → IsKept lanes holes begins (Silent ∷ notes)
unfolding first_stamp last_stamp lost_since overwritten ended_holes beginning
silent-more lanes holes begins notes keeps = record {
  first = keeps.first;
  last = keeps.last;
  lost = keeps.lost;
  overwritten = keeps.overwritten;
  ended = keeps.ended ∙ sym (append-nil (ended_holes notes));
  within = keeps.within;
  begun = keeps.begun;
  cpus = (tt, keeps.cpus);
}
