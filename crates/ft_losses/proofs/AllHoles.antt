-- All holes, by what is kept.
use Rattle.std.specs.Prelude.{◌≡◌, ℕ, List, ◌++◌, Option, None}
use Rattle.std.specs.List.{AllByRecursion, flat_map}
use Rattle.std.specs.Option.{option_and_then}
use Rattle.std.proofs.Common.{sym, ap, subst, ◌∙◌, append_assoc, arith}
use Rattle.std.proofs.lemmas.Grind.{flat_map-append}
use Rattle.ft_losses.specs.Holes.{cpus_below, hole_of, first_stamp, last_stamp, open_hole, counted_by, overwritten, late_by, late_holes, ended_holes, open_holes, holes}
use Rattle.ft_losses.specs.Notes.{Note}
use Rattle.ft_losses.specs.Telling.{IsCpu, IsKept}
use Rattle.ft_losses.specs.declared.hole.Beginning.{Beginning}
use Rattle.ft_losses.specs.declared.hole.Hole.{Hole}
use Rattle.ft_losses.specs.declared.hole.Loss.{Loss}
use Rattle.ft_losses.specs.declared.lanes.Lane.{Lane}
use Rattle.ft_losses.specs.inner.Lanes.{lane_in}
use Rattle.ft_losses.proofs.Lasting.{kept_hole, same-below, below-within, same-counts}
use Rattle.ft_losses.proofs.Begun.{late-same, late-within}
use Rattle.ft_losses.proofs.Noting.{all-more, hole-within}

-- holes, by how many events of their CPUs were overwritten
abbrev pub counted_in : List Lane → List Hole → List Hole
counted_in lanes hs = flat_map (λ (hole : Hole). counted_by (option_and_then (λ cpu. (lane_in lanes cpu).overwritten) hole.cpu) hole) hs

module _ (lanes : List Lane) (ended : List Hole) (begins : Beginning) (notes : List Note) (keeps : IsKept lanes ended begins notes) where
  -- those of CPUs that begin late
  abbrev late : List Hole
  late = late_by (λ cpu. (lane_in lanes cpu).first) begins.is_marked begins.header

  late-is : late ≡ late_holes notes
  late-is =
      late-same (λ cpu. (lane_in lanes cpu).first) (λ cpu. first_stamp cpu notes) keeps.first begins.is_marked begins.header
      ∙ ap (λ (known : Beginning). late_by (λ cpu. first_stamp cpu notes) known.is_marked known.header) keeps.begun

  -- those that last to the end
  open-is : flat_map (kept_hole lanes) (cpus_below 8192) ≡ open_holes notes
  open-is = same-below (kept_hole lanes) (open_hole notes) 8192 (λ cpu low.
      ap (λ (last : Option ℕ). hole_of cpu last None (lane_in lanes cpu).lost) (keeps.last cpu (omega (arith, low))) ∙ ap (λ (lost : Option Loss). hole_of cpu (last_stamp cpu notes) None lost) (keeps.lost cpu (omega (arith, low))))

  open-within : AllByRecursion (λ (hole : Hole). IsCpu hole.cpu) (flat_map (kept_hole lanes) (cpus_below 8192))
  open-within = below-within (kept_hole lanes) (λ cpu fits. hole-within cpu (lane_in lanes cpu).last None (lane_in lanes cpu).lost fits) 8192 (omega arith)

  -- holes are counted as the notes report it
  counted-is : (hs : List Hole) → AllByRecursion (λ (hole : Hole). IsCpu hole.cpu) hs → counted_in lanes hs ≡ flat_map (λ (hole : Hole). counted_by (option_and_then (λ cpu. overwritten cpu notes) hole.cpu) hole) hs
  counted-is hs within = same-counts (λ cpu. (lane_in lanes cpu).overwritten) (λ cpu. overwritten cpu notes) hs keeps.overwritten within

  pub all-holes : (late_now lasting found : List Hole) → late_now ≡ late → lasting ≡ ended ++ flat_map (kept_hole lanes) (cpus_below 8192)
      → found ≡ counted_in lanes late_now ++ counted_in lanes lasting → found ≡ holes notes
  all-holes late_now lasting found late_are lasting_are is =
      let count : Hole → List Hole = λ hole. counted_by (option_and_then (λ cpu. overwritten cpu notes) hole.cpu) hole in
      let rest : lasting ≡ ended_holes notes ++ open_holes notes = lasting_are ∙ ap (λ (hs : List Hole). hs ++ flat_map (kept_hole lanes) (cpus_below 8192)) keeps.ended ∙ ap (λ (hs : List Hole). ended_holes notes ++ hs) open-is in
      let rest_within : AllByRecursion (λ (hole : Hole). IsCpu hole.cpu) lasting = subst (AllByRecursion (λ (hole : Hole). IsCpu hole.cpu)) (sym lasting_are) (all-more ended (flat_map (kept_hole lanes) (cpus_below 8192)) keeps.within open-within) in
      let late_within : AllByRecursion (λ (hole : Hole). IsCpu hole.cpu) late_now = subst (AllByRecursion (λ (hole : Hole). IsCpu hole.cpu)) (sym late_are) (late-within (λ cpu. (lane_in lanes cpu).first) begins.is_marked begins.header) in
      is
      ∙ ap (λ (hs : List Hole). hs ++ counted_in lanes lasting) (counted-is late_now late_within ∙ ap (flat_map count) (late_are ∙ late-is))
      ∙ ap (λ (hs : List Hole). flat_map count (late_holes notes) ++ hs) (counted-is lasting rest_within ∙ ap (flat_map count) rest)
      ∙ sym (flat_map-append count (late_holes notes) (ended_holes notes ++ open_holes notes))
      ∙ ap (flat_map count) (sym (append_assoc (late_holes notes) (ended_holes notes) (open_holes notes)))
