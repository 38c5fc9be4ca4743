use Rattle.std.proofs.Common.{◌≡◌, ◌∙◌, ap, ◌++◌, List}
use Rattle.std.specs.Prelude.{option_map}
use Rattle.std.specs.List.{flat_map}
use Rattle.ft_losses.specs.Holes.{cpus_below, late_by}
use Rattle.ft_losses.specs.declared.hole.Beginning.{Beginning}
use Rattle.ft_losses.specs.declared.hole.Header.{Header}
use Rattle.ft_losses.specs.declared.hole.Hole.{Hole}
use Rattle.ft_losses.specs.declared.lanes.Lane.{Lane}
use Rattle.ft_losses.specs.inner.Lanes.{lane_in}
use Rattle.ft_losses.proofs.AllHoles.{all-holes, counted_in}
use Rattle.ft_losses.proofs.Lasting.{kept_hole}
use Rattle.ft_losses.proofs.losses.Losses.finish.Goals as goal

pub returns : goal.returns
returns c = λ notes keeps.
    let old = c.args.self in
    let lanes : List Lane = old.lanes.items in
    let late : List Hole = c.add_late.new.holes.items in
    let lasting : List Hole = c.add_open.new.holes.items in
    let late_is : late ≡ late_by (λ cpu. (lane_in lanes cpu).first) old.begins.is_marked old.begins.header =
    c.in_ok-add_late.ensures
    ∙ ap (λ (hs : List Hole). hs ++ late_by (λ cpu. (lane_in c.deref.result.now cpu).first) old.begins.is_marked old.begins.header) c.new-late.ensures.items
    ∙ ap (λ (ls : List Lane). late_by (λ cpu. (lane_in ls cpu).first) old.begins.is_marked old.begins.header) c.deref.ensures.value in
    let lasting_is : lasting ≡ old.ended.items ++ flat_map (kept_hole lanes) (cpus_below 8192) =
    c.in_ok-add_open.ensures ∙ ap (λ (ls : List Lane). old.ended.items ++ flat_map (kept_hole ls) (cpus_below 8192)) c.deref-2.ensures.value in
    let first : c.add_all_counted.new.counted.items ≡ counted_in lanes late =
    c.in_ok-add_all_counted.ensures
    ∙ ap (λ (hs : List Hole). hs ++ counted_in c.deref-3.result.now c.deref-4.result.now) c.new-holes.ensures.items
    ∙ ap (λ (ls : List Lane). counted_in ls c.deref-4.result.now) c.deref-3.ensures.value ∙ ap (counted_in lanes) c.deref-4.ensures.value in
    let all : c.add_all_counted-2.new.counted.items ≡ counted_in lanes late ++ counted_in lanes lasting =
    c.in_ok-add_all_counted-2.ensures
    ∙ ap (λ (hs : List Hole). hs ++ counted_in c.deref-5.result.now c.deref-6.result.now) first
    ∙ ap (λ (ls : List Lane). counted_in lanes late ++ counted_in ls c.deref-6.result.now) c.deref-5.ensures.value
    ∙ ap (λ (hs : List Hole). counted_in lanes late ++ counted_in lanes hs) c.deref-6.ensures.value in
    record {
      holes = all-holes lanes old.ended.items old.begins notes keeps late lasting c.add_all_counted-2.new.counted.items late_is lasting_is all;
      buffers = c.buffers_of.ensures ∙ ap (λ (known : Beginning). option_map (λ (header : Header). header.buffers) known.header) keeps.begun;
    }
