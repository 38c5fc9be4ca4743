use Rattle.std.proofs.Common.{List, sym, ap, ◌∙◌, ◌++◌, append_assoc}
use Rattle.std.proofs.lemmas.List.{append-nil}
use Rattle.std.proofs.lemmas.List.Concat.{flat_map-cons}
use Rattle.std.specs.List.{flat_map}
use Rattle.std.specs.Map.{keys_of}
use Rattle.ft_losses.specs.declared.hole.Hole.{Hole}
use Rattle.ft_windows.specs.Windows.{unspanned}
use Rattle.ft_windows.proofs.adding.add_all_unspanned.Goals as goal

pub loop-span-init : goal.loop-span-init
loop-span-init c = ap (λ es. c.args.holes.now.items ++ flat_map (unspanned c.args.doubts.now) (keys_of es)) (c.into_iter-span-iterator.ensures.into_iter_gives ∙ c.entries-span-items.ensures.rest)

pub loop-span-preserved : goal.loop-span-preserved
loop-span-preserved c =
    let f = unspanned c.args.doubts.now in
    let span = c.in-Some.span.now in
    let rest = keys_of c.next.new.self in
    ap (λ (hs : List Hole). hs ++ flat_map f rest) c.in_ok-add_unspanned.ensures
    ∙ append_assoc c.loop-span.holes.items (f span) (flat_map f rest)
    ∙ ap (λ (hs : List Hole). c.loop-span.holes.items ++ hs) (sym (flat_map-cons f span rest))
    ∙ ap (λ es. c.loop-span.holes.items ++ flat_map f (keys_of es)) (sym c.in-Some.ensures.steps)
    ∙ c.loop-span.invariant

pub returns : goal.returns
returns c =
    sym (ap (λ es. c.loop-span.holes.items ++ flat_map (unspanned c.args.doubts.now) (keys_of es)) c.in-None.ensures.steps.0 ∙ append-nil c.loop-span.holes.items) ∙ c.loop-span.invariant
