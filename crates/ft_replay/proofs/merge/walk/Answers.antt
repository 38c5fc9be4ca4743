use Rattle.std.proofs.lemmas.List.Sorted.{IsPermutation-refl, IsPermutation-trans}
use Rattle.ft_replay.proofs.merge.walk.Goals as goal

pub loop-place-init : goal.loop-place-init
loop-place-init c = IsPermutation-refl _

pub loop-place-preserved : goal.loop-place-preserved
loop-place-preserved c = IsPermutation-trans _ _ _ c.loop-place.invariant c.in_ok-take_one.ensures
