use Rattle.std.proofs.Common.{refl, ap, subst, sym}
use Rattle.std.specs.List.{AllByRecursion}
use Rattle.ft_losses.specs.Holes.{first_stamp, last_stamp, lost_since, overwritten, ended_holes, beginning}
use Rattle.ft_losses.specs.Telling.{IsCpu}
use Rattle.ft_losses.specs.declared.hole.Hole.{Hole}
use Rattle.ft_losses.specs.declared.lanes.Lane.{Lane}
use Rattle.ft_losses.proofs.losses.Losses.new.Goals as goal

pub returns : goal.returns
unfolding first_stamp last_stamp lost_since overwritten ended_holes beginning
returns c = record {
  first = λ cpu fits. ap (λ (l : Lane). l.first) (c.in_ok-no_lanes.ensures.none cpu);
  last = λ cpu fits. ap (λ (l : Lane). l.last) (c.in_ok-no_lanes.ensures.none cpu);
  lost = λ cpu fits. ap (λ (l : Lane). l.lost) (c.in_ok-no_lanes.ensures.none cpu);
  overwritten = λ cpu fits. ap (λ (l : Lane). l.overwritten) (c.in_ok-no_lanes.ensures.none cpu);
  ended = c.new.ensures.items;
  within = subst (AllByRecursion (λ (hole : Hole). IsCpu hole.cpu)) (sym c.new.ensures.items) tt;
  begun = refl;
  cpus = tt;
}
