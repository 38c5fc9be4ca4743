use Rattle.std.proofs.Common.{◌≡◌}
use Rattle.std.specs.FinMap as map
use Rattle.ft_fields.specs.Places.{pos_cmp}
use Rattle.ft_maps.specs.Seen.{seen}
use Rattle.ft_session.specs.inner.Fronts.{ComeFirst}
use Rattle.ft_session.proofs.front.held_first.Given as goal

-- the places before are the first ones
abbrev pub invariant-loop-place : goal.invariant-loop-place
invariant-loop-place l = record {
  first : ComeFirst l.desk.base l.places (seen pos_cmp l.held);
  count : map.len (seen pos_cmp l.held) ≡ l.place-index;
}
