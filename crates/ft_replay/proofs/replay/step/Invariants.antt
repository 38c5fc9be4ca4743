use Rattle.std.proofs.Common.{◌≡◌}
use Rattle.std.specs.Prelude.{fold, Some}
use Rattle.std.specs.declared.cmp.Ordering.TheVariants.{Less}
use Rattle.std.specs.Map.{keys_of}
use Rattle.std.specs.List.{AllByRecursion}
use Rattle.std.specs.List.Sorted.{IsStrictlySortedBy}
use Rattle.std.specs.Ordering.{nat_cmp}
use Rattle.std.specs.FinMap as map
use Rattle.ft_fields.specs.Places.{pos_cmp}
use Rattle.ft_fields.specs.declared.pos.Pos.{Pos}
use Rattle.ft_maps.specs.Seen.{seen}
use Rattle.ft_replay.specs.Replay.{act_at}
use Rattle.ft_replay.specs.Counters.{HaveCounters}
use Rattle.ft_replay.specs.inner.Replaying.{state_in, AllBefore, AllBeforePlace}
use Rattle.ft_hist.specs.Steps.{StepsGrow}
use Rattle.ft_pairs.specs.Variables.{variable_cmp}
use Rattle.ft_replay.proofs.Earlier.{act_of}
use Rattle.ft_replay.proofs.replay.step.Given as goal

-- the triggers that are left lead where all triggers lead; each trigger has its counter; all hits stand before what is left to act here, and before all that comes later; no count of steps fell
abbrev pub invariant-loop-id : goal.invariant-loop-id
invariant-loop-id l = record {
  rest : fold (act_at l.triggers (l.pos, l.event)) (state_in (seen nat_cmp l.counters, seen variable_cmp l.saved)) l.id-iterator
      ≡ fold (act_at l.triggers (l.pos, l.event)) (state_in (seen nat_cmp l.fn.counters, seen variable_cmp l.fn.saved)) (map.entries l.triggers);
  sorted : IsStrictlySortedBy nat_cmp (keys_of l.id-iterator);
  attached : AllByRecursion (λ e. map.get l.triggers e.0 ≡ Some e.1) l.id-iterator;
  complete : HaveCounters l.triggers (seen nat_cmp l.counters);
  before : AllByRecursion (λ e. AllBefore (act_of l.pos e.0) (seen nat_cmp l.counters)) l.id-iterator;
  later : (next : Pos) → pos_cmp l.pos next ≡ Less → AllBeforePlace next (seen nat_cmp l.counters);
  grow : StepsGrow l.fn.work l.work;
}
