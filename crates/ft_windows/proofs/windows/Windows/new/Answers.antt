use Rattle.std.proofs.Common.{refl, ap, ◌∙◌}
use Rattle.std.specs.Prelude.{is_some}
use Rattle.std.specs.FinMap as finite
use Rattle.std.specs.FinMap.{get-empty}
use Rattle.ft_maps.specs.Seen.{seen-empty}
use Rattle.ft_windows.specs.Showings.{span_cmp}
use Rattle.ft_windows.proofs.Stretches.{Spans}
use Rattle.ft_windows.specs.Naming.{first_edge, last_edge}
use Rattle.ft_windows.specs.Telling.{begins_before, ends_after}
use Rattle.ft_windows.specs.declared.lanes.Lane.{Lane}
use Rattle.ft_windows.proofs.windows.Windows.new.Goals as goal

pub returns : goal.returns
unfolding first_edge last_edge
returns c = record {
  first = λ cpu fits. ap (λ (l : Lane). l.first) (c.in_ok-no_lanes.ensures.none cpu);
  last = λ cpu fits. ap (λ (l : Lane). l.last) (c.in_ok-no_lanes.ensures.none cpu);
  before = λ pid stamp. ap (λ o. begins_before o stamp) (c.no_names.ensures pid);
  after = λ pid stamp. ap (λ o. ends_after o stamp) (c.no_names.ensures pid);
  shown = λ stamp. refl;
  from = λ stamp. refl;
  all = λ span. ap (λ (m : Spans). is_some (finite.get m span)) (seen-empty span_cmp c.new.result c.new.ensures.empty) ∙ ap is_some (get-empty span_cmp span);
}
