use Rattle.std.proofs.Common.{refl, sym, ap, ◌∙◌, List, [], map}
use Rattle.ft_waits.specs.LeftOut.{left_out_of}
use Rattle.ft_waits.specs.inner.Starts.{starts_of}
use Rattle.ft_waits.specs.Missing.{missing_in}
use Rattle.ft_waits.specs.Reading.{acts_of, first_stamp}
use Rattle.ft_waits.specs.declared.left_out.LeftOut.{LeftOut}
use Rattle.ft_waits.specs.inner.Known.{left_out_by}
use Rattle.ft_waits.proofs.state.State.new.Goals as goal

pub returns-clause-follows : goal.returns-clause-follows
unfolding acts_of first_stamp
returns-clause-follows c = record {
  counts = c.in_ok-no_lines.ensures.none;
  first = refl;
  last = refl;
  left_out = c.new-2.ensures.items ∙ ap (λ (counts : List LeftOut). map (left_out_of []) (left_out_by counts)) (sym c.new-2.ensures.items);
  orders = c.in_ok-no_acts.ensures;
}

pub returns-clause-misses : goal.returns-clause-misses
unfolding missing_in starts_of
returns-clause-misses c = record {
  runs = c.in_ok-none_running.ensures.none;
  starts = c.new.ensures.items;
  missing = (λ i. record { switches = c.none.ensures.switches i; first = c.none.ensures.first i });
}
