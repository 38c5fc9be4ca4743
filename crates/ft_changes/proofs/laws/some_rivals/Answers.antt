use Rattle.std.proofs.Common.{refl}
use Rattle.ft_changes.proofs.SomeRivals.{rivals_stay, few_rivals, rivals_are_others, rivals_differ, rivals_alone, rows_stay_but, but_for_one_hit, but_for_back, but_for_more, but_for_among}
use Rattle.ft_changes.proofs.laws.some_rivals.Goals as goal

pub returns : goal.returns
returns c = record {
  told = rivals_stay;
  few = few_rivals;
  others = rivals_are_others;
  apart = rivals_differ;
  alone = rivals_alone;
  rows = rows_stay_but;
  nothing = λ table keys. record { size = refl; hits = λ m _. refl };
  hit = but_for_one_hit;
  back = but_for_back;
  more = but_for_more;
  among = but_for_among;
}
