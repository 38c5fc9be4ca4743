use Rattle.ft_base.proofs.Reachable.{empty-IsReachable}
use Rattle.ft_base.proofs.After.{load-reachable, attach-reachable}
use Rattle.ft_base.proofs.Cases.{unload-reachable, insert-reachable, strike-reachable, refilter-reachable, remove-reachable}
use Rattle.ft_base.proofs.laws.reachable_bases.Goals as goal

pub returns : goal.returns
returns c = record {
  empty = empty-IsReachable;
  load = load-reachable;
  unload = unload-reachable;
  insert = insert-reachable;
  strike = strike-reachable;
  attach = attach-reachable;
  refilter = refilter-reachable;
  remove = remove-reachable;
}
