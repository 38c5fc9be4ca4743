-- Empty tables are kept of the empty base.
use Rattle.std.proofs.Common.{sym, subst}
use Rattle.std.specs.Ordering.{nat_cmp}
use Rattle.ft_base.specs.Base.{empty_base}
use Rattle.ft_repair.proofs.Outside.{empty_kept}
use Rattle.ft_board.proofs.MadeShelves.{none_counts}
use Rattle.ft_maps.specs.Seen.{seen}
use Rattle.ft_repair.specs.KeptShelves.{AreKeptOf}
use Rattle.ft_board.proofs.views.Views.new.Goals as goal

pub returns-clause-fresh : goal.returns-clause-fresh
returns-clause-fresh c = (subst (AreKeptOf empty_base) (sym c.new.ensures) empty_kept, none_counts (seen nat_cmp c.new-2.result))
