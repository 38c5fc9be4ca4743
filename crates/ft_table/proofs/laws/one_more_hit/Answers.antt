use Rattle.ft_table.proofs.Appends.{keys_grow}
use Rattle.ft_table.proofs.Growths.{in_grows, rows_grow, totals_grow}
use Rattle.ft_table.proofs.laws.one_more_hit.Goals as goal

pub returns-clause-keys : goal.returns-clause-keys
returns-clause-keys c = keys_grow

pub returns-clause-members : goal.returns-clause-members
returns-clause-members c = in_grows

pub returns-clause-rows : goal.returns-clause-rows
returns-clause-rows c = rows_grow

pub returns-clause-totals : goal.returns-clause-totals
returns-clause-totals c = totals_grow
