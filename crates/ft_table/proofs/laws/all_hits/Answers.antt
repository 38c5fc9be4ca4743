use Rattle.ft_table.proofs.Tallies.{all_count, inside_count, outside_drop, whole_count}
use Rattle.ft_table.proofs.laws.all_hits.Goals as goal

pub returns-clause-each : goal.returns-clause-each
returns-clause-each c = all_count

pub returns-clause-inside : goal.returns-clause-inside
returns-clause-inside c = inside_count

pub returns-clause-outside : goal.returns-clause-outside
returns-clause-outside c = outside_drop

pub returns-clause-whole : goal.returns-clause-whole
returns-clause-whole c = whole_count
