-- Definitions for private functions: what a trigger counts.
use Rattle.ft_table.specs.Tabled.{Tabled}
use Rattle.ft_answers.specs.declared.counted.Counted.{Counted}
use Rattle.ft_answers.specs.declared.counted.Counted.TheVariants.{Held, Made}

-- the table of what a trigger counts
abbrev pub counted_table : Counted → Tabled
counted_table (Held counter) = counter.table
counted_table (Made table) = table
