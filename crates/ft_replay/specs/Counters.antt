-- What replaying leaves of each attached trigger: its hits, from which its rows follow.
use Rattle.std.specs.Prelude.{◌≡◌, ℕ, List, Some, refl}
use Rattle.std.specs.Coded.{Coded, code_by, coded×, coded_list}
use Rattle.std.specs.Ordering.{nat_cmp}
use Rattle.std.specs.FinMap as map
use Rattle.std.specs.FinMap.{FinMap}
use Rattle.ft_hist.specs.Hist.{Hist}
use Rattle.ft_pairs.specs.contracts.role.Role as role
use Rattle.ft_pairs.specs.declared.role.Role.{Role}
use Rattle.ft_table.specs.Codes.{tabled_code}
use Rattle.ft_table.specs.Rows.{AllFit}
use Rattle.ft_table.specs.Tabled.{Tabled}
use Rattle.ft_base.specs.Base.{Triggers}
use Rattle.ft_base.specs.Roles.{role_of}
use Rattle.ft_replay.specs.contracts.pair.Pair as pair
use Rattle.ft_replay.specs.declared.pair.Pair.{Pair}
use Rattle.ft_replay.specs.Tally.{Tally, tally_of}

-- the counter of an attached trigger: what it does with its variable, its hits, and the pairs of its readings
pub record Counting : Type 0 where
  pub role : Role
  pub table : Tabled
  pub pairs : List Pair

-- a counter, stored as its role, its table and its pairs
abbrev pub counting_code : Coded Counting
counting_code = code_by
    (Role × (Tabled × List Pair)) (coded× role.the_row.coded (coded× tabled_code (coded_list pair.the_row.coded)))
    (λ s. (s.role, (s.table, s.pairs))) (λ p. record { role = p.0; table = p.1.0; pairs = p.1.1 }) (λ _. refl)

-- counters by the trigger's id
abbrev pub Counters : Type 0
Counters = FinMap nat_cmp Counting

-- what the hits of a counter come to
abbrev pub tally_in : Counting → Tally
tally_in counter = tally_of counter.table counter.pairs

-- a counter suits a trigger: it has the trigger's role and size, and only keys that fit the trigger
pub record Suits (triggers : Triggers) (hist : Hist) (counter : Counting) : Type 0 where
  pub role : counter.role ≡ role_of triggers hist.variable
  pub size : counter.table.size ≡ hist.size
  pub fit : AllFit counter.table hist

-- a trigger has its counter
pub record HasCounter (triggers : Triggers) (counters : Counters) (id : ℕ) (hist : Hist) : Type 0 where
  pub counter : Counting
  pub there : map.get counters id ≡ Some counter
  pub suits : Suits triggers hist counter

-- each attached trigger has its counter
abbrev pub HaveCounters : Triggers → Counters → Type 0
HaveCounters triggers counters = (id : ℕ) (hist : Hist) → map.get triggers id ≡ Some hist → HasCounter triggers counters id hist
