-- A number for each PID.
use Rattle.std.specs.Prelude.{ℕ, ℤ, pos, negsuc, ◌/◌, ◌%◌, List, Option, Some, None, nat_lt, slice_get, slice_index_or, if◌then◌else◌}
use Rattle.std.specs.BTreeMap.{BTreeMap}
use Rattle.std.specs.Map.{lookup}
use Rattle.std.specs.Option.{unwrap_or}
use Rattle.std.specs.Ordering.{int_cmp, is_eq}
use Rattle.ft_pids.specs.declared.numbers.Numbers.{Numbers}
use Rattle.ft_pids.specs.declared.numbers.Other.{Other}
use Rattle.ft_pids.specs.declared.pages.Page.{Page}

-- the number at an index of a page, if there is a page
abbrev pub number_on : Option Page → ℕ → ℕ
number_on None index = 0
number_on (Some page) index = slice_index_or page.numbers.items index 0

-- the number at a place
abbrev pub number_at : List Page → ℕ → ℕ
number_at pages place = number_on (slice_get pages (place / 512)) (place % 512)

-- the number of one that is no PID of Linux
abbrev pub other_number : BTreeMap Other ℕ → ℤ → ℕ
other_number others pid = unwrap_or (lookup (λ other. is_eq (int_cmp pid other.pid)) others.entries) 0

-- the place of a PID; other numbers have none
abbrev pub place_of : ℤ → Option ℕ
place_of (pos place) = if nat_lt place 4194304 then Some place else None
place_of (negsuc place) = None

-- the number of a PID, by its place
abbrev pub number_by : Numbers → ℤ → Option ℕ → ℕ
number_by numbers pid None = other_number numbers.others pid
number_by numbers pid (Some place) = number_at numbers.pages.items place

-- the number of a PID
abbrev pub number_of : Numbers → ℤ → ℕ
number_of numbers pid = number_by numbers pid (place_of pid)
