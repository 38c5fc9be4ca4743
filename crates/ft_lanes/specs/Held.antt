-- What lanes hold.
use Rattle.std.specs.Prelude.{ℕ, ◌≤◌, Bool, Option, nat_lt, option_and_then}
use Rattle.std.specs.List.{sum_by}
use Rattle.std.specs.Option.{option_map_or}
use Rattle.std.specs.Ordering.{nat_cmp}
use Rattle.std.specs.FinMap as map
use Rattle.std.specs.FinMap.{FinMap}
use Rattle.ft_fields.specs.Traced.{Traced, last_cpu}

-- one CPU's events by line number, and the next number
pub record Lane : Type 0 where
  pub events : FinMap nat_cmp Traced
  pub next : ℕ

-- lanes by CPU
abbrev pub Lanes : Type 0
Lanes = FinMap nat_cmp Lane

-- the most events that are held (our own choice)
abbrev pub event_limit : ℕ
event_limit = 1048576

-- the greatest line number (our own choice)
abbrev pub number_limit : ℕ
number_limit = 4294967295

-- how many events the lanes hold together
abbrev pub held_in : Lanes → ℕ
held_in lanes = sum_by (λ lane. map.len lane.events) (map.values lanes)

-- how many events a CPU's lane holds: none if there is no lane
abbrev pub held_on : Lanes → ℕ → ℕ
held_on lanes cpu = option_map_or (λ lane. map.len lane.events) (map.get lanes cpu) 0

-- a CPU's lane holds fewer events than all other lanes together
abbrev pub is_small : Lanes → ℕ → Bool
is_small lanes cpu = nat_lt (held_on lanes cpu) (held_in (map.remove lanes cpu))

-- the event of a lane's line, if there is one
abbrev pub event_at : Lanes → ℕ → ℕ → Option Traced
event_at lanes cpu line = option_and_then (λ lane. map.get lane.events line) (map.get lanes cpu)

-- an event's CPU is at most the last one
abbrev pub HasCpu : Traced → Type 0
HasCpu event = event.cpu ≤ last_cpu
