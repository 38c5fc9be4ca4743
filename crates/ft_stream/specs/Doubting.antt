-- How sure waits are, as C has them. All of it is our own choice.
use Rattle.std.specs.Prelude.{ℕ, min, List, Option, Some, None, option_map, ◌==◌, not, if◌then◌else◌}
use Rattle.std.specs.Option.{option_map_or}
use Rattle.ft_fields.specs.declared.pos.Pos.{Pos}
use Rattle.ft_dispatch.specs.declared.began.Began.{Began}
use Rattle.ft_dispatch.specs.declared.began.Cause.{Cause}
use Rattle.ft_dispatch.specs.declared.began.Cause.TheVariants as causes
use Rattle.ft_losses.specs.Doubt.{wait_from}
use Rattle.ft_losses.specs.declared.doubt.Doubt.{Doubt}
use Rattle.ft_losses.specs.declared.doubt.Doubt.TheVariants as doubts
use Rattle.ft_losses.specs.declared.hole.Hole.{Hole}
use Rattle.ft_layout.specs.declared.places.PlaceLayout.{PlaceLayout}
use Rattle.ft_stream.specs.declared.layouts.WaitLayout.{WaitLayout}

-- ---- what C has

-- the largest CPU that a place can have
abbrev pub most_cpu : ℕ
most_cpu = 65535

-- a place; a larger CPU counts as the largest one
abbrev pub pos_of : PlaceLayout → Pos
pos_of place = record { stamp = place.stamp; cpu = min place.cpu most_cpu; line = place.line }

-- the cause with a number
abbrev pub cause_numbered : ℕ → Option Cause
cause_numbered number = if number == 1 then Some causes.Woken else (if number == 2 then Some causes.Created else (if number == 3 then Some causes.Preempted else None))

-- a beginning, if its number is that of a cause
abbrev pub began_of : ℕ → PlaceLayout → Option Began
began_of number place = option_map (λ cause. record { cause = cause; place = pos_of place }) (cause_numbered number)

-- ---- what is written

-- the number of how sure a wait is
abbrev pub doubt_number : Doubt → ℕ
doubt_number doubts.Sure = 0
doubt_number doubts.Likely = 1
doubt_number doubts.Doubtful = 2

-- a wait by the holes of its text: one after whose beginning its task was left asleep is likely at most. It stays if it began with nothing
abbrev pub with_doubt : List Hole → WaitLayout → WaitLayout
with_doubt holes layout = option_map_or (λ began. record layout { doubt = doubt_number (wait_from holes began (not (layout.slept == 0)) (pos_of layout.ended)).doubt }) (began_of layout.cause layout.began) layout
