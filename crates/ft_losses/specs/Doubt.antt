-- How sure a wait is, by the holes in its time.
use Rattle.std.specs.Prelude.{ℕ, ◌==◌, ◌&&◌, ◌||◌, Bool, true, false, List, Option, Some, None, option_map, nat_lt, if◌then◌else◌}
use Rattle.std.specs.List.{list_any}
use Rattle.std.specs.Option.{option_eq}
use Rattle.ft_dispatch.specs.Began.{waiting_since, is_before_sleep}
use Rattle.ft_dispatch.specs.declared.began.Began.{Began}
use Rattle.ft_dispatch.specs.declared.dispatch.Dispatch.{Dispatch}
use Rattle.ft_fields.specs.declared.pos.Pos.{Pos}
use Rattle.ft_losses.specs.declared.doubt.Doubt.{Doubt}
use Rattle.ft_losses.specs.declared.doubt.Doubt.TheVariants as doubts
use Rattle.ft_losses.specs.declared.doubt.Wait.{Wait}
use Rattle.ft_losses.specs.declared.hole.Hole.{Hole}

-- whether a hole begins before a wait ends
abbrev pub begins_before : Option ℕ → ℕ → Bool
begins_before None ended = true
begins_before (Some after) ended = nat_lt after ended

-- whether a hole ends after a wait began
abbrev pub ends_after : Option ℕ → ℕ → Bool
ends_after None began = true
ends_after (Some before) began = nat_lt began before

-- whether events may have been lost in a wait's time
abbrev pub spans : ℕ → ℕ → Hole → Bool
spans began ended hole = begins_before hole.after ended && ends_after hole.before began

-- whether a hole is on a CPU: if its own CPU isn't known, it is on none
abbrev pub is_of : ℕ → Hole → Bool
is_of cpu hole = option_eq ◌==◌ hole.cpu (Some cpu)

-- whether any hole, and whether any hole of a CPU, is in a wait's time
abbrev pub any_spans : List Hole → ℕ → ℕ → Bool
any_spans holes began ended = list_any (spans began ended) holes

abbrev pub any_spans_on : ℕ → List Hole → ℕ → ℕ → Bool
any_spans_on cpu holes began ended = list_any (λ hole. is_of cpu hole && spans began ended hole) holes

-- how sure a wait from a place to another is
abbrev pub doubt : List Hole → Pos → Pos → Doubt
doubt holes began ended =
    if any_spans_on began.cpu holes began.stamp ended.stamp || any_spans_on ended.cpu holes began.stamp ended.stamp then doubts.Doubtful
    else (if any_spans holes began.stamp ended.stamp then doubts.Likely else doubts.Sure)

-- whether a wait is sure
abbrev pub is_sure : Doubt → Bool
is_sure doubts.Sure = true
is_sure doubts.Likely = false
is_sure doubts.Doubtful = false

-- a sure wait is likely, if its task was left asleep after it began: what woke the task after that is unknown
abbrev pub lowered : Bool → Doubt → Doubt
lowered slept known = if slept && is_sure known then doubts.Likely else known

-- the wait that began with this and ended there, by whether its task was left asleep in between
abbrev pub wait_from : List Hole → Began → Bool → Pos → Wait
wait_from holes began slept ended = record { began = began; doubt = lowered slept (doubt holes began.place ended) }

-- the wait that a dispatch ends, if anything made its task runnable
abbrev pub wait_of : List Hole → Dispatch → Option Wait
wait_of holes dispatch = option_map (λ began. wait_from holes began (is_before_sleep dispatch.since began) dispatch.place) (waiting_since dispatch.since)
