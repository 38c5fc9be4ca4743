-- Waits, holes and what was read of a text, as C has them. All of it is our own choice.
use Rattle.std.specs.Prelude.{ℕ, length, Option, Some, None, is_some, unwrap_or, if◌then◌else◌}
use Rattle.std.specs.Option.{option_map_or}
use Rattle.ft_event.specs.LineFault.{line_number}
use Rattle.ft_dispatch.specs.Began.{waiting_since, is_before_sleep}
use Rattle.ft_dispatch.specs.declared.began.Began.{Began}
use Rattle.ft_dispatch.specs.declared.began.Cause.{Cause}
use Rattle.ft_dispatch.specs.declared.began.Cause.TheVariants as causes
use Rattle.ft_dispatch.specs.declared.dispatch.Dispatch.{Dispatch}
use Rattle.ft_dispatch.specs.declared.dispatch.Since.{Since}
use Rattle.ft_layout.specs.Names.{name_layout}
use Rattle.ft_layout.specs.Places.{place_layout}
use Rattle.ft_layout.specs.declared.places.PlaceLayout.{PlaceLayout}
use Rattle.ft_losses.specs.declared.hole.Buffers.{Buffers}
use Rattle.ft_losses.specs.declared.hole.Hole.{Hole}
use Rattle.ft_waits.specs.declared.left_out.LeftOut.{LeftOut}
use Rattle.ft_summary.specs.declared.sums.CpuSum.{CpuSum}
use Rattle.ft_summary.specs.declared.sums.TaskSum.{TaskSum}
use Rattle.ft_stream.specs.declared.layouts.HoleLayout.{HoleLayout}
use Rattle.ft_stream.specs.declared.layouts.LeftOutLayout.{LeftOutLayout}
use Rattle.ft_stream.specs.declared.layouts.ReadLayout.{ReadLayout}
use Rattle.ft_stream.specs.declared.layouts.WaitLayout.{WaitLayout}
use Rattle.ft_stream.specs.declared.summing.CpuSumLayout.{CpuSumLayout}
use Rattle.ft_stream.specs.declared.summing.TaskSumLayout.{TaskSumLayout}
use Rattle.ft_stream.specs.declared.phase.Finished.{Finished}

-- no place
abbrev pub no_place : PlaceLayout
no_place = record { stamp = 0; cpu = 0; line = 0 }

-- ---- waits

-- the number of a cause
abbrev pub cause_number : Cause → ℕ
cause_number causes.Woken = 1
cause_number causes.Created = 2
cause_number causes.Preempted = 3

-- the number of a beginning's cause; 0 if there is none
abbrev pub cause_of : Option Began → ℕ
cause_of began = option_map_or (λ b. cause_number b.cause) began 0

-- the place of a beginning; zeros if there is none
abbrev pub place_of : Option Began → PlaceLayout
place_of began = option_map_or (λ b. place_layout b.place) began no_place

-- 1 if the task of a wait that began so was left asleep after that, so that it isn't known what woke it then; else 0
abbrev pub slept_of : Since → Option Began → ℕ
slept_of since None = 0
slept_of since (Some began) = if is_before_sleep since began then 1 else 0

-- a wait, by what it began with
abbrev pub wait_from : Dispatch → Option Began → WaitLayout
wait_from dispatch began = record {
  ended = place_layout dispatch.place;
  began = place_of began;
  pid = dispatch.pid;
  prio = dispatch.prio;
  cause = cause_of began;
  doubt = 0;
  slept = slept_of dispatch.since began;
  zero = 0;
  name = name_layout dispatch.name;
}

-- the wait that a dispatch ends, before anything says how sure it is
abbrev pub wait_layout : Dispatch → WaitLayout
wait_layout dispatch = wait_from dispatch (waiting_since dispatch.since)

-- ---- what was read

-- the number of a CPU; 0 if it isn't known
abbrev pub cpu_of : Option ℕ → ℕ
cpu_of cpu = unwrap_or cpu 0

-- a hole
abbrev pub hole_layout : Hole → HoleLayout
hole_layout hole = record {
  line = hole.line;
  after = unwrap_or hole.after 0;
  before = unwrap_or hole.before 0;
  count = unwrap_or hole.count 0;
  cpu = cpu_of hole.cpu;
  has_after = is_some hole.after;
  has_before = is_some hole.before;
  has_count = is_some hole.count;
  has_cpu = is_some hole.cpu;
}

-- how many events were left out
abbrev pub left_out_layout : LeftOut → LeftOutLayout
left_out_layout count = record { events = count.events; left_out = count.left_out }

-- what acts sum up to for a task
abbrev pub task_sum_layout : TaskSum → TaskSumLayout
task_sum_layout sum = record {
  run_time = sum.run_time;
  switches = sum.switches;
  preempted = sum.preempted;
  slept = sum.slept;
  blocked = sum.blocked;
  moved = sum.moved;
  pid = sum.pid;
  zero = 0;
}

-- what acts sum up to for a CPU
abbrev pub cpu_sum_layout : CpuSum → CpuSumLayout
cpu_sum_layout sum = record {
  idle = sum.idle;
  unknown = sum.unknown;
  idle_with_waiters = sum.idle_with_waiters;
  longest = sum.longest;
  longest_from = sum.longest_from;
  cpu = sum.cpu;
  zero = 0;
}

-- what a text without the kernel's header reports of the buffers
abbrev pub no_buffers : Buffers
no_buffers = record { held = 0; written = 0 }

-- what was read, with the number and the fault of the first line that can't be read, and the place of the first event that shows a missing switch
abbrev pub read_layout : Finished → ReadLayout
read_layout finished = record {
  lines = finished.read.lines.lines;
  bad = finished.read.lines.bad;
  bad_line = option_map_or (λ bad. bad.line) finished.read.lines.first 0;
  missing = finished.read.missing.switches;
  holes = length finished.read.losses.holes.items;
  held = (unwrap_or finished.read.losses.buffers no_buffers).held;
  written = (unwrap_or finished.read.losses.buffers no_buffers).written;
  first = unwrap_or finished.read.first 0;
  last = unwrap_or finished.read.last 0;
  missing_at = option_map_or place_layout finished.read.missing.first no_place;
  bad_fault = option_map_or (λ bad. line_number bad.fault) finished.read.lines.first 0;
  has_first = is_some finished.read.first;
  has_written = is_some finished.read.losses.buffers;
}
