-- The event that a trigger makes at a latency (kernel: histogram.rst, the `onmatch` handler with a synthetic event).
use Rattle.std.specs.Prelude.{Bool, ◌-◌, pos as whole, Option, option_map}
use Rattle.ft_fields.specs.declared.event.Body.TheVariants as bodies
use Rattle.ft_fields.specs.declared.event.Name.TheVariants as names
use Rattle.ft_fields.specs.declared.pos.Pos.{Pos}
use Rattle.ft_fields.specs.Fields.{field_of}
use Rattle.ft_fields.specs.Traced.{Traced}
use Rattle.ft_hist.specs.declared.onmatch.Onmatch.{Onmatch}
use Rattle.ft_hist.specs.Hist.{Hist}
use Rattle.ft_hist.specs.Hit.{same_name}
use Rattle.ft_hist.specs.Values.{number_of_field}

-- the event `wakeup_latency` of a reading at a place, and of a saving: the reading event's task, PID, CPU and stamp, the microseconds between the two, and the numbers of both fields (kernel: histogram.rst, wakeup_latency)
abbrev pub made_event : Pos → Traced → Pos → Onmatch → Traced
made_event at event saved onmatch = record {
  task = event.task;
  pid = event.pid;
  cpu = event.cpu;
  stamp = event.stamp;
  body = bodies.WakeupLatency (record {
    lat = whole (at.stamp - saved.stamp);
    pid = number_of_field (field_of event onmatch.pid);
    prio = number_of_field (field_of event onmatch.prio);
  });
}

-- what a trigger makes of a reading at a place, and of the saving that it found: nothing if it has no onmatch part (kernel: histogram.rst, the `onmatch` handler)
abbrev pub made_of : Hist → Pos → Traced → Pos → Option Traced
made_of hist at event saved = option_map (made_event at event saved) hist.onmatch

-- a trigger counts made events, and no held ones: it is on their name (kernel: histogram.rst, synthetic events)
abbrev pub counts_made : Hist → Bool
counts_made hist = same_name hist.event names.WakeupLatency
