-- What an act changes of what is known of a task.
use Rattle.std.specs.Prelude.{ℤ, Bool, Some, None, if◌then◌else◌}
use Rattle.std.specs.Option.{option_or}
use Rattle.std.specs.Ordering.{int_eq}
use Rattle.ft_fields.specs.declared.pos.Pos.{Pos}
use Rattle.ft_dispatch.specs.Acts.{Act, Waking, Creation, Wakeup, Switch, Handover, can_run, is_queued}
use Rattle.ft_dispatch.specs.Joining.{over}
use Rattle.ft_dispatch.specs.declared.dispatch.Left.{Left}
use Rattle.ft_dispatch.specs.declared.dispatch.Since.{Since}
use Rattle.ft_dispatch.specs.declared.tasks.Change.{Change}
use Rattle.ft_dispatch.specs.declared.tasks.Change.TheVariants as changes

-- a task that runs here: nothing has made it runnable since
abbrev pub ran_at : Pos → Since
ran_at place = record { woken = None; created = None; left = None; seen = Some place; roused = None }

-- a task that was woken, created, left or seen here
abbrev pub woken_at : Pos → Since → Since
woken_at place since = record { woken = Some place; created = since.created; left = since.left; seen = since.seen; roused = None }

abbrev pub created_at : Pos → Since → Since
created_at place since = record { woken = since.woken; created = Some place; left = since.left; seen = since.seen; roused = since.roused }

abbrev pub left_at : Left → Since → Since
left_at left since = record { woken = since.woken; created = since.created; left = Some left; seen = since.seen; roused = since.roused }

abbrev pub seen_at : Pos → Since → Since
seen_at place since = record { woken = since.woken; created = since.created; left = since.left; seen = Some place; roused = since.roused }

abbrev pub roused_at : Pos → Since → Since
roused_at place since = record { woken = since.woken; created = since.created; left = since.left; seen = since.seen; roused = option_or since.roused (Some place) }

-- what is known of a task after a change
abbrev pub changed : Change → Since → Since
changed (changes.Woken place) since = woken_at place since
changed (changes.Created place) since = created_at place since
changed (changes.Left left) since = left_at left since
changed (changes.Seen place) since = seen_at place since
changed (changes.Roused place) since = roused_at place since
changed (changes.Behind part) since = over part since

-- where a switch leaves a task, and how
abbrev pub leaving : Handover → Pos → Left
leaving turn place = record { place = place; runnable = can_run turn.prev_state; queued = is_queued turn.prev_state }

-- a task that was seen here, if it was
abbrev pub seen_if : Bool → Pos → Since → Since
seen_if own place since = if own then seen_at place since else since

-- what is known of a task after an act
abbrev pub after : ℤ → Pos → Act → Since → Since
after pid place (Waking by woken) since = if int_eq woken pid then woken_at place (seen_if (int_eq by pid) place since) else seen_if (int_eq by pid) place since
after pid place (Creation by created) since = if int_eq created pid then created_at place (seen_if (int_eq by pid) place since) else seen_if (int_eq by pid) place since
after pid place (Wakeup by woken) since = if int_eq woken pid then roused_at place (seen_if (int_eq by pid) place since) else seen_if (int_eq by pid) place since
after pid place (Switch turn) since = if int_eq turn.next_pid pid then ran_at place else (if int_eq turn.prev_pid pid then left_at (leaving turn place) since else seen_if (int_eq turn.by pid) place since)
