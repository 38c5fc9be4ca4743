-- Texts of triggers, and what they are: the definitions, worked out on examples.
use Rattle.std.proofs.Common.{◌≡◌, refl, ℕ, List, [], ◌∷◌, false, true}
use Rattle.std.specs.Prelude.{Result, Ok, Err, Some, None, codes}
use Rattle.ft_fields.specs.declared.event.Name.TheVariants as names
use Rattle.ft_fields.specs.declared.field.Field.TheVariants as fields
use Rattle.ft_hist.specs.declared.fault.TriggerFault.{TriggerFault}
use Rattle.ft_hist.specs.declared.fault.TriggerFault.TheVariants.{Syntax, NoField, NotNumeric, TooMany, Duplicate, BadSize, BadSort, BadModifier, LeftOut, BadFilter}
use Rattle.ft_hist.specs.declared.modifier.Mode.TheVariants as modes
use Rattle.ft_hist.specs.declared.item.Item.TheVariants as items
use Rattle.ft_hist.specs.declared.item.SortBy.TheVariants as sorts
use Rattle.ft_hist.specs.declared.label.Var.TheVariants as vars
use Rattle.ft_filter.specs.declared.fault.FilterFault.TheVariants.{BadGlob}
use Rattle.ft_filter.specs.Operators.{op_at}
use Rattle.ft_filter.specs.Predicate.{text_value, number_value, literal_at, comparison_at, pred_at}
use Rattle.ft_text.specs.Matching.{glob_items, is_glob}
use Rattle.ft_filter.specs.Answers.{going, joined_at, operand_at, filter_of}
use Rattle.ft_hist.specs.Hist.{Hist}
use Rattle.ft_head.specs.Onmatch.{handed_of}
use Rattle.ft_text.specs.Items.{word_with, word_of, number_in}
use Rattle.ft_head.specs.Draft.{rounded, with_key, with_value, with_sort, variable_stamp, with_kind, with_variable, with_onmatch, with_part, parts_from}
use Rattle.ft_trigger.specs.TriggerIs.{tail_filter, sort_by, finished, trigger_of}
use Rattle.ft_hist.specs.Canonical.{canonical}
use Rattle.std.specs.Fmt.{digits}
use Rattle.ft_filter.specs.Canonical.{quoted, pred_text}
use Rattle.ft_text.specs.Tokens.{name_at, quoted_at, number_at, number_of}

computing : Unit {0}
unfolding name_at word_with word_of number_in with_key with_value with_sort variable_stamp with_kind with_variable with_onmatch handed_of with_part parts_from tail_filter sort_by finished trigger_of rounded op_at quoted_at number_at number_of text_value number_value literal_at comparison_at pred_at glob_items is_glob going joined_at operand_at filter_of canonical quoted pred_text digits
computing = tt

-- the canonical text of a trigger that is read
abbrev again : Result Hist TriggerFault → List ℕ
again (Ok hist) = canonical hist
again (Err fault) = []

-- a text on a waking
abbrev waking : List ℕ → Result Hist TriggerFault
waking text = trigger_of names.Waking text

keys_twice : waking (codes "hist:keys=pid:keys=prio") ≡ Err Duplicate
unfolding computing
keys_twice = refl

four_keys : waking (codes "hist:keys=pid,prio,target_cpu,comm") ≡ Err TooMany
unfolding computing
four_keys = refl

text_in_hex : waking (codes "hist:keys=comm.hex") ≡ Err BadModifier
unfolding computing
text_in_hex = refl

left_out_modifier : waking (codes "hist:keys=pid.execname") ≡ Err (LeftOut 10)
unfolding computing
left_out_modifier = refl

text_as_value : waking (codes "hist:keys=pid:vals=comm") ≡ Err NotNumeric
unfolding computing
text_as_value = refl

sorted_by_no_key : waking (codes "hist:keys=pid:sort=prio") ≡ Err BadSort
unfolding computing
sorted_by_no_key = refl

field_of_another_event : waking (codes "hist:keys=next_pid") ≡ Err NoField
unfolding computing
field_of_another_event = refl

no_keys : waking (codes "hist:vals=prio") ≡ Err (Syntax 14)
unfolding computing
no_keys = refl

if_without_filter : waking (codes "hist:keys=pid  if") ≡ Err (Syntax 15)
unfolding computing
if_without_filter = refl

no_size : waking (codes "hist:keys=pid:size=0") ≡ Err BadSize
unfolding computing
no_size = refl

least_size : waking (codes "hist:keys=pid:size=64") ≡ Err BadSize
unfolding computing
least_size = refl

greatest_size : waking (codes "hist:keys=pid:size=131073") ≡ Err BadSize
unfolding computing
greatest_size = refl

left_out_part : waking (codes "hist:keys=pid:pause") ≡ Err (LeftOut 14)
unfolding computing
left_out_part = refl

variable_called_pause : waking (codes "hist:keys=pid:pause=common_timestamp.usecs:ts=common_timestamp.usecs") ≡ Err (LeftOut 43)
unfolding computing
variable_called_pause = refl

second_hitcount : waking (codes "hist:keys=pid:vals=hitcount,hitcount") ≡ Err Duplicate
unfolding computing
second_hitcount = refl

fourth_value : waking (codes "hist:keys=pid:vals=prio,pid,target_cpu,hitcount.hex,common_pid") ≡ Err BadModifier
unfolding computing
fourth_value = refl

empty_list : waking (codes "hist:keys=") ≡ Err (Syntax 10)
unfolding computing
empty_list = refl

empty_part : waking (codes "hist:") ≡ Err (Syntax 5)
unfolding computing
empty_part = refl

no_head : waking (codes "keys=pid") ≡ Err (Syntax 0)
unfolding computing
no_head = refl

reads_own_name : waking (codes "hist:keys=pid:w=common_timestamp.usecs-$w") ≡ Err Duplicate
unfolding computing
reads_own_name = refl

plain_trigger : waking (codes "hist:keys=pid") ≡ Ok (record {
  event = names.Waking;
  keys = record { field = fields.Pid; mode = modes.Plain } ∷ [];
  values = [];
  sort = record { what = sorts.Hits; descending = false } ∷ [];
  variable = None;
  size = 2048;
  onmatch = None;
  filter = None;
})
unfolding computing
plain_trigger = refl

switches_by_power : trigger_of names.Switch (codes "hist:key=next_pid.log2:val=next_prio:sort=next_prio.ascending:size=129") ≡ Ok (record {
  event = names.Switch;
  keys = record { field = fields.NextPid; mode = modes.Log2 } ∷ [];
  values = items.Num fields.NextPrio ∷ [];
  sort = record { what = sorts.Value 0; descending = false } ∷ [];
  variable = None;
  size = 256;
  onmatch = None;
  filter = None;
})
unfolding computing
switches_by_power = refl

latencies : trigger_of names.Switch (codes "hist:keys=next_pid:vals=$lat:lat=common_timestamp.usecs-$ts0") ≡ Ok (record {
  event = names.Switch;
  keys = record { field = fields.NextPid; mode = modes.Plain } ∷ [];
  values = items.Own ∷ [];
  sort = record { what = sorts.Hits; descending = false } ∷ [];
  variable = Some (vars.Reads (codes "lat") (codes "ts0"));
  size = 2048;
  onmatch = None;
  filter = None;
})
unfolding computing
latencies = refl

bad_filter : waking (codes "hist:keys=comm if comm ~ \"[a\"") ≡ Err (BadFilter (BadGlob 7))
unfolding computing
bad_filter = refl

canonical_power : again (trigger_of names.Switch (codes "hist:key=next_pid.log2:val=next_prio:sort=next_prio.ascending:size=129"))
    ≡ codes "hist:keys=next_pid.log2:vals=hitcount,next_prio:sort=next_prio:size=256"
unfolding computing
canonical_power = refl

canonical_saver : again (waking (codes "hist:keys=pid:ts0=common_timestamp.usecs"))
    ≡ codes "hist:keys=pid:vals=hitcount:ts0=common_timestamp.usecs:sort=hitcount:size=2048"
unfolding computing
canonical_saver = refl

canonical_reader : again (trigger_of names.Switch (codes "hist:keys=next_pid:vals=$lat:lat=common_timestamp.usecs-$ts0"))
    ≡ codes "hist:keys=next_pid:vals=hitcount,$lat:lat=common_timestamp.usecs-$ts0:sort=hitcount:size=2048"
unfolding computing
canonical_reader = refl

canonical_sizes : again (waking (codes "hist:keys=pid:size=65")) ≡ codes "hist:keys=pid:vals=hitcount:sort=hitcount:size=128"
unfolding computing
canonical_sizes = refl

sums_and_sort : waking (codes "hist:keys=pid,prio:vals=hitcount,target_cpu,$v:v=common_timestamp.usecs:sort=$v.descending,prio") ≡ Ok (record {
  event = names.Waking;
  keys = record { field = fields.Pid; mode = modes.Plain } ∷ record { field = fields.Prio; mode = modes.Plain } ∷ [];
  values = items.Num fields.TargetCpu ∷ items.Own ∷ [];
  sort = record { what = sorts.Value 1; descending = true } ∷ record { what = sorts.Key 1; descending = false } ∷ [];
  variable = Some (vars.Saves (codes "v"));
  size = 2048;
  onmatch = None;
  filter = None;
})
unfolding computing
sums_and_sort = refl

key_before_value : waking (codes "hist:keys=pid:vals=pid:sort=pid") ≡ Ok (record {
  event = names.Waking;
  keys = record { field = fields.Pid; mode = modes.Plain } ∷ [];
  values = items.Num fields.Pid ∷ [];
  sort = record { what = sorts.Key 0; descending = false } ∷ [];
  variable = None;
  size = 2048;
  onmatch = None;
  filter = None;
})
unfolding computing
key_before_value = refl

made_latencies : trigger_of names.Switch (codes "hist:keys=next_pid:lat=common_timestamp.usecs-$ts0:onmatch(sched.sched_waking).wakeup_latency($lat,next_pid,next_prio)") ≡ Ok (record {
  event = names.Switch;
  keys = record { field = fields.NextPid; mode = modes.Plain } ∷ [];
  values = [];
  sort = record { what = sorts.Hits; descending = false } ∷ [];
  variable = Some (vars.Reads (codes "lat") (codes "ts0"));
  size = 2048;
  onmatch = Some (record { event = names.Waking; pid = fields.NextPid; prio = fields.NextPrio });
  filter = None;
})
unfolding computing
made_latencies = refl

canonical_onmatch : again (trigger_of names.Switch (codes "hist:onmatch(sched.sched_waking).wakeup_latency($lat,next_pid,next_prio):keys=next_pid:lat=common_timestamp.usecs-$ts0"))
    ≡ codes "hist:keys=next_pid:vals=hitcount:lat=common_timestamp.usecs-$ts0:sort=hitcount:size=2048:onmatch(sched.sched_waking).wakeup_latency($lat,next_pid,next_prio)"
unfolding computing
canonical_onmatch = refl

other_handed : trigger_of names.Switch (codes "hist:keys=next_pid:lat=common_timestamp.usecs-$ts0:onmatch(sched.sched_waking).wakeup_latency($ts0,next_pid,next_prio)") ≡ Err NoField
unfolding computing
other_handed = refl

made_again : trigger_of names.WakeupLatency (codes "hist:keys=pid:onmatch(sched.sched_waking).wakeup_latency($lat,pid,prio)") ≡ Err (LeftOut 14)
unfolding computing
made_again = refl
