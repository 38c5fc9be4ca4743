-- What events are made of, step by step.
use Rattle.std.proofs.Common.{◌≡◌, Ok, Err, refl}
use Rattle.ft_fields.specs.declared.event.Name.{Name}
use Rattle.ft_fields.specs.declared.field.Field.{Field}
use Rattle.ft_hist.specs.declared.fault.TriggerFault.{TriggerFault}
use Rattle.ft_head.specs.Draft.{number_field, action_of}
use Rattle.ft_head.specs.Onmatch.{Handed}

-- the second field has a fault
pub action_stop : (event : Name) (words : Handed) (pid : Field) (fault : TriggerFault) → number_field event words.pid ≡ Ok pid → number_field event words.prio ≡ Err fault → action_of event words ≡ Err fault
action_stop event words pid fault first second = rw (first, second) refl

-- both fields are read
pub action_made : (event : Name) (words : Handed) (pid prio : Field) → number_field event words.pid ≡ Ok pid → number_field event words.prio ≡ Ok prio
    → action_of event words ≡ Ok (record { own = words.own; onmatch = record { event = words.event; pid = pid; prio = prio } })
action_made event words pid prio first second = rw (first, second) refl
