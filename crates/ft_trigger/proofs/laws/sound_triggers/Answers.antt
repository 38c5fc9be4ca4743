use Rattle.ft_trigger.proofs.Limits.{within, owned}
use Rattle.ft_trigger.proofs.SoundLemmas.{sound}
use Rattle.ft_trigger.proofs.laws.sound_triggers.Goals as goal

pub returns : goal.returns
returns c = record { event = owned; within = within; sound = sound }
