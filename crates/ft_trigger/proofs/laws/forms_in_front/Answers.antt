use Rattle.ft_trigger.proofs.Fronts.{forms_read, forms_once, faults_alike, part_twice}
use Rattle.ft_trigger.proofs.laws.forms_in_front.Goals as goal

pub returns : goal.returns
returns c = record { read = forms_read; once = forms_once; alike = faults_alike; twice = part_twice }
