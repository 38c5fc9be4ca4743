use Rattle.std.proofs.Common.{◌∙◌}
use Rattle.std.proofs.lemmas.Result.{on_ok_weaker}
use Rattle.ft_waits.proofs.reading.Reading.take_line.Goals as goal

pub returns-in-Some-clause-ok : goal.returns-in-Some-clause-ok
returns-in-Some-clause-ok c = on_ok_weaker c.take_event.result (λ takes line before told like reads. takes line before told (like.0 ∙ c.in-Some.ensures.exact) reads) c.take_event.ensures.ok
