use Rattle.std.proofs.Common.{◌++◌, codes, decimal, length, ap, sym, ◌∙◌, append_assoc}
use Rattle.std.specs.List.{flat_map}
use Rattle.std.proofs.lemmas.List.{take_all}
use Rattle.ft_script.specs.Answered.{latency_line, latency_lines}
use Rattle.ft_script.proofs.answered.latency_lines.Goals as goal

pub returns : goal.returns
unfolding latency_lines
returns c =
    let latencies = c.args.latencies.now in
    let lines = flat_map latency_line latencies in
    let title = codes "Latencies: " in
    let count = decimal (length latencies) in
    let all = rw (take_all c.loop-latency.latency-index latencies c.loop-latency-test.false) at c.loop-latency.invariant in
    c.in_ok-extend_from_slice.ensures.items ∙ ap (λ l. l ++ codes "\n") (c.in_ok-add.ensures ∙ ap (λ l. l ++ (title ++ count)) all ∙ sym (append_assoc lines title count))
