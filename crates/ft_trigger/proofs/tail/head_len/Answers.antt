use Rattle.std.proofs.Common.{length, ap, ◌∙◌, arith}
use Rattle.std.specs.Prelude.{unwrap_or}
use Rattle.ft_text.specs.Tokens.{is_gap}
use Rattle.ft_trigger.proofs.Cutting.{position-unwrap_or, position_or_len-le}
use Rattle.ft_trigger.proofs.tail.head_len.Goals as goal

pub returns : goal.returns
returns c =
    let text = c.args.text.now in
    let value = c.unwrap_or.ensures ∙ ap (λ place. unwrap_or place (length text)) c.first_gap.ensures ∙ position-unwrap_or is_gap text in
    record { value = value; within = omega (arith, value, position_or_len-le is_gap text) }
