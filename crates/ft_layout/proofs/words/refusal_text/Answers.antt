use Rattle.std.proofs.Common.{sym, ap, ◌∙◌}
use Rattle.std.specs.Prelude.{[], ◌++◌, codes, decimal}
use Rattle.std.specs.Option.{option_map_or}
use Rattle.ft_base.specs.Refused.{refused_number}
use Rattle.ft_script.specs.Refusals.{detail}
use Rattle.ft_layout.proofs.WithoutBreak.{without_break}
use Rattle.ft_layout.proofs.words.refusal_text.Goals as goal

pub returns-in_ok-refused_line-in-Some : goal.returns-in_ok-refused_line-in-Some
returns-in_ok-refused_line-in-Some c =
    c.without_last.ensures
    ∙ without_break c.in-Some.refused _ c.in_ok-refused_line-in-Some.ensures
    ∙ ap (λ found. option_map_or (λ why. codes "refused " ++ decimal (refused_number why) ++ detail why) found []) (sym c.in-Some.is ∙ c.refusal_in.ensures.exact)
