-- Refusals as texts. All of it is our own choice.
use Rattle.std.specs.Prelude.{ℕ, List, [], ◌++◌, codes, decimal}
use Rattle.std.specs.Option.{option_map_or}
use Rattle.ft_base.specs.Refused.{refused_number}
use Rattle.ft_script.specs.Refusals.{detail}
use Rattle.ft_layout.specs.Refusals.{refusal_in}
use Rattle.ft_layout.specs.declared.refusals.RefusalLayout.{RefusalLayout}

-- what a refused command prints, without its line break
abbrev pub refusal_text : RefusalLayout → List ℕ
refusal_text layout = option_map_or (λ why. codes "refused " ++ decimal (refused_number why) ++ detail why) (refusal_in layout) []
