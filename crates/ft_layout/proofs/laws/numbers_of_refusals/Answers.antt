use Rattle.std.specs.Prelude.{Some, None, refl}
use Rattle.ft_layout.proofs.RefusedBack.{refused_back}
use Rattle.ft_layout.specs.Refusals.{refusal_layout}
use Rattle.ft_layout.proofs.laws.numbers_of_refusals.Goals as goal

pub returns : goal.returns
returns c None = refl
returns c (Some why) = refused_back (refusal_layout (Some why)) why refl
