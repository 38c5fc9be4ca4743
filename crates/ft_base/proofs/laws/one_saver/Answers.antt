use Rattle.std.proofs.Common.{ap}
use Rattle.std.specs.Prelude.{unwrap_or}
use Rattle.ft_pairs.specs.declared.role.Role.TheVariants.{Reads}
use Rattle.ft_base.proofs.OneSaver.{one_saver}
use Rattle.ft_base.proofs.laws.one_saver.Goals as goal

pub returns : goal.returns
returns c = record {
  saver = one_saver;
  role = λ triggers one name id hist attached saves own. ap (λ o. Reads (unwrap_or o 0)) (one_saver triggers one name id hist attached saves);
}
