use Rattle.std.proofs.Common.{ap, ◌∙◌}
use Rattle.ft_layout.specs.Names.{name_layout}
use Rattle.ft_layout.proofs.Filled.{filled}
use Rattle.ft_layout.proofs.names.NameLayout.of.Goals as goal

pub returns : goal.returns
returns c =
    filled c.bytes-own.result.now c.copy_from_slice.new.self c.copy_from_slice.ensures.after
    ∙ ap name_layout c.bytes-own.ensures.value
