-- A name that is found is the text's, and the name of each event is found.
use Rattle.std.proofs.Common.{sym, ◌∙◌}
use Rattle.ft_fields.proofs.NameTable.{name_found, name_passes}
use Rattle.ft_fields.proofs.event.Name.called.Goals as goal

pub returns-clause-meaning : goal.returns-clause-meaning
returns-clause-meaning c = λ name. (
  λ is. name_passes c.args.text.now name (sym c.first_called.ensures ∙ is),
  λ is. c.first_called.ensures ∙ name_found c.args.text.now name is,
)
