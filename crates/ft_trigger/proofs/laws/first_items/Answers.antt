use Rattle.ft_head.specs.Draft.{with_key, with_value, with_sort}
use Rattle.ft_trigger.proofs.Firsts.{first_items}
use Rattle.ft_trigger.proofs.laws.first_items.Goals as goal

pub returns : goal.returns
returns c = record {
  keys = λ event place. first_items (with_key event) place;
  values = λ event place. first_items (with_value event) place;
  sort = λ place. first_items with_sort place;
}
