use Rattle.std.proofs.Common.{◌≡◌, List, Option, Some, None, Bor, refl, ap, ◌∙◌}
use Rattle.std.specs.Prelude.{is_some}
use Rattle.std.specs.Option.{option_copied}
use Rattle.ft_fields.specs.declared.key.Part.{Part}
use Rattle.ft_changes.specs.Rivals.{is_of}
use Rattle.ft_changes.proofs.KeyLists.{found_of}
use Rattle.ft_changes.proofs.sorted_keys.SortedKeys.contains.Goals as goal

-- a value that is copied is there if it was
copied : (o : Option (Bor (Unit {0}))) → is_some o ≡ is_some (option_copied o)
copied None = refl
copied (Some value) = refl

pub returns : goal.returns
returns c =
    c.is_some.ensures ∙ copied c.get.result ∙ ap is_some c.get.ensures
    ∙ found_of c.self.inside.keys c.args.key.now
    ∙ ap (λ (ks : List (List Part)). is_of ks c.args.key.now) c.self.view_is
