use Rattle.std.proofs.Common.{List, ap, sym, ◌∙◌}
use Rattle.std.specs.Prelude.{◌||◌}
use Rattle.std.specs.Map.{keys_of}
use Rattle.ft_fields.specs.declared.key.Part.{Part}
use Rattle.ft_fields.specs.Parts.{same_key}
use Rattle.ft_changes.specs.Rivals.{is_of}
use Rattle.ft_changes.proofs.KeyLists.{with_key, with_own}
use Rattle.ft_changes.proofs.sorted_keys.SortedKeys.insert.Goals as goal

pub returns-then-contains-clause-added : goal.returns-then-contains-clause-added
returns-then-contains-clause-added c q = with_own c.args.self.now c.args.key q (sym c.contains.ensures ∙ c.if-contains.true)

pub returns-clause-added : goal.returns-clause-added
returns-clause-added c q =
    ap (λ es. is_of (keys_of es) q) c.in_ok-insert.ensures.ok
    ∙ with_key c.self.inside.keys c.args.key q
    ∙ ap (λ (ks : List (List Part)). same_key q c.args.key || is_of ks q) c.self.view_is
