-- An event comes to its key, once this is noted.
use Rattle.std.proofs.Common.{◌++◌, ◌∷◌, cond, [], ap, ◌∙◌, List}
use Rattle.std.specs.List.{list_any}
use Rattle.std.proofs.lemmas.Option.{slice_get_within}
use Rattle.ft_fields.specs.declared.pos.Pos.{Pos}
use Rattle.ft_fields.specs.Traced.{Traced}
use Rattle.ft_fields.specs.Parts.{same_key}
use Rattle.ft_store.specs.Stored.{held}
use Rattle.ft_groups.proofs.runs.Runs.add.Goals as goal

pub push-requires-clause-within : goal.push-requires-clause-within
push-requires-clause-within c = slice_get_within c.index_for.new.self.keys.items c.in_ok-index.index c.args.key c.in_ok-index.ensures.stands

pub returns-clause-adds : goal.returns-clause-adds
returns-clause-adds c =
    let event : Pos × Traced = (c.args.event.now.0, held c.args.event.now.1) in
    let at = c.in_ok-index.ensures in
    let pushed = c.in_ok-push.ensures in
    record {
      keys = λ q. ap (list_any (same_key q)) pushed.keys ∙ at.notes.keys q;
      runs = λ q. (pushed.adds c.args.key at.stands).runs q ∙ ap (λ (es : List (Pos × Traced)). es ++ cond (same_key q c.args.key) (event ∷ []) []) (at.notes.runs q);
    }
