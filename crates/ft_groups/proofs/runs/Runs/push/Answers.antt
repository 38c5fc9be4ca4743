-- An event comes to the run of the key at an index.
use Rattle.std.proofs.Common.{◌++◌, ◌∷◌, cond, [], sym, ap, ◌∙◌, List}
use Rattle.std.specs.Prelude.{slice_set}
use Rattle.ft_fields.specs.declared.pos.Pos.{Pos}
use Rattle.ft_fields.specs.Traced.{Traced}
use Rattle.ft_fields.specs.Parts.{key_cmp, same_key}
use Rattle.ft_maps.specs.Seen.{seen}
use Rattle.ft_store.specs.Stored.{held}
use Rattle.ft_groups.proofs.Indexing.{noted_there, run_listed, run_put, run_stands}
use Rattle.ft_groups.proofs.runs.Runs.push.Goals as goal

pub returns-clause-adds : goal.returns-clause-adds
returns-clause-adds c key at =
    let self = c.args.self.now in
    let keys = self.keys.items in
    let runs = self.runs.items in
    let indices = seen key_cmp self.indices in
    let indexed = c.requires.by_key.indexed in
    let event : Pos × Traced = (c.args.event.now.0, held c.args.event.now.1) in
    let within = run_stands self c.requires.by_key key c.args.index at in
    record {
      keys = noted_there keys indices indexed key c.args.index at;
      runs = λ q.
          run_listed (slice_set runs c.args.index c.push.new.self) indices q
          ∙ run_put keys indices indexed key c.args.index at q runs within c.index_mut.result.now c.push.new.self c.args.event c.index_mut.ensures.value c.in_ok-push.ensures.items
          ∙ ap (λ (es : List (Pos × Traced)). es ++ cond (same_key q key) (event ∷ []) []) (sym (run_listed runs indices q));
    }
