-- A key that has no operations has exactly those of the list then.
use Rattle.std.proofs.Common.{List, sym, ap, subst, ◌∙◌}
use Rattle.std.specs.FinMap as map
use Rattle.std.proofs.lemmas.Result.{on_ok_weaker}
use Rattle.ft_fields.specs.Parts.{key_cmp}
use Rattle.ft_fields.specs.Ties.{key_same}
use Rattle.ft_maps.specs.Seen.{seen}
use Rattle.ft_pairs.specs.declared.at.At.{At}
use Rattle.ft_pairs.specs.declared.at.Op.{Op}
use Rattle.ft_pairs.specs.ByKey.{KeyOps, ChangesKey}
use Rattle.ft_pairs.specs.Runs.{ops_listed}
use Rattle.ft_pairs.proofs.Found.{changed}
use Rattle.ft_pairs.proofs.pairs.put_run.Goals as goal

pub put-requires : goal.put-requires
put-requires c = key_same

pub returns-clause-ok : goal.returns-clause-ok
returns-clause-ok c =
    let m = c.args.by_key.now in
    let key = c.args.key in
    on_ok_weaker c.put.result (λ e.
    subst (ChangesKey key (ops_listed c.args.run.items) (seen key_cmp m)) (sym e)
    (changed (seen key_cmp m) key c.in_ok-sequence.sequence (ops_listed c.args.run.items) (λ q.
    ap (λ (l : KeyOps). map.get l q) (c.in_ok-sequence.ensures ∙ ap (λ (run : List (At × Op)). let listed : KeyOps = map.from_entries run in listed) c.deref.ensures.value)))) c.put.ensures.ok
