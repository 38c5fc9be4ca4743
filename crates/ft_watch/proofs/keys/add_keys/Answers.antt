use Rattle.std.proofs.Common.{◌≡◌, List, sym, ap, ◌∙◌}
use Rattle.std.specs.Prelude.{is_some, ◌||◌}
use Rattle.std.specs.FinMap as map
use Rattle.std.specs.FinMap.{find, get-entries}
use Rattle.ft_fields.specs.Parts.{key_cmp}
use Rattle.ft_fields.specs.Ties.{key_same}
use Rattle.ft_maps.specs.Seen.{seen}
use Rattle.ft_watch.proofs.Rows.{key_moves, keys_at_last}
use Rattle.ft_watch.proofs.keys.add_keys.Goals as goal

pub put-requires : goal.put-requires
put-requires g c = key_same

pub loop-key-init : goal.loop-key-init
loop-key-init g c q =
    ap (λ es. is_some (map.get (seen key_cmp c.args.keys.now) q) || is_some (find key_cmp q es)) (c.into_iter-key-iterator.ensures.into_iter_gives ∙ c.entries-key-items.ensures.rest)
    ∙ ap (λ o. is_some (map.get (seen key_cmp c.args.keys.now) q) || is_some o) (sym (get-entries (seen key_cmp c.args.rows.now) q))

pub loop-key-preserved : goal.loop-key-preserved
loop-key-preserved g c q =
    key_moves (seen key_cmp c.loop-key.keys) (seen key_cmp c.put.new.map) (c.in-Some.key.now, c.in-Some._mark.now) c.loop-key.key-iterator c.next.new.self c.in-Some.ensures.steps c.in_ok-put.ensures.ok q
    ∙ c.loop-key.invariant q

pub returns : goal.returns
returns g c q = keys_at_last (seen key_cmp c.loop-key.keys) c.loop-key.key-iterator c.in-None.ensures.steps.0 q ∙ c.loop-key.invariant q
