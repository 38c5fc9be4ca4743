use Rattle.std.proofs.Common.{◌≡◌, List, ap, ◌∙◌}
use Rattle.std.specs.Prelude.{is_some, ◌||◌}
use Rattle.std.specs.FinMap as map
use Rattle.std.proofs.Common.{drop, ◌+◌, eq-eqb}
use Rattle.ft_fields.specs.Parts.{key_cmp}
use Rattle.ft_fields.specs.Ties.{key_same}
use Rattle.ft_maps.specs.Seen.{seen}
use Rattle.ft_changes.specs.Reports.{is_reported}
use Rattle.ft_watch.proofs.Rows.{Keys, named_moves, others_stay, told_apart}
use Rattle.ft_watch.proofs.keys.add_named.Goals.{then-id-row+in_ok-put, else-id-row}
use Rattle.ft_watch.proofs.keys.add_named.Goals as goal

pub put-requires : goal.put-requires
put-requires c = key_same

pub loop-row-preserved : goal.loop-row-preserved
loop-row-preserved c q =
    let rows = c.args.rows.now in
    let i = c.loop-row.row-index in
    let row = c.row-item.result in
    let keys = seen key_cmp c.loop-row.keys in
    elim c.if-id-row.branch [
      | then-id-row+in_ok-put w ↦
          ap (λ m. is_some (map.get (seen key_cmp m) q) || is_reported (drop (i + 1) rows) c.args.id q) w.keys-is
          ∙ named_moves keys (seen key_cmp w.put.new.map) rows i c.args.id row c.loop-row-test.true c.row-item.is (eq-eqb _ _ w.if-id-row.true) w.in_ok-put.ensures.ok q
          ∙ c.loop-row.invariant q
      | else-id-row w ↦
          ap (λ m. is_some (map.get (seen key_cmp m) q) || is_reported (drop (i + 1) rows) c.args.id q) w.keys-is
          ∙ others_stay keys keys rows i c.args.id row c.loop-row-test.true c.row-item.is (told_apart _ _ w.if-id-row.false) q
          ∙ c.loop-row.invariant q
    ]
