use Rattle.std.proofs.Common.{sym, ◌∙◌}
use Rattle.std.proofs.lemmas.Result.{err_from_is_err_and}
use Rattle.ft_text.proofs.Fronts.{front_of_more, front_past}
use Rattle.ft_table.proofs.KeyParts.{part-there, part-added}
use Rattle.ft_table.proofs.text.write_parts.Goals as goal

pub unwrap-requires-in-loop-at : goal.unwrap-requires-in-loop-at
unwrap-requires-in-loop-at c = rw c.part-in-loop-at.ensures.value (part-there c.keys-items.result.now c.args.key.now c.loop-at.at (rw (c.keys-items.ensures.value) c.requires) c.loop-at-test.true)

pub returns-in_err-write_named-2-clause-err : goal.returns-in_err-write_named-2-clause-err
returns-in_err-write_named-2-clause-err c =
    let p = err_from_is_err_and c.from_residual-in_err-write_named-2.result c.from_residual-in_err-write_named-2.ensures.1 in
    rw p.1 (front_past c.args.text.now.items c.loop-at.text.items c.extend_from_slice.new.self.items c.write_named-in-loop-at.new.text.items _ c.loop-at.invariant.front c.in_ok-extend_from_slice.ensures.items c.in_err-write_named-2.ensures.err)

pub loop-at-preserved : goal.loop-at-preserved
loop-at-preserved c = record {
  added = part-added c.keys-items.result.now c.args.key.now c.loop-at.at _ c.unwrap-in-loop-at.result c.loop-at.text.items c.extend_from_slice.new.self.items c.write_named-in-loop-at.new.text.items _
      c.loop-at-test.true (sym c.part-in-loop-at.ensures.value ∙ c.unwrap-in-loop-at.ensures) c.in_ok-extend_from_slice.ensures.items c.in_ok-write_named-2.ensures.ok c.loop-at.invariant.added;
  front = front_past c.args.text.now.items c.loop-at.text.items c.extend_from_slice.new.self.items c.write_named-in-loop-at.new.text.items _ c.loop-at.invariant.front c.in_ok-extend_from_slice.ensures.items
      (front_of_more c.extend_from_slice.new.self.items c.write_named-in-loop-at.new.text.items _ c.in_ok-write_named-2.ensures.ok);
}
