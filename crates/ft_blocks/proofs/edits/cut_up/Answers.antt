use Rattle.std.proofs.Common.{◌≡◌, ◌+◌, ◌-◌, ◌<◌, ◌≤◌, ◌++◌, [], ◌∷◌, sym, ap, ◌∙◌, arith, take, drop, length}
use Rattle.std.proofs.Math.Seq.{take-add}
use Rattle.std.proofs.lemmas.List.{length-take-le, length-drop}
use Rattle.ft_blocks.specs.Blocks.{joined}
use Rattle.ft_blocks.proofs.Split.{joined_push, filled_push}
use Rattle.ft_blocks.proofs.edits.cut_up.Goals as goal

pub loop-from-preserved : goal.loop-from-preserved
loop-from-preserved g c =
    let es = c.args.entries.now in
    let n = c.loop-from.from in
    let bs = c.loop-from.blocks.items in
    let b = c.in_ok-block.block in
    let inv = c.loop-from.invariant in
    let many : n + 256 ≤ length es = omega (arith, c.loop-from-test.true, inv.within) in
    let size : n + 256 - n ≡ 256 = omega arith in
    let items : b.items ≡ take 256 (drop n es) = c.in_ok-block.ensures ∙ ap (λ m. take m (drop n es)) size in
    let left : length (drop n es) ≡ length es - n = length-drop n es in
    let count : length (take 256 (drop n es)) ≡ 256 = length-take-le 256 (drop n es) (omega (arith, left, many)) in
    let some : 0 < length b.items = omega (arith, ap length items, count) in
    let pushed : c.push.new.self.items ≡ bs ++ b ∷ [] = c.in_ok-push.ensures.items in
    record {
      within = many;
      front = ap joined pushed ∙ joined_push bs b ∙ ap (λ l. l ++ b.items) inv.front ∙ ap (λ l. take n es ++ l) items ∙ sym (take-add n 256 es);
      filled = rw pushed (filled_push bs b inv.filled some);
    }
