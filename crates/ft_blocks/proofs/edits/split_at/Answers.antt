use Rattle.std.proofs.Common.{rules, ◌≡◌, sym, subst, ap, ◌∙◌, arith, ◌<◌, ◌+◌, ◌-◌, ◌/◌, ℕ, length, get_or, drop}
use Rattle.std.specs.Prelude.{vec_len}
use Rattle.std.specs.List.{insert}
use Rattle.std.proofs.lemmas.List.{length-drop}
use Rattle.ft_blocks.proofs.Split.{split_block, split_same, filled_split, same_at}
use Rattle.ft_blocks.proofs.edits.split_at.Goals as goal

pub second_half-requires : goal.second_half-requires
second_half-requires g c =
    let bs = c.args.blocks.now in
    let a = c.index.result.now in
    let b = c.index-2.result.now in
    let i = c.args.at in
    let isa : get_or bs.items i a ≡ a = search rules in
    let is : get_or bs.items i b ≡ b = search rules in
    let lt : i < length bs.items = omega (arith, c.requires.inside, bs.ok.0) in
    let same : vec_len a ≡ vec_len b = ap (λ v. vec_len v) (same_at bs.items i a b lt isa is) in
    rw c.deref.ensures.value (omega (arith, same, c.len-half.ensures, b.ok.0))

pub returns-clause-same : goal.returns-clause-same
returns-clause-same g c =
    let bs = c.args.blocks.now in
    let b = c.index-2.result.now in
    let m = c.index_mut.result.now in
    let t = c.in_ok-second.second in
    let i = c.args.at in
    let half : ℕ = c.len-half.result / 2 in
    let is : get_or bs.items i b ≡ b = search rules in
    let et : t.items ≡ drop half b.items = c.in_ok-second.ensures ∙ ap (drop half) c.deref.ensures.value in
    let lt : i < length bs.items = omega (arith, c.requires.inside, bs.ok.0) in
    let new : c.insert.new.self.items ≡ insert bs.items (i + 1) t = c.in_ok-insert.ensures.items in
    let at : get_or (insert bs.items (i + 1) t) i m ≡ m = subst (λ l. get_or l i m ≡ m) new (sym c.index_mut.ensures.value) in
    rw new (split_block bs.items i (i + 1) half b t m c.truncate.new.self (omega arith) lt is et at c.truncate.ensures.items)

pub returns-clause-filled : goal.returns-clause-filled
returns-clause-filled g c =
    let bs = c.args.blocks.now in
    let a = c.index.result.now in
    let b = c.index-2.result.now in
    let m = c.index_mut.result.now in
    let t = c.in_ok-second.second in
    let i = c.args.at in
    let half : ℕ = c.len-half.result / 2 in
    let isa : get_or bs.items i a ≡ a = search rules in
    let is : get_or bs.items i b ≡ b = search rules in
    let et : t.items ≡ drop half b.items = c.in_ok-second.ensures ∙ ap (drop half) c.deref.ensures.value in
    let lt : i < length bs.items = omega (arith, c.requires.inside, bs.ok.0) in
    let same : vec_len a ≡ vec_len b = ap (λ v. vec_len v) (same_at bs.items i a b lt isa is) in
    let new : c.insert.new.self.items ≡ insert bs.items (i + 1) t = c.in_ok-insert.ensures.items in
    let at : get_or (insert bs.items (i + 1) t) i m ≡ m = subst (λ l. get_or l i m ≡ m) new (sym c.index_mut.ensures.value) in
    let mb : vec_len m ≡ vec_len b = ap (λ v. vec_len v) (split_same bs.items i (i + 1) b t m (omega arith) lt is at) in
    let cut = c.truncate.new.self in
    let left : 0 < length cut.items = omega (arith, c.truncate.ensures.len, mb, same, c.len-half.ensures, c.if-half-eq0.false, cut.ok.0) in
    let count : length (drop half b.items) ≡ length b.items - half = length-drop half b.items in
    let right : 0 < length t.items = omega (arith, ap length et, count, same, c.len-half.ensures, c.if-half-eq0.false, b.ok.0) in
    rw new (filled_split bs.items i (i + 1) t cut (omega arith) lt c.requires.filled right left)
