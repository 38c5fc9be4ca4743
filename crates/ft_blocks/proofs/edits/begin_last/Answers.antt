use Rattle.std.proofs.Common.{◌≡◌, ap, ◌∙◌, arith, ◌++◌, [], ◌∷◌, true}
use Rattle.std.specs.Prelude.{if◌then◌else◌}
use Rattle.std.proofs.lemmas.List.{append-nil}
use Rattle.std.specs.Result.{is_ok}
use Rattle.ft_blocks.specs.Blocks.{joined}
use Rattle.ft_blocks.proofs.Split.{joined_push, filled_push}
use Rattle.ft_blocks.proofs.edits.begin_last.Goals as goal

pub returns-clause-same : goal.returns-clause-same
returns-clause-same g c =
    let bs = c.args.blocks.now in
    let ok : is_ok c.push.result ≡ true = c.push.ensures.succeeds (omega (arith, c.in_ok-reserve.ensures.ok)) in
    let pushed : c.push.new.self.items ≡ bs.items ++ c.replace-full.result ∷ [] =
    c.push.ensures.items ∙ ap (λ x. if x then c.reserve.new.self.items ++ c.replace-full.result ∷ [] else c.reserve.new.self.items) ok ∙ ap (λ l. l ++ c.replace-full.result ∷ []) c.in_ok-reserve.ensures.items
    in
    let fresh : c.replace-full.new.dest.items ≡ [] = ap (λ v. v.items) c.replace-full.ensures.after ∙ c.in_ok-fresh.ensures.items in
    rw (pushed, fresh, joined_push bs.items c.replace-full.result, c.replace-full.ensures.value) (append-nil (joined bs.items ++ c.args.last.now.items))

pub returns-clause-filled : goal.returns-clause-filled
returns-clause-filled g c =
    let bs = c.args.blocks.now in
    let last = c.args.last.now in
    let ok : is_ok c.push.result ≡ true = c.push.ensures.succeeds (omega (arith, c.in_ok-reserve.ensures.ok)) in
    let pushed : c.push.new.self.items ≡ bs.items ++ c.replace-full.result ∷ [] =
    c.push.ensures.items ∙ ap (λ x. if x then c.reserve.new.self.items ++ c.replace-full.result ∷ [] else c.reserve.new.self.items) ok ∙ ap (λ l. l ++ c.replace-full.result ∷ []) c.in_ok-reserve.ensures.items
    in
    rw pushed (filled_push bs.items c.replace-full.result c.requires.filled (rw c.replace-full.ensures.value (omega (arith, c.requires.some, last.ok.0))))
