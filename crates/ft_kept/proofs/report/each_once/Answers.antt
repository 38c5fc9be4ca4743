use Rattle.std.proofs.Common.{◌≡◌, ◌+◌, List, [], ◌∷◌, ◌++◌, cond, drop, sym, ap, ◌∙◌}
use Rattle.std.specs.List.{fold}
use Rattle.ft_fields.specs.declared.key.Part.{Part}
use Rattle.ft_changes.specs.Rivals.{is_of}
use Rattle.ft_kept.specs.Touched.{with_new_key}
use Rattle.ft_kept.proofs.Once.{met_more, once_more, with_fresh}
use Rattle.ft_kept.proofs.report.each_once.Goals.{then-branch+in_ok-push, else-branch}
use Rattle.ft_kept.proofs.report.each_once.Goals as goal

pub loop-key-preserved : goal.loop-key-preserved
loop-key-preserved c =
    let keys = c.args.keys.now in
    let i = c.loop-key.key-index in
    let key = c.key-item.result in
    let found : List (List Part) = c.loop-key.found.items in
    let one = with_fresh c.loop-key.met found key c.in_ok-insert.field-0 c.loop-key.invariant.same c.in_ok-insert.ensures.fresh in
    let now : c.if-branch.found.items ≡ with_new_key found key =
    elim c.if-branch.branch [
      | then-branch+in_ok-push w ↦ ap (λ v. v.items) w.found-is ∙ w.in_ok-push.ensures.items ∙ sym (ap (λ b. cond b (found ++ key ∷ []) found) w.if-branch.true) ∙ one
      | else-branch w ↦ ap (λ v. v.items) w.found-is ∙ sym (ap (λ b. cond b (found ++ key ∷ []) found) w.if-branch.false) ∙ one
    ] in
    record {
      once = ap (λ (ks : List (List Part)). fold with_new_key ks (drop (i + 1) keys)) now ∙ once_more keys found i key c.loop-key-test.true c.key-item.is ∙ c.loop-key.invariant.once;
      same = λ q. met_more c.loop-key.met c.insert.new.self found key c.loop-key.invariant.same c.in_ok-insert.ensures.added q ∙ sym (ap (λ (ks : List (List Part)). is_of ks q) now);
    }
