use Rattle.std.proofs.Common.{◌≡◌, ◌++◌, true, List, [], drop, sym, ap, ◌∙◌, None}
use Rattle.std.specs.Map.{keys_of}
use Rattle.std.proofs.lemmas.List.{append-nil}
use Rattle.ft_pairs.specs.declared.at.At.{At}
use Rattle.ft_pairs.proofs.Sides.{none_after, rises, rises-ascend}
use Rattle.ft_pairs.proofs.sequence.places_in_order.Goals as goal

pub returns-clause-rise : goal.returns-clause-rise
returns-clause-rise c =
    let reads : List At = c.args.reads.now in
    let places = c.loop-at.places.items in
    let left : drop c.loop-at.at-index reads ≡ [] = none_after reads c.loop-at.at-index c.loop-at-test.false in
    let up : rises None reads ≡ true = sym c.loop-at.invariant.rise ∙ ap (rises c.loop-at.before) left in
    let keys : keys_of places ≡ reads = sym (append-nil (keys_of places)) ∙ ap (λ l. keys_of places ++ l) (sym left) ∙ c.loop-at.invariant.same in
    rises-ascend None places (ap (rises None) keys ∙ up)
