use Rattle.std.proofs.Common.{◌≡◌, false, List, [], Option, None, Some, refl, sym, ap, ◌∙◌, rules}
use Rattle.std.specs.Prelude.{map as list_map}
use Rattle.std.specs.Option.{is_none, option_map_or}
use Rattle.std.proofs.lemmas.Bool.{true≢false}
use Rattle.std.proofs.lemmas.Iterator.{YieldsList-from_map, YieldsList-from_slice, items_from_collect}
use Rattle.std.proofs.lemmas.Iterator.Consumers.{YieldsList-at}
use Rattle.std.proofs.lemmas.Result.{IfOk-weaker}
use Rattle.ft_changes.specs.declared.changed.ReadingChange.{ReadingChange}
use Rattle.ft_replay.specs.declared.pair.Pair.{Pair}
use Rattle.ft_made.specs.inner.First.{first_change}
use Rattle.ft_made.proofs.tables.first_changes.Goals as goal

-- of a trigger with an onmatch part they are all
there : {X : Type 0} (part : Option X) (changes : List ReadingChange) → is_none part ≡ false → option_map_or (λ x. changes) part [] ≡ changes
there None changes some = absurd (true≢false some)
there (Some x) changes some = refl

pub returns : goal.returns
returns g c =
    let id = c.args.id in
    let pairs : List Pair = c.deref.result.now in
    IfOk-weaker c.collect.result _ _ (λ changes made. made ∙ ap (list_map (first_change id)) (c.deref.ensures.value ∙ c.in_ok-pairs.ensures) ∙ sym (there _ _ search rules))
    (items_from_collect c.collect.result c.collect.ensures.ran
    (YieldsList-from_map _ (first_change id) (YieldsList-at c.map.ensures.source (YieldsList-from_slice pairs c.iter.ensures.rest)) c.map.ensures.closure (λ x r q k. search rules)))
