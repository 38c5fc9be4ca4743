use Rattle.std.proofs.Common.{◌≡◌, Some, slice_get, length, ap, ◌∙◌, cond, rules, refl}
use Rattle.std.proofs.lemmas.Option.{slice_get_read}
use Rattle.std.proofs.lemmas.Result.{on_ok_weaker}
use Rattle.std.specs.Ordering.{int_eq}
use Rattle.ft_pids.specs.Numbers.{number_of}
use Rattle.ft_dispatch.specs.Joining.{place_behind, over}
use Rattle.ft_dispatch.specs.Telling.{known}
use Rattle.ft_dispatch.proofs.Joins.{put-none, put-one}
use Rattle.ft_dispatch.proofs.joining.put.Goals as goal

pub returns-then-get-number : goal.returns-then-get-number
returns-then-get-number c = λ pid.
    let part = c.args.part.now in
    let entry = c.index-entry.result.now in
    let at : slice_get part.entries.items c.args.number ≡ Some entry = slice_get_read part.entries.items (length part.entries.items) c.args.number entry refl c.requires c.index-entry.ensures in
    put-none (place_behind c.args.counts.now) (number_of part.numbers) part.entries.items c.args.number entry pid (known c.args.tasks.now pid) at (search rules)

pub returns : goal.returns
returns c =
    let part = c.args.part.now in
    let old = known c.args.tasks.now in
    let entry = c.index-entry.result.now in
    let move = place_behind c.args.counts.now in
    let at : slice_get part.entries.items c.args.number ≡ Some entry = slice_get_read part.entries.items (length part.entries.items) c.args.number entry refl c.requires c.index-entry.ensures in
    on_ok_weaker c.set.result (λ set. λ pid. set pid ∙ ap (λ p. cond (int_eq p pid) (over c.since_behind-behind.result (old pid)) (old pid)) (search rules)
    ∙ ap (λ s. cond (int_eq entry.pid pid) (over s (old pid)) (old pid)) c.since_behind-behind.ensures
    ∙ put-one move (number_of part.numbers) part.entries.items c.args.number entry pid (old pid) at (search rules)) c.set.ensures
