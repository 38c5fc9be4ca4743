use Rattle.std.proofs.Common.{◌≡◌, List, sym, ap, ◌∙◌, map, Option, ℕ}
use Rattle.std.specs.Option.{option_copied}
use Rattle.std.specs.FinMap as finite
use Rattle.ft_fields.specs.declared.key.Part.{Part}
use Rattle.ft_fields.specs.Parts.{key_cmp}
use Rattle.ft_maps.specs.Seen.{seen}
use Rattle.ft_watch.specs.inner.Told.{with_row}
use Rattle.ft_watch.proofs.Rows.{told_rows, told_keys, rows_more, rows_at_last}
use Rattle.ft_watch.proofs.known_rows.KnownRows.with_changes.Goals as goal

pub loop-key-init : goal.loop-key-init
loop-key-init c =
    ap (λ (es : List (List Part × Unit {0})). told_rows c.args.id c.args.self.now c.args.now.now (map (λ e. e.0) es) c.args.changes)
    (c.into_iter-key-iterator.ensures.into_iter_gives ∙ c.entries-key-items.ensures.rest)

pub loop-key-preserved : goal.loop-key-preserved
loop-key-preserved c =
    rows_more c.args.id c.args.self.now c.args.now.now (c.in-Some.key.now, c.in-Some._mark.now) c.loop-key.key-iterator c.next.new.self c.in-Some.ensures.steps c.loop-key.told c.in_ok-told.told _
    (c.in_ok-told.ensures
    ∙ ap (λ (o : Option (List ℕ)). with_row c.args.id o (option_copied c.text_of-in-loop-key.result) c.loop-key.told) c.text_of.ensures
    ∙ ap (λ (o : Option (List ℕ)). with_row c.args.id (finite.get c.args.self.now c.in-Some.key.now) o c.loop-key.told) c.text_of-in-loop-key.ensures)
    c.loop-key.invariant

pub returns : goal.returns
returns c =
    rows_at_last c.args.id c.args.self.now c.args.now.now c.loop-key.key-iterator c.loop-key.told _ c.in-None.ensures.steps.0 c.loop-key.invariant
    ∙ told_keys c.args.id c.args.self.now c.args.now.now (seen key_cmp c.args.keys.now) c.requires c.args.changes
