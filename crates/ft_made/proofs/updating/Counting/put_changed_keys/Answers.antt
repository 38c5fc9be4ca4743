use Rattle.std.proofs.Common.{◌≡◌, ◌+◌, ◌++◌, List, arith, drop, get_or, sym, ap, ◌∙◌}
use Rattle.std.specs.List.{flat_map}
use Rattle.std.proofs.lemmas.List.{append-nil, append_assoc, at_drop_all, at_drop_more}
use Rattle.ft_hist.specs.Hist.{Hist}
use Rattle.ft_fields.specs.declared.key.Part.{Part}
use Rattle.ft_changes.specs.declared.changed.ReadingChange.{ReadingChange}
use Rattle.ft_hist.specs.Triggers.{Triggers}
use Rattle.ft_replay.specs.Merged.{Events, merged}
use Rattle.ft_replay.proofs.Stepping.{grow_more}
use Rattle.ft_made.specs.Updating.{keys_at, keys_of_made, changed_keys, made_as}
use Rattle.ft_made.proofs.MadeTables.{no_change}
use Rattle.ft_made.proofs.updating.Counting.put_changed_keys.Goals as goal

pub loop-change-preserved : goal.loop-change-preserved
loop-change-preserved c =
    let triggers : Triggers = c.args.self.now.triggers.now in
    let events : Events = merged c.args.self.now.lanes.now in
    let hist : Hist = c.args.self.now.trigger.now in
    let changes : List ReadingChange = c.args.changes.now in
    let change : ReadingChange = get_or changes c.loop-change.change-index no_change in
    let left : List ReadingChange = drop (c.loop-change.change-index + 1) changes in
    let old : List (List Part) = c.loop-change.keys.items in
    let one : List (List Part) = keys_of_made hist (made_as triggers events change change.before) in
    let two : List (List Part) = keys_of_made hist (made_as triggers events change change.after) in
    let puts : c.put_key-in-loop-change.new.keys.items ≡ old ++ keys_at triggers events hist change =
    c.in_ok-put_key-2.ensures.key
    ∙ (λ i. c.in_ok-put_key.ensures.key i ++ keys_of_made hist (c.made_of_change-after.ensures.made i))
    ∙ ap (λ made. (old ++ keys_of_made hist made) ++ two) c.made_of_change-before.ensures.made
    ∙ append_assoc old one two in
    record {
      all =
          ap (λ (keys : List (List Part)). keys ++ flat_map (keys_at triggers events hist) left) puts
          ∙ append_assoc old (keys_at triggers events hist change) (flat_map (keys_at triggers events hist) left)
          ∙ sym (at_drop_more (λ (more : List ReadingChange). old ++ flat_map (keys_at triggers events hist) more) changes c.loop-change.change-index no_change c.loop-change-test.true)
          ∙ c.loop-change.invariant.all;
      grow = grow_more _ _ _ (grow_more _ _ _ c.loop-change.invariant.grow c.in_ok-put_key.ensures.grow) c.in_ok-put_key-2.ensures.grow;
    }

pub returns-clause-keys : goal.returns-clause-keys
unfolding changed_keys
returns-clause-keys c =
    let keys : List (List Part) = c.loop-change.keys.items in
    sym (append-nil keys)
    ∙ sym (at_drop_all (λ (more : List ReadingChange). keys ++ flat_map (keys_at c.args.self.now.triggers.now (merged c.args.self.now.lanes.now) c.args.self.now.trigger.now) more) c.args.changes.now c.loop-change.change-index (omega (arith, c.loop-change-test.false)))
    ∙ c.loop-change.invariant.all
