use Rattle.std.proofs.Common.{◌≡◌, ◌+◌, drop, length}
use Rattle.std.specs.Option.{option_copied}
use Rattle.ft_head.specs.Draft.{besides_hitcount}
use Rattle.ft_trigger.specs.TriggerIs.{value_items}
use Rattle.ft_trigger.proofs.ResolveLemmas.{onto}
use Rattle.ft_trigger.proofs.resolving.value_items.Given as goal

-- what the words that are left name, after what is read already, is what all name
abbrev pub invariant-loop-word : goal.invariant-loop-word
invariant-loop-word l = record {
  same : onto l.values.items (value_items l.event (option_copied l.own) (besides_hitcount (drop l.word-index l.words))) ≡ value_items l.event (option_copied l.own) (besides_hitcount l.words);
  count : length l.values.items + length (besides_hitcount (drop l.word-index l.words)) ≡ length (besides_hitcount l.words);
}
