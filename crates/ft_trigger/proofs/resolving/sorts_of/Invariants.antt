use Rattle.std.proofs.Common.{◌≡◌, drop, length}
use Rattle.std.specs.Option.{option_copied}
use Rattle.ft_trigger.specs.TriggerIs.{sorts_of}
use Rattle.ft_trigger.proofs.ResolveLemmas.{onto}
use Rattle.ft_trigger.proofs.resolving.sorts_of.Given as goal

-- what the words that are left name, after what is read already, is what all name
abbrev pub invariant-loop-word : goal.invariant-loop-word
invariant-loop-word l = record {
  same : onto l.sort.items (sorts_of l.keys l.values (option_copied l.own) (drop l.word-index l.words)) ≡ sorts_of l.keys l.values (option_copied l.own) l.words;
  count : length l.sort.items ≡ l.word-index;
}
