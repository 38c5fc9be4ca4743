use Rattle.std.proofs.Common.{◌≡◌, ◌<◌, length, get_or}
use Rattle.std.specs.FinMap as map
use Rattle.std.specs.Map.{keys_of}
use Rattle.ft_blocks.specs.Sorted.{Ascend}
use Rattle.ft_pairs.specs.declared.at.At.{At}
use Rattle.ft_pairs.specs.Order.{at_cmp}
use Rattle.ft_pairs.specs.inner.Met.{FindFirst}
use Rattle.ft_pairs.specs.inner.Sides.{both, IsLastOf, Places}
use Rattle.ft_pairs.proofs.sequence.sources_in_turn.Given as goal

-- those found so far are found, and the last read stands right before the next one
abbrev pub invariant-loop-at : goal.invariant-loop-at
invariant-loop-at l =
    (length l.found.items ≡ l.at-index)
    × ((own : Places) → keys_of own ≡ l.reads → Ascend at_cmp own
    → FindFirst (map.get (both l.saves own)) l.reads l.found.items × ((d : At) → l.at-index < length l.reads → IsLastOf own (get_or l.reads l.at-index d) l.before))
