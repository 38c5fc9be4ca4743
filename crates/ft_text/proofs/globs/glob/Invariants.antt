use Rattle.std.proofs.Common.{◌≤◌, ◌+◌, ◌*◌, List, length}
use Rattle.ft_text.specs.Glob.{Item, ItemsAre, Glob}
use Rattle.ft_text.proofs.Tries.{StandsAt, tries, IsShort}
use Rattle.ft_text.proofs.globs.glob.Given as goal

abbrev pub invariant-loop-byte : goal.invariant-loop-byte
invariant-loop-byte l = record {
  stands : (whole : List Item) → ItemsAre l.pattern whole → StandsAt (Glob whole l.text) l.place.pattern.now l.place.text.now l.star;
  within : length l.place.text.now ≤ tries l.text l.star;
  short : length l.place.pattern.now ≤ length l.pattern;
  star_short : IsShort l.pattern l.star;
}

abbrev pub decreases-loop-byte : goal.decreases-loop-byte
decreases-loop-byte l = tries l.text l.star * (length l.pattern + 1) + length l.place.pattern.now
