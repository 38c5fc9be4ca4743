use Rattle.std.proofs.Common.{◌≡◌, ◌≤◌, take, true}
use Rattle.std.specs.List.{list_all}
use Rattle.std.specs.Str.Parse.{digits_value}
use Rattle.ft_event.specs.Bytes.{is_digit}
use Rattle.ft_event.specs.Marks.{last_count}
use Rattle.ft_event.proofs.mark.wide_number.Given as goal

abbrev pub invariant-loop-byte : goal.invariant-loop-byte
invariant-loop-byte l = record {
  digits : list_all is_digit (take l.byte-index l.text) ≡ true;
  value : l.number ≡ digits_value 10 (take l.byte-index l.text);
  within : l.number ≤ last_count;
}
