-- The words of a text as their readers find them.
use Rattle.std.specs.Prelude.{ℕ, Bool, not, ◌==◌, nat_le, Option, Some, None, if◌then◌else◌}
use Rattle.ft_text.specs.declared.words.Class.{Class}
use Rattle.ft_text.specs.declared.words.Class.TheVariants as classes
use Rattle.ft_text.specs.Tokens.{is_gap, is_in_name}

-- the test of a class of bytes
abbrev pub word_test : Class → ℕ → Bool
word_test classes.Gap = is_gap
word_test classes.Name = is_in_name
word_test (classes.Except mark) = λ byte. not (byte == mark)

-- a number that is no farther from 0 than a number of 64 bits with a sign
abbrev pub within_reach : ℕ → Option ℕ
within_reach n = if nat_le n 9223372036854775808 then Some n else None
