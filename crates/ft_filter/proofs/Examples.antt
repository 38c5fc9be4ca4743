-- Texts of filters, and what they are: the definitions, worked out on examples.
use Rattle.std.proofs.Common.{◌≡◌, refl, ℕ, List, inr, arith}
use Rattle.std.proofs.lemmas.Option.{none-some}
use Rattle.std.specs.Prelude.{true, false, [], Result, Ok, Err, codes, ℤ, pos, negsuc}
use Rattle.ft_fields.specs.declared.event.Name.TheVariants as names
use Rattle.ft_fields.specs.declared.field.Field.TheVariants as fields
use Rattle.ft_text.specs.Tokens.{name_at, quoted_at, number_at, number_of}
use Rattle.ft_filter.specs.declared.fault.FilterFault.{FilterFault}
use Rattle.ft_filter.specs.declared.fault.FilterFault.TheVariants.{Syntax, NoField, WrongKind, BadGlob, NumberRange}
use Rattle.ft_filter.specs.declared.tree.Op.TheVariants as ops
use Rattle.ft_filter.specs.declared.tree.Literal.TheVariants as literals
use Rattle.ft_filter.specs.Operators.{op_at}
use Rattle.ft_filter.specs.Predicate.{text_value, number_value, literal_at, comparison_at, pred_at, Stop}
use Rattle.ft_text.specs.Matching.{glob_items, is_glob, fits, matches}
use Rattle.ft_filter.specs.Answers.{going, joined_at, operand_at, filter_of}
use Rattle.ft_filter.specs.Numbers.{Writes, negative, hexadecimal}
use Rattle.ft_filter.specs.PredIs.{PredIs}
use Rattle.ft_filter.specs.Shape.{levels}
use Rattle.ft_filter.specs.Tree.{Tree, Any, All, Not, Test, End, More}
use Rattle.ft_filter.proofs.NumberForms.{writes_to}
use Rattle.ft_filter.proofs.PredLaw.{pred_is}

computing : Unit {0}
unfolding name_at op_at quoted_at number_at number_of text_value number_value literal_at comparison_at pred_at glob_items is_glob fits matches going joined_at operand_at filter_of
computing = tt

-- a text on a waking
abbrev waking : List ℕ → Result Tree FilterFault
waking text = filter_of names.Waking text

-- pid is a number
abbrev pid_is : ℕ → Tree
pid_is n = Test (record { field = fields.Pid; op = ops.Eq; value = literals.Number (pos n) })

-- prio is below 0
abbrev prio_below : Tree
prio_below = Test (record { field = fields.Prio; op = ops.Lt; value = literals.Number (pos 0) })

in_parentheses : waking (codes "((pid==0x2a))") ≡ Ok (pid_is 42)
unfolding computing
in_parentheses = refl

negated : waking (codes "!(pid==1)") ≡ Ok (Not (pid_is 1))
unfolding computing
negated = refl

and_binds_closer : waking (codes "pid==1||pid==2&&prio<0") ≡ Ok (Any (More (pid_is 1) (More (All (More (pid_is 2) (More prio_below End))) End)))
unfolding computing
and_binds_closer = refl

or_in_parentheses : waking (codes "(pid==1||pid==2)&&prio<0") ≡ Ok (All (More (Any (More (pid_is 1) (More (pid_is 2) End))) (More prio_below End)))
unfolding computing
or_in_parentheses = refl

leading_zero : waking (codes "pid == 010") ≡ Err (Syntax 7)
unfolding computing
leading_zero = refl

too_large : waking (codes "pid == 9223372036854775808") ≡ Err (NumberRange 7)
unfolding computing
too_large = refl

empty : waking (codes "") ≡ Err (Syntax 0)
unfolding computing
empty = refl

no_field : waking (codes "nope $") ≡ Err (NoField 0)
unfolding computing
no_field = refl

wrong_operator : waking (codes "comm <") ≡ Err (WrongKind 5)
unfolding computing
wrong_operator = refl

wrong_value : waking (codes "comm == 5") ≡ Err (WrongKind 8)
unfolding computing
wrong_value = refl

open_class : waking (codes "comm ~ \"[a\"") ≡ Err (BadGlob 7)
unfolding computing
open_class = refl

class_before_star : matches (codes "a[!b-d]*") (codes "aex") ≡ true
unfolding computing
class_before_star = refl

class_without : matches (codes "a[!b-d]*") (codes "ab") ≡ false
unfolding computing
class_without = refl

two_stars : matches (codes "*a*b") (codes "xaxb") ≡ true
unfolding computing
two_stars = refl

last_byte : matches (codes "*a*b") (codes "xbxa") ≡ false
unfolding computing
last_byte = refl

no_glob : is_glob (codes "[b-a]") ≡ false
unfolding computing
no_glob = refl

-- ---- the relations

hexadecimal_word : Writes (codes "0x1F") (pos 31)
hexadecimal_word = hexadecimal (codes "1F") (omega arith, refl)

negative_word : Writes (codes "-7") (negsuc 6)
negative_word = negative (codes "7") (inr (55, [], refl, omega arith, omega arith, refl))

no_zero_in_front : (z : ℤ) → Writes (codes "07") z → ⊥
unfolding computing
no_zero_in_front z h = none-some z (writes_to (codes "07") z h)

two_levels : levels (Not (Any (More (pid_is 1) (More prio_below End)))) ≡ 2
two_levels = refl

operator_decides : PredIs names.Waking 7 (codes "comm < ") (Stop (WrongKind 5))
unfolding computing
operator_decides = (pred_is names.Waking 7 (codes "comm < ") (Stop (WrongKind 5))).1 refl
