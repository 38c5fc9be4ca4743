-- Whether an event passes a filter (kernel: events.rst, event filtering).
use Rattle.std.specs.Prelude.{ℕ, Bool, true, false, not, ◌&&◌, ◌||◌, ◌==◌, List, ℤ, int_lt, int_le, bit_and}
use Rattle.std.specs.Int.{w64, cast_unsigned}
use Rattle.std.specs.Option.{option_map_or}
use Rattle.std.specs.Ordering.{int_eq}
use Rattle.std.specs.Str.{bytes_eq}
use Rattle.ft_fields.specs.Traced.{Traced}
use Rattle.ft_fields.specs.Fields.{field_of}
use Rattle.ft_fields.specs.declared.field.Value.{Value}
use Rattle.ft_fields.specs.declared.field.Value.TheVariants as values
use Rattle.ft_filter.specs.declared.tree.Op.{Op}
use Rattle.ft_filter.specs.declared.tree.Op.TheVariants as ops
use Rattle.ft_filter.specs.declared.tree.Literal.{Literal}
use Rattle.ft_filter.specs.declared.tree.Literal.TheVariants as literals
use Rattle.ft_filter.specs.declared.tree.Pred.{Pred}
use Rattle.ft_text.specs.Matching.{matches}
use Rattle.ft_filter.specs.Predicate.{is_match}
use Rattle.ft_filter.specs.Tree.{Tree, Trees, Any, All, Not, Test, End, More}

-- a number before the operator and one after it; `&`: they have a bit in common, as 64 bits of two's complement (kernel: events.rst, event filtering)
abbrev pub numbers_hold : Op → ℤ → ℤ → Bool
numbers_hold ops.Eq a b = int_eq a b
numbers_hold ops.Ne a b = not (int_eq a b)
numbers_hold ops.Lt a b = int_lt a b
numbers_hold ops.Le a b = int_le a b
numbers_hold ops.Gt a b = int_lt b a
numbers_hold ops.Ge a b = int_le b a
numbers_hold ops.Bits a b = not (bit_and (cast_unsigned w64 a) (cast_unsigned w64 b) == 0)
numbers_hold ops.Glob a b = false

-- a text before the operator and one after it (kernel: events.rst, event filtering)
abbrev pub texts_hold : Op → List ℕ → List ℕ → Bool
texts_hold ops.Eq a b = bytes_eq a b
texts_hold ops.Ne a b = not (bytes_eq a b)
texts_hold op a b = false

-- what a field holds compares so with a value; `~`: the text matches the glob; unlike kinds never do (kernel: events.rst, event filtering)
abbrev pub values_hold : Op → Value → Literal → Bool
values_hold op (values.Num a) (literals.Number b) = numbers_hold op a b
values_hold op (values.Text a) (literals.Text b) = texts_hold op a b
values_hold op (values.Text a) (literals.Glob b) = is_match op && matches b a
values_hold op (values.Num a) (literals.Text b) = false
values_hold op (values.Num a) (literals.Glob b) = false
values_hold op (values.Text a) (literals.Number b) = false

-- the event's field compares so; a field that it does not have never does (kernel: events.rst, event filtering)
unfoldable pub passes : Traced → Pred → Bool
passes event pred = option_map_or (λ value. values_hold pred.op value pred.value) (field_of event pred.field) false

abbrev mutual
  -- the event passes: some operand does, each does, the operand does not, or the field compares so (kernel: events.rst, event filtering)
  pub holds : Traced → Tree → Bool
  holds event (Any trees) = some_holds event trees
  holds event (All trees) = each_holds event trees
  holds event (Not tree) = not (holds event tree)
  holds event (Test pred) = passes event pred

  -- some operand does (kernel: events.rst, event filtering)
  pub some_holds : Traced → Trees → Bool
  some_holds event End = false
  some_holds event (More tree trees) = holds event tree || some_holds event trees

  -- each operand does (kernel: events.rst, event filtering)
  pub each_holds : Traced → Trees → Bool
  each_holds event End = true
  each_holds event (More tree trees) = holds event tree && each_holds event trees
