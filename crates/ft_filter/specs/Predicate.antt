-- A field, an operator and a value, as a filter's text writes them (kernel: events.rst, event filtering).
use Rattle.std.specs.Prelude.{ℕ, ◌-◌, Bool, true, false, ◌||◌, not, List, length, slice_index, Option, Some, None, if◌then◌else◌}
use Rattle.std.specs.List.{find}
use Rattle.ft_fields.specs.declared.event.Name.{Name}
use Rattle.ft_fields.specs.declared.field.Field.{Field}
use Rattle.ft_fields.specs.Fields.{is_field_named, all_fields, is_text}
use Rattle.ft_text.specs.Ranged.{fits_i64}
use Rattle.ft_text.specs.Tokens.{skip, name_at, is_quote, quoted_at, number_at}
use Rattle.ft_filter.specs.declared.fault.FilterFault.{FilterFault}
use Rattle.ft_filter.specs.declared.fault.FilterFault.TheVariants.{Syntax, NoField, WrongKind, BadGlob, NumberRange}
use Rattle.ft_filter.specs.declared.tree.Op.{Op}
use Rattle.ft_filter.specs.declared.tree.Op.TheVariants as ops
use Rattle.ft_filter.specs.declared.tree.Literal.{Literal}
use Rattle.ft_filter.specs.declared.tree.Literal.TheVariants as literals
use Rattle.ft_filter.specs.declared.tree.Pred.{Pred}
use Rattle.ft_filter.specs.Operators.{op_at}
use Rattle.ft_text.specs.Matching.{is_glob}

-- what is read: a thing and the text after it, or the first fault
pub data Read (A : Type 0) : Type 0 where
  Found : A → List ℕ → Read A
  Stop : FilterFault → Read A

-- the place of a rest, in a text of so many bytes
abbrev pub place : ℕ → List ℕ → ℕ
place whole rest = whole - length rest

-- what follows if a thing is there, else the fault
abbrev pub read_or : {A B : Type 0} → FilterFault → Option A → (A → Read B) → Read B
read_or fault (Some found) next = next found
read_or fault None next = Stop fault

-- what follows if a test passes, else the fault
abbrev pub passed_or : {B : Type 0} → FilterFault → Bool → Read B → Read B
passed_or fault true next = next
passed_or fault false next = Stop fault

-- the operator is for fields that hold texts, or for fields that hold numbers (kernel: events.rst, event filtering)
abbrev pub suits : Bool → Op → Bool
suits text ops.Eq = true
suits text ops.Ne = true
suits text ops.Lt = not text
suits text ops.Le = not text
suits text ops.Gt = not text
suits text ops.Ge = not text
suits text ops.Bits = not text
suits text ops.Glob = text

-- the operator is `~`
abbrev pub is_match : Op → Bool
is_match ops.Glob = true
is_match op = false

-- a text as the value: a glob after `~`
abbrev pub literal_of : Bool → List ℕ → Literal
literal_of true text = literals.Glob text
literal_of false text = literals.Text text

-- a quoted text as the value: for a field that holds texts, and a glob after `~` (kernel: events.rst, event filtering)
unfoldable pub text_value : ℕ → Bool → Op → List ℕ → Read Literal
text_value at text op rest =
    read_or (Syntax at) (quoted_at rest) (λ quoted.
    passed_or (WrongKind at) text
    (passed_or (BadGlob at) (not (is_match op) || is_glob quoted.0)
    (Found (literal_of (is_match op) quoted.0) quoted.1)))

-- a number as the value: for a field that holds numbers, and in range (kernel: events.rst, event filtering)
unfoldable pub number_value : ℕ → Bool → List ℕ → Read Literal
number_value at text rest =
    read_or (Syntax at) (number_at rest) (λ number.
    passed_or (WrongKind at) (not text)
    (passed_or (NumberRange at) (fits_i64 number.0)
    (Found (literals.Number number.0) number.1)))

-- the value after an operator that suits the field (kernel: events.rst, event filtering)
unfoldable pub literal_at : ℕ → Bool → Op → List ℕ → Read Literal
literal_at whole text op rest =
    if is_quote (slice_index rest 0) then text_value (place whole rest) text op rest else number_value (place whole rest) text rest

-- the predicate with its value
abbrev pub pred_with : Field → Op → Read Literal → Read Pred
pred_with field op (Found value rest) = Found (record { field = field; op = op; value = value }) rest
pred_with field op (Stop fault) = Stop fault

-- an operator that suits the field, and a value (kernel: events.rst, event filtering)
unfoldable pub comparison_at : ℕ → Field → List ℕ → Read Pred
comparison_at whole field rest =
    read_or (Syntax (place whole rest)) (op_at rest) (λ op.
    passed_or (WrongKind (place whole rest)) (suits (is_text field) op.0)
    (pred_with field op.0 (literal_at whole (is_text field) op.0 (skip op.1))))

-- the predicate at the head of a text that begins with no space and no tab: a field of the event, an operator, a value (kernel: events.rst, event filtering)
unfoldable pub pred_at : Name → ℕ → List ℕ → Read Pred
pred_at event whole text =
    read_or (Syntax (place whole text)) (name_at text) (λ name.
    read_or (NoField (place whole text)) (find (is_field_named event name.0) all_fields) (λ field.
    comparison_at whole field (skip name.1)))
