-- A field, an operator and a value at the head of a text: cuts of the text, and the first fault (kernel: events.rst, event filtering).
use Rattle.std.specs.Prelude.{◌≡◌, ◌≢◌, ◌⊎◌, ◌≤◌, ℕ, Bool, true, false, IsTrue, List, [], ◌∷◌, ◌++◌, length, slice_index, Contains, ℤ, FitsSigned}
use Rattle.std.specs.Int.{w64}
use Rattle.std.specs.List.{list_all}
use Rattle.ft_fields.specs.declared.event.Name.{Name}
use Rattle.ft_fields.specs.declared.field.Field.{Field}
use Rattle.ft_fields.specs.Fields.{field_text, has_field, is_text}
use Rattle.ft_text.specs.Cuts.{Where, WhereCut, Stops}
use Rattle.ft_text.specs.Tokens.{is_gap, begins_name, is_in_name}
use Rattle.ft_filter.specs.declared.fault.FilterFault.TheVariants.{Syntax, NoField, WrongKind, BadGlob, NumberRange}
use Rattle.ft_filter.specs.declared.tree.Op.{Op}
use Rattle.ft_filter.specs.declared.tree.Op.TheVariants as ops
use Rattle.ft_filter.specs.declared.tree.Literal.{Literal}
use Rattle.ft_filter.specs.declared.tree.Literal.TheVariants as literals
use Rattle.ft_filter.specs.declared.tree.Pred.{Pred}
use Rattle.ft_text.specs.Glob.{IsGlob}
use Rattle.ft_filter.specs.Numbers.{IsNumber}
use Rattle.ft_filter.specs.Operators.{op_text}
use Rattle.ft_filter.specs.Predicate.{Read, Found, Stop, place}

-- ---- words

-- the text is spaces and tabs, all that stand there, and the rest (kernel: events.rst, event filtering)
pub record IsBehindGap (text rest : List ℕ) : Type 0 where
  pub gap : List ℕ
  pub joined : text ≡ gap ++ rest
  pub gaps : IsTrue (list_all is_gap gap)
  pub longest : Stops is_gap rest

-- the text is a name, which is the longest run of letters, digits and `_` and begins with no digit, and the rest (kernel: events.rst, event filtering)
pub record BeginsWithName (text name rest : List ℕ) : Type 0 where
  pub joined : text ≡ name ++ rest
  pub begins : IsTrue (begins_name (slice_index text 0))
  pub letters : IsTrue (list_all is_in_name name)
  pub longest : Stops is_in_name rest

-- the event has a field of this name (kernel: events.rst, the formats of the events)
abbrev pub IsFieldOf : Name → List ℕ → Field → Type 0
IsFieldOf event name field = (name ≡ field_text field) × IsTrue (has_field event field)

-- the text is an operator, the longest that stands there, and the rest; a `&` before another `&` is no operator (kernel: events.rst, event filtering; the `&` is our own choice)
pub record IsOperator (text : List ℕ) (op : Op) (rest : List ℕ) : Type 0 where
  pub joined : text ≡ op_text op ++ rest
  pub longest : (other : Op) (behind : List ℕ) → text ≡ op_text other ++ behind → length (op_text other) ≤ length (op_text op)
  pub alone : op ≡ ops.Bits → slice_index rest 0 ≢ 38

-- the text is a `"` or `'`, a text without that quote, the quote again, and the rest (our own choice: there are no escapes)
pub record IsQuoted (text inside rest : List ℕ) : Type 0 where
  pub quote : ℕ
  pub either : (quote ≡ 34) ⊎ (quote ≡ 39)
  pub joined : text ≡ quote ∷ (inside ++ quote ∷ rest)
  pub free : Contains inside quote → ⊥

-- a value, before its kind is asked: a number of any size, or a text
pub data Token : Type 0 where
  Number : ℤ → Token
  Text : List ℕ → Token

-- the text is the token and the rest (kernel: events.rst, event filtering)
abbrev pub IsToken : List ℕ → Token → List ℕ → Type 0
IsToken text (Token.Number z) rest = IsNumber text z rest
IsToken text (Token.Text inside) rest = IsQuoted text inside rest

-- ---- what they give

-- the operators of fields that hold texts, and of fields that hold numbers (kernel: events.rst, event filtering)
abbrev pub operators_of : Bool → List Op
operators_of true = ops.Eq ∷ ops.Ne ∷ ops.Glob ∷ []
operators_of false = ops.Eq ∷ ops.Ne ∷ ops.Lt ∷ ops.Le ∷ ops.Gt ∷ ops.Ge ∷ ops.Bits ∷ []

-- the operator is one of the field's kind (kernel: events.rst, event filtering)
abbrev pub SuitsField : Field → Op → Type 0
SuitsField field op = Contains (operators_of (is_text field)) op

-- the predicate of its three parts
abbrev pub pred_of : Field → Op → Literal → Pred
pred_of field op value = record { field = field; op = op; value = value }

-- a text as the value: after `~` it must be a glob (kernel: events.rst, event filtering)
abbrev pub TextGives : ℕ → Field → Op → List ℕ → List ℕ → Read Pred → Type 0
TextGives at field op text rest read =
    Where (op ≡ ops.Glob)
    (Where (IsGlob text → ⊥) (read ≡ Stop (BadGlob at)) (read ≡ Found (pred_of field op (literals.Glob text)) rest))
    (read ≡ Found (pred_of field op (literals.Text text)) rest)

-- a token as the value: it must be of the field's kind, and then a number one of 64 bits with a sign (kernel: events.rst, event filtering)
abbrev pub TokenGives : ℕ → Field → Op → Token → List ℕ → Read Pred → Type 0
TokenGives at field op (Token.Number z) rest read =
    Where (IsTrue (is_text field)) (read ≡ Stop (WrongKind at))
    (Where (FitsSigned w64 z → ⊥) (read ≡ Stop (NumberRange at)) (read ≡ Found (pred_of field op (literals.Number z)) rest))
TokenGives at field op (Token.Text text) rest read =
    Where (IsTrue (is_text field) → ⊥) (read ≡ Stop (WrongKind at)) (TextGives at field op text rest read)

-- what stands where a value is due: a token, or a fault at its first byte (kernel: events.rst, event filtering)
abbrev pub ValueGives : ℕ → Field → Op → List ℕ → Read Pred → Type 0
ValueGives whole field op text read =
    WhereCut (λ (cut : Token × List ℕ). IsToken text cut.0 cut.1)
    (λ cut. TokenGives (place whole text) field op cut.0 cut.1 read)
    (read ≡ Stop (Syntax (place whole text)))

-- what stands where an operator is due: an operator of the field's kind and a value, or a fault at its first byte (kernel: events.rst, event filtering)
abbrev pub OperatorGives : ℕ → Field → List ℕ → Read Pred → Type 0
OperatorGives whole field text read =
    WhereCut (λ (cut : Op × List ℕ). IsOperator text cut.0 cut.1)
    (λ cut. Where (SuitsField field cut.0 → ⊥) (read ≡ Stop (WrongKind (place whole text)))
    ((value : List ℕ) × IsBehindGap cut.1 value × ValueGives whole field cut.0 value read))
    (read ≡ Stop (Syntax (place whole text)))

-- a text, which begins with no space and no tab, gives this predicate of the event and the rest, or this first fault, with its place in the whole (kernel: events.rst, event filtering)
unfoldable pub PredIs : Name → ℕ → List ℕ → Read Pred → Type 0
PredIs event whole text read =
    WhereCut (λ (cut : List ℕ × List ℕ). BeginsWithName text cut.0 cut.1)
    (λ cut. WhereCut (IsFieldOf event cut.0)
    (λ field. (operator : List ℕ) × IsBehindGap cut.1 operator × OperatorGives whole field operator read)
    (read ≡ Stop (NoField (place whole text))))
    (read ≡ Stop (Syntax (place whole text)))
