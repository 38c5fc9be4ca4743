-- The one text of a filter that is printed.
use Rattle.std.specs.Prelude.{ℕ, Bool, true, false, ◌==◌, List, [], ◌++◌, codes, not, if◌then◌else◌}
use Rattle.std.specs.Fmt.{signed_decimal}
use Rattle.std.specs.List.{list_all}
use Rattle.ft_fields.specs.Fields.{field_text}
use Rattle.ft_filter.specs.declared.tree.Literal.{Literal}
use Rattle.ft_filter.specs.declared.tree.Literal.TheVariants as literals
use Rattle.ft_filter.specs.declared.tree.Pred.{Pred}
use Rattle.ft_filter.specs.declared.tree.Joint.{Joint}
use Rattle.ft_filter.specs.declared.tree.Joint.TheVariants as joints
use Rattle.ft_filter.specs.Operators.{op_text}
use Rattle.ft_filter.specs.Tree.{Tree, Trees, Any, All, Not, Test, End, More}

-- a text in double quotes, or in single quotes if it holds a double one
unfoldable pub quoted : List ℕ → List ℕ
quoted text =
    if list_all (λ byte. not (byte == 34)) text then codes "\"" ++ text ++ codes "\"" else codes "'" ++ text ++ codes "'"

-- a value: a number in decimal digits, after a `-` if it is negative, or a quoted text
abbrev pub literal_text : Literal → List ℕ
literal_text (literals.Number number) = signed_decimal number
literal_text (literals.Text text) = quoted text
literal_text (literals.Glob text) = quoted text

-- a field, an operator and a value, with spaces between
unfoldable pub pred_text : Pred → List ℕ
pred_text pred = field_text pred.field ++ codes " " ++ op_text pred.op ++ codes " " ++ literal_text pred.value

-- the joint with a space at each side
abbrev pub spaced_joint_text : Joint → List ℕ
spaced_joint_text joints.Or = codes " || "
spaced_joint_text joints.And = codes " && "

-- a text in parentheses, if the test says so
abbrev pub enclosed_if : Bool → List ℕ → List ℕ
enclosed_if true text = codes "(" ++ text ++ codes ")"
enclosed_if false text = text

-- inside operands of `||` such operands stand in parentheses
abbrev pub is_any : Tree → Bool
is_any (Any trees) = true
is_any (All trees) = false
is_any (Not tree) = false
is_any (Test pred) = false

-- inside operands of `&&`, and after `!`, operands of either joint stand in parentheses
abbrev pub is_joined : Tree → Bool
is_joined (Any trees) = true
is_joined (All trees) = true
is_joined (Not tree) = false
is_joined (Test pred) = false

-- whether an operand of a joint stands in parentheses
abbrev pub needs_enclosing : Joint → Tree → Bool
needs_enclosing joints.Or = is_any
needs_enclosing joints.And = is_joined

abbrev mutual
  -- the text of a filter's expression
  pub canonical : Tree → List ℕ
  canonical (Any trees) = joined_text joints.Or trees
  canonical (All trees) = joined_text joints.And trees
  canonical (Not tree) = codes "!" ++ enclosed_if (is_joined tree) (canonical tree)
  canonical (Test pred) = pred_text pred

  -- the texts of operands, joined
  pub joined_text : Joint → Trees → List ℕ
  joined_text joint End = []
  joined_text joint (More tree trees) = enclosed_if (needs_enclosing joint tree) (canonical tree) ++ more_text joint trees

  -- the texts of operands, each after a joint
  pub more_text : Joint → Trees → List ℕ
  more_text joint End = []
  more_text joint (More tree trees) = spaced_joint_text joint ++ enclosed_if (needs_enclosing joint tree) (canonical tree) ++ more_text joint trees
