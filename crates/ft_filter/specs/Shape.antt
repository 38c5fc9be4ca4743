-- The filters that texts give: their predicates, their operands, and how deep they are.
use Rattle.std.specs.Prelude.{◌≡◌, ◌≢◌, ◌⊎◌, ◌≤◌, ℕ, zero, suc, max, Bool, true, false, IsTrue, List, Contains, FitsSigned}
use Rattle.std.specs.Int.{w64}
use Rattle.ft_fields.specs.declared.event.Name.{Name}
use Rattle.ft_fields.specs.declared.field.Field.{Field}
use Rattle.ft_fields.specs.Fields.{has_field, is_text}
use Rattle.ft_filter.specs.declared.tree.Joint.{Joint}
use Rattle.ft_filter.specs.declared.tree.Joint.TheVariants as joints
use Rattle.ft_filter.specs.declared.tree.Literal.{Literal}
use Rattle.ft_filter.specs.declared.tree.Literal.TheVariants as literals
use Rattle.ft_filter.specs.declared.tree.Op.{Op}
use Rattle.ft_filter.specs.declared.tree.Op.TheVariants as ops
use Rattle.ft_filter.specs.declared.tree.Pred.{Pred}
use Rattle.ft_filter.specs.Canonical.{is_joined, needs_enclosing}
use Rattle.ft_text.specs.Glob.{IsGlob}
use Rattle.ft_filter.specs.PredIs.{SuitsField}
use Rattle.ft_filter.specs.Tree.{Tree, Trees, Any, All, Not, Test, End, More}

-- ---- predicates

-- the text can stand in quotes: it does not hold both `"` and `'` (our own choice: there are no escapes)
abbrev pub CanBeQuoted : List ℕ → Type 0
CanBeQuoted text = (Contains text 34 → ⊥) ⊎ (Contains text 39 → ⊥)

-- the value is of the field's kind: a number of 64 bits with a sign, or a text that can stand in quotes, which is a glob after `~` and only there (kernel: events.rst, event filtering)
abbrev pub SuitsValue : Field → Op → Literal → Type 0
SuitsValue field op (literals.Number z) = (IsTrue (is_text field) → ⊥) × FitsSigned w64 z
SuitsValue field op (literals.Text text) = IsTrue (is_text field) × (op ≢ ops.Glob) × CanBeQuoted text
SuitsValue field op (literals.Glob text) = IsTrue (is_text field) × (op ≡ ops.Glob) × IsGlob text × CanBeQuoted text

-- the predicate compares a field of the event, by an operator and with a value of its kind (kernel: events.rst, event filtering)
pub record IsPredOf (event : Name) (pred : Pred) : Type 0 where
  pub owned : IsTrue (has_field event pred.field)
  pub operator : SuitsField pred.field pred.op
  pub operand : SuitsValue pred.field pred.op pred.value

-- ---- operands

-- at least two operands (our own choice: a single one stands for itself)
abbrev pub HasTwo : Trees → Type 0
HasTwo End = ⊥
HasTwo (More tree End) = ⊥
HasTwo (More tree (More next trees)) = Unit {0}

abbrev mutual
  -- the tree is of predicates of the event, and each any and all in it has at least two operands (kernel: events.rst, event filtering)
  pub IsTreeOf : Name → Tree → Type 0
  IsTreeOf event (Any trees) = HasTwo trees × AreTreesOf event trees
  IsTreeOf event (All trees) = HasTwo trees × AreTreesOf event trees
  IsTreeOf event (Not tree) = IsTreeOf event tree
  IsTreeOf event (Test pred) = IsPredOf event pred

  -- each of the operands is (kernel: events.rst, event filtering)
  pub AreTreesOf : Name → Trees → Type 0
  AreTreesOf event End = Unit {0}
  AreTreesOf event (More tree trees) = IsTreeOf event tree × AreTreesOf event trees

-- ---- levels

-- one level more, if there are parentheses
abbrev pub level_if : Bool → ℕ → ℕ
level_if true n = suc n
level_if false n = n

abbrev mutual
  -- how many `(` and `!` are open at once, at most, in the tree's canonical text: a `!` is open to the end of its operand
  pub levels : Tree → ℕ
  levels (Any trees) = most_levels joints.Or trees
  levels (All trees) = most_levels joints.And trees
  levels (Not tree) = suc (level_if (is_joined tree) (levels tree))
  levels (Test pred) = zero

  -- how many, at most, in the text of one of a joint's operands
  pub most_levels : Joint → Trees → ℕ
  most_levels joint End = zero
  most_levels joint (More tree trees) = max (level_if (needs_enclosing joint tree) (levels tree)) (most_levels joint trees)

-- the tree is of the event, and has at most 32 levels
pub record IsFilterOf (event : Name) (tree : Tree) : Type 0 where
  pub tree_of_event : IsTreeOf event tree
  pub shallow : levels tree ≤ 32
