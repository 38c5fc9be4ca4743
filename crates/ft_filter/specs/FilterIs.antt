-- Filters as texts: the grammar, and the first fault (kernel: events.rst, event filtering).
--
--     or      = and { "||" and }
--     and     = operand { "&&" operand }
--     operand = "!" operand | "(" or ")" | field operator value
--
-- The words of the text are in Tokens; a field, an operator and a value, with their faults, in Predicate.
use Rattle.std.specs.Prelude.{◌≡◌, ◌≢◌, ◌⊎◌, ℕ, suc, ◌==◌, List, ◌∷◌, length, drop, slice_index, Option, Some, None, Result, Ok, Err, if◌then◌else◌, codes}
use Rattle.std.specs.List.{starts_with}
use Rattle.ft_fields.specs.declared.event.Name.{Name}
use Rattle.ft_text.specs.Tokens.{skip}
use Rattle.ft_filter.specs.declared.fault.FilterFault.{FilterFault}
use Rattle.ft_filter.specs.declared.fault.FilterFault.TheVariants.{Syntax, TooDeep}
use Rattle.ft_filter.specs.declared.tree.Joint.{Joint}
use Rattle.ft_filter.specs.declared.tree.Joint.TheVariants as joints
use Rattle.ft_filter.specs.Predicate.{Read, Found, Stop, place, pred_at}
use Rattle.ft_filter.specs.Tree.{Tree, Trees, Any, All, Not, Test, End, More}

-- what is read: operands that a joint joins, or one operand
pub data Rule : Type 0 where
  Joined : Joint → Rule
  Operand : Rule

-- what stands beside a joint: `&&` binds closer than `||` (kernel: events.rst, event filtering)
abbrev pub below : Joint → Rule
below joints.Or = Joined joints.And
below joints.And = Operand

-- how a filter writes the joint (kernel: events.rst, event filtering)
abbrev pub joint_text : Joint → List ℕ
joint_text joints.Or = codes "||"
joint_text joints.And = codes "&&"

-- what is after the joint, if it stands next
abbrev pub behind_joint : Joint → List ℕ → Option (List ℕ)
behind_joint joint text = if starts_with ◌==◌ (skip text) (joint_text joint) then Some (drop 2 (skip text)) else None

-- operands of a joint, at least two
abbrev pub tree_of_joint : Joint → Trees → Tree
tree_of_joint joints.Or trees = Any trees
tree_of_joint joints.And trees = All trees

-- a first operand and those after it: a single operand stands for itself
abbrev pub joined : Joint → Tree → Trees → Tree
joined joint tree End = tree
joined joint tree (More next trees) = tree_of_joint joint (More tree (More next trees))

-- what is read, with something made of it
abbrev pub made : {A B : Type 0} → (A → B) → Read A → Read B
made f (Found found rest) = Found (f found) rest
made f (Stop fault) = Stop fault

-- the tree in parentheses, if the closing one stands after it (kernel: events.rst, event filtering)
abbrev pub parenthesised : ℕ → Read Tree → Read Tree
parenthesised whole (Found tree rest) =
    if starts_with ◌==◌ (skip rest) (codes ")") then Found tree (drop 1 (skip rest)) else Stop (Syntax (place whole (skip rest)))
parenthesised whole (Stop fault) = Stop fault

mutual
  -- the rule reads the front of a text of an event's filter, in which so many more `(` and `!` may be opened: a tree and the rest, or the first fault (kernel: events.rst, event filtering)
  pub data Reads (event : Name) (whole : ℕ) : Rule → ℕ → List ℕ → Read Tree → Type 0 where
    -- an operand and those after it
    first : (joint : Joint) (room : ℕ) (text : List ℕ) (tree : Tree) (rest : List ℕ) (read : Read Trees)
        → Reads event whole (below joint) room text (Found tree rest) → Goes event whole joint room rest read
        → Reads event whole (Joined joint) room text (made (joined joint tree) read)
    -- no operand
    first_fails : (joint : Joint) (room : ℕ) (text : List ℕ) (fault : FilterFault)
        → Reads event whole (below joint) room text (Stop fault)
        → Reads event whole (Joined joint) room text (Stop fault)
    -- `!` and an operand
    negated : (room : ℕ) (text behind : List ℕ) (read : Read Tree) → skip text ≡ 33 ∷ behind
        → Reads event whole Operand room behind read
        → Reads event whole Operand (suc room) text (made Not read)
    -- `(`, operands, `)`
    enclosed : (room : ℕ) (text behind : List ℕ) (read : Read Tree) → skip text ≡ 40 ∷ behind
        → Reads event whole (Joined joints.Or) room behind read
        → Reads event whole Operand (suc room) text (parenthesised whole read)
    -- a `!` or `(` too many
    deep : (text behind : List ℕ) (byte : ℕ) → skip text ≡ byte ∷ behind → (byte ≡ 33) ⊎ (byte ≡ 40)
        → Reads event whole Operand 0 text (Stop TooDeep)
    -- a field, an operator, a value
    compared : (room : ℕ) (text : List ℕ) → slice_index (skip text) 0 ≢ 33 → slice_index (skip text) 0 ≢ 40
        → Reads event whole Operand room text (made Test (pred_at event whole (skip text)))

  -- what goes on after an operand: a joint and an operand, again and again (kernel: events.rst, event filtering)
  pub data Goes (event : Name) (whole : ℕ) : Joint → ℕ → List ℕ → Read Trees → Type 0 where
    -- no joint
    ended : (joint : Joint) (room : ℕ) (text : List ℕ) → behind_joint joint text ≡ None
        → Goes event whole joint room text (Found End text)
    -- a joint and an operand
    another : (joint : Joint) (room : ℕ) (text behind : List ℕ) (tree : Tree) (rest : List ℕ) (read : Read Trees)
        → behind_joint joint text ≡ Some behind
        → Reads event whole (below joint) room behind (Found tree rest) → Goes event whole joint room rest read
        → Goes event whole joint room text (made (More tree) read)
    -- a joint and no operand
    another_fails : (joint : Joint) (room : ℕ) (text behind : List ℕ) (fault : FilterFault)
        → behind_joint joint text ≡ Some behind
        → Reads event whole (below joint) room behind (Stop fault)
        → Goes event whole joint room text (Stop fault)

-- how deep `(` and `!` may be open (our own choice)
abbrev pub most_open : ℕ
most_open = 32

-- a whole filter: nothing but spaces and tabs may follow it
abbrev pub whole_of : ℕ → Read Tree → Result Tree FilterFault
whole_of whole (Found tree rest) = if length (skip rest) == 0 then Ok tree else Err (Syntax (place whole (skip rest)))
whole_of whole (Stop fault) = Err fault

-- a text on an event is a filter with this tree, or has this first fault (kernel: events.rst, event filtering)
pub record FilterIs (event : Name) (text : List ℕ) (answer : Result Tree FilterFault) : Type 0 where
  pub read : Read Tree
  pub reads : Reads event (length text) (Joined joints.Or) most_open text read
  pub ends : answer ≡ whole_of (length text) read
