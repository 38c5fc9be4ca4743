-- The answer to a filter's text, worked out from the left.
use Rattle.std.specs.Prelude.{ℕ, zero, suc, ◌==◌, List, length, drop, slice_index, Option, Some, None, Result, Ok, Err, ◌≡◌, ◌⊎◌, if◌then◌else◌}
use Rattle.ft_fields.specs.declared.event.Name.{Name}
use Rattle.ft_text.specs.Tokens.{skip}
use Rattle.ft_filter.specs.declared.fault.FilterFault.{FilterFault}
use Rattle.ft_filter.specs.declared.fault.FilterFault.TheVariants.{Memory, TooDeep}
use Rattle.ft_filter.specs.declared.tree.Joint.{Joint}
use Rattle.ft_filter.specs.declared.tree.Joint.TheVariants as joints
use Rattle.ft_filter.specs.Predicate.{Read, Found, Stop, pred_at}
use Rattle.ft_filter.specs.FilterIs.{behind_joint, joined, made, parenthesised, most_open, whole_of}
use Rattle.ft_filter.specs.Tree.{Tree, Trees, Not, Test, End, More, Condition}

-- what follows if a tree is read, else its fault
abbrev pub and_then : {A : Type 0} → Read Tree → (Tree → List ℕ → Read A) → Read A
and_then (Found tree rest) next = next tree rest
and_then (Stop fault) next = Stop fault

-- operands, each after a joint: one step reads the operand after the first joint, another goes on from what is after it
abbrev pub going_on : (List ℕ → Read Tree) → (List ℕ → Read Trees) → List ℕ → Option (List ℕ) → Read Trees
going_on one next text None = Found End text
going_on one next text (Some behind) = and_then (one behind) (λ tree rest. made (More tree) (next rest))

-- at most n operands, each after a joint
unfoldable pub going : (List ℕ → Read Tree) → Joint → ℕ → List ℕ → Read Trees
going one joint zero text = Found End text
going one joint (suc n) text = going_on one (going one joint n) text (behind_joint joint text)

-- one operand, or several with a joint between each two; there are fewer operands than bytes
unfoldable pub joined_at : (List ℕ → Read Tree) → Joint → List ℕ → Read Tree
joined_at one joint text = and_then (one text) (λ tree rest. made (joined joint tree) (going one joint (length rest) rest))

-- operands, joined by `||` and closer by `&&`
abbrev pub operands_at : (List ℕ → Read Tree) → List ℕ → Read Tree
operands_at one text = joined_at (joined_at one joints.And) joints.Or text

-- one operand, in a text that begins with no space and no tab: one step reads what is after a `!`, another what is after a `(`
abbrev pub operand_with : Name → ℕ → (List ℕ → Read Tree) → (List ℕ → Read Tree) → List ℕ → Read Tree
operand_with event whole behind_not behind_paren text =
    if slice_index text 0 == 33 then behind_not (drop 1 text)
    else (if slice_index text 0 == 40 then behind_paren (drop 1 text)
    else made Test (pred_at event whole text))

-- one operand, in which so many more `(` and `!` may be opened
unfoldable pub operand_at : Name → ℕ → ℕ → List ℕ → Read Tree
operand_at event whole zero text = operand_with event whole (λ rest. Stop TooDeep) (λ rest. Stop TooDeep) (skip text)
operand_at event whole (suc room) text =
    operand_with event whole (λ rest. made Not (operand_at event whole room rest)) (λ rest. parenthesised whole (operands_at (operand_at event whole room) rest)) (skip text)

-- what a text on an event is: a filter with this tree, or the first fault
unfoldable pub filter_of : Name → List ℕ → Result Tree FilterFault
filter_of event text = whole_of (length text) (operands_at (operand_at event (length text) most_open) text)

-- R holds for the answer, unless memory ran out
abbrev pub GivesFilter : (Result Tree FilterFault → Type 0) → Result Condition FilterFault → Type 0
GivesFilter R (Ok condition) = R (Ok condition.tree)
GivesFilter R (Err fault) = (fault ≡ Memory) ⊎ R (Err fault)
