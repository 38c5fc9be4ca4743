-- Filters as trees (kernel: events.rst, event filtering).
use Rattle.std.specs.Prelude.{List, [], ◌∷◌, map}
use Rattle.ft_fields.specs.declared.event.Name.{Name}
use Rattle.ft_filter.specs.declared.tree.Pred.{Pred}
use Rattle.ft_filter.specs.declared.tree.Expr.{Expr}
use Rattle.ft_filter.specs.declared.tree.Exprs.{Exprs}
use Rattle.ft_filter.specs.declared.tree.Expr.TheOpen.{Expr-F, Exprs-F}
use Rattle.ft_filter.specs.declared.tree.Expr.TheFolds.{fold-Expr}

mutual
  -- what a filter asks: that some operand holds, that each does, that one does not, or that a field compares so (kernel: events.rst, event filtering)
  pub data Tree : Type 0 where
    Any : Trees → Tree
    All : Trees → Tree
    Not : Tree → Tree
    Test : Pred → Tree

  -- operands, in order
  pub data Trees : Type 0 where
    End : Trees
    More : Tree → Trees → Trees

-- a filter: the event that it is for, and what it asks (kernel: events.rst, event filtering)
pub record Condition : Type 0 where
  pub event : Name
  pub tree : Tree

-- trees as operands
abbrev pub trees : List Tree → Trees
trees [] = End
trees (tree ∷ list) = More tree (trees list)

-- one level of an expression, its operands already seen as trees
abbrev pub tree_step : Expr-F Tree Trees → Tree
tree_step (Expr-F.Any operands) = Any operands
tree_step (Expr-F.All operands) = All operands
tree_step (Expr-F.Not operand) = Not operand.value
tree_step (Expr-F.Pred pred) = Test pred

-- operands, each already seen as a tree
abbrev pub trees_step : Exprs-F Tree Trees → Trees
trees_step operands = trees operands.list.items

-- an expression as a tree, whatever its place in memory
abbrev pub tree_of : Expr → Tree
tree_of = fold-Expr Tree Trees tree_step trees_step

-- operands as trees
abbrev pub trees_in : Exprs → List Tree
trees_in operands = map tree_of operands.list.items
