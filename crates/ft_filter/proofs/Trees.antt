-- What an expression's tree is, by its variant.
use Rattle.std.proofs.Common.{◌≡◌, ap, sym, ◌∙◌}
use Rattle.std.specs.declared.alloc.Global.{Global}
use Rattle.std.specs.declared.boxed.Box.{Box}
use Rattle.ft_filter.specs.declared.tree.Pred.{Pred as Comparison}
use Rattle.ft_filter.specs.declared.tree.Expr.{Expr, Any, All, Not, Pred}
use Rattle.ft_filter.specs.declared.tree.Exprs.{Exprs}
use Rattle.ft_filter.specs.declared.tree.Expr.TheOpen.{Expr-F}
use Rattle.ft_filter.specs.declared.tree.Expr.TheVariants.{rolls-Any, rolls-All, rolls-Not, rolls-Pred}
use Rattle.ft_filter.specs.declared.tree.Expr.TheFolds.{fold-roll-Expr, fold-Exprs, fold_out-Exprs}
use Rattle.ft_filter.specs.Tree.{Tree, Trees, tree_step, trees_step, tree_of, trees_in, trees}
use Rattle.ft_filter.specs.Tree as tree

-- operands, whose fold is their list of trees
operands-is : (operands : Exprs) → fold-Exprs Tree Trees tree_step trees_step operands ≡ trees (trees_in operands)
operands-is operands = fold_out-Exprs Tree Trees tree_step trees_step operands

pub tree_of-Any : (operands : Exprs) → tree_of (Any operands) ≡ tree.Any (trees (trees_in operands))
tree_of-Any operands = ap tree_of (sym (rolls-Any operands)) ∙ fold-roll-Expr Tree Trees tree_step trees_step (Expr-F.Any operands) ∙ ap tree.Any (operands-is operands)

pub tree_of-All : (operands : Exprs) → tree_of (All operands) ≡ tree.All (trees (trees_in operands))
tree_of-All operands = ap tree_of (sym (rolls-All operands)) ∙ fold-roll-Expr Tree Trees tree_step trees_step (Expr-F.All operands) ∙ ap tree.All (operands-is operands)

pub tree_of-Not : (operand : Box Expr Global) → tree_of (Not operand) ≡ tree.Not (tree_of operand.value)
tree_of-Not operand = ap tree_of (sym (rolls-Not operand)) ∙ fold-roll-Expr Tree Trees tree_step trees_step (Expr-F.Not operand)

pub tree_of-Pred : (pred : Comparison) → tree_of (Pred pred) ≡ tree.Test pred
tree_of-Pred pred = ap tree_of (sym (rolls-Pred pred)) ∙ fold-roll-Expr Tree Trees tree_step trees_step (Expr-F.Pred pred)

-- the four of them
pub ruleset shapes = (tree_of-Any, tree_of-All, tree_of-Not, tree_of-Pred)
