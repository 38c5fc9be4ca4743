-- The trees that texts give: what `IsFilterOf` says.
use Rattle.std.proofs.Common.{◌≡◌, ◌↔◌, ℕ, Bool, true, false, inl, inr, List, Ok, refl}
use Rattle.std.specs.Bool.{Decides}
use Rattle.ft_fields.specs.declared.event.Name.{Name}
use Rattle.ft_fields.specs.declared.field.Field.{Field}
use Rattle.ft_fields.specs.Fields.{is_text}
use Rattle.ft_filter.specs.declared.tree.Joint.TheVariants as joints
use Rattle.ft_filter.specs.declared.tree.Literal.{Literal}
use Rattle.ft_filter.specs.declared.tree.Literal.TheVariants as literals
use Rattle.ft_filter.specs.declared.tree.Op.{Op}
use Rattle.ft_filter.specs.declared.tree.Op.TheVariants as ops
use Rattle.ft_filter.specs.declared.tree.Pred.{Pred}
use Rattle.ft_filter.specs.Canonical.{canonical}
use Rattle.ft_filter.specs.FilterIs.{Joined, most_open, FilterIs}
use Rattle.ft_filter.specs.Predicate.{is_match}
use Rattle.ft_filter.specs.Shape.{CanBeQuoted, SuitsValue, IsPredOf, IsTreeOf, AreTreesOf, IsFilterOf}
use Rattle.ft_filter.specs.Tree.{Tree, Trees, Any, All, Not, Test, End, More}
use Rattle.ft_filter.proofs.Again.{canonical_read}
use Rattle.ft_text.proofs.Deciding.{is_glob-Decides}
use Rattle.ft_filter.proofs.Fits.{IsReadable, AreReadable, Fits, filter_fits}
use Rattle.ft_filter.proofs.PredLaw.{suits-Decides, fits_i64-Decides}
use Rattle.ft_filter.proofs.Preds.{ValueFits, PredFits}
use Rattle.ft_filter.proofs.Spelled.{IsQuotable}
use Rattle.ft_filter.proofs.WordCuts.{free_of, all_free}

-- ---- predicates

-- some quote does not stand in the text
quotable_to : (text : List ℕ) → CanBeQuoted text → IsQuotable text
quotable_to text (inl free) = inl (all_free 34 text free)
quotable_to text (inr free) = inr (all_free 39 text free)

quotable_from : (text : List ℕ) → IsQuotable text → CanBeQuoted text
quotable_from text (inl all) = inl (free_of 34 text all)
quotable_from text (inr all) = inr (free_of 39 text all)

-- the operator `~`
match-Decides : (op : Op) → Decides (is_match op) (op ≡ ops.Glob)
match-Decides ops.Glob = (λ e. refl, λ e. refl)
match-Decides ops.Eq = (λ e. absurd cc, λ e. absurd cc)
match-Decides ops.Ne = (λ e. absurd cc, λ e. absurd cc)
match-Decides ops.Lt = (λ e. absurd cc, λ e. absurd cc)
match-Decides ops.Le = (λ e. absurd cc, λ e. absurd cc)
match-Decides ops.Gt = (λ e. absurd cc, λ e. absurd cc)
match-Decides ops.Ge = (λ e. absurd cc, λ e. absurd cc)
match-Decides ops.Bits = (λ e. absurd cc, λ e. absurd cc)

-- a test that fails, by what it decides
fails_to : (b : Bool) (P : Type 0) → Decides b P → (P → ⊥) → b ≡ false
fails_to true P decides none = absurd (none (decides.0 refl))
fails_to false P decides none = refl

fails_from : (b : Bool) (P : Type 0) → Decides b P → b ≡ false → P → ⊥
fails_from b P decides is p = let e = decides.1 p in cc

value_to : (field : Field) (op : Op) (value : Literal) → SuitsValue field op value → ValueFits (is_text field) op value
value_to field op (literals.Number z) h = (fails_to (is_text field) _ (λ e. e, λ e. e) h.0, (fits_i64-Decides z).1 h.1)
value_to field op (literals.Text text) h = (h.0, fails_to (is_match op) _ (match-Decides op) h.1, quotable_to text h.2)
value_to field op (literals.Glob text) h = (h.0, (match-Decides op).1 h.1, (is_glob-Decides text).1 h.2, quotable_to text h.3)

value_from : (field : Field) (op : Op) (value : Literal) → ValueFits (is_text field) op value → SuitsValue field op value
value_from field op (literals.Number z) h = (fails_from (is_text field) _ (λ e. e, λ e. e) h.0, (fits_i64-Decides z).0 h.1)
value_from field op (literals.Text text) h = (h.0, fails_from (is_match op) _ (match-Decides op) h.1, quotable_from text h.2)
value_from field op (literals.Glob text) h = (h.0, (match-Decides op).0 h.1, (is_glob-Decides text).0 h.2, quotable_from text h.3)

pred_to : (event : Name) (pred : Pred) → IsPredOf event pred → PredFits event pred
pred_to event pred h = record {
  owned = h.owned;
  suited = (suits-Decides (is_text pred.field) pred.op).1 h.operator;
  valued = value_to pred.field pred.op pred.value h.operand;
}

pred_from : (event : Name) (pred : Pred) → PredFits event pred → IsPredOf event pred
pred_from event pred h = record {
  owned = h.owned;
  operator = (suits-Decides (is_text pred.field) pred.op).0 h.suited;
  operand = value_from pred.field pred.op pred.value h.valued;
}

-- ---- trees

mutual
  tree_to : (event : Name) (tree : Tree) → IsTreeOf event tree → IsReadable event tree
  tree_to event (Any trees) h = (h.0, trees_to event trees h.1)
  tree_to event (All trees) h = (h.0, trees_to event trees h.1)
  tree_to event (Not tree) h = tree_to event tree h
  tree_to event (Test pred) h = pred_to event pred h

  trees_to : (event : Name) (trees : Trees) → AreTreesOf event trees → AreReadable event trees
  trees_to event End h = tt
  trees_to event (More tree trees) h = (tree_to event tree h.0, trees_to event trees h.1)

mutual
  tree_from : (event : Name) (tree : Tree) → IsReadable event tree → IsTreeOf event tree
  tree_from event (Any trees) h = (h.0, trees_from event trees h.1)
  tree_from event (All trees) h = (h.0, trees_from event trees h.1)
  tree_from event (Not tree) h = tree_from event tree h
  tree_from event (Test pred) h = pred_from event pred h

  trees_from : (event : Name) (trees : Trees) → AreReadable event trees → AreTreesOf event trees
  trees_from event End h = tt
  trees_from event (More tree trees) h = (tree_from event tree h.0, trees_from event trees h.1)

-- some text gives the tree
pub trees_are : (event : Name) (tree : Tree) → ((text : List ℕ) × FilterIs event text (Ok tree)) ↔ IsFilterOf event tree
trees_are event tree = (
  λ h. let fits = filter_fits event h.0 tree h.1 in record { tree_of_event = tree_from event tree fits.readable; shallow = fits.within },
  λ h.
      let fits : Fits event (Joined joints.Or) most_open tree = record { readable = tree_to event tree h.tree_of_event; within = h.shallow } in
      (canonical tree, canonical_read event tree fits),
)
