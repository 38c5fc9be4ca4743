-- How a proof tells filters apart: by their events and trees.
use Rattle.std.specs.Prelude.{◌≡◌, ◌⊎◌, ℕ, zero, suc, List, [], ◌∷◌, refl}
use mathlib.Core.Logic.{inl, inr}
use Rattle.std.specs.Coded.{Coded, code_by, coded×, coded⊎, coded_list, coded_ℕ}
use Rattle.std.proofs.Common.{ap, ◌∙◌}
use Rattle.ft_fields.specs.declared.event.Name.{Name}
use Rattle.ft_fields.specs.contracts.event.Name as name
use Rattle.ft_filter.specs.declared.tree.Pred.{Pred}
use Rattle.ft_filter.specs.contracts.tree.Pred as pred
use Rattle.ft_filter.specs.Tree.{Tree, Trees, Any, All, Not, Test, End, More, Condition}

-- a sign of a tree, which stands before what belongs to it
pub data Sign : Type 0 where
  AnySign : Sign
  AllSign : Sign
  NotSign : Sign
  EndSign : Sign
  TestSign : Pred → Sign

-- a sign's number, or its predicate
abbrev pub sign_number : Sign → ℕ ⊎ Pred
sign_number AnySign = inl 0
sign_number AllSign = inl 1
sign_number NotSign = inl 2
sign_number EndSign = inl 3
sign_number (TestSign pred) = inr pred

-- the sign of a number
abbrev pub sign_from_code : ℕ ⊎ Pred → Sign
sign_from_code (inl zero) = AnySign
sign_from_code (inl (suc zero)) = AllSign
sign_from_code (inl (suc (suc zero))) = NotSign
sign_from_code (inl (suc (suc (suc n)))) = EndSign
sign_from_code (inr pred) = TestSign pred

-- a sign has the number that it is given
pub sign_from_code-sign_number : (sign : Sign) → sign_from_code (sign_number sign) ≡ sign
sign_from_code-sign_number AnySign = refl
sign_from_code-sign_number AllSign = refl
sign_from_code-sign_number NotSign = refl
sign_from_code-sign_number EndSign = refl
sign_from_code-sign_number (TestSign pred) = refl

abbrev mutual
  -- a tree's signs before others
  pub signs : Tree → List Sign → List Sign
  signs (Any trees) others = AnySign ∷ all_signs trees others
  signs (All trees) others = AllSign ∷ all_signs trees others
  signs (Not tree) others = NotSign ∷ signs tree others
  signs (Test pred) others = TestSign pred ∷ others

  -- the signs of operands, with one that ends them, before others
  pub all_signs : Trees → List Sign → List Sign
  all_signs End others = EndSign ∷ others
  all_signs (More tree trees) others = signs tree (all_signs trees others)

-- a tree before the first of some lists of operands
abbrev pub put : Tree → List Trees → List Trees
put tree [] = More tree End ∷ []
put tree (trees ∷ lists) = More tree trees ∷ lists

-- the first list of operands as a tree
abbrev pub close : (Trees → Tree) → List Trees → List Trees
close made [] = []
close made (trees ∷ lists) = put (made trees) lists

-- the first operand of all, negated
abbrev pub deny : List Trees → List Trees
deny [] = []
deny (End ∷ lists) = End ∷ lists
deny (More tree trees ∷ lists) = More (Not tree) trees ∷ lists

-- what signs say, read from the right: lists of operands
abbrev pub said : List Sign → List Trees
said [] = []
said (AnySign ∷ others) = close Any (said others)
said (AllSign ∷ others) = close All (said others)
said (NotSign ∷ others) = deny (said others)
said (EndSign ∷ others) = End ∷ said others
said (TestSign pred ∷ others) = put (Test pred) (said others)

-- the first operand of all
abbrev pub first : List Trees → Tree
first [] = Any End
first (End ∷ lists) = Any End
first (More tree trees ∷ lists) = tree

-- an operand that is put first, negated
pub deny-put : (tree : Tree) (lists : List Trees) → deny (put tree lists) ≡ put (Not tree) lists
deny-put tree [] = refl
deny-put tree (trees ∷ lists) = refl

mutual
  -- a tree's signs say the tree
  pub said-signs : (tree : Tree) (others : List Sign) → said (signs tree others) ≡ put tree (said others)
  said-signs (Any trees) others = ap (close Any) (said-all_signs trees others)
  said-signs (All trees) others = ap (close All) (said-all_signs trees others)
  said-signs (Not tree) others = ap deny (said-signs tree others) ∙ deny-put tree (said others)
  said-signs (Test pred) others = refl

  -- the signs of operands say them
  pub said-all_signs : (trees : Trees) (others : List Sign) → said (all_signs trees others) ≡ trees ∷ said others
  said-all_signs End others = refl
  said-all_signs (More tree trees) others = said-signs tree (all_signs trees others) ∙ ap (put tree) (said-all_signs trees others)

-- a sign, stored as its number or its predicate
abbrev pub sign_code : Coded Sign
sign_code = code_by (ℕ ⊎ Pred) (coded⊎ coded_ℕ pred.the_row.coded) sign_number sign_from_code sign_from_code-sign_number

-- a tree, stored as its signs
abbrev pub tree_code : Coded Tree
tree_code = code_by (List Sign) (coded_list sign_code) (λ tree. signs tree []) (λ list. first (said list)) (λ tree. ap first (said-signs tree []))

-- a filter, stored as its event and its tree
abbrev pub condition_code : Coded Condition
condition_code = code_by (Name × Tree) (coded× name.the_row.coded tree_code) (λ c. (c.event, c.tree)) (λ p. record { event = p.0; tree = p.1 }) (λ _. refl)
