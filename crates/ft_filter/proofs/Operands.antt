-- Operands read one after the other.
use Rattle.std.proofs.Common.{◌≡◌, List, [], ◌∷◌, ◌++◌, refl, ap}
use Rattle.ft_filter.specs.Predicate.{Read, Found, Stop}
use Rattle.ft_filter.specs.FilterIs.{made}
use Rattle.ft_filter.specs.Tree.{Tree, Trees, End, More, trees}

-- trees before others
abbrev pub before : List Tree → Trees → Trees
before [] others = others
before (tree ∷ list) others = More tree (before list others)

pub before-End : (list : List Tree) → before list End ≡ trees list
before-End [] = refl
before-End (tree ∷ list) = ap (More tree) (before-End list)

pub before-last : (list : List Tree) (tree : Tree) (others : Trees) → before (list ++ tree ∷ []) others ≡ before list (More tree others)
before-last [] tree others = refl
before-last (first ∷ list) tree others = ap (More first) (before-last list tree others)

pub made-last : (list : List Tree) (tree : Tree) (read : Read Trees) → made (before (list ++ tree ∷ [])) read ≡ made (before list) (made (More tree) read)
made-last list tree (Found others rest) = ap (λ trees. Found trees rest) (before-last list tree others)
made-last list tree (Stop fault) = refl

pub made-none : (read : Read Trees) → made (before []) read ≡ read
made-none (Found others rest) = refl
made-none (Stop fault) = refl
