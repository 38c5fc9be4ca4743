-- Trees that can be read: what a tree that was read keeps.
use Rattle.std.proofs.Common.{◌≡◌, ◌≤◌, ℕ, suc, Bool, true, false, List, length, drop, Ok, Err, refl, subst, arith, codes, ◌==◌, cond}
use Rattle.std.specs.List.{starts_with}
use Rattle.ft_fields.specs.declared.event.Name.{Name}
use Rattle.ft_text.specs.Tokens.{skip}
use Rattle.ft_filter.specs.declared.fault.FilterFault.TheVariants.{Syntax}
use Rattle.ft_filter.specs.declared.tree.Joint.{Joint}
use Rattle.ft_filter.specs.declared.tree.Joint.TheVariants as joints
use Rattle.ft_filter.specs.declared.tree.Pred.{Pred}
use Rattle.ft_filter.specs.Canonical.{is_any, is_joined}
use Rattle.ft_filter.specs.FilterIs.{Rule, Joined, Operand, below, made, parenthesised, joined, most_open, whole_of, Reads, first, first_fails, negated, enclosed, deep, compared, Goes, ended, another, another_fails, FilterIs}
use Rattle.ft_filter.specs.Shape.{HasTwo, level_if, levels, most_levels}
use Rattle.ft_filter.specs.Predicate.{Read, Found, Stop, place, pred_at}
use Rattle.ft_filter.specs.Tree.{Tree, Trees, Any, All, Not, Test, End, More}
use Rattle.ft_filter.proofs.Preds.{PredFits, pred_fits}

-- whether a tree stands in parentheses where the rule reads
abbrev pub needs : Rule → Tree → Bool
needs (Joined joints.Or) tree = false
needs (Joined joints.And) tree = is_any tree
needs Operand tree = is_joined tree

abbrev mutual
  -- the tree's parts are such as are read
  pub IsReadable : Name → Tree → Type 0
  IsReadable event (Any trees) = HasTwo trees × AreReadable event trees
  IsReadable event (All trees) = HasTwo trees × AreReadable event trees
  IsReadable event (Not tree) = IsReadable event tree
  IsReadable event (Test pred) = PredFits event pred

  -- each tree's parts are
  pub AreReadable : Name → Trees → Type 0
  AreReadable event End = Unit {0}
  AreReadable event (More tree trees) = IsReadable event tree × AreReadable event trees

-- the tree is one that the rule can read
pub record Fits (event : Name) (rule : Rule) (room : ℕ) (tree : Tree) : Type 0 where
  pub readable : IsReadable event tree
  pub within : level_if (needs rule tree) (levels tree) ≤ room

-- what is read is such a tree
abbrev ReadFits : Name → Rule → ℕ → Read Tree → Type 0
ReadFits event rule room (Found tree rest) = Fits event rule room tree
ReadFits event rule room (Stop fault) = Unit {0}

-- what goes on is such trees
abbrev MoreFit : Name → Joint → ℕ → Read Trees → Type 0
MoreFit event joint room (Found trees rest) = AreReadable event trees × (most_levels joint trees ≤ room)
MoreFit event joint room (Stop fault) = Unit {0}

-- parentheses take no room or more
level_if_le : (b : Bool) (n : ℕ) → n ≤ level_if b n
level_if_le true n = omega arith
level_if_le false n = omega arith

-- and at most one more
level_if_more : (b : Bool) (n : ℕ) → level_if b n ≤ suc n
level_if_more true n = omega arith
level_if_more false n = omega arith

-- an operand of `&&` needs parentheses if one of `||` does
any_joined : (tree : Tree) (n : ℕ) → level_if (is_any tree) n ≤ level_if (is_joined tree) n
any_joined (Any trees) n = omega arith
any_joined (All trees) n = omega arith
any_joined (Not tree) n = omega arith
any_joined (Test pred) n = omega arith

module _ (event : Name) where
  -- an operand alone
  alone_fits : (joint : Joint) (room : ℕ) (tree : Tree) → Fits event (below joint) room tree → Fits event (Joined joint) room tree
  alone_fits joints.Or room tree h = record { readable = h.readable; within = let le = h.within in omega (arith, level_if_le (is_any tree) (levels tree)) }
  alone_fits joints.And room tree h = record { readable = h.readable; within = let le = h.within in omega (arith, any_joined tree (levels tree)) }

  -- several operands
  joined_fits : (joint : Joint) (room : ℕ) (tree : Tree) (read : Read Trees) → Fits event (below joint) room tree → MoreFit event joint room read → ReadFits event (Joined joint) room (made (joined joint tree) read)
  joined_fits joint room tree (Stop fault) one more = tt
  joined_fits joint room tree (Found End rest) one more = alone_fits joint room tree one
  joined_fits joints.Or room tree (Found (More next trees) rest) one more =
      record { readable = (tt, (one.readable, more.0)); within = let here = one.within in let there = more.1 in omega arith }
  joined_fits joints.And room tree (Found (More next trees) rest) one more =
      record { readable = (tt, (one.readable, more.0)); within = let here = one.within in let there = more.1 in omega arith }

  -- operands after a joint
  more_fit : (joint : Joint) (room : ℕ) (tree : Tree) (read : Read Trees) → Fits event (below joint) room tree → MoreFit event joint room read → MoreFit event joint room (made (More tree) read)
  more_fit joint room tree (Stop fault) one more = tt
  more_fit joints.Or room tree (Found trees rest) one more = ((one.readable, more.0), let here = one.within in let there = more.1 in omega arith)
  more_fit joints.And room tree (Found trees rest) one more = ((one.readable, more.0), let here = one.within in let there = more.1 in omega arith)

  -- what is after a `!`
  not_fits : (room : ℕ) (read : Read Tree) → ReadFits event Operand room read → ReadFits event Operand (suc room) (made Not read)
  not_fits room (Stop fault) h = tt
  not_fits room (Found tree rest) h = record { readable = h.readable; within = let le = h.within in omega arith }

  -- what is in parentheses
  closed_fits : (whole room : ℕ) (read : Read Tree) → ReadFits event (Joined joints.Or) room read → ReadFits event Operand (suc room) (parenthesised whole read)
  closed_fits whole room (Stop fault) h = tt
  closed_fits whole room (Found tree rest) h = from (starts_with ◌==◌ (skip rest) (codes ")"))
    where
      from : (b : Bool) → ReadFits event Operand (suc room) (cond b (Found tree (drop 1 (skip rest))) (Stop (Syntax (place whole (skip rest)))))
      from false = tt
      from true = record { readable = h.readable; within = let le = h.within in omega (arith, level_if_more (is_joined tree) (levels tree)) }

  -- a predicate
  test_fits : (whole room : ℕ) (text : List ℕ) (read : Read Pred) → pred_at event whole text ≡ read → ReadFits event Operand room (made Test read)
  test_fits whole room text (Stop fault) is = tt
  test_fits whole room text (Found pred rest) is = record { readable = pred_fits event whole text rest pred is; within = omega arith }

  module _ (whole : ℕ) where
    mutual
      -- what a rule reads, it can read
      reads_fit : (rule : Rule) (room : ℕ) (text : List ℕ) (read : Read Tree) → Reads event whole rule room text read → ReadFits event rule room read
      reads_fit rule room text read (first joint room' text' tree rest more one others) = joined_fits joint room' tree more (reads_fit _ _ _ _ one) (goes_fit _ _ _ _ others)
      reads_fit rule room text read (first_fails joint room' text' fault one) = tt
      reads_fit rule room text read (negated room' text' behind inner is one) = not_fits room' inner (reads_fit _ _ _ _ one)
      reads_fit rule room text read (enclosed room' text' behind inner is one) = closed_fits whole room' inner (reads_fit _ _ _ _ one)
      reads_fit rule room text read (deep text' behind byte is opens) = tt
      reads_fit rule room text read (compared room' text' no_not no_paren) = test_fits whole room' (skip text') (pred_at event whole (skip text')) refl

      -- what goes on is such as is read
      goes_fit : (joint : Joint) (room : ℕ) (text : List ℕ) (read : Read Trees) → Goes event whole joint room text read → MoreFit event joint room read
      goes_fit joint room text read (ended joint' room' text' none) = (tt, omega arith)
      goes_fit joint room text read (another joint' room' text' behind tree rest more some one others) = more_fit joint' room' tree more (reads_fit _ _ _ _ one) (goes_fit _ _ _ _ others)
      goes_fit joint room text read (another_fails joint' room' text' behind fault some one) = tt

    -- a whole filter's tree
    whole_fits : (tree : Tree) (read : Read Tree) → ReadFits event (Joined joints.Or) most_open read → Ok tree ≡ whole_of whole read → Fits event (Joined joints.Or) most_open tree
    whole_fits tree (Stop fault) h ends = absurd cc
    whole_fits tree (Found found rest) h ends = from (length (skip rest) == 0) ends
      where
        from : (b : Bool) → Ok tree ≡ cond b (Ok found) (Err (Syntax (place whole (skip rest)))) → Fits event (Joined joints.Or) most_open tree
        from true ends = let same : found ≡ tree = cc in subst (Fits event (Joined joints.Or) most_open) same h
        from false ends = absurd cc

-- a tree that is read can be read
pub filter_fits : (event : Name) (text : List ℕ) (tree : Tree) → FilterIs event text (Ok tree) → Fits event (Joined joints.Or) most_open tree
filter_fits event text tree h = whole_fits event (length text) tree h.read (reads_fit event (length text) _ _ _ _ h.reads) h.ends
