-- A canonical text is read as the tree that it was written for.
use Rattle.std.proofs.Common.{◌≡◌, ◌≤◌, ℕ, zero, suc, true, List, [], ◌∷◌, ◌++◌, Some, None, Ok, refl, sym, ap, ◌∙◌, subst, arith, append_assoc, append-nil, slice_index, codes, length}
use Rattle.ft_fields.specs.declared.event.Name.{Name}
use Rattle.ft_text.specs.Tokens.{skip}
use Rattle.ft_filter.specs.declared.tree.Joint.{Joint}
use Rattle.ft_filter.specs.declared.tree.Joint.TheVariants as joints
use Rattle.ft_filter.specs.declared.tree.Pred.{Pred}
use Rattle.ft_filter.specs.Canonical.{pred_text, spaced_joint_text, enclosed_if, is_joined, needs_enclosing, canonical, more_text}
use Rattle.ft_filter.specs.FilterIs.{Rule, Joined, Operand, below, behind_joint, tree_of_joint, made, most_open, Reads, first, negated, enclosed, compared, Goes, ended, another, FilterIs}
use Rattle.ft_filter.specs.Predicate.{Found, pred_at}
use Rattle.ft_filter.specs.Shape.{HasTwo, level_if, levels, most_levels}
use Rattle.ft_filter.specs.Tree.{Tree, Trees, Any, All, Not, Test, End, More}
use Rattle.ft_text.proofs.Spellings.{Apart}
use Rattle.ft_filter.proofs.Spelled.{skip_gap}
use Rattle.ft_filter.proofs.Preds.{PredFits, pred_again, pred_begins, pred_first}
use Rattle.ft_filter.proofs.Fits.{needs, IsReadable, AreReadable, Fits, filter_fits}

-- what may stand after what a rule reads
abbrev Follows : Rule → List ℕ → Type 0
Follows (Joined joints.Or) rest = Apart rest × (behind_joint joints.And rest ≡ None) × (behind_joint joints.Or rest ≡ None)
Follows (Joined joints.And) rest = Apart rest × (behind_joint joints.And rest ≡ None)
Follows Operand rest = Apart rest

-- no joint of its own follows
none_behind : (joint : Joint) (rest : List ℕ) → Follows (Joined joint) rest → behind_joint joint rest ≡ None
none_behind joints.Or rest h = h.2
none_behind joints.And rest h = h.1

-- operands may follow an operand
more_follows : (joint : Joint) (trees : Trees) (rest : List ℕ) → Follows (Joined joint) rest → Follows (below joint) (more_text joint trees ++ rest)
more_follows joints.Or End rest h = (h.0, h.1)
more_follows joints.And End rest h = h.0
more_follows joints.Or (More tree trees) rest h = (refl, refl)
more_follows joints.And (More tree trees) rest h = refl

-- after the joint that a canonical text writes
joint_found : (joint : Joint) (text : List ℕ) → behind_joint joint (spaced_joint_text joint ++ text) ≡ Some (32 ∷ text)
joint_found joints.Or text = refl
joint_found joints.And text = refl

module _ (event : Name) where
  -- the rule reads the front as the tree, whatever follows
  abbrev Gives : Rule → ℕ → List ℕ → Tree → Type 0
  Gives rule room front tree = (whole : ℕ) (rest text : List ℕ) → Follows rule rest → skip text ≡ skip (front ++ rest) → Reads event whole rule room text (Found tree rest)

  -- operands go on as the trees, whatever follows
  abbrev MoreGive : Joint → ℕ → Trees → Type 0
  MoreGive joint room trees = (whole : ℕ) (rest : List ℕ) → Follows (Joined joint) rest → Goes event whole joint room (more_text joint trees ++ rest) (Found trees rest)

  -- one operand alone
  alone : (joint : Joint) (room : ℕ) (front : List ℕ) (tree : Tree) → Gives (below joint) room front tree → Gives (Joined joint) room front tree
  alone joints.Or room front tree one whole rest text h e = first joints.Or room text tree rest (Found End rest) (one whole rest text (h.0, h.1) e) (ended joints.Or room rest h.2)
  alone joints.And room front tree one whole rest text h e = first joints.And room text tree rest (Found End rest) (one whole rest text h.0 e) (ended joints.And room rest h.1)

  -- one operand alone, of both joints
  alone_twice : (room : ℕ) (front : List ℕ) (tree : Tree) → Gives Operand room front tree → Gives (Joined joints.Or) room front tree
  alone_twice room front tree one = alone joints.Or room front tree (alone joints.And room front tree one)

  -- operands in parentheses
  in_parens : (room n : ℕ) (front : List ℕ) (tree : Tree) → suc n ≤ room → ((less : ℕ) → n ≤ less → Gives (Joined joints.Or) less front tree) → Gives Operand room (enclosed_if true front) tree
  in_parens zero n front tree le one = absurd (omega arith)
  in_parens (suc room) n front tree le one = λ whole rest text h e.
      let is : skip text ≡ 40 ∷ (front ++ (41 ∷ rest)) = e ∙ ap (λ (t : List ℕ). 40 ∷ t) (append_assoc front (41 ∷ []) rest) in
      enclosed room text (front ++ (41 ∷ rest)) (Found tree (41 ∷ rest)) is (one room (omega arith) whole (41 ∷ rest) (front ++ (41 ∷ rest)) (refl, refl, refl) refl)

  -- an operand after a `!`
  behind_not : (room n : ℕ) (front : List ℕ) (tree : Tree) → suc n ≤ room → ((less : ℕ) → n ≤ less → Gives Operand less front tree) → Gives Operand room (codes "!" ++ front) (Not tree)
  behind_not zero n front tree le one = absurd (omega arith)
  behind_not (suc room) n front tree le one = λ whole rest text h e. negated room text (front ++ rest) (Found tree rest) e (one room (omega arith) whole rest (front ++ rest) h refl)

  -- a predicate
  tested : (room : ℕ) (pred : Pred) → PredFits event pred → Gives Operand room (pred_text pred) (Test pred)
  tested room pred fits whole rest text h e =
      let is : skip text ≡ pred_text pred ++ rest = e ∙ pred_first pred rest in
      let high : 45 ≤ slice_index (skip text) 0 = subst (λ (t : List ℕ). 45 ≤ slice_index t 0) (sym is) (pred_begins pred rest) in
      let read : pred_at event whole (skip text) ≡ Found pred rest = ap (pred_at event whole) is ∙ pred_again event whole pred rest fits h in
      subst (Reads event whole Operand room text) (ap (made Test) read) (compared room text (λ low. omega arith) (λ low. omega arith))

  -- several operands
  several : (joint : Joint) (room : ℕ) (front : List ℕ) (tree : Tree) (trees : Trees) → HasTwo (More tree trees) → Gives (below joint) room front tree → MoreGive joint room trees
      → Gives (Joined joint) room (front ++ more_text joint trees) (tree_of_joint joint (More tree trees))
  several joint room front tree End two one more = absurd two
  several joint room front tree (More next trees) two one more = λ whole rest text h e.
      let behind : List ℕ = more_text joint (More next trees) in
      first joint room text tree (behind ++ rest) (Found (More next trees) rest)
      (one whole (behind ++ rest) text (more_follows joint (More next trees) rest h) (e ∙ ap skip (append_assoc front behind rest))) (more whole rest h)

  -- an operand after a joint, and those after it
  goes_next : (joint : Joint) (room : ℕ) (tree : Tree) (trees : Trees) → Gives (below joint) room (enclosed_if (needs_enclosing joint tree) (canonical tree)) tree → MoreGive joint room trees
      → MoreGive joint room (More tree trees)
  goes_next joint room tree trees one more whole rest h =
      let front : List ℕ = enclosed_if (needs_enclosing joint tree) (canonical tree) in
      let left : List ℕ = more_text joint trees ++ rest in
      let spelled : (spaced_joint_text joint ++ front ++ more_text joint trees) ++ rest ≡ spaced_joint_text joint ++ (front ++ left) = simp append_assoc in
      another joint room _ (32 ∷ (front ++ left)) tree left (Found trees rest) (ap (behind_joint joint) spelled ∙ joint_found joint (front ++ left))
      (one whole left (32 ∷ (front ++ left)) (more_follows joint trees rest h) (skip_gap (front ++ left))) (more whole rest h)

  -- the rule that reads a tree's canonical text
  abbrev rule_of : Tree → Rule
  rule_of (Any trees) = Joined joints.Or
  rule_of (All trees) = Joined joints.And
  rule_of (Not tree) = Operand
  rule_of (Test pred) = Operand

  -- the canonical text of a tree is read, wherever there is room
  abbrev IsOwn : Tree → Type 0
  IsOwn tree = (room : ℕ) → levels tree ≤ room → Gives (rule_of tree) room (canonical tree) tree

  -- any rule reads it, in parentheses if it needs them
  any_rule : (rule : Rule) (tree : Tree) → IsOwn tree → (room : ℕ) → level_if (needs rule tree) (levels tree) ≤ room → Gives rule room (enclosed_if (needs rule tree) (canonical tree)) tree
  any_rule (Joined joints.Or) (Any trees) own room le = own room le
  any_rule (Joined joints.Or) (All trees) own room le = alone joints.Or room (canonical (All trees)) (All trees) (own room le)
  any_rule (Joined joints.Or) (Not tree) own room le = alone_twice room (canonical (Not tree)) (Not tree) (own room le)
  any_rule (Joined joints.Or) (Test pred) own room le = alone_twice room (canonical (Test pred)) (Test pred) (own room le)
  any_rule (Joined joints.And) (Any trees) own room le =
      alone joints.And room (enclosed_if true (canonical (Any trees))) (Any trees) (in_parens room (levels (Any trees)) (canonical (Any trees)) (Any trees) le own)
  any_rule (Joined joints.And) (All trees) own room le = own room le
  any_rule (Joined joints.And) (Not tree) own room le = alone joints.And room (canonical (Not tree)) (Not tree) (own room le)
  any_rule (Joined joints.And) (Test pred) own room le = alone joints.And room (canonical (Test pred)) (Test pred) (own room le)
  any_rule Operand (Any trees) own room le = in_parens room (levels (Any trees)) (canonical (Any trees)) (Any trees) le own
  any_rule Operand (All trees) own room le =
      in_parens room (levels (All trees)) (canonical (All trees)) (All trees) le (λ less enough. alone joints.Or less (canonical (All trees)) (All trees) (own less enough))
  any_rule Operand (Not tree) own room le = own room le
  any_rule Operand (Test pred) own room le = own room le

  -- an operand of a joint
  operand : (joint : Joint) (tree : Tree) → IsOwn tree → (room : ℕ) → level_if (needs_enclosing joint tree) (levels tree) ≤ room
      → Gives (below joint) room (enclosed_if (needs_enclosing joint tree) (canonical tree)) tree
  operand joints.Or tree own = any_rule (Joined joints.And) tree own
  operand joints.And tree own = any_rule Operand tree own

  mutual
    -- a tree's canonical text is read
    own_read : (tree : Tree) → IsReadable event tree → IsOwn tree
    own_read (Any End) ok room le = absurd ok.0
    own_read (Any (More tree trees)) ok room le =
        several joints.Or room (enclosed_if (needs_enclosing joints.Or tree) (canonical tree)) tree trees ok.0 (operand joints.Or tree (own_read tree ok.1.0) room (omega arith)) (more_read joints.Or trees ok.1.1 room (omega arith))
    own_read (All End) ok room le = absurd ok.0
    own_read (All (More tree trees)) ok room le =
        several joints.And room (enclosed_if (needs_enclosing joints.And tree) (canonical tree)) tree trees ok.0 (operand joints.And tree (own_read tree ok.1.0) room (omega arith)) (more_read joints.And trees ok.1.1 room (omega arith))
    own_read (Not tree) ok room le = behind_not room (level_if (is_joined tree) (levels tree)) (enclosed_if (is_joined tree) (canonical tree)) tree le (any_rule Operand tree (own_read tree ok))
    own_read (Test pred) ok room le = tested room pred ok

    -- so are the texts of operands
    more_read : (joint : Joint) (trees : Trees) → AreReadable event trees → (room : ℕ) → most_levels joint trees ≤ room → MoreGive joint room trees
    more_read joint End ok room le = λ whole rest h. ended joint room rest (none_behind joint rest h)
    more_read joint (More tree trees) ok room le =
        goes_next joint room tree trees (operand joint tree (own_read tree ok.0) room (omega arith)) (more_read joint trees ok.1 room (omega arith))

  -- a whole filter's canonical text is one
  pub canonical_read : (tree : Tree) → Fits event (Joined joints.Or) most_open tree → FilterIs event (canonical tree) (Ok tree)
  canonical_read tree h = record {
    read = Found tree [];
    reads = any_rule (Joined joints.Or) tree (own_read tree h.readable) most_open h.within (length (canonical tree)) [] (canonical tree) (refl, refl, refl) (ap skip (sym (append-nil (canonical tree))));
    ends = refl;
  }

-- a tree that some text gives is given by its canonical text
pub given_again : (event : Name) (text : List ℕ) (tree : Tree) → FilterIs event text (Ok tree) → FilterIs event (canonical tree) (Ok tree)
given_again event text tree h = canonical_read event tree (filter_fits event text tree h)
