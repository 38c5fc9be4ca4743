-- What the steps of reading make of each other's answers.
use Rattle.std.proofs.Common.{◌≡◌, ◌<◌, ℕ, suc, List, [], ◌∷◌, ◌++◌, length, Some, None, true, false, eqb, inl, inr, subst, refl, sym, ap, ◌∙◌, arith}
use Rattle.std.specs.Prelude.{◌⊎◌, ◌≢◌, Result, Ok, Err, slice_index}
use Rattle.std.specs.List.{starts_with}
use Rattle.std.proofs.lemmas.Bool.{eq-eqb, and_from, true≢false}
use Rattle.ft_fields.specs.declared.event.Name.{Name}
use Rattle.ft_text.specs.Tokens.{skip}
use Rattle.ft_filter.specs.declared.fault.FilterFault.{FilterFault}
use Rattle.ft_filter.specs.declared.fault.FilterFault.TheVariants.{Memory, Syntax, TooDeep}
use Rattle.ft_filter.specs.declared.tree.Joint.{Joint}
use Rattle.ft_filter.specs.declared.tree.Joint.TheVariants as joints
use Rattle.ft_filter.specs.declared.reading.Parsed.{Parsed}
use Rattle.ft_filter.specs.Predicate.{Read, Found, Stop, place, pred_at}
use Rattle.ft_filter.specs.FilterIs.{whole_of, Reads, Goes, Joined, Operand, below, behind_joint, tree_of_joint, made, parenthesised, first, negated, enclosed, deep, compared, ended, another, another_fails}
use Rattle.ft_filter.specs.inner.Given.{GivesTree, OperandsFollow}
use Rattle.ft_filter.specs.Tree.{Tree, Trees, Not, Test, End, More, trees}
use Rattle.ft_filter.specs.Answers.{filter_of}
use Rattle.ft_filter.proofs.Unique.{filter_is}
use Rattle.ft_filter.proofs.Operands.{before, before-End, made-last, made-none}

-- what follows from what a step gives
pub gives : (result : Result Parsed FilterFault) {P Q : Read Tree → Type 0} → ((read : Read Tree) → P read → Q read) → GivesTree P result → GivesTree Q result
gives (Ok parsed) weaker given = weaker _ given
gives (Err fault) weaker (inl memory) = inl memory
gives (Err fault) weaker (inr given) = inr (weaker _ given)

-- the same of a fault alone
pub gives_fault : (fault : FilterFault) {P Q : Type 0} → (P → Q) → (fault ≡ Memory) ⊎ P → (fault ≡ Memory) ⊎ Q
gives_fault fault weaker (inl memory) = inl memory
gives_fault fault weaker (inr given) = inr (weaker given)

-- a byte that the text does not begin with
not_first : (text : List ℕ) (byte : ℕ) → 0 < byte → starts_with eqb text (byte ∷ []) ≡ false → slice_index text 0 ≢ byte
not_first [] byte some unlike e = omega (arith, e)
not_first (head ∷ text) byte some unlike e = true≢false (sym (and_from _ _ (eq-eqb byte head (sym e)) refl) ∙ unlike)

module _ (event : Name) (whole : ℕ) where
  -- ---- a `!` or a `(`

  pub no_room : (room : ℕ) (text behind : List ℕ) (byte : ℕ) → room ≡ 0 → skip text ≡ byte ∷ behind → (byte ≡ 33) ⊎ (byte ≡ 40) → Reads event whole Operand room text (Stop TooDeep)
  no_room room text behind byte none is opens = subst (λ r. Reads event whole Operand r text (Stop TooDeep)) (sym none) (deep text behind byte is opens)

  pub not_of : (room less : ℕ) (text behind : List ℕ) (read : Read Tree) → room ≡ suc less → skip text ≡ 33 ∷ behind → Reads event whole Operand less behind read → Reads event whole Operand room text (made Not read)
  not_of room less text behind read more is reads = subst (λ r. Reads event whole Operand r text (made Not read)) (sym more) (negated less text behind read is reads)

  pub enclosing : (room less : ℕ) (text behind : List ℕ) (read : Read Tree) → room ≡ suc less → skip text ≡ 40 ∷ behind → Reads event whole (Joined joints.Or) less behind read → Reads event whole Operand room text (parenthesised whole read)
  enclosing room less text behind read more is reads = subst (λ r. Reads event whole Operand r text (parenthesised whole read)) (sym more) (enclosed less text behind read is reads)

  pub compared_so : (room : ℕ) (text skipped : List ℕ) → skipped ≡ skip text → starts_with eqb skipped (33 ∷ []) ≡ false → starts_with eqb skipped (40 ∷ []) ≡ false
      → (read : Read Tree) → read ≡ made Test (pred_at event whole skipped) → Reads event whole Operand room text read
  compared_so room text skipped is no_not no_paren read so =
      let none : slice_index (skip text) 0 ≢ 33 = subst (λ s. slice_index s 0 ≢ 33) is (not_first skipped 33 (omega arith) no_not) in
      let closed : slice_index (skip text) 0 ≢ 40 = subst (λ s. slice_index s 0 ≢ 40) is (not_first skipped 40 (omega arith) no_paren) in
      subst (Reads event whole Operand room text) (sym (so ∙ ap (λ s. made Test (pred_at event whole s)) is)) (compared room text none closed)

  -- ---- operands

  pub alone : (joint : Joint) (room : ℕ) (text rest : List ℕ) (tree : Tree) → Reads event whole (below joint) room text (Found tree rest) → behind_joint joint rest ≡ None → Reads event whole (Joined joint) room text (Found tree rest)
  alone joint room text rest tree reads none = first joint room text tree rest (Found End rest) reads (ended joint room rest none)

  pub first_of : (joint : Joint) (room : ℕ) (text rest : List ℕ) (tree : Tree) → Reads event whole (below joint) room text (Found tree rest) → (read : Read Tree) → OperandsFollow event whole joint room tree rest read → Reads event whole (Joined joint) room text read
  first_of joint room text rest tree reads read (more, goes, is) = subst (Reads event whole (Joined joint) room text) (sym is) (first joint room text tree rest more reads goes)

  -- a joint and no operand
  pub fails_behind : (joint : Joint) (room : ℕ) (rest behind : List ℕ) (tree : Tree) (fault : FilterFault) → behind_joint joint rest ≡ Some behind → Reads event whole (below joint) room behind (Stop fault) → OperandsFollow event whole joint room tree rest (Stop fault)
  fails_behind joint room rest behind tree fault is reads = (Stop fault, another_fails joint room rest behind fault is reads, refl)

  -- whatever completes the rest completes the whole
  abbrev pub Completes : Joint → ℕ → List ℕ → List ℕ → List Tree → Type 0
  Completes joint room behind rest others =
      (start : List ℕ) → behind_joint joint start ≡ Some behind → (read : Read Trees) → Goes event whole joint room rest read
      → Goes event whole joint room start (made (before others) read)

  pub enclosed_so : (room less : ℕ) (text behind rest : List ℕ) (tree : Tree) → room ≡ suc less → skip text ≡ 40 ∷ behind → Reads event whole (Joined joints.Or) less behind (Found tree rest)
      → (read : Read Tree) → read ≡ parenthesised whole (Found tree rest) → Reads event whole Operand room text read
  enclosed_so room less text behind rest tree more is reads read so = subst (Reads event whole Operand room text) (sym so) (enclosing room less text behind (Found tree rest) more is reads)

  pub negated_so : (room less : ℕ) (text behind rest : List ℕ) (tree : Tree) → room ≡ suc less → skip text ≡ 33 ∷ behind → Reads event whole Operand less behind (Found tree rest)
      → (read : Read Tree) → read ≡ Found (Not tree) rest → Reads event whole Operand room text read
  negated_so room less text behind rest tree more is reads read so = subst (Reads event whole Operand room text) (sym so) (not_of room less text behind (Found tree rest) more is reads)

  -- ---- operands after a first one

  pub completes_first : (joint : Joint) (room : ℕ) (behind rest : List ℕ) (tree : Tree) → Reads event whole (below joint) room behind (Found tree rest) → Completes joint room behind rest (tree ∷ [])
  completes_first joint room behind rest tree reads start is read goes =
      subst (Goes event whole joint room start) (sym (made-last [] tree read ∙ made-none (made (More tree) read))) (another joint room start behind tree rest read is reads goes)

  pub completes_next : (joint : Joint) (room : ℕ) (behind rest next left : List ℕ) (others : List Tree) (tree : Tree) → Completes joint room behind rest others
      → behind_joint joint rest ≡ Some next → Reads event whole (below joint) room next (Found tree left) → Completes joint room behind left (others ++ tree ∷ [])
  completes_next joint room behind rest next left others tree completes is reads start starts read goes =
      subst (Goes event whole joint room start) (sym (made-last others tree read)) (completes start starts (made (More tree) read) (another joint room rest next tree left read is reads goes))

  pub fails_next : (joint : Joint) (room : ℕ) (behind rest next : List ℕ) (others : List Tree) (fault : FilterFault) → Completes joint room behind rest others
      → behind_joint joint rest ≡ Some next → Reads event whole (below joint) room next (Stop fault)
      → (start : List ℕ) → behind_joint joint start ≡ Some behind → (tree : Tree) → OperandsFollow event whole joint room tree start (Stop fault)
  fails_next joint room behind rest next others fault completes is reads start starts tree =
      (Stop fault, completes start starts (Stop fault) (another_fails joint room rest next fault is reads), refl)

  pub completes_all : (joint : Joint) (room : ℕ) (behind rest : List ℕ) (others : List Tree) → Completes joint room behind rest others
      → behind_joint joint rest ≡ None → (start : List ℕ) → behind_joint joint start ≡ Some behind → (tree whole_tree : Tree) → 0 < length others → whole_tree ≡ tree_of_joint joint (trees (tree ∷ others))
      → OperandsFollow event whole joint room tree start (Found whole_tree rest)
  completes_all joint room behind rest [] completes none start starts tree whole_tree some is = absurd (omega arith)
  completes_all joint room behind rest (next ∷ others) completes none start starts tree whole_tree some is =
      (Found (before (next ∷ others) End) rest, completes start starts (Found End rest) (ended joint room rest none), ap (λ t. Found t rest) (is ∙ ap (λ ts. tree_of_joint joint (More tree (More next ts))) (sym (before-End others))))

-- ---- a whole text

module _ (event : Name) (text : List ℕ) where
  pub answer_fault : (fault : FilterFault) → Reads event (length text) (Joined joints.Or) 32 text (Stop fault) → Err fault ≡ filter_of event text
  answer_fault fault reads = filter_is event text (Err fault) (record { read = Stop fault; reads = reads; ends = refl })

  pub answer_more : (tree : Tree) (rest skipped : List ℕ) (at : ℕ) → Reads event (length text) (Joined joints.Or) 32 text (Found tree rest) → skipped ≡ skip rest → eqb (length skipped) 0 ≡ false → at ≡ place (length text) skipped
      → Err (Syntax at) ≡ filter_of event text
  answer_more tree rest skipped at reads is some placed =
      let behind : eqb (length (skip rest)) 0 ≡ false = subst (λ s. eqb (length s) 0 ≡ false) is some in
      let ends : Err (Syntax at) ≡ whole_of (length text) (Found tree rest) = rw behind (ap (λ n. Err (Syntax n)) (placed ∙ ap (place (length text)) is)) in
      filter_is event text (Err (Syntax at)) (record { read = Found tree rest; reads = reads; ends = ends })

  pub answer_whole : (tree : Tree) (rest skipped : List ℕ) (own : Tree) → Reads event (length text) (Joined joints.Or) 32 text (Found tree rest) → skipped ≡ skip rest → eqb (length skipped) 0 ≡ true → own ≡ tree
      → Ok own ≡ filter_of event text
  answer_whole tree rest skipped own reads is none same =
      let behind : eqb (length (skip rest)) 0 ≡ true = subst (λ s. eqb (length s) 0 ≡ true) is none in
      let ends : Ok own ≡ whole_of (length text) (Found tree rest) = rw behind (ap Ok same) in
      filter_is event text (Ok own) (record { read = Found tree rest; reads = reads; ends = ends })
