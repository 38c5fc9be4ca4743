-- The grammar relates an answer to each text.
use Rattle.std.proofs.Common.{◌≡◌, ◌≢◌, ◌<◌, ◌≤◌, ℕ, zero, suc, inl, inr, List, [], ◌∷◌, length, Option, Some, None, Result, refl, sym, ap, ◌∙◌, arith, slice_index}
use Rattle.std.proofs.lemmas.Bool.{cases_eq}
use Rattle.ft_fields.specs.declared.event.Name.{Name}
use Rattle.ft_text.specs.Tokens.{skip}
use Rattle.ft_filter.specs.declared.fault.FilterFault.{FilterFault}
use Rattle.ft_filter.specs.declared.tree.Joint.{Joint}
use Rattle.ft_filter.specs.declared.tree.Joint.TheVariants as joints
use Rattle.ft_filter.specs.Predicate.{Read, Found, Stop}
use Rattle.ft_filter.specs.FilterIs.{Rule, Joined, Operand, below, behind_joint, most_open, whole_of, Reads, first, first_fails, negated, enclosed, deep, compared, Goes, ended, another, another_fails, FilterIs}
use Rattle.ft_filter.specs.Answers.{filter_of}
use Rattle.ft_filter.specs.Tree.{Tree, Trees}
use Rattle.ft_filter.proofs.Shorter.{reads_less, behind_less}
use Rattle.ft_filter.proofs.Unique.{filter_is}

-- how a text goes on: at a `!`, at a `(`, or at neither
data Opens (text : List ℕ) : Type 0 where
  bang : (behind : List ℕ) → text ≡ 33 ∷ behind → Opens text
  paren : (behind : List ℕ) → text ≡ 40 ∷ behind → Opens text
  neither : slice_index text 0 ≢ 33 → slice_index text 0 ≢ 40 → Opens text

-- each text goes on so
opens : (text : List ℕ) → Opens text
opens [] = neither (λ e. let f : 0 ≡ 33 = e in omega arith) (λ e. let f : 0 ≡ 40 = e in omega arith)
opens (byte ∷ text) = elim (cases_eq byte 33) [
  | inl is ↦ bang text (ap (λ (b : ℕ). b ∷ text) is)
  | inr other ↦ elim (cases_eq byte 40) [
    | inl is ↦ paren text (ap (λ (b : ℕ). b ∷ text) is)
    | inr another_one ↦ neither other another_one
  ]
]

module _ (event : Name) (whole : ℕ) where
  -- a rule reads the front of the text
  abbrev IsRead : Rule → ℕ → List ℕ → Type 0
  IsRead rule room text = (read : Read Tree) × Reads event whole rule room text read

  -- operands go on after the text's front
  abbrev GoesOn : Joint → ℕ → List ℕ → Type 0
  GoesOn joint room text = (read : Read Trees) × Goes event whole joint room text read

  module _ (joint : Joint) (room : ℕ) (one : (text : List ℕ) → IsRead (below joint) room text) where
    -- after a joint
    goes_behind : (text behind : List ℕ) → ((rest : List ℕ) → length rest < length behind → GoesOn joint room rest)
        → behind_joint joint text ≡ Some behind → (read : Read Tree) → Reads event whole (below joint) room behind read → GoesOn joint room text
    goes_behind text behind next some (Found tree rest) reads =
        let more = next rest (reads_less event whole _ _ _ _ reads) in
        (_, another joint room text behind tree rest more.0 some reads more.1)
    goes_behind text behind next some (Stop fault) reads = (_, another_fails joint room text behind fault some reads)

    -- operands go on, whether a joint stands there or not
    goes_from : (text : List ℕ) → ((rest : List ℕ) → suc (suc (length rest)) ≤ length text → GoesOn joint room rest)
        → (o : Option (List ℕ)) → behind_joint joint text ≡ o → GoesOn joint room text
    goes_from text next None none = (_, ended joint room text none)
    goes_from text next (Some behind) some =
        let read = one behind in
        let lt = behind_less joint text behind some in
        goes_behind text behind (λ rest shorter. next rest (omega arith)) some read.0 read.1

    -- operands go on, in a text of at most n bytes
    goes_on : (n : ℕ) (text : List ℕ) → length text ≤ n → GoesOn joint room text
    goes_on zero text le = goes_from text (λ rest shorter. absurd (omega arith)) (behind_joint joint text) refl
    goes_on (suc n) text le = goes_from text (λ rest shorter. goes_on n rest (omega arith)) (behind_joint joint text) refl

    -- after a first operand
    joined_behind : (text : List ℕ) (read : Read Tree) → Reads event whole (below joint) room text read → IsRead (Joined joint) room text
    joined_behind text (Found tree rest) reads =
        let more = goes_on (length rest) rest (omega arith) in
        (_, first joint room text tree rest more.0 reads more.1)
    joined_behind text (Stop fault) reads = (_, first_fails joint room text fault reads)

    -- operands of a joint are read
    joined_read : (text : List ℕ) → IsRead (Joined joint) room text
    joined_read text = let read = one text in joined_behind text read.0 read.1

  -- operands are read if each is
  operands_read : (room : ℕ) → ((text : List ℕ) → IsRead Operand room text) → (text : List ℕ) → IsRead (Joined joints.Or) room text
  operands_read room one = joined_read joints.Or room (joined_read joints.And room one)

  -- an operand is read
  operand_read : (room : ℕ) (text : List ℕ) → IsRead Operand room text
  operand_read zero text = elim (opens (skip text)) [
    | bang behind is ↦ (_, deep text behind 33 is (inl refl))
    | paren behind is ↦ (_, deep text behind 40 is (inr refl))
    | neither a b ↦ (_, compared zero text a b)
  ]
  operand_read (suc room) text = elim (opens (skip text)) [
    | bang behind is ↦ let read = operand_read room behind in (_, negated room text behind read.0 is read.1)
    | paren behind is ↦ let read = operands_read room (operand_read room) behind in (_, enclosed room text behind read.0 is read.1)
    | neither a b ↦ (_, compared (suc room) text a b)
  ]

-- each text has an answer
has_answer : (event : Name) (text : List ℕ) → (answer : Result Tree FilterFault) × FilterIs event text answer
has_answer event text =
    let read = operands_read event (length text) most_open (operand_read event (length text) most_open) text in
    (whole_of (length text) read.0, record { read = read.0; reads = read.1; ends = refl })

-- and it is the one that is worked out
pub filter_found : (event : Name) (text : List ℕ) → FilterIs event text (filter_of event text)
filter_found event text =
    let some = has_answer event text in
    let same = filter_is event text some.0 some.1 in
    record { read = some.1.read; reads = some.1.reads; ends = sym same ∙ some.1.ends }
