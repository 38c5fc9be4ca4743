-- What the grammar relates to a text is what is worked out of it.
use Rattle.std.proofs.Common.{◌≡◌, ◌≢◌, ◌⊎◌, ◌<◌, ◌≤◌, ℕ, zero, suc, inl, inr, List, ◌∷◌, length, Some, None, Result, refl, sym, ap, ◌∙◌, arith, slice_index, ne_eqb}
use Rattle.ft_fields.specs.declared.event.Name.{Name}
use Rattle.ft_text.specs.Tokens.{skip}
use Rattle.ft_filter.specs.declared.fault.FilterFault.{FilterFault}
use Rattle.ft_filter.specs.declared.fault.FilterFault.TheVariants.{TooDeep}
use Rattle.ft_filter.specs.declared.tree.Joint.{Joint}
use Rattle.ft_filter.specs.declared.tree.Joint.TheVariants as joints
use Rattle.ft_filter.specs.Predicate.{Read, Found, Stop, pred_at}
use Rattle.ft_filter.specs.FilterIs.{Rule, Joined, Operand, below, behind_joint, made, parenthesised, joined, whole_of, most_open, Reads, first, first_fails, negated, enclosed, deep, compared, Goes, ended, another, another_fails, FilterIs}
use Rattle.ft_filter.specs.Answers.{going, joined_at, operand_at, operands_at, filter_of}
use Rattle.ft_filter.specs.Tree.{Tree, Trees, Not, Test, End, More}
use Rattle.ft_filter.proofs.Shorter.{reads_less, behind_less}

-- ---- the steps of the function

-- one operand and those after it
joined_found : (one : List ℕ → Read Tree) (joint : Joint) (text : List ℕ) (tree : Tree) (rest : List ℕ) (more : Read Trees)
    → Found tree rest ≡ one text → more ≡ going one joint (length rest) rest → made (joined joint tree) more ≡ joined_at one joint text
unfolding joined_at
joined_found one joint text tree rest more e f = rw (← e, ← f) refl

-- no operand
joined_fails : (one : List ℕ → Read Tree) (joint : Joint) (text : List ℕ) (fault : FilterFault)
    → Stop fault ≡ one text → Stop fault ≡ joined_at one joint text
unfolding joined_at
joined_fails one joint text fault e = rw (← e) refl

-- after a `!`
operand_not : (event : Name) (whole room : ℕ) (text behind : List ℕ) → skip text ≡ 33 ∷ behind
    → operand_at event whole (suc room) text ≡ made Not (operand_at event whole room behind)
unfolding operand_at
operand_not event whole room text behind e = rw e refl

-- after a `(`
operand_paren : (event : Name) (whole room : ℕ) (text behind : List ℕ) → skip text ≡ 40 ∷ behind
    → operand_at event whole (suc room) text ≡ parenthesised whole (operands_at (operand_at event whole room) behind)
unfolding operand_at
operand_paren event whole room text behind e = rw e refl

-- a `!` or a `(` too many
operand_deep : (event : Name) (whole : ℕ) (text behind : List ℕ) (byte : ℕ) → skip text ≡ byte ∷ behind → (byte ≡ 33) ⊎ (byte ≡ 40)
    → operand_at event whole 0 text ≡ Stop TooDeep
unfolding operand_at
operand_deep event whole text behind byte e (inl f) = rw (e, f) refl
operand_deep event whole text behind byte e (inr f) = rw (e, f) refl

-- a field, an operator, a value
operand_compared : (event : Name) (whole room : ℕ) (text : List ℕ) → slice_index (skip text) 0 ≢ 33 → slice_index (skip text) 0 ≢ 40
    → operand_at event whole room text ≡ made Test (pred_at event whole (skip text))
unfolding operand_at
operand_compared event whole zero text a b =
    let e = ne_eqb _ _ a in
    let f = ne_eqb _ _ b in
    rw (e, f) refl
operand_compared event whole (suc room) text a b =
    let e = ne_eqb _ _ a in
    let f = ne_eqb _ _ b in
    rw (e, f) refl

-- no joint
going_ended : (one : List ℕ → Read Tree) (joint : Joint) (n : ℕ) (text : List ℕ) → behind_joint joint text ≡ None → going one joint n text ≡ Found End text
unfolding going
going_ended one joint zero text none = refl
going_ended one joint (suc n) text none = rw none refl

-- a joint and an operand
going_another : (one : List ℕ → Read Tree) (joint : Joint) (n : ℕ) (text behind : List ℕ) (tree : Tree) (rest : List ℕ) (more : Read Trees)
    → behind_joint joint text ≡ Some behind → Found tree rest ≡ one behind → more ≡ going one joint n rest
    → made (More tree) more ≡ going one joint (suc n) text
unfolding going
going_another one joint n text behind tree rest more some e f = rw (some, ← e, ← f) refl

-- a joint and no operand
going_fails : (one : List ℕ → Read Tree) (joint : Joint) (n : ℕ) (text behind : List ℕ) (fault : FilterFault)
    → behind_joint joint text ≡ Some behind → Stop fault ≡ one behind → Stop fault ≡ going one joint (suc n) text
unfolding going
going_fails one joint n text behind fault some e = rw (some, ← e) refl

-- ---- the whole

module _ (event : Name) (whole : ℕ) where
  -- what a rule reads
  abbrev pub rule_at : Rule → ℕ → List ℕ → Read Tree
  rule_at (Joined joints.Or) room = operands_at (operand_at event whole room)
  rule_at (Joined joints.And) room = joined_at (operand_at event whole room) joints.And
  rule_at Operand room = operand_at event whole room

  -- operands of a joint are joined
  joined_rule : (joint : Joint) (room : ℕ) (text : List ℕ) → joined_at (rule_at (below joint) room) joint text ≡ rule_at (Joined joint) room text
  joined_rule joints.Or room text = refl
  joined_rule joints.And room text = refl

  -- a joint leaves room for a step
  one_more : (P : ℕ → Type 0) (joint : Joint) (text behind : List ℕ) → behind_joint joint text ≡ Some behind → (n : ℕ) → length text ≤ n
      → ((m : ℕ) → length behind ≤ m → P (suc m)) → P n
  one_more P joint text behind some zero le next = absurd (let lt = behind_less joint text behind some in omega arith)
  one_more P joint text behind some (suc m) le next = next m (let lt = behind_less joint text behind some in omega arith)

  mutual
    -- what a rule relates is what it reads
    pub reads_is : (rule : Rule) (room : ℕ) (text : List ℕ) (read : Read Tree) → Reads event whole rule room text read → read ≡ rule_at rule room text
    reads_is rule room text read (first joint room' text' tree rest more one others) =
        joined_found (rule_at (below joint) room') joint text' tree rest more (reads_is _ _ _ _ one) (goes_is _ _ _ _ others (length rest) (omega arith))
        ∙ joined_rule joint room' text'
    reads_is rule room text read (first_fails joint room' text' fault one) =
        joined_fails (rule_at (below joint) room') joint text' fault (reads_is _ _ _ _ one) ∙ joined_rule joint room' text'
    reads_is rule room text read (negated room' text' behind inside is one) =
        ap (made Not) (reads_is _ _ _ _ one) ∙ sym (operand_not event whole room' text' behind is)
    reads_is rule room text read (enclosed room' text' behind inside is one) =
        ap (parenthesised whole) (reads_is _ _ _ _ one) ∙ sym (operand_paren event whole room' text' behind is)
    reads_is rule room text read (deep text' behind byte is opens) = sym (operand_deep event whole text' behind byte is opens)
    reads_is rule room text read (compared room' text' no_not no_paren) = sym (operand_compared event whole room' text' no_not no_paren)

    -- what goes on is what the function goes on with
    pub goes_is : (joint : Joint) (room : ℕ) (text : List ℕ) (read : Read Trees) → Goes event whole joint room text read
        → (n : ℕ) → length text ≤ n → read ≡ going (rule_at (below joint) room) joint n text
    goes_is joint room text read (ended joint' room' text' none) n le = sym (going_ended (rule_at (below joint') room') joint' n text' none)
    goes_is joint room text read (another joint' room' text' behind tree rest more some one others) n le =
        let shorter : length rest < length behind = reads_less event whole _ _ _ _ one in
        one_more (λ k. made (More tree) more ≡ going (rule_at (below joint') room') joint' k text') joint' text' behind some n le (λ m enough.
        going_another (rule_at (below joint') room') joint' m text' behind tree rest more some (reads_is _ _ _ _ one) (goes_is _ _ _ _ others m (omega arith)))
    goes_is joint room text read (another_fails joint' room' text' behind fault some one) n le =
        one_more (λ k. Stop fault ≡ going (rule_at (below joint') room') joint' k text') joint' text' behind some n le (λ m enough.
        going_fails (rule_at (below joint') room') joint' m text' behind fault some (reads_is _ _ _ _ one))

-- a text has one answer
pub filter_is : (event : Name) (text : List ℕ) (answer : Result Tree FilterFault) → FilterIs event text answer → answer ≡ filter_of event text
unfolding filter_of
filter_is event text answer h = h.ends ∙ ap (whole_of (length text)) (reads_is event (length text) (Joined joints.Or) most_open text h.read h.reads)
