-- No space and no tab stands at an end of a filter's canonical text.
use Rattle.std.proofs.Common.{◌≡◌, ◌≤◌, ◌+◌, ◌/◌, ◌%◌, ℕ, zero, suc, Bool, true, false, not, List, [], ◌∷◌, ◌++◌, length, drop, Ok, Err, refl, sym, ap, ◌∙◌, subst, arith, codes, decimal, cond, append_assoc, append-nil, ◌==◌, ne_eqb, if◌then◌else◌, pos, negsuc}
use Rattle.std.proofs.lemmas.Bool.{or_from}
use Rattle.std.specs.Prelude.{nat_lt}
use Rattle.std.specs.Fmt.{digit_glyph, digits_onto, digits}
use Rattle.std.specs.List.{list_all, starts_with}
use Rattle.ft_fields.specs.declared.event.Name.{Name}
use Rattle.ft_fields.specs.declared.field.Field.{Field}
use Rattle.ft_fields.specs.declared.field.Field.TheVariants as fields
use Rattle.ft_fields.specs.Fields.{field_text}
use Rattle.ft_filter.specs.declared.fault.FilterFault.TheVariants.{Syntax}
use Rattle.ft_filter.specs.declared.tree.Literal.{Literal}
use Rattle.ft_filter.specs.declared.tree.Literal.TheVariants as literals
use Rattle.ft_filter.specs.declared.tree.Pred.{Pred}
use Rattle.ft_filter.specs.Canonical.{quoted, literal_text, pred_text, spaced_joint_text, enclosed_if, is_joined, needs_enclosing, canonical, joined_text, more_text}
use Rattle.ft_filter.specs.FilterIs.{tree_of_joint, Rule, made, parenthesised, joined, whole_of, Reads, first, first_fails, negated, enclosed, deep, compared, Goes, ended, another, another_fails, FilterIs}
use Rattle.ft_filter.specs.Predicate.{Read, Found, Stop, place, pred_at}
use Rattle.ft_filter.specs.Operators.{op_text}
use Rattle.ft_filter.specs.Tree.{Tree, Trees, Not, Test, End, More}
use Rattle.ft_text.specs.Tokens.{is_gap, skip}

-- ---- the ends of texts

-- what a text begins with is no space and no tab
pub record Opens (text : List ℕ) : Type 0 where
  pub byte : ℕ
  pub rest : List ℕ
  pub is : text ≡ byte ∷ rest
  pub seen : is_gap byte ≡ false

-- what a text ends with is no space and no tab
pub record Closes (text : List ℕ) : Type 0 where
  pub front : List ℕ
  pub byte : ℕ
  pub is : text ≡ front ++ byte ∷ []
  pub seen : is_gap byte ≡ false

-- at both ends
pub record Edged (text : List ℕ) : Type 0 where
  pub opens : Opens text
  pub closes : Closes text

-- more may follow
opens_first : (a b : List ℕ) → Opens a → Opens (a ++ b)
opens_first a b h = record { byte = h.byte; rest = h.rest ++ b; is = ap (λ (t : List ℕ). t ++ b) h.is; seen = h.seen }

-- more may stand in front
closes_last : (a b : List ℕ) → Closes b → Closes (a ++ b)
closes_last a b h = record { front = a ++ h.front; byte = h.byte; is = ap (λ (t : List ℕ). a ++ t) h.is ∙ sym (append_assoc a h.front (h.byte ∷ [])); seen = h.seen }

-- a byte from 45 up is no space and no tab
seen_byte : (byte : ℕ) → 45 ≤ byte → is_gap byte ≡ false
seen_byte byte high = or_from (byte == 32) (byte == 9) (ne_eqb byte 32 (λ e. omega arith)) (ne_eqb byte 9 (λ e. omega arith))

-- ---- numbers, texts, predicates

-- a digit is no space and no tab
glyph_seen : (d : ℕ) → is_gap (digit_glyph false d) ≡ false
glyph_seen d = seen_byte (digit_glyph false d) (from (nat_lt d 10))
  where
    from : (b : Bool) → 45 ≤ (if b then 48 + d else 87 + d)
    from true = omega arith
    from false = omega arith

-- digits in front change no end
digits_close : (k n : ℕ) (text : List ℕ) → Closes text → Closes (digits_onto k 10 false n text)
digits_close zero n text h = h
digits_close (suc k) n text h = from (n / 10 == 0) more (digits_close k (n / 10) (digit_glyph false (n % 10) ∷ text) more)
  where
    more : Closes (digit_glyph false (n % 10) ∷ text)
    more = closes_last (digit_glyph false (n % 10) ∷ []) text h

    from : (b : Bool) → Closes (digit_glyph false (n % 10) ∷ text) → Closes (digits_onto k 10 false (n / 10) (digit_glyph false (n % 10) ∷ text))
        → Closes (if b then digit_glyph false (n % 10) ∷ text else digits_onto k 10 false (n / 10) (digit_glyph false (n % 10) ∷ text))
    from true here later = here
    from false here later = later

-- the first digit that is written stands last
digits_end : (k n : ℕ) → Closes (digits_onto (suc k) 10 false n [])
digits_end k n = from (n / 10 == 0)
  where
    one : Closes (digit_glyph false (n % 10) ∷ [])
    one = record { front = []; byte = digit_glyph false (n % 10); is = refl; seen = glyph_seen (n % 10) }

    from : (b : Bool) → Closes (if b then digit_glyph false (n % 10) ∷ [] else digits_onto k 10 false (n / 10) (digit_glyph false (n % 10) ∷ []))
    from true = one
    from false = digits_close k (n / 10) (digit_glyph false (n % 10) ∷ []) one

-- a number ends with a digit
decimal_closes : (n : ℕ) → Closes (decimal n)
unfolding digits
decimal_closes n = digits_end 63 n

-- a quoted text ends with a quote
quoted_closes : (text : List ℕ) → Closes (quoted text)
unfolding quoted
quoted_closes text = from (list_all (λ byte. not (byte == 34)) text)
  where
    from : (b : Bool) → Closes (if b then codes "\"" ++ text ++ codes "\"" else codes "'" ++ text ++ codes "'")
    from true = closes_last (codes "\"" ++ text) (codes "\"") (record { front = []; byte = 34; is = refl; seen = refl })
    from false = closes_last (codes "'" ++ text) (codes "'") (record { front = []; byte = 39; is = refl; seen = refl })

-- a value ends so
value_closes : (value : Literal) → Closes (literal_text value)
value_closes (literals.Number (pos n)) = decimal_closes n
value_closes (literals.Number (negsuc n)) = closes_last (45 ∷ []) (decimal (suc n)) (decimal_closes (suc n))
value_closes (literals.Text text) = quoted_closes text
value_closes (literals.Glob text) = quoted_closes text

-- a letter begins a field's name
field_opens : (field : Field) → Opens (field_text field)
field_opens fields.CommonPid = record { byte = _; rest = _; is = refl; seen = refl }
field_opens fields.CommonCpu = record { byte = _; rest = _; is = refl; seen = refl }
field_opens fields.Pid = record { byte = _; rest = _; is = refl; seen = refl }
field_opens fields.Prio = record { byte = _; rest = _; is = refl; seen = refl }
field_opens fields.TargetCpu = record { byte = _; rest = _; is = refl; seen = refl }
field_opens fields.Comm = record { byte = _; rest = _; is = refl; seen = refl }
field_opens fields.PrevPid = record { byte = _; rest = _; is = refl; seen = refl }
field_opens fields.PrevPrio = record { byte = _; rest = _; is = refl; seen = refl }
field_opens fields.NextPid = record { byte = _; rest = _; is = refl; seen = refl }
field_opens fields.NextPrio = record { byte = _; rest = _; is = refl; seen = refl }
field_opens fields.PrevComm = record { byte = _; rest = _; is = refl; seen = refl }
field_opens fields.PrevState = record { byte = _; rest = _; is = refl; seen = refl }
field_opens fields.NextComm = record { byte = _; rest = _; is = refl; seen = refl }
field_opens fields.Lat = record { byte = _; rest = _; is = refl; seen = refl }

-- a predicate has such ends
pred_edged : (pred : Pred) → Edged (pred_text pred)
unfolding pred_text
pred_edged pred = record {
  opens = opens_first (field_text pred.field ++ codes " " ++ op_text pred.op ++ codes " ") (literal_text pred.value)
      (opens_first (field_text pred.field ++ codes " " ++ op_text pred.op) (codes " ") (opens_first (field_text pred.field ++ codes " ") (op_text pred.op) (opens_first (field_text pred.field) (codes " ") (field_opens pred.field))));
  closes = closes_last (field_text pred.field ++ codes " " ++ op_text pred.op ++ codes " ") (literal_text pred.value) (value_closes pred.value);
}

-- ---- trees

-- parentheses have such ends
enclosed_edged : (b : Bool) (text : List ℕ) → Edged text → Edged (enclosed_if b text)
enclosed_edged true text h = record {
  opens = record { byte = 40; rest = text ++ codes ")"; is = refl; seen = refl };
  closes = closes_last (codes "(" ++ text) (codes ")") (record { front = []; byte = 41; is = refl; seen = refl });
}
enclosed_edged false text h = h

-- so has what a `!` stands before
not_edged : (text : List ℕ) → Edged text → Edged (codes "!" ++ text)
not_edged text h = record { opens = record { byte = 33; rest = text; is = refl; seen = refl }; closes = closes_last (codes "!") text h.closes }

-- so have two texts with something between
between_edged : (a m b : List ℕ) → Edged a → Edged b → Edged (a ++ (m ++ b))
between_edged a m b h k = record { opens = opens_first a (m ++ b) h.opens; closes = closes_last a (m ++ b) (closes_last m b k.closes) }

-- what a function takes
abbrev Taken : {A B : Type 0} → (A → B) → Type 0
Taken {A = A} f = A

-- what joins operands: what has a joint's text
abbrev Joint : Type 0
Joint = Taken spaced_joint_text

-- operands of a joint have their joined text
both_text : (joint : Joint) (trees : Trees) → canonical (tree_of_joint joint trees) ≡ joined_text joint trees
both_text joint trees = grind arith

-- what is read has such ends
abbrev ReadEdged : Read Tree → Type 0
ReadEdged (Found tree rest) = Edged (canonical tree)
ReadEdged (Stop fault) = Unit {0}

-- a text with operands after it keeps such ends
abbrev MoreEdged : Joint → Read Trees → Type 0
MoreEdged joint (Found trees rest) = (front : List ℕ) → Edged front → Edged (front ++ more_text joint trees)
MoreEdged joint (Stop fault) = Unit {0}

-- one operand more
more_edged : (joint : Joint) (tree : Tree) (read : Read Trees) → Edged (canonical tree) → MoreEdged joint read → MoreEdged joint (made (More tree) read)
more_edged joint tree (Stop fault) one more = tt
more_edged joint tree (Found trees rest) one more = λ front h.
    let operand : List ℕ = enclosed_if (needs_enclosing joint tree) (canonical tree) in
    let next : Edged (front ++ (spaced_joint_text joint ++ operand)) = between_edged front (spaced_joint_text joint) operand h (enclosed_edged (needs_enclosing joint tree) (canonical tree) one) in
    subst Edged (append_assoc front (spaced_joint_text joint ++ operand) (more_text joint trees)) (more (front ++ (spaced_joint_text joint ++ operand)) next)

-- operands that a joint joins, or one alone
joined_edged : (joint : Joint) (tree : Tree) (read : Read Trees) → Edged (canonical tree) → MoreEdged joint read → ReadEdged (made (joined joint tree) read)
joined_edged joint tree (Stop fault) one more = tt
joined_edged joint tree (Found End rest) one more = one
joined_edged joint tree (Found (More next trees) rest) one more =
    subst Edged (sym (both_text joint (More tree (More next trees))))
    (more (enclosed_if (needs_enclosing joint tree) (canonical tree)) (enclosed_edged (needs_enclosing joint tree) (canonical tree) one))

-- what a `!` stands before
not_read : (read : Read Tree) → ReadEdged read → ReadEdged (made Not read)
not_read (Stop fault) h = tt
not_read (Found tree rest) h = not_edged (enclosed_if (is_joined tree) (canonical tree)) (enclosed_edged (is_joined tree) (canonical tree) h)

-- what is in parentheses
closed_read : (whole : ℕ) (read : Read Tree) → ReadEdged read → ReadEdged (parenthesised whole read)
closed_read whole (Stop fault) h = tt
closed_read whole (Found tree rest) h = from (starts_with ◌==◌ (skip rest) (codes ")"))
  where
    from : (b : Bool) → ReadEdged (cond b (Found tree (drop 1 (skip rest))) (Stop (Syntax (place whole (skip rest)))))
    from false = tt
    from true = h

-- a predicate
test_read : (read : Read Pred) → ReadEdged (made Test read)
test_read (Stop fault) = tt
test_read (Found pred rest) = pred_edged pred

module _ (event : Name) (whole : ℕ) where
  mutual
    -- what a rule reads has such ends
    reads_edged : (rule : Rule) (room : ℕ) (text : List ℕ) (read : Read Tree) → Reads event whole rule room text read → ReadEdged read
    reads_edged rule room text read (first joint room' text' tree rest more one others) = joined_edged joint tree more (reads_edged _ _ _ _ one) (goes_edged _ _ _ _ others)
    reads_edged rule room text read (first_fails joint room' text' fault one) = tt
    reads_edged rule room text read (negated room' text' behind inner is one) = not_read inner (reads_edged _ _ _ _ one)
    reads_edged rule room text read (enclosed room' text' behind inner is one) = closed_read whole inner (reads_edged _ _ _ _ one)
    reads_edged rule room text read (deep text' behind byte is opens) = tt
    reads_edged rule room text read (compared room' text' no_not no_paren) = test_read (pred_at event whole (skip text'))

    -- what goes on keeps such ends
    goes_edged : (joint : Joint) (room : ℕ) (text : List ℕ) (read : Read Trees) → Goes event whole joint room text read → MoreEdged joint read
    goes_edged joint room text read (ended joint' room' text' none) = λ front h. subst Edged (sym (append-nil front)) h
    goes_edged joint room text read (another joint' room' text' behind tree rest more some one others) = more_edged joint' tree more (reads_edged _ _ _ _ one) (goes_edged _ _ _ _ others)
    goes_edged joint room text read (another_fails joint' room' text' behind fault some one) = tt

  -- so has a whole filter's tree
  whole_edged : (tree : Tree) (read : Read Tree) → ReadEdged read → Ok tree ≡ whole_of whole read → Edged (canonical tree)
  whole_edged tree (Stop fault) h ends = absurd cc
  whole_edged tree (Found found rest) h ends = from (length (skip rest) == 0) ends
    where
      from : (b : Bool) → Ok tree ≡ cond b (Ok found) (Err (Syntax (place whole (skip rest)))) → Edged (canonical tree)
      from true ends = let same : found ≡ tree = cc in subst (λ (t : Tree). Edged (canonical t)) same h
      from false ends = absurd cc

-- the canonical text of a tree that is read has such ends
pub filter_edged : (event : Name) (text : List ℕ) (tree : Tree) → FilterIs event text (Ok tree) → Edged (canonical tree)
filter_edged event text tree h = whole_edged event (length text) tree h.read (reads_edged event (length text) _ _ _ _ h.reads) h.ends
