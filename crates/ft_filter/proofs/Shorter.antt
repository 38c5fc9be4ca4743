-- What a step of reading leaves of a text is shorter.
use Rattle.std.proofs.Common.{◌≡◌, ◌<◌, ◌≤◌, ◌+◌, ◌||◌, ℕ, suc, Bool, true, false, List, [], ◌∷◌, length, drop, take, Option, Some, None, refl, ap, arith, length-drop, option_map, find, not, slice_index, if◌then◌else◌, ℤ, codes, ◌==◌}
use Rattle.std.proofs.lemmas.Option.{same_Some}
use Rattle.std.specs.Int.{is_in_range}
use Rattle.std.specs.List.{prefix_len, starts_with}
use Rattle.ft_fields.specs.declared.event.Name.{Name}
use Rattle.ft_fields.specs.declared.field.Field.{Field}
use Rattle.ft_fields.specs.Fields.{is_text}
use Rattle.ft_text.specs.Ranged.{fits_i64}
use Rattle.ft_text.specs.Tokens.{skip, name_at, cut_at, quoted_at, number_at, number_of, word_len, run_at, begins_name, is_in_name, is_quote}
use Rattle.ft_filter.specs.declared.fault.FilterFault.{FilterFault}
use Rattle.ft_filter.specs.declared.fault.FilterFault.TheVariants.{Syntax, WrongKind, BadGlob, NumberRange}
use Rattle.ft_filter.specs.declared.tree.Joint.{Joint}
use Rattle.ft_filter.specs.declared.tree.Joint.TheVariants as joints
use Rattle.ft_filter.specs.declared.tree.Literal.{Literal}
use Rattle.ft_filter.specs.declared.tree.Literal.TheVariants as literals
use Rattle.ft_filter.specs.declared.tree.Op.{Op}
use Rattle.ft_text.specs.Matching.{is_glob}
use Rattle.ft_filter.specs.Operators.{op_at, begins, all_ops, op_text}
use Rattle.ft_filter.specs.Predicate.{Read, Found, Stop, place, is_match, literal_of, read_or, passed_or, text_value, number_value, literal_at, pred_with, comparison_at, pred_at}
use Rattle.ft_filter.specs.FilterIs.{Rule, behind_joint, made, parenthesised, joint_text, Reads, first, first_fails, negated, enclosed, deep, compared, Goes, ended, another, another_fails}
use Rattle.ft_filter.specs.Tree.{Tree, Trees}

-- what is left after what is read has fewer bytes than n
abbrev pub LeavesLess : {A : Type 0} → ℕ → Read A → Type 0
LeavesLess n (Found found rest) = length rest < n
LeavesLess n (Stop fault) = Unit {0}

-- a larger bound holds too
pub less_more : {A : Type 0} (n m : ℕ) (read : Read A) → n ≤ m → LeavesLess n read → LeavesLess m read
less_more n m (Found found rest) le h = omega arith
less_more n m (Stop fault) le h = tt

-- after a thing that may be missing
less_found : {A B : Type 0} (n : ℕ) (fault : FilterFault) (o : Option A) (next : A → Read B) → ((x : A) → o ≡ Some x → LeavesLess n (next x)) → LeavesLess n (read_or fault o next)
less_found n fault None next h = tt
less_found n fault (Some x) next h = h x refl

-- after a test
less_passed : {B : Type 0} (n : ℕ) (fault : FilterFault) (b : Bool) (next : Read B) → LeavesLess n next → LeavesLess n (passed_or fault b next)
less_passed n fault true next h = h
less_passed n fault false next h = tt

-- what is made of a thing leaves the same
pub less_made : {A B : Type 0} (n : ℕ) (f : A → B) (read : Read A) → LeavesLess n read → LeavesLess n (made f read)
less_made n f (Found found rest) h = h
less_made n f (Stop fault) h = tt

-- ---- words

-- a front that is dropped leaves no more
drop_le : (n : ℕ) (text : List ℕ) → length (drop n text) ≤ length text
drop_le n text = omega (arith, length-drop n text)

-- after spaces and tabs there is no more
pub skip_le : (text : List ℕ) → length (skip text) ≤ length text
skip_le text = drop_le _ text

-- a test that follows from three of its four parts
of_three : (a b c d : Bool) → ((b || c) || d) ≡ true → (((a || b) || c) || d) ≡ true
of_three true b c d h = refl
of_three false b c d h = h

-- a byte that begins a name is one of a name
in_name : (byte : ℕ) → begins_name byte ≡ true → is_in_name byte ≡ true
in_name byte = of_three (is_in_range 48 57 byte) (is_in_range 65 90 byte) (is_in_range 97 122 byte) (byte == 95)

-- after a name there is less
name_less : (text : List ℕ) (found : List ℕ × List ℕ) → name_at text ≡ Some found → length found.1 < length text
unfolding name_at
name_less [] found e = absurd cc
name_less (byte ∷ text) found e = from (begins_name byte) refl e
  where
    from : (b : Bool) → begins_name byte ≡ b → (if b then Some (run_at is_in_name (byte ∷ text)) else None) ≡ Some found → length found.1 < length (byte ∷ text)
    from false is e = absurd cc
    from true is e =
        let same = ap (λ (p : List ℕ × List ℕ). length p.1) (same_Some _ _ e) in
        let one : is_in_name byte ≡ true = in_name byte is in
        let some : prefix_len is_in_name (byte ∷ text) ≡ 1 + prefix_len is_in_name text = rw one refl in
        omega (arith, length-drop (prefix_len is_in_name (byte ∷ text)) (byte ∷ text))

-- after an operator there is no more
op_le : (text : List ℕ) (found : Op × List ℕ) → op_at text ≡ Some found → length found.1 ≤ length text
unfolding op_at
op_le text found e = from (starts_with ◌==◌ text (codes "&&")) (find (begins text) all_ops) e
  where
    from : (b : Bool) (o : Option Op) → (if b then None else option_map (λ (op : Op). (op, drop (length (op_text op)) text)) o) ≡ Some found → length found.1 ≤ length text
    from true o e = absurd cc
    from false None e = absurd cc
    from false (Some op) e =
        let same = ap (λ (p : Op × List ℕ). length p.1) (same_Some _ _ e) in
        omega (arith, drop_le (length (op_text op)) text)

-- after a closing quote there is no more
cut_le : (mark : ℕ) (text : List ℕ) (found : List ℕ × List ℕ) → cut_at mark text ≡ Some found → length found.1 ≤ length text
cut_le mark text found e = from (length (drop (prefix_len (λ byte. not (byte == mark)) text) text) == 0) e
  where
    from : (b : Bool) → (if b then None else Some (take (prefix_len (λ byte. not (byte == mark)) text) text, drop 1 (drop (prefix_len (λ byte. not (byte == mark)) text) text))) ≡ Some found → length found.1 ≤ length text
    from true e = absurd cc
    from false e =
        let same = ap (λ (p : List ℕ × List ℕ). length p.1) (same_Some _ _ e) in
        omega (arith, drop_le (prefix_len (λ byte. not (byte == mark)) text) text, drop_le 1 (drop (prefix_len (λ byte. not (byte == mark)) text) text))

-- after a quoted text there is no more
quoted_le : (text : List ℕ) (found : List ℕ × List ℕ) → quoted_at text ≡ Some found → length found.1 ≤ length text
unfolding quoted_at
quoted_le [] found e = absurd cc
quoted_le (mark ∷ text) found e = from (is_quote mark) e
  where
    from : (b : Bool) → (if b then cut_at mark text else None) ≡ Some found → length found.1 ≤ length (mark ∷ text)
    from false e = absurd cc
    from true e = let le = cut_le mark text found e in omega arith

-- after a number there is no more
number_le : (text : List ℕ) (found : ℤ × List ℕ) → number_at text ≡ Some found → length found.1 ≤ length text
unfolding number_at
number_le text found e = from (number_of (take (word_len text) text)) e
  where
    from : (o : Option ℤ) → option_map (λ (number : ℤ). (number, drop (word_len text) text)) o ≡ Some found → length found.1 ≤ length text
    from None e = absurd cc
    from (Some number) e =
        let same = ap (λ (p : ℤ × List ℕ). length p.1) (same_Some _ _ e) in
        omega (arith, drop_le (word_len text) text)

-- ---- a predicate

-- after a quoted value there is no more
text_value_le : (at : ℕ) (text : Bool) (op : Op) (rest : List ℕ) → LeavesLess (suc (length rest)) (text_value at text op rest)
unfolding text_value
text_value_le at text op rest =
    less_found _ _ _ _ (λ quoted is.
    let le = quoted_le rest quoted is in
    let lt : length quoted.1 < suc (length rest) = omega arith in
    less_passed _ (WrongKind at) text _ (less_passed _ (BadGlob at) (not (is_match op) || is_glob quoted.0) (Found (literal_of (is_match op) quoted.0) quoted.1) lt))

-- after a number there is no more
number_value_le : (at : ℕ) (text : Bool) (rest : List ℕ) → LeavesLess (suc (length rest)) (number_value at text rest)
unfolding number_value
number_value_le at text rest =
    less_found _ _ _ _ (λ number is.
    let le = number_le rest number is in
    let lt : length number.1 < suc (length rest) = omega arith in
    less_passed _ (WrongKind at) (not text) _ (less_passed _ (NumberRange at) (fits_i64 number.0) (Found (literals.Number number.0) number.1) lt))

-- after a value there is no more
value_le : (whole : ℕ) (text : Bool) (op : Op) (rest : List ℕ) → LeavesLess (suc (length rest)) (literal_at whole text op rest)
unfolding literal_at
value_le whole text op rest = from (is_quote (slice_index rest 0))
  where
    from : (b : Bool) → LeavesLess (suc (length rest)) (if b then text_value (place whole rest) text op rest else number_value (place whole rest) text rest)
    from true = text_value_le (place whole rest) text op rest
    from false = number_value_le (place whole rest) text rest

-- the predicate with its value leaves the same
less_with : (n : ℕ) (field : Field) (op : Op) (read : Read Literal) → LeavesLess n read → LeavesLess n (pred_with field op read)
less_with n field op (Found value rest) h = h
less_with n field op (Stop fault) h = tt

-- after an operator and a value there is no more
comparison_le : (whole : ℕ) (field : Field) (rest : List ℕ) → LeavesLess (suc (length rest)) (comparison_at whole field rest)
unfolding comparison_at
comparison_le whole field rest =
    less_found _ _ _ _ (λ op is. less_passed _ _ _ _ (less_with _ field op.0 _ (
    less_more _ _ _ (let le = op_le rest op is in omega (arith, skip_le op.1)) (value_le whole (is_text field) op.0 (skip op.1)))))

-- after a predicate there is less
pub pred_less : (event : Name) (whole : ℕ) (text : List ℕ) → LeavesLess (length text) (pred_at event whole text)
unfolding pred_at
pred_less event whole text =
    less_found _ _ _ _ (λ name is. less_found _ _ _ _ (λ field named.
    less_more _ _ _ (let lt = name_less text name is in omega (arith, skip_le name.1)) (comparison_le whole field (skip name.1))))

-- ---- the grammar

-- after a joint there is less
pub behind_less : (joint : Joint) (text behind : List ℕ) → behind_joint joint text ≡ Some behind → length behind < length text
behind_less joint text behind e = from joint (skip text) (skip_le text) e
  where
    from : (joint : Joint) (rest : List ℕ) → length rest ≤ length text → (if starts_with ◌==◌ rest (joint_text joint) then Some (drop 2 rest) else None) ≡ Some behind → length behind < length text
    from joints.Or [] le e = absurd cc
    from joints.And [] le e = absurd cc
    from joint (byte ∷ rest) le e = some (starts_with ◌==◌ (byte ∷ rest) (joint_text joint)) e
      where
        some : (b : Bool) → (if b then Some (drop 2 (byte ∷ rest)) else None) ≡ Some behind → length behind < length text
        some false e = absurd cc
        some true e = let same = ap length (same_Some _ _ e) in omega (arith, length-drop 2 (byte ∷ rest))

-- after a closing parenthesis there is no more
pub less_closed : (n whole : ℕ) (read : Read Tree) → LeavesLess n read → LeavesLess n (parenthesised whole read)
less_closed n whole (Stop fault) h = tt
less_closed n whole (Found tree rest) h = from (starts_with ◌==◌ (skip rest) (codes ")"))
  where
    from : (b : Bool) → LeavesLess n (if b then Found tree (drop 1 (skip rest)) else Stop (Syntax (place whole (skip rest))))
    from false = tt
    from true = let one = drop_le 1 (skip rest) in omega (arith, skip_le rest)

module _ (event : Name) (whole : ℕ) where
  mutual
    -- after what a rule reads there is less
    pub reads_less : (rule : Rule) (room : ℕ) (text : List ℕ) (read : Read Tree) → Reads event whole rule room text read → LeavesLess (length text) read
    reads_less rule room text read (first joint room' text' tree rest more one others) =
        less_made _ _ more (less_more _ _ more (let lt : length rest < length text' = reads_less _ _ _ _ one in omega arith) (goes_less _ _ _ _ others))
    reads_less rule room text read (first_fails joint room' text' fault one) = tt
    reads_less rule room text read (negated room' text' behind inside is one) =
        less_made _ _ inside (less_more _ _ inside (let same = ap length is in omega (arith, skip_le text')) (reads_less _ _ _ _ one))
    reads_less rule room text read (enclosed room' text' behind inside is one) =
        less_closed _ whole inside (less_more _ _ inside (let same = ap length is in omega (arith, skip_le text')) (reads_less _ _ _ _ one))
    reads_less rule room text read (deep text' behind byte is opens) = tt
    reads_less rule room text read (compared room' text' no_not no_paren) =
        less_made _ _ _ (less_more _ _ _ (skip_le text') (pred_less event whole (skip text')))

    -- after what goes on there is no more
    pub goes_less : (joint : Joint) (room : ℕ) (text : List ℕ) (read : Read Trees) → Goes event whole joint room text read → LeavesLess (suc (length text)) read
    goes_less joint room text read (ended joint' room' text' none) = omega arith
    goes_less joint room text read (another joint' room' text' behind tree rest more some one others) =
        less_made _ _ more (less_more _ _ more (
        let lt : length rest < length behind = reads_less _ _ _ _ one in
        let less = behind_less joint' text' behind some in omega arith) (goes_less _ _ _ _ others))
    goes_less joint room text read (another_fails joint' room' text' behind fault some one) = tt
