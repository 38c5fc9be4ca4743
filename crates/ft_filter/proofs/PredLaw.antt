-- What `pred_at` reads is what `PredIs` says, and nothing else.
use Rattle.std.proofs.Common.{◌≡◌, ◌<◌, ◌↔◌, ◌||◌, ℕ, zero, suc, Bool, true, false, inl, inr, not, subst, cond, List, ◌++◌, length, Option, Some, None, refl, sym, ap, ◌∙◌, arith, slice_index, ℤ, pos, negsuc, ◌==◌, ne_eqb, le-leb, leb-true, find}
use Rattle.std.proofs.lemmas.Option.{same_Some}
use Rattle.std.specs.Prelude.{Contains, IsTrue, FitsSigned, slice_index_or, option_map, if◌then◌else◌}
use Rattle.std.specs.Bool.{Decides}
use Rattle.std.specs.Int.{w64}
use Rattle.ft_fields.specs.declared.event.Name.{Name}
use Rattle.ft_fields.specs.declared.field.Field.{Field}
use Rattle.ft_fields.specs.Fields.{is_field_named, all_fields, is_text}
use Rattle.ft_text.specs.Cuts.{Where, WhereCut}
use Rattle.ft_text.specs.Ranged.{fits_i64}
use Rattle.ft_text.specs.Tokens.{skip, name_at, is_quote, quoted_at, number_at}
use Rattle.ft_filter.specs.declared.fault.FilterFault.{FilterFault}
use Rattle.ft_filter.specs.declared.fault.FilterFault.TheVariants.{Syntax, NoField, WrongKind, BadGlob, NumberRange}
use Rattle.ft_filter.specs.declared.tree.Op.{Op}
use Rattle.ft_filter.specs.declared.tree.Op.TheVariants as ops
use Rattle.ft_filter.specs.declared.tree.Literal.TheVariants as literals
use Rattle.ft_filter.specs.declared.tree.Literal.{Literal}
use Rattle.ft_filter.specs.declared.tree.Pred.{Pred}
use Rattle.ft_text.specs.Glob.{IsGlob}
use Rattle.ft_text.specs.Matching.{is_glob}
use Rattle.ft_filter.specs.Numbers.{IsDecimal, Writes, plain, negative, hexadecimal}
use Rattle.ft_filter.specs.Operators.{op_at}
use Rattle.ft_filter.specs.Predicate.{Read, Found, Stop, place, read_or, passed_or, suits, is_match, literal_of, text_value, number_value, literal_at, pred_with, comparison_at, pred_at}
use Rattle.ft_filter.specs.PredIs.{IsBehindGap, BeginsWithName, IsFieldOf, IsOperator, Token, IsToken, operators_of, SuitsField, pred_of, TextGives, TokenGives, ValueGives, OperatorGives, PredIs}
use Rattle.ft_text.proofs.Deciding.{is_glob-Decides}
use Rattle.ft_filter.proofs.NumberForms.{number_to, number_from}
use Rattle.ft_filter.proofs.WordCuts.{gap_to, gap_from, name_to, name_from, field_to, field_from, op_to, op_from, quote_is, quoted_to, quoted_from}

-- ---- conditions in order

-- a cut that is found, and what it gives; else a fault
where_cut : {B C : Type 0} (IsCut : C → Type 0) (After : C → Type 0) (fault : FilterFault) (o : Option C) (next : C → Read B) (read : Read B)
    → ((c : C) → (o ≡ Some c) ↔ IsCut c) → ((c : C) → After c ↔ (read ≡ next c))
    → WhereCut IsCut After (read ≡ Stop fault) ↔ (read ≡ read_or fault o next)
where_cut IsCut After fault None next read cut after = (
  λ h. elim h [ inl x ↦ absurd (let e = (cut x.0).1 x.1 in cc) | inr y ↦ y.1 ],
  λ e. inr (λ c is. absurd (let f = (cut c).1 is in cc), e),
)
where_cut IsCut After fault (Some c) next read cut after = (
  λ h. elim h [
    | inl x ↦ let same : c ≡ x.0 = same_Some _ _ ((cut x.0).1 x.1) in (after x.0).0 x.2 ∙ ap next (sym same)
    | inr y ↦ absurd (y.0 c ((cut c).0 refl))
  ],
  λ e. inl (c, (cut c).0 refl, (after c).1 e),
)

-- a fact that fails is a fault, if a test decides it
where_lacks : {B : Type 0} (Q A : Type 0) (fault : FilterFault) (b : Bool) (next read : Read B) → Decides b Q → A ↔ (read ≡ next)
    → Where (Q → ⊥) (read ≡ Stop fault) A ↔ (read ≡ passed_or fault b next)
where_lacks Q A fault true next read decides after = (
  λ h. elim h [ inl x ↦ absurd (x.0 (decides.0 refl)) | inr y ↦ after.0 y.1 ],
  λ e. inr (λ lacks. lacks (decides.0 refl), after.1 e),
)
where_lacks Q A fault false next read decides after = (
  λ h. elim h [ inl x ↦ x.1 | inr y ↦ absurd (y.0 (λ q. let f = decides.1 q in cc)) ],
  λ e. inl (λ q. let f = decides.1 q in cc, e),
)

-- a test that passes is a fault
where_passes : {B : Type 0} (A : Type 0) (fault : FilterFault) (b : Bool) (next read : Read B) → A ↔ (read ≡ next)
    → Where (IsTrue b) (read ≡ Stop fault) A ↔ (read ≡ passed_or fault (not b) next)
where_passes A fault true next read after = (
  λ h. elim h [ inl x ↦ x.1 | inr y ↦ absurd (y.0 refl) ],
  λ e. inl (refl, e),
)
where_passes A fault false next read after = (
  λ h. elim h [ inl x ↦ absurd (let f = x.0 in cc) | inr y ↦ after.0 y.1 ],
  λ e. inr (λ f. cc, after.1 e),
)

-- what is after a gap
where_gap : (P : List ℕ → Type 0) (Q : Type 0) (text : List ℕ) → P (skip text) ↔ Q → ((here : List ℕ) × IsBehindGap text here × P here) ↔ Q
where_gap P Q text iff = (
  λ h. iff.0 (subst P (sym (gap_to text h.0 h.1)) h.2),
  λ q. (skip text, gap_from text, iff.1 q),
)

-- ---- kinds

-- the operators of a kind suit it
each_suits : (text : Bool) (op : Op) (k : ℕ) → k < length (operators_of text) → suits text (slice_index_or (operators_of text) k op) ≡ true
each_suits true op zero lt = refl
each_suits true op (suc zero) lt = refl
each_suits true op (suc (suc zero)) lt = refl
each_suits true op (suc (suc (suc k))) lt = absurd (omega arith)
each_suits false op zero lt = refl
each_suits false op (suc zero) lt = refl
each_suits false op (suc (suc zero)) lt = refl
each_suits false op (suc (suc (suc zero))) lt = refl
each_suits false op (suc (suc (suc (suc zero)))) lt = refl
each_suits false op (suc (suc (suc (suc (suc zero))))) lt = refl
each_suits false op (suc (suc (suc (suc (suc (suc zero)))))) lt = refl
each_suits false op (suc (suc (suc (suc (suc (suc (suc k))))))) lt = absurd (omega arith)

-- an operator that suits a kind is one of its operators
suits_one : (text : Bool) (op : Op) → suits text op ≡ true → Contains (operators_of text) op
suits_one true ops.Eq e = (0, omega arith, refl)
suits_one true ops.Ne e = (1, omega arith, refl)
suits_one true ops.Glob e = (2, omega arith, refl)
suits_one true ops.Lt e = absurd cc
suits_one true ops.Le e = absurd cc
suits_one true ops.Gt e = absurd cc
suits_one true ops.Ge e = absurd cc
suits_one true ops.Bits e = absurd cc
suits_one false ops.Eq e = (0, omega arith, refl)
suits_one false ops.Ne e = (1, omega arith, refl)
suits_one false ops.Lt e = (2, omega arith, refl)
suits_one false ops.Le e = (3, omega arith, refl)
suits_one false ops.Gt e = (4, omega arith, refl)
suits_one false ops.Ge e = (5, omega arith, refl)
suits_one false ops.Bits e = (6, omega arith, refl)
suits_one false ops.Glob e = absurd cc

pub suits-Decides : (text : Bool) (op : Op) → Decides (suits text op) (Contains (operators_of text) op)
suits-Decides text op = (suits_one text op, λ h. subst (λ (o : Op). suits text o ≡ true) h.2 (each_suits text op h.0 h.1))

-- a number that fits 64 bits with a sign
pub fits_i64-Decides : (z : ℤ) → Decides (fits_i64 z) (FitsSigned w64 z)
fits_i64-Decides (pos n) = (λ e. let le = leb-true n 9223372036854775807 e in record { sfits = omega arith }, λ h. le-leb n 9223372036854775807 (omega (arith, h.sfits)))
fits_i64-Decides (negsuc n) = (λ e. let le = leb-true n 9223372036854775807 e in record { sfits = omega arith }, λ h. le-leb n 9223372036854775807 (omega (arith, h.sfits)))

-- ---- values

-- no quote begins a number
writes_first : (word rest : List ℕ) (z : ℤ) → Writes word z → is_quote (slice_index (word ++ rest) 0) ≡ false
writes_first word rest z (plain digits h) = from digits h
  where
    from : (digits : List ℕ) → IsDecimal digits → is_quote (slice_index (digits ++ rest) 0) ≡ false
    from digits (inl e) = rw e refl
    from digits (inr h) =
        let a : (h.0 == 34) ≡ false = ne_eqb h.0 34 (λ e. let low = h.3 in omega arith) in
        let b : (h.0 == 39) ≡ false = ne_eqb h.0 39 (λ e. let low = h.3 in omega arith) in
        rw (h.2, a, b) refl
writes_first word rest z (negative digits h) = refl
writes_first word rest z (hexadecimal digits h) = refl

-- the token that stands first
abbrev token_at : List ℕ → Option (Token × List ℕ)
token_at text =
    if is_quote (slice_index text 0) then option_map {U = Token × List ℕ} (λ q. (Token.Text q.0, q.1)) (quoted_at text)
    else option_map {U = Token × List ℕ} (λ n. (Token.Number n.0, n.1)) (number_at text)

token_to : (text : List ℕ) (token : Token) (rest : List ℕ) → IsToken text token rest → token_at text ≡ Some (token, rest)
token_to text (Token.Number z) rest h =
    let first : is_quote (slice_index text 0) ≡ false = ap (λ (t : List ℕ). is_quote (slice_index t 0)) h.1.joined ∙ writes_first h.0 rest z h.2 in
    let is = number_to text z rest h in
    rw (first, is) refl
token_to text (Token.Text inside) rest h =
    let first : is_quote (slice_index text 0) ≡ true = ap (λ (t : List ℕ). is_quote (slice_index t 0)) h.joined ∙ quote_is h.quote h.either in
    let is = quoted_to text (inside, rest) h in
    rw (first, is) refl

token_from : (text : List ℕ) (cut : Token × List ℕ) → token_at text ≡ Some cut → IsToken text cut.0 cut.1
token_from text cut e = from (is_quote (slice_index text 0)) e
  where
    quoted : (o : Option (List ℕ × List ℕ)) → quoted_at text ≡ o → option_map {U = Token × List ℕ} (λ q. (Token.Text q.0, q.1)) o ≡ Some cut → IsToken text cut.0 cut.1
    quoted None is e = absurd cc
    quoted (Some q) is e = let here : IsToken text (Token.Text q.0) q.1 = quoted_from text q is in subst (λ (x : Token × List ℕ). IsToken text x.0 x.1) (same_Some _ _ e) here

    number : (o : Option (ℤ × List ℕ)) → number_at text ≡ o → option_map {U = Token × List ℕ} (λ n. (Token.Number n.0, n.1)) o ≡ Some cut → IsToken text cut.0 cut.1
    number None is e = absurd cc
    number (Some n) is e = let here : IsToken text (Token.Number n.0) n.1 = number_from text n.0 n.1 is in subst (λ (x : Token × List ℕ). IsToken text x.0 x.1) (same_Some _ _ e) here

    from : (b : Bool) → cond b (option_map {U = Token × List ℕ} (λ q. (Token.Text q.0, q.1)) (quoted_at text)) (option_map {U = Token × List ℕ} (λ n. (Token.Number n.0, n.1)) (number_at text)) ≡ Some cut → IsToken text cut.0 cut.1
    from true e = quoted (quoted_at text) refl e
    from false e = number (number_at text) refl e

-- the predicate of a token, if it may be the value
abbrev token_read : ℕ → Field → Op → Token → List ℕ → Read Pred
token_read at field op (Token.Number z) rest =
    passed_or (WrongKind at) (not (is_text field)) (passed_or (NumberRange at) (fits_i64 z) (Found (pred_of field op (literals.Number z)) rest))
token_read at field op (Token.Text text) rest =
    passed_or (WrongKind at) (is_text field) (passed_or (BadGlob at) (not (is_match op) || is_glob text) (Found (pred_of field op (literal_of (is_match op) text)) rest))

-- a test before the value of a predicate
with_passed : (field : Field) (op : Op) (fault : FilterFault) (b : Bool) (next : Read Literal) → pred_with field op (passed_or fault b next) ≡ passed_or fault b (pred_with field op next)
with_passed field op fault true next = refl
with_passed field op fault false next = refl

-- two tests before it
with_both : (field : Field) (op : Op) (one other : FilterFault) (b c : Bool) (value : Literal) (rest : List ℕ)
    → pred_with field op (passed_or one b (passed_or other c (Found value rest))) ≡ passed_or one b (passed_or other c (Found (pred_of field op value) rest))
with_both field op one other true true value rest = refl
with_both field op one other true false value rest = refl
with_both field op one other false true value rest = refl
with_both field op one other false false value rest = refl

-- a value is read as the token that stands first
value_read : (whole : ℕ) (field : Field) (op : Op) (text : List ℕ)
    → pred_with field op (literal_at whole (is_text field) op text) ≡ read_or {A = Token × List ℕ} (Syntax (place whole text)) (token_at text) (λ cut. token_read (place whole text) field op cut.0 cut.1)
unfolding literal_at text_value number_value
value_read whole field op text = from (is_quote (slice_index text 0))
  where
    at : ℕ
    at = place whole text

    quoted : (o : Option (List ℕ × List ℕ))
        → pred_with field op (read_or (Syntax at) o (λ quoted. passed_or (WrongKind at) (is_text field) (passed_or (BadGlob at) (not (is_match op) || is_glob quoted.0) (Found (literal_of (is_match op) quoted.0) quoted.1))))
        ≡ read_or {A = Token × List ℕ} (Syntax at) (option_map {U = Token × List ℕ} (λ q. (Token.Text q.0, q.1)) o) (λ cut. token_read at field op cut.0 cut.1)
    quoted None = refl
    quoted (Some q) = with_both field op (WrongKind at) (BadGlob at) (is_text field) (not (is_match op) || is_glob q.0) (literal_of (is_match op) q.0) q.1

    number : (o : Option (ℤ × List ℕ))
        → pred_with field op (read_or (Syntax at) o (λ number. passed_or (WrongKind at) (not (is_text field)) (passed_or (NumberRange at) (fits_i64 number.0) (Found (literals.Number number.0) number.1))))
        ≡ read_or {A = Token × List ℕ} (Syntax at) (option_map {U = Token × List ℕ} (λ n. (Token.Number n.0, n.1)) o) (λ cut. token_read at field op cut.0 cut.1)
    number None = refl
    number (Some n) = with_both field op (WrongKind at) (NumberRange at) (not (is_text field)) (fits_i64 n.0) (literals.Number n.0) n.1

    from : (b : Bool)
        → pred_with field op (cond b (text_value at (is_text field) op text) (number_value at (is_text field) text))
        ≡ read_or {A = Token × List ℕ} (Syntax at) (cond b (option_map {U = Token × List ℕ} (λ q. (Token.Text q.0, q.1)) (quoted_at text)) (option_map {U = Token × List ℕ} (λ n. (Token.Number n.0, n.1)) (number_at text))) (λ cut. token_read at field op cut.0 cut.1)
    from true = quoted (quoted_at text)
    from false = number (number_at text)

-- a text after `~`
glob_gives : (at : ℕ) (field : Field) (text rest : List ℕ) (read : Read Pred)
    → TextGives at field ops.Glob text rest read ↔ (read ≡ passed_or (BadGlob at) (is_glob text) (Found (pred_of field ops.Glob (literals.Glob text)) rest))
glob_gives at field text rest read =
    let inner = where_lacks (IsGlob text) (read ≡ Found (pred_of field ops.Glob (literals.Glob text)) rest) (BadGlob at) (is_glob text) (Found (pred_of field ops.Glob (literals.Glob text)) rest) read (is_glob-Decides text) (λ e. e, λ e. e) in (
      λ h. elim h [ inl x ↦ inner.0 x.1 | inr y ↦ absurd (y.0 refl) ],
      λ e. inl (refl, inner.1 e),
    )

-- a text after another operator
plain_gives : (at : ℕ) (field : Field) (op : Op) (text rest : List ℕ) (read : Read Pred) → (op ≡ ops.Glob → ⊥)
    → TextGives at field op text rest read ↔ (read ≡ Found (pred_of field op (literals.Text text)) rest)
plain_gives at field op text rest read other = (
  λ h. elim h [ inl x ↦ absurd (other x.0) | inr y ↦ y.1 ],
  λ e. inr (other, e),
)

text_gives : (at : ℕ) (field : Field) (op : Op) (text rest : List ℕ) (read : Read Pred)
    → TextGives at field op text rest read ↔ (read ≡ passed_or (BadGlob at) (not (is_match op) || is_glob text) (Found (pred_of field op (literal_of (is_match op) text)) rest))
text_gives at field ops.Glob text rest read = glob_gives at field text rest read
text_gives at field ops.Eq text rest read = plain_gives at field ops.Eq text rest read (λ e. cc)
text_gives at field ops.Ne text rest read = plain_gives at field ops.Ne text rest read (λ e. cc)
text_gives at field ops.Lt text rest read = plain_gives at field ops.Lt text rest read (λ e. cc)
text_gives at field ops.Le text rest read = plain_gives at field ops.Le text rest read (λ e. cc)
text_gives at field ops.Gt text rest read = plain_gives at field ops.Gt text rest read (λ e. cc)
text_gives at field ops.Ge text rest read = plain_gives at field ops.Ge text rest read (λ e. cc)
text_gives at field ops.Bits text rest read = plain_gives at field ops.Bits text rest read (λ e. cc)

-- a token
token_gives : (at : ℕ) (field : Field) (op : Op) (token : Token) (rest : List ℕ) (read : Read Pred) → TokenGives at field op token rest read ↔ (read ≡ token_read at field op token rest)
token_gives at field op (Token.Number z) rest read =
    let found : Read Pred = Found (pred_of field op (literals.Number z)) rest in
    where_passes _ (WrongKind at) (is_text field) (passed_or (NumberRange at) (fits_i64 z) found) read
    (where_lacks (FitsSigned w64 z) (read ≡ found) (NumberRange at) (fits_i64 z) found read (fits_i64-Decides z) (λ e. e, λ e. e))
token_gives at field op (Token.Text text) rest read =
    where_lacks (IsTrue (is_text field)) (TextGives at field op text rest read) (WrongKind at) (is_text field) _ read (λ e. e, λ e. e) (text_gives at field op text rest read)

-- ---- the whole

value_gives : (whole : ℕ) (field : Field) (op : Op) (text : List ℕ) (read : Read Pred) → ValueGives whole field op text read ↔ (read ≡ pred_with field op (literal_at whole (is_text field) op text))
value_gives whole field op text read =
    let at : ℕ = place whole text in
    let here = where_cut (λ (cut : Token × List ℕ). IsToken text cut.0 cut.1) (λ cut. TokenGives at field op cut.0 cut.1 read) (Syntax at) (token_at text) (λ cut. token_read at field op cut.0 cut.1) read
    (λ cut. (token_from text cut, token_to text cut.0 cut.1)) (λ cut. token_gives at field op cut.0 cut.1 read) in
    (λ h. here.0 h ∙ sym (value_read whole field op text), λ e. here.1 (e ∙ value_read whole field op text))

operator_gives : (whole : ℕ) (field : Field) (text : List ℕ) (read : Read Pred) → OperatorGives whole field text read ↔ (read ≡ comparison_at whole field text)
unfolding comparison_at
operator_gives whole field text read =
    let at : ℕ = place whole text in
    where_cut (λ (cut : Op × List ℕ). IsOperator text cut.0 cut.1) _ (Syntax at) (op_at text) _ read
    (λ cut. (op_from text cut, op_to text cut))
    (λ cut. where_lacks (SuitsField field cut.0) _ (WrongKind at) (suits (is_text field) cut.0) (pred_with field cut.0 (literal_at whole (is_text field) cut.0 (skip cut.1))) read
    (suits-Decides (is_text field) cut.0)
    (where_gap (λ value. ValueGives whole field cut.0 value read) _ cut.1 (value_gives whole field cut.0 (skip cut.1) read)))

pub pred_is : (event : Name) (whole : ℕ) (text : List ℕ) (read : Read Pred) → PredIs event whole text read ↔ (read ≡ pred_at event whole text)
unfolding PredIs pred_at
pred_is event whole text read =
    let at : ℕ = place whole text in
    where_cut (λ (cut : List ℕ × List ℕ). BeginsWithName text cut.0 cut.1) _ (Syntax at) (name_at text) _ read
    (λ cut. (name_from text cut, name_to text cut))
    (λ cut. where_cut (IsFieldOf event cut.0) _ (NoField at) (find (is_field_named event cut.0) all_fields) _ read
    (λ field. (field_from event cut.0 field, field_to event cut.0 field))
    (λ field. where_gap (λ operator. OperatorGives whole field operator read) _ cut.1 (operator_gives whole field (skip cut.1) read)))
