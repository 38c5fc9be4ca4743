-- Predicates that can be read, and how their canonical texts are read.
use Rattle.std.proofs.Common.{◌≡◌, ◌≤◌, ◌||◌, ℕ, Bool, true, false, not, List, ◌∷◌, ◌++◌, Option, Some, None, refl, sym, ap, ◌∙◌, subst, arith, append_assoc, slice_index, ℤ, ◌==◌, find, ne_eqb, cond}
use Rattle.std.proofs.lemmas.Bool.{and_parts, or_from}
use Rattle.std.specs.Fmt.{signed_decimal}
use Rattle.ft_fields.specs.declared.event.Name.{Name}
use Rattle.ft_fields.specs.declared.field.Field.{Field}
use Rattle.ft_fields.specs.Fields.{field_text, is_field_named, all_fields, has_field, is_text}
use Rattle.ft_fields.proofs.FieldTable.{field_found}
use Rattle.ft_text.proofs.Spellings.{Apart, find_passes}
use Rattle.ft_text.specs.Ranged.{fits_i64}
use Rattle.ft_text.specs.Tokens.{is_gap, skip, name_at, is_quote, quoted_at, number_at}
use Rattle.ft_filter.specs.declared.fault.FilterFault.{FilterFault}
use Rattle.ft_filter.specs.declared.fault.FilterFault.TheVariants.{Syntax, NoField, WrongKind, BadGlob, NumberRange}
use Rattle.ft_filter.specs.declared.tree.Literal.{Literal}
use Rattle.ft_filter.specs.declared.tree.Literal.TheVariants as literals
use Rattle.ft_filter.specs.declared.tree.Op.{Op}
use Rattle.ft_filter.specs.declared.tree.Pred.{Pred}
use Rattle.ft_filter.specs.Canonical.{quoted, literal_text, pred_text}
use Rattle.ft_text.specs.Matching.{is_glob}
use Rattle.ft_filter.specs.Operators.{op_text, op_at}
use Rattle.ft_filter.specs.Predicate.{Read, Found, Stop, place, read_or, passed_or, is_match, literal_of, suits, text_value, number_value, literal_at, pred_with, comparison_at, pred_at}
use Rattle.ft_filter.proofs.Spelled.{IsQuotable, skip_gap, skip_none, field_name_again, name_first, op_again, op_first, quotes, quoted_again, quoted_first, quotable, number_again, number_first}

-- the value is one that can stand after the operator, for a field that holds texts or numbers
abbrev pub ValueFits : Bool → Op → Literal → Type 0
ValueFits text op (literals.Number number) = (text ≡ false) × (fits_i64 number ≡ true)
ValueFits text op (literals.Text bytes) = (text ≡ true) × (is_match op ≡ false) × IsQuotable bytes
ValueFits text op (literals.Glob bytes) = (text ≡ true) × (is_match op ≡ true) × (is_glob bytes ≡ true) × IsQuotable bytes

-- the predicate is one that can be read
pub record PredFits (event : Name) (pred : Pred) : Type 0 where
  pub owned : has_field event pred.field ≡ true
  pub suited : suits (is_text pred.field) pred.op ≡ true
  pub valued : ValueFits (is_text pred.field) pred.op pred.value

-- ---- what can be read is read again

-- a byte from 45 up is no space and no tab
no_gap : (byte : ℕ) → 45 ≤ byte → is_gap byte ≡ false
no_gap byte high = or_from (byte == 32) (byte == 9) (ne_eqb byte 32 (λ e. omega arith)) (ne_eqb byte 9 (λ e. omega arith))

-- a byte from 45 up is no quote
no_quote : (byte : ℕ) → 45 ≤ byte → is_quote byte ≡ false
no_quote byte high = or_from (byte == 34) (byte == 39) (ne_eqb byte 34 (λ e. omega arith)) (ne_eqb byte 39 (λ e. omega arith))

-- a number as the value
number_step : (whole : ℕ) (op : Op) (rest left : List ℕ) (number : ℤ) → is_quote (slice_index rest 0) ≡ false → number_at rest ≡ Some (number, left) → fits_i64 number ≡ true
    → literal_at whole false op rest ≡ Found (literals.Number number) left
unfolding literal_at number_value
number_step whole op rest left number first is fit = rw (first, is, fit) refl

-- a quoted text as the value
text_step : (whole : ℕ) (op : Op) (rest left bytes : List ℕ) → is_quote (slice_index rest 0) ≡ true → quoted_at rest ≡ Some (bytes, left) → is_match op ≡ false
    → literal_at whole true op rest ≡ Found (literals.Text bytes) left
unfolding literal_at text_value
text_step whole op rest left bytes first is other = rw (first, is, other) refl

-- a quoted glob as the value
glob_step : (whole : ℕ) (op : Op) (rest left bytes : List ℕ) → is_quote (slice_index rest 0) ≡ true → quoted_at rest ≡ Some (bytes, left) → is_match op ≡ true → is_glob bytes ≡ true
    → literal_at whole true op rest ≡ Found (literals.Glob bytes) left
unfolding literal_at text_value
glob_step whole op rest left bytes first is matched glob = rw (first, is, matched, glob) refl

-- a value's text is read
value_again : (whole : ℕ) (text : Bool) (op : Op) (value : Literal) (rest : List ℕ) → ValueFits text op value → Apart rest → literal_at whole text op (literal_text value ++ rest) ≡ Found value rest
value_again whole true op (literals.Number number) rest h apart = absurd (let e = h.0 in cc)
value_again whole false op (literals.Number number) rest h apart =
    number_step whole op (signed_decimal number ++ rest) rest number
    (no_quote _ (number_first number rest h.1)) (number_again number rest h.1 apart) h.1
value_again whole false op (literals.Text bytes) rest h apart = absurd (let e = h.0 in cc)
value_again whole true op (literals.Text bytes) rest h apart =
    let q = quotes bytes h.2 in
    text_step whole op (quoted bytes ++ rest) rest bytes (ap is_quote (quoted_first bytes rest q) ∙ q.quotes) (quoted_again bytes rest q) h.1
value_again whole false op (literals.Glob bytes) rest h apart = absurd (let e = h.0 in cc)
value_again whole true op (literals.Glob bytes) rest h apart =
    let q = quotes bytes h.3 in
    glob_step whole op (quoted bytes ++ rest) rest bytes (ap is_quote (quoted_first bytes rest q) ∙ q.quotes) (quoted_again bytes rest q) h.1 h.2

-- no space and no tab begins a value
value_first : (text : Bool) (op : Op) (value : Literal) (rest : List ℕ) → ValueFits text op value → is_gap (slice_index (literal_text value ++ rest) 0) ≡ false
value_first text op (literals.Number number) rest h = no_gap _ (number_first number rest h.1)
value_first text op (literals.Text bytes) rest h = let q = quotes bytes h.2 in ap is_gap (quoted_first bytes rest q) ∙ q.seen
value_first text op (literals.Glob bytes) rest h = let q = quotes bytes h.3 in ap is_gap (quoted_first bytes rest q) ∙ q.seen

-- an operator and a value
comparison_step : (whole : ℕ) (field : Field) (op : Op) (value : Literal) (rest behind left : List ℕ) → op_at rest ≡ Some (op, behind) → suits (is_text field) op ≡ true
    → literal_at whole (is_text field) op (skip behind) ≡ Found value left → comparison_at whole field rest ≡ Found (record { field = field; op = op; value = value }) left
unfolding comparison_at
comparison_step whole field op value rest behind left is suited valued = rw (is, suited, valued) refl

-- a field, an operator and a value
pred_step : (event : Name) (whole : ℕ) (field : Field) (pred : Pred) (text name behind left : List ℕ) → name_at text ≡ Some (name, behind) → find (is_field_named event name) all_fields ≡ Some field
    → comparison_at whole field (skip behind) ≡ Found pred left → pred_at event whole text ≡ Found pred left
unfolding pred_at
pred_step event whole field pred text name behind left is named compared = rw (is, named, compared) refl

-- a predicate's text, its parts taken apart
spelled : (pred : Pred) (rest : List ℕ) → pred_text pred ++ rest ≡ field_text pred.field ++ (32 ∷ (op_text pred.op ++ (32 ∷ (literal_text pred.value ++ rest))))
unfolding pred_text
spelled pred rest = simp append_assoc

-- a predicate's text is read
pub pred_again : (event : Name) (whole : ℕ) (pred : Pred) (rest : List ℕ) → PredFits event pred → Apart rest → pred_at event whole (pred_text pred ++ rest) ≡ Found pred rest
pred_again event whole pred rest h apart =
    let value : List ℕ = literal_text pred.value ++ rest in
    let behind_op : skip (32 ∷ value) ≡ value = skip_gap value ∙ skip_none value (value_first (is_text pred.field) pred.op pred.value rest h.valued) in
    let behind_name : skip (32 ∷ (op_text pred.op ++ (32 ∷ value))) ≡ op_text pred.op ++ (32 ∷ value) =
    skip_gap (op_text pred.op ++ (32 ∷ value)) ∙ skip_none (op_text pred.op ++ (32 ∷ value)) (op_first pred.op (32 ∷ value)) in
    let valued : literal_at whole (is_text pred.field) pred.op (skip (32 ∷ value)) ≡ Found pred.value rest =
    ap (literal_at whole (is_text pred.field) pred.op) behind_op ∙ value_again whole (is_text pred.field) pred.op pred.value rest h.valued apart in
    let compared : comparison_at whole pred.field (skip (32 ∷ (op_text pred.op ++ (32 ∷ value)))) ≡ Found pred rest =
    ap (comparison_at whole pred.field) behind_name ∙ comparison_step whole pred.field pred.op pred.value (op_text pred.op ++ (32 ∷ value)) (32 ∷ value) rest (op_again pred.op value) h.suited valued in
    ap (pred_at event whole) (spelled pred rest)
    ∙ pred_step event whole pred.field pred (field_text pred.field ++ (32 ∷ (op_text pred.op ++ (32 ∷ value)))) (field_text pred.field) (32 ∷ (op_text pred.op ++ (32 ∷ value))) rest
    (field_name_again pred.field (32 ∷ (op_text pred.op ++ (32 ∷ value))) refl) (field_found event pred.field h.owned) compared

-- a letter begins a predicate's text
pub pred_begins : (pred : Pred) (rest : List ℕ) → 45 ≤ slice_index (pred_text pred ++ rest) 0
pred_begins pred rest = subst (λ (t : List ℕ). 45 ≤ slice_index t 0) (sym (spelled pred rest)) (name_first pred.field (32 ∷ (op_text pred.op ++ (32 ∷ (literal_text pred.value ++ rest)))))

-- so no space and no tab does
pub pred_first : (pred : Pred) (rest : List ℕ) → skip (pred_text pred ++ rest) ≡ pred_text pred ++ rest
pred_first pred rest = skip_none (pred_text pred ++ rest) (no_gap _ (pred_begins pred rest))

-- ---- what is read can be read

-- what was found, if what follows it was read
found_parts : {A B : Type 0} (fault : FilterFault) (o : Option A) (next : A → Read B) (read : B) (rest : List ℕ) → read_or fault o next ≡ Found read rest → (a : A) × (o ≡ Some a) × (next a ≡ Found read rest)
found_parts fault None next read rest e = absurd cc
found_parts fault (Some a) next read rest e = (a, refl, e)

-- a test passed, if what follows it was read
passed_parts : {B : Type 0} (fault : FilterFault) (b : Bool) (next : Read B) (read : B) (rest : List ℕ) → passed_or fault b next ≡ Found read rest → (b ≡ true) × (next ≡ Found read rest)
passed_parts fault true next read rest e = (refl, e)
passed_parts fault false next read rest e = absurd cc

-- what was read
same_found : {A : Type 0} (a b : A) (x y : List ℕ) → Found a x ≡ Found b y → a ≡ b
same_found a b x y e = cc

-- a text that may stand after the operator fits as its value
literal_fits : (op : Op) (bytes : List ℕ) → (not (is_match op) || is_glob bytes) ≡ true → IsQuotable bytes → ValueFits true op (literal_of (is_match op) bytes)
literal_fits op bytes glob quotable = from (is_match op) refl glob
  where
    from : (b : Bool) → is_match op ≡ b → (not b || is_glob bytes) ≡ true → ValueFits true op (literal_of b bytes)
    from true matched glob = (refl, matched, glob, quotable)
    from false other glob = (refl, other, quotable)

-- a quoted text that was read can be read
text_fits : (at : ℕ) (text : Bool) (op : Op) (rest left : List ℕ) (value : Literal) → text_value at text op rest ≡ Found value left → ValueFits text op value
unfolding text_value
text_fits at text op rest left value e =
    let q = found_parts (Syntax at) (quoted_at rest) (λ quoted. passed_or (WrongKind at) text (passed_or (BadGlob at) (not (is_match op) || is_glob quoted.0) (Found (literal_of (is_match op) quoted.0) quoted.1))) value left e in
    let kind = passed_parts (WrongKind at) text (passed_or (BadGlob at) (not (is_match op) || is_glob q.0.0) (Found (literal_of (is_match op) q.0.0) q.0.1)) value left q.2 in
    let glob = passed_parts (BadGlob at) (not (is_match op) || is_glob q.0.0) (Found (literal_of (is_match op) q.0.0) q.0.1) value left kind.1 in
    let fit : ValueFits true op (literal_of (is_match op) q.0.0) = literal_fits op q.0.0 glob.0 (quotable rest q.0 q.1) in
    subst (ValueFits text op) (same_found (literal_of (is_match op) q.0.0) value q.0.1 left glob.1)
    (subst (λ b. ValueFits b op (literal_of (is_match op) q.0.0)) (sym kind.0) fit)

-- a flag that is not set
not_set : (b : Bool) → not b ≡ true → b ≡ false
not_set true h = absurd cc
not_set false h = refl

-- a number that was read can be read
number_fits : (at : ℕ) (text : Bool) (op : Op) (rest left : List ℕ) (value : Literal) → number_value at text rest ≡ Found value left → ValueFits text op value
unfolding number_value
number_fits at text op rest left value e =
    let n = found_parts (Syntax at) (number_at rest) (λ number. passed_or (WrongKind at) (not text) (passed_or (NumberRange at) (fits_i64 number.0) (Found (literals.Number number.0) number.1))) value left e in
    let kind = passed_parts (WrongKind at) (not text) (passed_or (NumberRange at) (fits_i64 n.0.0) (Found (literals.Number n.0.0) n.0.1)) value left n.2 in
    let range = passed_parts (NumberRange at) (fits_i64 n.0.0) (Found (literals.Number n.0.0) n.0.1) value left kind.1 in
    subst (ValueFits text op) (same_found (literals.Number n.0.0) value n.0.1 left range.1) (not_set text kind.0, range.0)

-- a value that was read can be read
value_fits : (whole : ℕ) (text : Bool) (op : Op) (rest left : List ℕ) (value : Literal) → literal_at whole text op rest ≡ Found value left → ValueFits text op value
unfolding literal_at
value_fits whole text op rest left value e = from (is_quote (slice_index rest 0)) e
  where
    from : (b : Bool) → cond b (text_value (place whole rest) text op rest) (number_value (place whole rest) text rest) ≡ Found value left → ValueFits text op value
    from true e = text_fits (place whole rest) text op rest left value e
    from false e = number_fits (place whole rest) text op rest left value e

-- the value of a predicate that was read
value_parts : (field : Field) (op : Op) (read : Read Literal) (pred : Pred) (left : List ℕ) → pred_with field op read ≡ Found pred left
    → (value : Literal) × (read ≡ Found value left) × (record { field = field; op = op; value = value } ≡ pred)
value_parts field op (Stop fault) pred left e = absurd cc
value_parts field op (Found value rest) pred left e = (value, cc, cc)

-- a predicate that was read can be read
pub pred_fits : (event : Name) (whole : ℕ) (text left : List ℕ) (pred : Pred) → pred_at event whole text ≡ Found pred left → PredFits event pred
unfolding pred_at comparison_at
pred_fits event whole text left pred e =
    let name = found_parts (Syntax (place whole text)) (name_at text) (λ name. read_or (NoField (place whole text)) (find (is_field_named event name.0) all_fields) (λ field. comparison_at whole field (skip name.1))) pred left e in
    let field = found_parts (NoField (place whole text)) (find (is_field_named event name.0.0) all_fields) (λ field. comparison_at whole field (skip name.0.1)) pred left name.2 in
    let rest : List ℕ = skip name.0.1 in
    let op = found_parts (Syntax (place whole rest)) (op_at rest) (λ op. passed_or (WrongKind (place whole rest)) (suits (is_text field.0) op.0) (pred_with field.0 op.0 (literal_at whole (is_text field.0) op.0 (skip op.1)))) pred left field.2 in
    let suited = passed_parts (WrongKind (place whole rest)) (suits (is_text field.0) op.0.0) (pred_with field.0 op.0.0 (literal_at whole (is_text field.0) op.0.0 (skip op.0.1))) pred left op.2 in
    let value = value_parts field.0 op.0.0 (literal_at whole (is_text field.0) op.0.0 (skip op.0.1)) pred left suited.1 in
    let named = find_passes (is_field_named event name.0.0) all_fields field.0 field.1 in
    let made : Pred = record { field = field.0; op = op.0.0; value = value.0 } in
    let fit : PredFits event made = record {
      owned = (and_parts _ (has_field event field.0) named).1;
      suited = suited.0;
      valued = value_fits whole (is_text field.0) op.0.0 (skip op.0.1) left value.0 value.1;
    } in
    subst (PredFits event) {x = made} value.2 fit
