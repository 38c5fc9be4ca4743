-- The words of a predicate: what is found is the cut that the relations say.
use Rattle.std.proofs.Common.{◌↔◌, ◌≡◌, ◌≢◌, ◌<◌, ◌≤◌, ◌⊎◌, ℕ, zero, suc, Bool, true, false, inl, inr, not, subst, cond, List, [], ◌∷◌, ◌++◌, take, drop, length, get_or, Option, Some, None, refl, sym, ap, ◌∙◌, arith, slice_index, ◌==◌, find, ne_eqb, eq-eqb, codes}
use Rattle.std.proofs.Math.Dec.{eqb-suc-zero}
use Rattle.std.proofs.lemmas.Bool.{cases_eq, and_parts}
use Rattle.std.proofs.lemmas.List.{take_at, drop_at}
use Rattle.std.proofs.lemmas.List.Elements.{Contains-append_right}
use Rattle.std.proofs.lemmas.Option.{same_Some, cond_some, none-some}
use Rattle.std.proofs.lemmas.Slice.Eq.{bytes_eq-Decides}
use Rattle.std.specs.Prelude.{Contains, option_map, if◌then◌else◌}
use Rattle.std.specs.List.{prefix_len, list_all, starts_with}
use Rattle.std.specs.Str.{bytes_eq}
use Rattle.ft_fields.specs.declared.event.Name.{Name}
use Rattle.ft_fields.specs.declared.field.Field.{Field}
use Rattle.ft_fields.specs.Fields.{field_text, is_field_named, all_fields, has_field}
use Rattle.ft_fields.proofs.FieldTable.{field_found}
use Rattle.ft_text.proofs.Spellings.{find_passes}
use Rattle.ft_text.proofs.Runs.{IsRun, run_len, run_splits, label_joined}
use Rattle.ft_text.specs.Tokens.{is_gap, skip, begins_name, is_in_name, name_at, is_quote, cut_at, quoted_at}
use Rattle.ft_filter.specs.declared.tree.Op.{Op}
use Rattle.ft_filter.specs.declared.tree.Op.TheVariants as ops
use Rattle.ft_filter.specs.Operators.{op_text, all_ops, op_at}
use Rattle.ft_filter.specs.PredIs.{IsBehindGap, BeginsWithName, IsFieldOf, IsOperator, IsQuoted}
use Rattle.ft_filter.proofs.Spelled.{quote_cases, quotes_found}

-- a text's run is found
run_found : (p : ℕ → Bool) (text run rest : List ℕ) → IsRun p text run rest → (take (prefix_len p text) text ≡ run) × (drop (prefix_len p text) text ≡ rest)
run_found p text run rest h =
    let len = run_len p run rest h.passes h.stops in
    rw h.joined (rw len (take_at run rest (length run) refl, drop_at run rest (length run) refl))

-- ---- gaps

-- what is after a gap
pub gap_to : (text rest : List ℕ) → IsBehindGap text rest → skip text ≡ rest
gap_to text rest h = (run_found is_gap text h.gap rest (record { joined = h.joined; passes = h.gaps; stops = h.longest })).1

pub gap_from : (text : List ℕ) → IsBehindGap text (skip text)
gap_from text = let r = run_splits is_gap text in record { gap = take (prefix_len is_gap text) text; joined = r.joined; gaps = r.passes; longest = r.stops }

-- ---- names

pub name_to : (text : List ℕ) (cut : List ℕ × List ℕ) → BeginsWithName text cut.0 cut.1 → name_at text ≡ Some cut
unfolding name_at
name_to text cut h =
    let begins = h.begins in
    let run = run_found is_in_name text cut.0 cut.1 (record { joined = h.joined; passes = h.letters; stops = h.longest }) in
    rw (begins, run.0, run.1) refl

pub name_from : (text : List ℕ) (cut : List ℕ × List ℕ) → name_at text ≡ Some cut → BeginsWithName text cut.0 cut.1
unfolding name_at
name_from text cut e =
    let begins = cond_some (begins_name (slice_index text 0)) (take (prefix_len is_in_name text) text, drop (prefix_len is_in_name text) text) cut e in
    let r = run_splits is_in_name text in
    let here : BeginsWithName text (take (prefix_len is_in_name text) text) (drop (prefix_len is_in_name text) text) =
    record { joined = r.joined; begins = begins.0; letters = r.passes; longest = r.stops } in
    subst (λ (x : List ℕ × List ℕ). BeginsWithName text x.0 x.1) begins.1 here

-- ---- fields

pub field_to : (event : Name) (name : List ℕ) (field : Field) → IsFieldOf event name field → find (is_field_named event name) all_fields ≡ Some field
field_to event name field h = ap (λ (t : List ℕ). find (is_field_named event t) all_fields) h.0 ∙ field_found event field h.1

pub field_from : (event : Name) (name : List ℕ) (field : Field) → find (is_field_named event name) all_fields ≡ Some field → IsFieldOf event name field
field_from event name field e =
    let both = and_parts (bytes_eq (field_text field) name) (has_field event field) (find_passes (is_field_named event name) all_fields field e) in
    (sym ((bytes_eq-Decides (field_text field) name).0 both.0), both.1)

-- ---- operators

-- an operator of two bytes is found wherever it stands
pub op_long : (op : Op) (rest : List ℕ) → 2 ≤ length (op_text op) → op_at (op_text op ++ rest) ≡ Some (op, rest)
unfolding op_at
op_long ops.Eq rest long = refl
op_long ops.Ne rest long = refl
op_long ops.Le rest long = refl
op_long ops.Ge rest long = refl
op_long ops.Lt rest long = absurd (omega arith)
op_long ops.Gt rest long = absurd (omega arith)
op_long ops.Bits rest long = absurd (omega arith)
op_long ops.Glob rest long = absurd (omega arith)

-- `<` and `>` before another byte than `=`
less_found : (rest : List ℕ) → slice_index rest 0 ≢ 61 → op_at (60 ∷ rest) ≡ Some (ops.Lt, rest)
unfolding op_at
less_found [] other = refl
less_found (byte ∷ rest) other = let e = ne_eqb 61 byte (λ f. other (sym f)) in rw e refl

more_found : (rest : List ℕ) → slice_index rest 0 ≢ 61 → op_at (62 ∷ rest) ≡ Some (ops.Gt, rest)
unfolding op_at
more_found [] other = refl
more_found (byte ∷ rest) other = let e = ne_eqb 61 byte (λ f. other (sym f)) in rw e refl

-- `&` before another byte than `&`
bits_found : (rest : List ℕ) → slice_index rest 0 ≢ 38 → op_at (38 ∷ rest) ≡ Some (ops.Bits, rest)
unfolding op_at
bits_found [] other = refl
bits_found (byte ∷ rest) other = let e = ne_eqb 38 byte (λ f. other (sym f)) in rw e refl

glob_found : (rest : List ℕ) → op_at (126 ∷ rest) ≡ Some (ops.Glob, rest)
unfolding op_at
glob_found rest = refl

-- two of them are none
bits_twice : (rest : List ℕ) → op_at (38 ∷ 38 ∷ rest) ≡ None
unfolding op_at
bits_twice rest = refl

-- no longer operator stands there
no_longer : (byte : ℕ) (op other : Op) (rest : List ℕ) → op_text other ≡ byte ∷ 61 ∷ [] → length (op_text op) ≡ 1
    → ((behind : List ℕ) → byte ∷ rest ≡ op_text other ++ behind → length (op_text other) ≤ length (op_text op)) → slice_index rest 0 ≢ 61
no_longer byte op other [] is one longest e = absurd (omega arith)
no_longer byte op other (b ∷ rest) is one longest e =
    let stands : byte ∷ b ∷ rest ≡ op_text other ++ rest = ap (λ (x : ℕ). byte ∷ x ∷ rest) e ∙ sym (ap (λ (t : List ℕ). t ++ rest) is) in
    let le = longest rest stands in
    let two : length (op_text other) ≡ 2 = ap length is in
    absurd (omega arith)

pub op_to : (text : List ℕ) (cut : Op × List ℕ) → IsOperator text cut.0 cut.1 → op_at text ≡ Some cut
op_to text cut h = ap op_at h.joined ∙ from cut.0 cut.1 h.alone (λ other behind e. h.longest other behind (h.joined ∙ e))
  where
    from : (op : Op) (rest : List ℕ) → (op ≡ ops.Bits → slice_index rest 0 ≢ 38) → ((other : Op) (behind : List ℕ) → op_text op ++ rest ≡ op_text other ++ behind → length (op_text other) ≤ length (op_text op))
        → op_at (op_text op ++ rest) ≡ Some (op, rest)
    from ops.Eq rest alone longest = op_long ops.Eq rest (omega arith)
    from ops.Ne rest alone longest = op_long ops.Ne rest (omega arith)
    from ops.Le rest alone longest = op_long ops.Le rest (omega arith)
    from ops.Ge rest alone longest = op_long ops.Ge rest (omega arith)
    from ops.Lt rest alone longest = less_found rest (no_longer 60 ops.Lt ops.Le rest refl refl (longest ops.Le))
    from ops.Gt rest alone longest = more_found rest (no_longer 62 ops.Gt ops.Ge rest refl refl (longest ops.Ge))
    from ops.Bits rest alone longest = bits_found rest (alone refl)
    from ops.Glob rest alone longest = glob_found rest

-- each operator has one byte or two
op_some : (op : Op) → 1 ≤ length (op_text op)
op_some ops.Eq = omega arith
op_some ops.Ne = omega arith
op_some ops.Le = omega arith
op_some ops.Ge = omega arith
op_some ops.Lt = omega arith
op_some ops.Gt = omega arith
op_some ops.Bits = omega arith
op_some ops.Glob = omega arith

op_short : (op : Op) → (length (op_text op) ≡ 1) ⊎ (2 ≤ length (op_text op))
op_short ops.Eq = inr (omega arith)
op_short ops.Ne = inr (omega arith)
op_short ops.Le = inr (omega arith)
op_short ops.Ge = inr (omega arith)
op_short ops.Lt = inl refl
op_short ops.Gt = inl refl
op_short ops.Bits = inl refl
op_short ops.Glob = inl refl

-- what is found stands there
op_stands : (text : List ℕ) (cut : Op × List ℕ) → op_at text ≡ Some cut → text ≡ op_text cut.0 ++ cut.1
unfolding op_at
op_stands text cut e = from (starts_with ◌==◌ text (codes "&&")) e
  where
    found : (o : Option Op) → find (λ op. starts_with ◌==◌ text (op_text op)) all_ops ≡ o → option_map (λ op. (op, drop (length (op_text op)) text)) o ≡ Some cut → text ≡ op_text cut.0 ++ cut.1
    found None is e = absurd cc
    found (Some op) is e =
        let stands = label_joined (op_text op) text (find_passes (λ op. starts_with ◌==◌ text (op_text op)) all_ops op is) in
        subst (λ (x : Op × List ℕ). text ≡ op_text x.0 ++ x.1) (same_Some _ _ e) stands

    from : (b : Bool) → cond b None (option_map (λ op. (op, drop (length (op_text op)) text)) (find (λ op. starts_with ◌==◌ text (op_text op)) all_ops)) ≡ Some cut → text ≡ op_text cut.0 ++ cut.1
    from true e = absurd cc
    from false e = found (find (λ op. starts_with ◌==◌ text (op_text op)) all_ops) refl e

-- a `&` that is found stands alone
op_alone : (text rest : List ℕ) → op_at text ≡ Some (ops.Bits, rest) → text ≡ 38 ∷ rest → slice_index rest 0 ≢ 38
op_alone text [] e stands first = absurd (omega arith)
op_alone text (byte ∷ rest) e stands first =
    let twice : text ≡ 38 ∷ 38 ∷ rest = stands ∙ ap (λ (x : ℕ). 38 ∷ x ∷ rest) first in
    none-some (ops.Bits, byte ∷ rest) (sym (ap op_at twice ∙ bits_twice rest) ∙ e)

pub op_from : (text : List ℕ) (cut : Op × List ℕ) → op_at text ≡ Some cut → IsOperator text cut.0 cut.1
op_from text cut e =
    let stands = op_stands text cut e in
    record {
      joined = stands;
      longest = λ other behind also. elim (op_short other) [
        | inl one ↦ let some = op_some cut.0 in omega arith
        | inr two ↦
            let found : Some (other, behind) ≡ Some cut = sym (ap op_at also ∙ op_long other behind two) ∙ e in
            let same : other ≡ cut.0 = ap (λ (x : Op × List ℕ). x.0) (same_Some _ _ found) in
            let len : length (op_text other) ≡ length (op_text cut.0) = ap (λ (o : Op). length (op_text o)) same in
            omega arith
      ];
      alone = λ bits.
          let is : op_at text ≡ Some (ops.Bits, cut.1) = e ∙ ap (λ (o : Op). Some (o, cut.1)) bits in
          op_alone text cut.1 is (stands ∙ ap (λ (o : Op). op_text o ++ cut.1) bits);
    }

-- ---- quoted texts

-- a text in which no byte is the mark does not hold it
pub free_of : (mark : ℕ) (text : List ℕ) → list_all (λ byte. not (byte == mark)) text ≡ true → Contains text mark → ⊥
free_of mark text all has = from text all has.0 has.1 has.2
  where
    from : (text : List ℕ) → list_all (λ byte. not (byte == mark)) text ≡ true → (k : ℕ) → k < length text → get_or text k mark ≡ mark → ⊥
    from [] all k lt at = absurd (omega arith)
    from (byte ∷ text) all zero lt at =
        let here = (and_parts (not (byte == mark)) _ all).0 in
        let is = eq-eqb byte mark at in
        let f : false ≡ true = rw is at here in
        cc
    from (byte ∷ text) all (suc k) lt at = from text (and_parts (not (byte == mark)) _ all).1 k (omega arith) at

-- and one that does not hold it has no such byte
pub all_free : (mark : ℕ) (text : List ℕ) → (Contains text mark → ⊥) → list_all (λ byte. not (byte == mark)) text ≡ true
all_free mark [] free = refl
all_free mark (byte ∷ text) free =
    let other : (byte == mark) ≡ false = ne_eqb byte mark (λ e. free (0, omega arith, e)) in
    let more = all_free mark text (λ h. free (Contains-append_right (byte ∷ []) text mark h)) in
    rw other more

-- a quote is one of two
pub quote_is : (mark : ℕ) → (mark ≡ 34) ⊎ (mark ≡ 39) → is_quote mark ≡ true
quote_is mark (inl e) = rw e refl
quote_is mark (inr e) = rw e refl

pub quoted_to : (text : List ℕ) (cut : List ℕ × List ℕ) → IsQuoted text cut.0 cut.1 → quoted_at text ≡ Some cut
quoted_to text cut h = ap quoted_at h.joined ∙ quotes_found h.quote cut.0 cut.1 (quote_is h.quote h.either) (all_free h.quote cut.0 h.free)

-- what is cut stands before and after the mark
cut_stands : (mark : ℕ) (text front back : List ℕ) (cut : List ℕ × List ℕ) → IsRun (λ byte. not (byte == mark)) text front back
    → (if length back == 0 then None else Some (front, drop 1 back)) ≡ Some cut → (text ≡ cut.0 ++ mark ∷ cut.1) × (Contains cut.0 mark → ⊥)
cut_stands mark text front [] cut run e = absurd cc
cut_stands mark text front (byte ∷ back) cut run e =
    let some = rw (eqb-suc-zero (length back)) at e in
    let same = same_Some _ _ some in
    let stops : not (byte == mark) ≡ false = run.stops in
    let is : byte ≡ mark = elim (cases_eq byte mark) [ inl is ↦ is | inr other ↦ let f = ne_eqb byte mark other in absurd (let g : true ≡ false = rw f at stops in cc) ] in
    let joined : text ≡ front ++ mark ∷ back = run.joined ∙ ap (λ (x : ℕ). front ++ x ∷ back) is in
    subst (λ (x : List ℕ × List ℕ). (text ≡ x.0 ++ mark ∷ x.1) × (Contains x.0 mark → ⊥)) same (joined, free_of mark front run.passes)

pub quoted_from : (text : List ℕ) (cut : List ℕ × List ℕ) → quoted_at text ≡ Some cut → IsQuoted text cut.0 cut.1
unfolding quoted_at
quoted_from [] cut e = absurd cc
quoted_from (mark ∷ text) cut e = from (is_quote mark) refl e
  where
    from : (b : Bool) → is_quote mark ≡ b → cond b (cut_at mark text) None ≡ Some cut → IsQuoted (mark ∷ text) cut.0 cut.1
    from false is e = absurd cc
    from true is e =
        let p : ℕ → Bool = λ byte. not (byte == mark) in
        let stands = cut_stands mark text (take (prefix_len p text) text) (drop (prefix_len p text) text) cut (run_splits p text) e in
        record { quote = mark; either = quote_cases mark is; joined = ap (λ (t : List ℕ). mark ∷ t) stands.0; free = stands.1 }

-- ---- the words, both ways

pub gaps : (text rest : List ℕ) → (skip text ≡ rest) ↔ IsBehindGap text rest
gaps text rest = (λ e. subst (IsBehindGap text) e (gap_from text), gap_to text rest)

pub names : (text name rest : List ℕ) → (name_at text ≡ Some (name, rest)) ↔ BeginsWithName text name rest
names text name rest = (name_from text (name, rest), name_to text (name, rest))

pub operators : (text : List ℕ) (op : Op) (rest : List ℕ) → (op_at text ≡ Some (op, rest)) ↔ IsOperator text op rest
operators text op rest = (op_from text (op, rest), op_to text (op, rest))

pub quoted_texts : (text inside rest : List ℕ) → (quoted_at text ≡ Some (inside, rest)) ↔ IsQuoted text inside rest
quoted_texts text inside rest = (quoted_from text (inside, rest), quoted_to text (inside, rest))
