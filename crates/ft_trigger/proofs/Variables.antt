-- Variables that can be read, and how their texts are read.
use Rattle.std.proofs.Common.{◌≡◌, ◌&&◌, ℕ, Bool, true, false, not, List, [], ◌∷◌, ◌++◌, length, drop, Option, Some, None, Result, Ok, refl, sym, ap, ◌∙◌, subst, codes, cond, append_assoc, append-nil, find, ◌==◌, eqb-true, if◌then◌else◌}
use Rattle.std.proofs.lemmas.Bool.{and_parts, and_from, not-false}
use Rattle.std.proofs.lemmas.List.{nil_from_length}
use Rattle.std.proofs.lemmas.List.Folds.{list_all-append}
use Rattle.std.proofs.lemmas.Option.{same_Some, cond_some}
use Rattle.std.specs.List.{list_all, starts_with}
use Rattle.std.specs.Option.{option_map_or, is_some}
use Rattle.std.specs.Str.{bytes_eq}
use Rattle.ft_fields.specs.declared.event.Name.{Name}
use Rattle.ft_fields.specs.declared.event.Name.TheVariants as names
use Rattle.ft_hist.specs.declared.fault.TriggerFault.{TriggerFault}
use Rattle.ft_hist.specs.declared.fault.TriggerFault.TheVariants.{Syntax, Duplicate, LeftOut}
use Rattle.ft_hist.specs.declared.label.Var.{Var}
use Rattle.ft_hist.specs.declared.label.Var.TheVariants as vars
use Rattle.ft_hist.specs.Hit.{same_name}
use Rattle.ft_head.specs.Draft.{Draft, unless, given_or, Stamp, Saved, Since, variable_stamp, var_of, is_taken, labels, is_part_left_out, with_variable, with_other}
use Rattle.ft_text.specs.Items.{is_name, Piece}
use Rattle.ft_text.specs.Tokens.{name_at}
use Rattle.ft_trigger.proofs.Inversions.{unless_parts, given_parts}
use Rattle.ft_text.proofs.Separators.{is_inner, bare_inner, names_bare}
use Rattle.ft_text.proofs.Spellings.{IsName, name_parts, front_same, bytes_same}

-- a variable's part
abbrev pub var_bytes : Var → List ℕ
var_bytes (vars.Saves name) = name ++ codes "=common_timestamp.usecs"
var_bytes (vars.Reads own source) = own ++ codes "=common_timestamp.usecs-$" ++ source

-- the variable is one that can be read
pub record VarFits (event : Name) (variable : Var) : Type 0 where
  pub kept : is_part_left_out (var_bytes variable) ≡ false
  pub apart : find (λ label. starts_with ◌==◌ (var_bytes variable) label.0) labels ≡ None
  pub inner : list_all is_inner (var_bytes variable) ≡ true
  pub apart_made : same_name event names.WakeupLatency ≡ false
  pub adds : (draft : Draft) (place : ℕ) → draft.variable ≡ None → with_other event draft (record { place = place; bytes = var_bytes variable }) ≡ Ok (record draft { variable = Some variable })

-- ---- stamps

-- the text of a stamp
abbrev stamp_text : Stamp → List ℕ
stamp_text Saved = codes "common_timestamp.usecs"
stamp_text (Since source) = codes "common_timestamp.usecs-$" ++ source

-- what a stamp reads is a name
abbrev StampFits : Stamp → Type 0
StampFits Saved = Unit {0}
StampFits (Since source) = list_all is_inner source ≡ true

-- a text that is a name can stand in a part
name_inner : (text : List ℕ) → is_name text ≡ true → list_all is_inner text ≡ true
name_inner text e = from (name_at text) refl e
  where
    from : (o : Option (List ℕ × List ℕ)) → name_at text ≡ o → option_map_or (λ cut. length cut.1 == 0) o false ≡ true → list_all is_inner text ≡ true
    from None is e = absurd cc
    from (Some cut) is e =
        let parts = name_parts text cut is in
        let ends : cut.1 ≡ [] = nil_from_length cut.1 (eqb-true (length cut.1) 0 e) in
        let whole : text ≡ cut.0 = parts.1 ∙ ap (λ (t : List ℕ). cut.0 ++ t) ends ∙ append-nil cut.0 in
        ap (list_all is_inner) whole ∙ bare_inner cut.0 (names_bare cut.0 parts.0.inside)

-- a stamp that is read has its text
stamp_parts : (value : List ℕ) (stamp : Stamp) → variable_stamp value ≡ Some stamp → (value ≡ stamp_text stamp) × StampFits stamp
unfolding variable_stamp
stamp_parts value stamp e = from (bytes_eq value (codes "common_timestamp.usecs")) refl e
  where
    since : (starts_with ◌==◌ value (codes "common_timestamp.usecs-$") && is_name (drop 24 value)) ≡ true → (value ≡ stamp_text (Since (drop 24 value))) × StampFits (Since (drop 24 value))
    since h =
        let both = and_parts (starts_with ◌==◌ value (codes "common_timestamp.usecs-$")) (is_name (drop 24 value)) h in
        (front_same value (codes "common_timestamp.usecs-$") both.0, name_inner (drop 24 value) both.1)

    from : (b : Bool) → bytes_eq value (codes "common_timestamp.usecs") ≡ b
        → cond b (Some Saved) (if starts_with ◌==◌ value (codes "common_timestamp.usecs-$") && is_name (drop 24 value) then Some (Since (drop 24 value)) else None) ≡ Some stamp → (value ≡ stamp_text stamp) × StampFits stamp
    from true is e = subst (λ (s : Stamp). (value ≡ stamp_text s) × StampFits s) (same_Some Saved stamp e) (bytes_same value (codes "common_timestamp.usecs") is, tt)
    from false is e =
        let found = cond_some (starts_with ◌==◌ value (codes "common_timestamp.usecs-$") && is_name (drop 24 value)) (Since (drop 24 value)) stamp e in
        subst (λ (s : Stamp). (value ≡ stamp_text s) × StampFits s) found.1 (since found.0)

-- ---- parts

-- a variable's part is its name, `=` and its stamp's text
var_spelled : (name : List ℕ) (stamp : Stamp) → name ++ 61 ∷ stamp_text stamp ≡ var_bytes (var_of name stamp)
var_spelled name Saved = refl
var_spelled name (Since source) = sym (append_assoc name (codes "=common_timestamp.usecs-$") source)

-- a stamp's text can stand in a part
stamp_inner : (stamp : Stamp) → StampFits stamp → list_all is_inner (stamp_text stamp) ≡ true
stamp_inner Saved h = refl
stamp_inner (Since source) h = h

-- so can a variable's
var_inner : (name : List ℕ) (stamp : Stamp) → IsName name → StampFits stamp → list_all is_inner (var_bytes (var_of name stamp)) ≡ true
var_inner name stamp named h =
    ap (list_all is_inner) (sym (var_spelled name stamp)) ∙ list_all-append is_inner name (61 ∷ stamp_text stamp)
    ∙ and_from (list_all is_inner name) (list_all is_inner (stamp_text stamp)) (bare_inner name (names_bare name named.inside)) (stamp_inner stamp h)

-- a variable's last step
abbrev var_added : Name → Draft → List ℕ → Stamp → Result Draft TriggerFault
var_added event draft name stamp = unless ((is_taken event name stamp, Duplicate) ∷ []) (Ok (record draft { variable = Some (var_of name stamp) }))

-- a variable's value
abbrev var_valued : Name → Draft → ℕ → List ℕ × List ℕ → Result Draft TriggerFault
var_valued event draft place cut = given_or (LeftOut place) (variable_stamp (drop 1 cut.1)) (var_added event draft cut.0)

-- a part whose steps are known adds its variable
pub var_adds : (event : Name) (draft : Draft) (place : ℕ) (bytes : List ℕ) (cut : List ℕ × List ℕ) (stamp : Stamp) → starts_with ◌==◌ bytes (codes "onmatch(") ≡ false → name_at bytes ≡ Some cut → starts_with ◌==◌ cut.1 (codes "=") ≡ true
    → same_name event names.WakeupLatency ≡ false → variable_stamp (drop 1 cut.1) ≡ Some stamp → is_taken event cut.0 stamp ≡ false → draft.variable ≡ None
    → with_other event draft (record { place = place; bytes = bytes }) ≡ Ok (record draft { variable = Some (var_of cut.0 stamp) })
unfolding with_variable
var_adds event draft place bytes cut stamp bare name equals apart stamped free none = rw (bare, name, equals, apart, none, stamped, free) refl

-- what a variable's part says
pub record VarParts (event : Name) (draft more : Draft) (bytes : List ℕ) : Type 0 where
  pub cut : List ℕ × List ℕ
  pub stamp : Stamp
  pub name : name_at bytes ≡ Some cut
  pub equals : starts_with ◌==◌ cut.1 (codes "=") ≡ true
  pub apart_made : same_name event names.WakeupLatency ≡ false
  pub none : is_some draft.variable ≡ false
  pub stamped : variable_stamp (drop 1 cut.1) ≡ Some stamp
  pub free : is_taken event cut.0 stamp ≡ false
  pub is : record draft { variable = Some (var_of cut.0 stamp) } ≡ more

-- a variable's part that is read says so
pub var_parts : (event : Name) (draft more : Draft) (part : Piece) → with_variable event draft part ≡ Ok more → VarParts event draft more part.bytes
unfolding with_variable
var_parts event draft more part e =
    let name = given_parts (Syntax part.place) (name_at part.bytes)
    (λ cut. unless ((not (starts_with ◌==◌ cut.1 (codes "=")), Syntax part.place) ∷ (same_name event names.WakeupLatency, LeftOut part.place) ∷ (is_some draft.variable, LeftOut part.place) ∷ []) (var_valued event draft part.place cut)) more e in
    let equals = unless_parts (not (starts_with ◌==◌ name.0.1 (codes "="))) (Syntax part.place) ((same_name event names.WakeupLatency, LeftOut part.place) ∷ (is_some draft.variable, LeftOut part.place) ∷ []) (var_valued event draft part.place name.0) more name.2 in
    let apart = unless_parts (same_name event names.WakeupLatency) (LeftOut part.place) ((is_some draft.variable, LeftOut part.place) ∷ []) (var_valued event draft part.place name.0) more equals.1 in
    let none = unless_parts (is_some draft.variable) (LeftOut part.place) [] (var_valued event draft part.place name.0) more apart.1 in
    let stamp = given_parts (LeftOut part.place) (variable_stamp (drop 1 name.0.1)) (var_added event draft name.0.0) more none.1 in
    let free = unless_parts (is_taken event name.0.0 stamp.0) Duplicate [] (Ok (record draft { variable = Some (var_of name.0.0 stamp.0) })) more stamp.2 in
    record {
      cut = name.0;
      stamp = stamp.0;
      name = name.1;
      equals = not-false (starts_with ◌==◌ name.0.1 (codes "=")) equals.0;
      apart_made = apart.0;
      none = none.0;
      stamped = stamp.1;
      free = free.0;
      is = (let done = free.1 in cc);
    }

-- the variable of a part that is read can be read again
pub var_fits : (event : Name) (draft more : Draft) (part : Piece) → is_part_left_out part.bytes ≡ false → find (λ label. starts_with ◌==◌ part.bytes label.0) labels ≡ None
    → starts_with ◌==◌ part.bytes (codes "onmatch(") ≡ false → with_variable event draft part ≡ Ok more → (variable : Var) × (record draft { variable = Some variable } ≡ more) × VarFits event variable
var_fits event draft more part kept apart bare e =
    let p = var_parts event draft more part e in
    let cut = name_parts part.bytes p.cut p.name in
    let stamp = stamp_parts (drop 1 p.cut.1) p.stamp p.stamped in
    let behind : p.cut.1 ≡ 61 ∷ stamp_text p.stamp = front_same p.cut.1 (codes "=") p.equals ∙ ap (λ (t : List ℕ). 61 ∷ t) stamp.0 in
    let same : part.bytes ≡ var_bytes (var_of p.cut.0 p.stamp) = cut.1 ∙ ap (λ (t : List ℕ). p.cut.0 ++ t) behind ∙ var_spelled p.cut.0 p.stamp in (
      var_of p.cut.0 p.stamp,
      p.is,
      record {
        kept = subst (λ (t : List ℕ). is_part_left_out t ≡ false) same kept;
        apart = subst (λ (t : List ℕ). find (λ label. starts_with ◌==◌ t label.0) labels ≡ None) same apart;
        inner = var_inner p.cut.0 p.stamp cut.0 stamp.1;
        apart_made = p.apart_made;
        adds = λ other place none. var_adds event other place (var_bytes (var_of p.cut.0 p.stamp)) p.cut p.stamp (subst (λ (t : List ℕ). starts_with ◌==◌ t (codes "onmatch(") ≡ false) same bare) (subst (λ (t : List ℕ). name_at t ≡ Some p.cut) same p.name) p.equals p.apart_made p.stamped p.free none;
      },
    )
