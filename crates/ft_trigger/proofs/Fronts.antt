-- Which forms of parts stand in front, and what a part's fault depends on.
use Rattle.std.proofs.Common.{◌≡◌, ◌+◌, ◌||◌, ◌==◌, ℕ, Bool, true, false, not, cond, List, [], ◌∷◌, ◌++◌, length, drop, Option, Some, None, Result, Ok, Err, refl, sym, ap, ◌∙◌, subst, arith, codes, find, length-append}
use Rattle.std.proofs.Math.Bool.{or-false}
use Rattle.std.proofs.lemmas.List.{same_from_push}
use Rattle.std.proofs.lemmas.List.Folds.{list_any-append}
use Rattle.std.specs.List.{starts_with}
use Rattle.std.specs.Option.{option_map_or, is_some}
use Rattle.ft_fields.specs.declared.event.Name.{Name}
use Rattle.ft_fields.specs.declared.event.Name.TheVariants as names
use Rattle.ft_hist.specs.declared.item.KeyItem.{KeyItem}
use Rattle.ft_hist.specs.declared.label.Var.{Var}
use Rattle.ft_hist.specs.Hit.{same_name}
use Rattle.ft_head.specs.declared.draft.Kind.{Kind}
use Rattle.ft_head.specs.declared.draft.Kind.TheVariants.{Keys, Values, Sort, Size}
use Rattle.ft_hist.specs.declared.fault.TriggerFault.{TriggerFault}
use Rattle.ft_hist.specs.declared.fault.TriggerFault.TheVariants.{Syntax, Duplicate, BadSize, LeftOut}
use Rattle.ft_head.specs.Draft.{Draft, empty_draft, ◌>>=◌, unless, given_or, items_of, with_key, with_value, with_sort, size_of, variable_stamp, is_taken, var_of, labels, is_part_left_out, action_of, with_kind, with_named, with_variable, with_handed, with_onmatch, with_other, with_part}
use Rattle.ft_head.specs.Onmatch.{Action, Handed, handed_of}
use Rattle.ft_text.specs.Items.{Piece, Word}
use Rattle.ft_text.specs.Tokens.{name_at}
use Rattle.ft_trigger.specs.FirstFaults.{AreRead, nothing, one_more, of_parts}
use Rattle.ft_trigger.specs.Forms.{Form, OfKind, OfOnmatch, OfVariable, form_of, same_form, stands, has_read}
use Rattle.ft_trigger.proofs.Actions.{onmatch_parts}
use Rattle.ft_trigger.proofs.Inversions.{then_parts, unless_parts, given_parts}
use Rattle.ft_trigger.proofs.Variables.{var_parts}

-- ---- one more part

-- a part of a form that has not been read is read, and of others as many as before
record Grows (draft more : Draft) (made : Form) : Type 0 where
  new : has_read made draft ≡ false
  grown : (form : Form) → has_read form more ≡ (has_read form draft || same_form form made)

with_keys : (draft : Draft) (keys : List KeyItem) → is_some draft.keys ≡ false → (form : Form) → has_read form (record draft { keys = Some keys }) ≡ (has_read form draft || same_form form (OfKind Keys))
with_keys draft keys new (OfKind Keys) = rw new refl
with_keys draft keys new form = sym (or-false (has_read form draft))

with_values : (draft : Draft) (values : List Word) → is_some draft.values ≡ false → (form : Form) → has_read form (record draft { values = Some values }) ≡ (has_read form draft || same_form form (OfKind Values))
with_values draft values new (OfKind Values) = rw new refl
with_values draft values new form = sym (or-false (has_read form draft))

with_sorts : (draft : Draft) (sort : List Word) → is_some draft.sort ≡ false → (form : Form) → has_read form (record draft { sort = Some sort }) ≡ (has_read form draft || same_form form (OfKind Sort))
with_sorts draft sort new (OfKind Sort) = rw new refl
with_sorts draft sort new form = sym (or-false (has_read form draft))

with_size : (draft : Draft) (size : ℕ) → is_some draft.size ≡ false → (form : Form) → has_read form (record draft { size = Some size }) ≡ (has_read form draft || same_form form (OfKind Size))
with_size draft size new (OfKind Size) = rw new refl
with_size draft size new form = sym (or-false (has_read form draft))

with_action : (draft : Draft) (action : Action) → is_some draft.onmatch ≡ false → (form : Form) → has_read form (record draft { onmatch = Some action }) ≡ (has_read form draft || same_form form OfOnmatch)
with_action draft action new OfOnmatch = rw new refl
with_action draft action new (OfKind Keys) = sym (or-false (has_read (OfKind Keys) draft))
with_action draft action new (OfKind Values) = sym (or-false (has_read (OfKind Values) draft))
with_action draft action new (OfKind Sort) = sym (or-false (has_read (OfKind Sort) draft))
with_action draft action new (OfKind Size) = sym (or-false (has_read (OfKind Size) draft))
with_action draft action new form = sym (or-false (has_read form draft))

with_var : (draft : Draft) (variable : Var) → is_some draft.variable ≡ false → (form : Form) → has_read form (record draft { variable = Some variable }) ≡ (has_read form draft || same_form form OfVariable)
with_var draft variable new OfVariable = rw new refl
with_var draft variable new (OfKind Keys) = sym (or-false (has_read (OfKind Keys) draft))
with_var draft variable new (OfKind Values) = sym (or-false (has_read (OfKind Values) draft))
with_var draft variable new (OfKind Sort) = sym (or-false (has_read (OfKind Sort) draft))
with_var draft variable new (OfKind Size) = sym (or-false (has_read (OfKind Size) draft))
with_var draft variable new form = sym (or-false (has_read form draft))

module _ (event : Name) where
  -- a part of a kind
  kind_grows : (draft more : Draft) (kind : Kind) (place : ℕ) (text : List ℕ) → with_kind event draft kind place text ≡ Ok more → Grows draft more (OfKind kind)
  unfolding with_kind
  kind_grows draft more Keys place text e =
      let new = unless_parts (is_some draft.keys) Duplicate [] (items_of (with_key event) place text >>= (λ keys. Ok (record draft { keys = Some keys }))) more e in
      let keys = then_parts (items_of (with_key event) place text) (λ keys. Ok (record draft { keys = Some keys })) more new.1 in
      let same : record draft { keys = Some keys.0 } ≡ more = (let done = keys.2 in cc) in
      subst (λ (d : Draft). Grows draft d (OfKind Keys)) same (record { new = new.0; grown = with_keys draft keys.0 new.0 })
  kind_grows draft more Values place text e =
      let new = unless_parts (is_some draft.values) Duplicate [] (items_of (with_value event) place text >>= (λ words. Ok (record draft { values = Some words }))) more e in
      let words = then_parts (items_of (with_value event) place text) (λ words. Ok (record draft { values = Some words })) more new.1 in
      let same : record draft { values = Some words.0 } ≡ more = (let done = words.2 in cc) in
      subst (λ (d : Draft). Grows draft d (OfKind Values)) same (record { new = new.0; grown = with_values draft words.0 new.0 })
  kind_grows draft more Sort place text e =
      let new = unless_parts (is_some draft.sort) Duplicate [] (items_of with_sort place text >>= (λ words. Ok (record draft { sort = Some words }))) more e in
      let words = then_parts (items_of with_sort place text) (λ words. Ok (record draft { sort = Some words })) more new.1 in
      let same : record draft { sort = Some words.0 } ≡ more = (let done = words.2 in cc) in
      subst (λ (d : Draft). Grows draft d (OfKind Sort)) same (record { new = new.0; grown = with_sorts draft words.0 new.0 })
  kind_grows draft more Size place text e =
      let new = unless_parts (is_some draft.size) Duplicate [] (given_or BadSize (size_of text) (λ size. Ok (record draft { size = Some size }))) more e in
      let size = given_parts BadSize (size_of text) (λ size. Ok (record draft { size = Some size })) more new.1 in
      let same : record draft { size = Some size.0 } ≡ more = (let done = size.2 in cc) in
      subst (λ (d : Draft). Grows draft d (OfKind Size)) same (record { new = new.0; grown = with_size draft size.0 new.0 })

  -- a part of no kind
  other_grows : (draft more : Draft) (part : Piece) (begins : Bool) → cond begins (with_onmatch event draft part) (with_variable event draft part) ≡ Ok more → Grows draft more (cond begins OfOnmatch OfVariable)
  other_grows draft more part true e =
      let v = onmatch_parts event draft more part e in
      subst (λ (d : Draft). Grows draft d OfOnmatch) v.is (record { new = v.none; grown = with_action draft v.action v.none })
  other_grows draft more part false e =
      let v = var_parts event draft more part e in
      subst (λ (d : Draft). Grows draft d OfVariable) v.is (record { new = v.none; grown = with_var draft (var_of v.cut.0 v.stamp) v.none })

  -- a part
  part_grows : (draft more : Draft) (part : Piece) → with_part event draft part ≡ Ok more → Grows draft more (form_of part.bytes)
  unfolding with_part
  part_grows draft more part e = from (find (λ label. starts_with ◌==◌ part.bytes label.0) labels) kept.1
    where
      of_label : List ℕ × Kind → Result Draft TriggerFault
      of_label label = with_kind event draft label.1 (part.place + length label.0) (drop (length label.0) part.bytes)

      kept : (is_part_left_out part.bytes ≡ false) × (option_map_or of_label (find (λ label. starts_with ◌==◌ part.bytes label.0) labels) (with_other event draft part) ≡ Ok more)
      kept = unless_parts (is_part_left_out part.bytes) (LeftOut part.place) [] (option_map_or of_label (find (λ label. starts_with ◌==◌ part.bytes label.0) labels) (with_other event draft part)) more e

      from : (o : Option (List ℕ × Kind)) → option_map_or of_label o (with_other event draft part) ≡ Ok more
          → Grows draft more (option_map_or (λ label. OfKind label.1) o (cond (starts_with ◌==◌ part.bytes (codes "onmatch(")) OfOnmatch OfVariable))
      from None e = other_grows draft more part (starts_with ◌==◌ part.bytes (codes "onmatch(")) e
      from (Some label) e = kind_grows draft more label.1 (part.place + length label.0) (drop (length label.0) part.bytes) e

  -- ---- parts

  -- nothing has been read at first
  none_read : (form : Form) → has_read form empty_draft ≡ false
  none_read (OfKind Keys) = refl
  none_read (OfKind Values) = refl
  none_read (OfKind Sort) = refl
  none_read (OfKind Size) = refl
  none_read OfOnmatch = refl
  none_read OfVariable = refl

  -- what has been read shows which forms stand
  pub forms_read : (front : List (List ℕ)) (draft : Draft) (form : Form) → AreRead (of_parts event) front draft → has_read form draft ≡ stands form front
  forms_read [] draft form nothing = none_read form
  forms_read _ _ form (one_more front read text more before one) =
      let same : stands form (text ∷ []) ≡ same_form form (form_of text) = or-false (same_form form (form_of text)) in
      (part_grows read more _ one).grown form ∙ ap (λ (b : Bool). b || same_form form (form_of text)) (forms_read front read form before)
      ∙ ap (λ (b : Bool). stands form front || b) (sym same) ∙ sym (list_any-append (λ part. same_form form (form_of part)) front (text ∷ []))

  -- the last part that is read is of another form than those in front
  last_new : (parts : List (List ℕ)) (draft : Draft) → AreRead (of_parts event) parts draft → (front : List (List ℕ)) (part : List ℕ) → parts ≡ front ++ part ∷ [] → stands (form_of part) front ≡ false
  last_new [] draft nothing front part e = absurd (omega (arith, ap length e, length-append front (part ∷ [])))
  last_new _ _ (one_more before read text more reads one) front part e =
      let same = same_from_push before front text part e in
      sym (λ i. stands (form_of (same.1 i)) (same.0 i)) ∙ sym (forms_read before read (form_of text) reads) ∙ (part_grows read more _ one).new

  -- so no two are of one form
  pub forms_once : (front : List (List ℕ)) (part : List ℕ) (draft : Draft) → AreRead (of_parts event) (front ++ part ∷ []) draft → stands (form_of part) front ≡ false
  forms_once front part draft h = last_new (front ++ part ∷ []) draft h front part refl

-- ---- faults

-- tests that are met alike
unless_alike : {A : Type 0} (test other : Bool) → test ≡ other → (rule : TriggerFault) (next later : Result A TriggerFault) (fault : TriggerFault) → (next ≡ Err fault → later ≡ Err fault)
    → unless ((test, rule) ∷ []) next ≡ Err fault → unless ((other, rule) ∷ []) later ≡ Err fault
unless_alike true true same rule next later fault alike e = let is : rule ≡ fault = cc in ap Err is
unless_alike true false same rule next later fault alike e = absurd cc
unless_alike false true same rule next later fault alike e = absurd cc
unless_alike false false same rule next later fault alike e = alike e

-- things that are there alike
given_alike : {A B : Type 0} (missing : TriggerFault) (o : Option A) (next later : A → Result B TriggerFault) (fault : TriggerFault) → ((a : A) → next a ≡ Err fault → later a ≡ Err fault) → given_or missing o next ≡ Err fault → given_or missing o later ≡ Err fault
given_alike missing None next later fault alike e = let is : missing ≡ fault = cc in ap Err is
given_alike missing (Some a) next later fault alike e = alike a e

-- what is put into drafts
then_alike : {A : Type 0} (r : Result A TriggerFault) (make other : A → Draft) (fault : TriggerFault) → (r >>= (λ a. Ok (make a))) ≡ Err fault → (r >>= (λ a. Ok (other a))) ≡ Err fault
then_alike (Ok a) make other fault e = absurd cc
then_alike (Err found) make other fault e = let is : found ≡ fault = cc in ap Err is

-- drafts in which the same forms have been read
abbrev Alike : Draft → Draft → Type 0
Alike draft other = (form : Form) → has_read form draft ≡ has_read form other

module _ (event : Name) (draft other : Draft) (alike : Alike draft other) (fault : TriggerFault) where
  kind_alike : (kind : Kind) (place : ℕ) (text : List ℕ) → with_kind event draft kind place text ≡ Err fault → with_kind event other kind place text ≡ Err fault
  unfolding with_kind
  kind_alike Keys place text e =
      unless_alike (is_some draft.keys) (is_some other.keys) (alike (OfKind Keys)) Duplicate _ _ fault
      (then_alike (items_of (with_key event) place text) (λ keys. record draft { keys = Some keys }) (λ keys. record other { keys = Some keys }) fault) e
  kind_alike Values place text e =
      unless_alike (is_some draft.values) (is_some other.values) (alike (OfKind Values)) Duplicate _ _ fault
      (then_alike (items_of (with_value event) place text) (λ words. record draft { values = Some words }) (λ words. record other { values = Some words }) fault) e
  kind_alike Sort place text e =
      unless_alike (is_some draft.sort) (is_some other.sort) (alike (OfKind Sort)) Duplicate _ _ fault
      (then_alike (items_of with_sort place text) (λ words. record draft { sort = Some words }) (λ words. record other { sort = Some words }) fault) e
  kind_alike Size place text e =
      unless_alike (is_some draft.size) (is_some other.size) (alike (OfKind Size)) Duplicate _ _ fault
      (given_alike BadSize (size_of text) (λ size. Ok (record draft { size = Some size })) (λ size. Ok (record other { size = Some size })) fault (λ size e. absurd cc)) e

  handed_alike : (words : Handed) → with_handed event draft words ≡ Err fault → with_handed event other words ≡ Err fault
  handed_alike words e =
      unless_alike (is_some draft.onmatch) (is_some other.onmatch) (alike OfOnmatch) Duplicate _ _ fault
      (then_alike (action_of event words) (λ action. record draft { onmatch = Some action }) (λ action. record other { onmatch = Some action }) fault) e

  onmatch_alike : (part : Piece) → with_onmatch event draft part ≡ Err fault → with_onmatch event other part ≡ Err fault
  unfolding with_onmatch
  onmatch_alike part e =
      unless_alike (same_name event names.WakeupLatency) (same_name event names.WakeupLatency) refl (LeftOut part.place) _ _ fault
      (given_alike (LeftOut part.place) (handed_of part.bytes) (with_handed event draft) (with_handed event other) fault handed_alike) e

  named_alike : (place : ℕ) (name value : List ℕ) → with_named event draft place name value ≡ Err fault → with_named event other place name value ≡ Err fault
  named_alike place name value e =
      unless_alike (same_name event names.WakeupLatency) (same_name event names.WakeupLatency) refl (LeftOut place) _ _ fault
      (unless_alike (is_some draft.variable) (is_some other.variable) (alike OfVariable) (LeftOut place) _ _ fault
      (given_alike (LeftOut place) (variable_stamp value) _ _ fault (λ stamp. unless_alike (is_taken event name stamp) (is_taken event name stamp) refl Duplicate _ _ fault (λ e. absurd cc)))) e

  variable_alike : (part : Piece) → with_variable event draft part ≡ Err fault → with_variable event other part ≡ Err fault
  unfolding with_variable
  variable_alike part e =
      given_alike (Syntax part.place) (name_at part.bytes) _ _ fault
      (λ cut. unless_alike (not (starts_with ◌==◌ cut.1 (codes "="))) (not (starts_with ◌==◌ cut.1 (codes "="))) refl (Syntax part.place) _ _ fault (named_alike part.place cut.0 (drop 1 cut.1))) e

  other_alike : (part : Piece) (begins : Bool) → cond begins (with_onmatch event draft part) (with_variable event draft part) ≡ Err fault → cond begins (with_onmatch event other part) (with_variable event other part) ≡ Err fault
  other_alike part true e = onmatch_alike part e
  other_alike part false e = variable_alike part e

  labelled_alike : (part : Piece) (o : Option (List ℕ × Kind)) → option_map_or (λ label. with_kind event draft label.1 (part.place + length label.0) (drop (length label.0) part.bytes)) o (with_other event draft part) ≡ Err fault
      → option_map_or (λ label. with_kind event other label.1 (part.place + length label.0) (drop (length label.0) part.bytes)) o (with_other event other part) ≡ Err fault
  labelled_alike part None e = other_alike part (starts_with ◌==◌ part.bytes (codes "onmatch(")) e
  labelled_alike part (Some label) e = kind_alike label.1 (part.place + length label.0) (drop (length label.0) part.bytes) e

  -- a part's fault stands after all that is read of the same forms
  part_alike : (part : Piece) → with_part event draft part ≡ Err fault → with_part event other part ≡ Err fault
  unfolding with_part
  part_alike part e =
      unless_alike (is_part_left_out part.bytes) (is_part_left_out part.bytes) refl (LeftOut part.place) _ _ fault (labelled_alike part (find (λ label. starts_with ◌==◌ part.bytes label.0) labels)) e

-- so it stands after all parts of the same forms
pub faults_alike : (event : Name) (front before : List (List ℕ)) (draft other : Draft) (part : Piece) (fault : TriggerFault) → AreRead (of_parts event) front draft → AreRead (of_parts event) before other
    → ((form : Form) → stands form front ≡ stands form before) → with_part event draft part ≡ Err fault → with_part event other part ≡ Err fault
faults_alike event front before draft other part fault h g same =
    part_alike event draft other (λ form. forms_read event front draft form h ∙ same form ∙ sym (forms_read event before other form g)) fault part

-- ---- a second part of a kind

kind_twice : (event : Name) (draft : Draft) (kind : Kind) (place : ℕ) (text : List ℕ) → has_read (OfKind kind) draft ≡ true → with_kind event draft kind place text ≡ Err Duplicate
unfolding with_kind
kind_twice event draft Keys place text h = rw h refl
kind_twice event draft Values place text h = rw h refl
kind_twice event draft Sort place text h = rw h refl
kind_twice event draft Size place text h = rw h refl

-- by its label
label_twice : (event : Name) (draft : Draft) (part : Piece) (kind : Kind) (begins : Bool) (o : Option (List ℕ × Kind)) → option_map_or (λ label. OfKind label.1) o (cond begins OfOnmatch OfVariable) ≡ OfKind kind → has_read (OfKind kind) draft ≡ true
    → option_map_or (λ label. with_kind event draft label.1 (part.place + length label.0) (drop (length label.0) part.bytes)) o (with_other event draft part) ≡ Err Duplicate
label_twice event draft part kind true None e h = absurd cc
label_twice event draft part kind false None e h = absurd cc
label_twice event draft part kind begins (Some label) e h =
    let same : label.1 ≡ kind = cc in
    kind_twice event draft label.1 (part.place + length label.0) (drop (length label.0) part.bytes) (ap (λ (k : Kind). has_read (OfKind k) draft) same ∙ h)

-- a second part of a kind is a duplicate
pub part_twice : (event : Name) (front : List (List ℕ)) (draft : Draft) (part : Piece) (kind : Kind) → AreRead (of_parts event) front draft → form_of part.bytes ≡ OfKind kind → is_part_left_out part.bytes ≡ false → stands (OfKind kind) front ≡ true
    → with_part event draft part ≡ Err Duplicate
unfolding with_part
part_twice event front draft part kind h is kept stood =
    rw kept (label_twice event draft part kind (starts_with ◌==◌ part.bytes (codes "onmatch(")) (find (λ label. starts_with ◌==◌ part.bytes label.0) labels) is (forms_read event front draft (OfKind kind) h ∙ stood))
