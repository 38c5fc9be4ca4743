-- What has been read of a trigger's head can be read again.
use Rattle.std.proofs.Common.{◌≡◌, ◌<◌, ◌+◌, ℕ, Bool, true, false, codes, cond, List, [], ◌∷◌, length, drop, Option, Some, None, Result, Ok, refl, subst, arith, find, ◌==◌}
use Rattle.std.specs.List.{starts_with}
use Rattle.std.specs.Option.{option_map_or, is_some}
use Rattle.ft_fields.specs.declared.event.Name.{Name}
use Rattle.ft_hist.specs.declared.fault.TriggerFault.{TriggerFault}
use Rattle.ft_hist.specs.declared.fault.TriggerFault.TheVariants.{Duplicate, BadSize, LeftOut}
use Rattle.ft_head.specs.declared.draft.Kind.{Kind}
use Rattle.ft_head.specs.declared.draft.Kind.TheVariants.{Keys, Values, Sort, Size}
use Rattle.ft_head.specs.Draft.{Draft, empty_draft, ◌>>=◌, given_or, items_of, with_key, with_value, with_sort, size_of, labels, is_part_left_out, with_kind, with_variable, with_onmatch, with_other, with_part, parts_from}
use Rattle.ft_text.specs.Items.{Piece, pieces, Word}
use Rattle.ft_trigger.proofs.Actions.{ActionFits, action_fits}
use Rattle.ft_trigger.proofs.Chains.{Chain, Steps, items_grow}
use Rattle.ft_trigger.proofs.Inversions.{then_parts, unless_parts, given_parts}
use Rattle.ft_trigger.proofs.Keyed.{KeyFits, key_steps}
use Rattle.ft_head.proofs.Numerals.{SizeFits, size_fits}
use Rattle.ft_text.proofs.Separators.{pieces_some}
use Rattle.ft_trigger.proofs.Sorted.{SortFits, sort_steps}
use Rattle.ft_trigger.proofs.Valued.{ValueFits, value_steps}
use Rattle.ft_trigger.proofs.Variables.{VarFits, var_fits}

-- a list with an item, each of which can be read after those before it
pub record Listed {A : Type 0} (step : List A → A → Type 0) (list : List A) : Type 0 where
  pub first : A
  pub more : List A
  pub is : list ≡ first ∷ more
  pub chain : Chain step [] (first ∷ more)

-- what is there is so
abbrev pub If : {A : Type 0} → (A → Type 0) → Option A → Type 0
If P None = Unit {0}
If P (Some x) = P x

-- what has been read can be read again
pub record DraftFits (event : Name) (draft : Draft) : Type 0 where
  pub keys : If (Listed (KeyFits event)) draft.keys
  pub values : If (Listed (ValueFits event)) draft.values
  pub sort : If (Listed SortFits) draft.sort
  pub size : If SizeFits draft.size
  pub variable : If (VarFits event) draft.variable
  pub onmatch : If (ActionFits event) draft.onmatch

-- a list that was added to as often as there are pieces has an item
some_listed : {A : Type 0} (step : List A → A → Type 0) (list added : List A) (count : ℕ) → 0 < count → list ≡ added → Chain step [] added → length added ≡ count → Listed step list
some_listed step list [] count some is chain counted = absurd (omega arith)
some_listed step list (a ∷ added) count some is chain counted = record { first = a; more = added; is = is; chain = chain }

-- a list that is read can be read again
items_listed : {A : Type 0} (add : List A → ℕ → Word → Result (List A) TriggerFault) (step : List A → A → Type 0) (place : ℕ) (text : List ℕ) (list : List A)
    → Steps add step → items_of add place text ≡ Ok list → Listed step list
items_listed add step place text list steps e =
    let grown = items_grow add step steps (pieces 44 place text) [] list e in
    some_listed step list grown.added (length (pieces 44 place text)) (pieces_some 44 place text) grown.is grown.chain grown.counted

-- a part of a kind leaves what can be read again
kind_fits : (event : Name) (draft more : Draft) (kind : Kind) (place : ℕ) (text : List ℕ) → DraftFits event draft → with_kind event draft kind place text ≡ Ok more → DraftFits event more
unfolding with_kind
kind_fits event draft more Keys place text h e =
    let new = unless_parts (is_some draft.keys) Duplicate [] (items_of (with_key event) place text >>= (λ keys. Ok (record draft { keys = Some keys }))) more e in
    let keys = then_parts (items_of (with_key event) place text) (λ keys. Ok (record draft { keys = Some keys })) more new.1 in
    let same : record draft { keys = Some keys.0 } ≡ more = (let done = keys.2 in cc) in
    subst (DraftFits event) same (record { keys = items_listed (with_key event) (KeyFits event) place text keys.0 (key_steps event) keys.1; values = h.values; sort = h.sort; size = h.size; variable = h.variable; onmatch = h.onmatch })
kind_fits event draft more Values place text h e =
    let new = unless_parts (is_some draft.values) Duplicate [] (items_of (with_value event) place text >>= (λ words. Ok (record draft { values = Some words }))) more e in
    let words = then_parts (items_of (with_value event) place text) (λ words. Ok (record draft { values = Some words })) more new.1 in
    let same : record draft { values = Some words.0 } ≡ more = (let done = words.2 in cc) in
    subst (DraftFits event) same (record { keys = h.keys; values = items_listed (with_value event) (ValueFits event) place text words.0 (value_steps event) words.1; sort = h.sort; size = h.size; variable = h.variable; onmatch = h.onmatch })
kind_fits event draft more Sort place text h e =
    let new = unless_parts (is_some draft.sort) Duplicate [] (items_of with_sort place text >>= (λ words. Ok (record draft { sort = Some words }))) more e in
    let words = then_parts (items_of with_sort place text) (λ words. Ok (record draft { sort = Some words })) more new.1 in
    let same : record draft { sort = Some words.0 } ≡ more = (let done = words.2 in cc) in
    subst (DraftFits event) same (record { keys = h.keys; values = h.values; sort = items_listed with_sort SortFits place text words.0 sort_steps words.1; size = h.size; variable = h.variable; onmatch = h.onmatch })
kind_fits event draft more Size place text h e =
    let new = unless_parts (is_some draft.size) Duplicate [] (given_or BadSize (size_of text) (λ size. Ok (record draft { size = Some size }))) more e in
    let size = given_parts BadSize (size_of text) (λ size. Ok (record draft { size = Some size })) more new.1 in
    let same : record draft { size = Some size.0 } ≡ more = (let done = size.2 in cc) in
    subst (DraftFits event) same (record { keys = h.keys; values = h.values; sort = h.sort; size = size_fits text size.0 size.1; variable = h.variable; onmatch = h.onmatch })

-- a part of no kind leaves what can be read again
other_fits : (event : Name) (draft more : Draft) (part : Piece) → DraftFits event draft → is_part_left_out part.bytes ≡ false → find (λ label. starts_with ◌==◌ part.bytes label.0) labels ≡ None
    → with_other event draft part ≡ Ok more → DraftFits event more
other_fits event draft more part h kept apart e = from (starts_with ◌==◌ part.bytes (codes "onmatch(")) refl e
  where
    from : (b : Bool) → starts_with ◌==◌ part.bytes (codes "onmatch(") ≡ b → cond b (with_onmatch event draft part) (with_variable event draft part) ≡ Ok more → DraftFits event more
    from true is e =
        let found = action_fits event draft more part e in
        subst (DraftFits event) found.1 (record { keys = h.keys; values = h.values; sort = h.sort; size = h.size; variable = h.variable; onmatch = found.2 })
    from false is e =
        let found = var_fits event draft more part kept apart is e in
        subst (DraftFits event) found.1 (record { keys = h.keys; values = h.values; sort = h.sort; size = h.size; variable = found.2; onmatch = h.onmatch })

-- a part leaves what can be read again
part_fits : (event : Name) (draft more : Draft) (part : Piece) → DraftFits event draft → with_part event draft part ≡ Ok more → DraftFits event more
unfolding with_part
part_fits event draft more part h e = from (find (λ label. starts_with ◌==◌ part.bytes label.0) labels) refl kept.1
  where
    of_label : List ℕ × Kind → Result Draft TriggerFault
    of_label label = with_kind event draft label.1 (part.place + length label.0) (drop (length label.0) part.bytes)

    kept : (is_part_left_out part.bytes ≡ false) × (option_map_or of_label (find (λ label. starts_with ◌==◌ part.bytes label.0) labels) (with_other event draft part) ≡ Ok more)
    kept = unless_parts (is_part_left_out part.bytes) (LeftOut part.place) [] (option_map_or of_label (find (λ label. starts_with ◌==◌ part.bytes label.0) labels) (with_other event draft part)) more e

    from : (o : Option (List ℕ × Kind)) → find (λ label. starts_with ◌==◌ part.bytes label.0) labels ≡ o → option_map_or of_label o (with_other event draft part) ≡ Ok more → DraftFits event more
    from None is e = other_fits event draft more part h kept.0 is e
    from (Some label) is e = kind_fits event draft more label.1 (part.place + length label.0) (drop (length label.0) part.bytes) h e

-- parts leave what can be read again
parts_fit : (event : Name) (parts : List Piece) (draft more : Draft) → DraftFits event draft → parts_from event draft parts ≡ Ok more → DraftFits event more
unfolding parts_from
parts_fit event [] draft more h e = let same : draft ≡ more = cc in subst (DraftFits event) same h
parts_fit event (part ∷ parts) draft more h e =
    let next = then_parts (with_part event draft part) (λ next. parts_from event next parts) more e in
    parts_fit event parts next.0 more (part_fits event draft next.0 part h next.1) next.2

-- what has been read of a head can be read again
pub draft_fits : (event : Name) (parts : List Piece) (draft : Draft) → parts_from event empty_draft parts ≡ Ok draft → DraftFits event draft
draft_fits event parts draft e = parts_fit event parts empty_draft draft (record { keys = tt; values = tt; sort = tt; size = tt; variable = tt; onmatch = tt }) e
