-- The parts of a head may stand in any order.
use Rattle.std.proofs.Common.{◌≡◌, ◌+◌, ◌<◌, ℕ, Bool, true, false, not, List, [], ◌∷◌, ◌++◌, map, length, drop, Option, Some, None, Result, Ok, Err, refl, sym, ap, ◌∙◌, subst, arith, ◌&&◌, codes, append-nil, cond, find, ◌==◌, if◌then◌else◌}
use Rattle.std.proofs.lemmas.Bool.{and_parts, and_from, not-true, or_from}
use Rattle.std.proofs.lemmas.List.Folds.{list_any-append}
use Rattle.std.specs.Prelude.{unwrap_or}
use Rattle.std.specs.List.{list_all, list_any, starts_with}
use Rattle.std.specs.Option.{option_map_or, is_some}
use Rattle.ft_fields.specs.declared.event.Name.{Name}
use Rattle.ft_text.specs.Tokens.{is_gap}
use Rattle.ft_hist.specs.declared.item.KeyItem.{KeyItem}
use Rattle.ft_hist.specs.declared.label.Var.{Var}
use Rattle.ft_hist.specs.Hist.{Hist}
use Rattle.ft_head.specs.declared.draft.Kind.{Kind}
use Rattle.ft_head.specs.declared.draft.Kind.TheVariants.{Keys, Values, Sort, Size}
use Rattle.ft_hist.specs.declared.fault.TriggerFault.{TriggerFault}
use Rattle.ft_hist.specs.declared.fault.TriggerFault.TheVariants.{Syntax, Duplicate, BadSize, LeftOut}
use Rattle.ft_head.specs.Draft.{Draft, empty_draft, ◌>>=◌, given_or, items_from, items_of, with_key, with_value, with_sort, size_of, var_of, labels, is_part_left_out, with_kind, with_variable, with_onmatch, with_other, with_part, parts_from, besides_hitcount}
use Rattle.ft_head.specs.Onmatch.{Action}
use Rattle.ft_text.specs.Items.{Piece, onto_first_piece, pieces, Word, word_of}
use Rattle.ft_trigger.proofs.Actions.{onmatch_parts, onmatch_adds}
use Rattle.ft_trigger.proofs.Inversions.{then_parts, unless_parts, given_parts}
use Rattle.ft_head.specs.PartSpelling.{is_part, later_parts, joined_parts}
use Rattle.ft_trigger.specs.TriggerIs.{own_name, value_items, sort_in, trigger_of}
use Rattle.ft_trigger.proofs.Keyed.{key_shift}
use Rattle.ft_trigger.proofs.ReadAgain.{made}
use Rattle.ft_text.proofs.Separators.{Free, is_seen, is_inner, all_weaker, pieces_first, pieces_last}
use Rattle.ft_trigger.proofs.Shaped.{make_of, with_made, alone_cut, cut_by}
use Rattle.ft_trigger.proofs.Tails.{filter_none}
use Rattle.ft_trigger.proofs.Valued.{value_shift}
use Rattle.ft_trigger.proofs.Variables.{var_parts, var_adds}

-- ---- places

-- the bytes of pieces
abbrev pub bytes_of : List Piece → List (List ℕ)
bytes_of list = map (λ (piece : Piece). piece.bytes) list

-- a byte in front of first pieces of the same bytes
grown_bytes : (place other byte : ℕ) (a b : List Piece) → bytes_of a ≡ bytes_of b → bytes_of (onto_first_piece place byte a) ≡ bytes_of (onto_first_piece other byte b)
grown_bytes place other byte [] [] e = refl
grown_bytes place other byte [] (y ∷ b) e = absurd cc
grown_bytes place other byte (x ∷ a) [] e = absurd cc
grown_bytes place other byte (x ∷ a) (y ∷ b) e =
    let first : x.bytes ≡ y.bytes = cc in
    let rest : bytes_of a ≡ bytes_of b = cc in
    ap (λ (t : List ℕ). (byte ∷ t) ∷ bytes_of a) first ∙ ap (λ (l : List (List ℕ)). (byte ∷ y.bytes) ∷ l) rest

-- the bytes of a text's pieces are the same at any place
pieces_bytes : (separator place other : ℕ) (text : List ℕ) → bytes_of (pieces separator place text) ≡ bytes_of (pieces separator other text)
pieces_bytes separator place other [] = refl
pieces_bytes separator place other (byte ∷ text) = from (pieces_bytes separator (place + 1) (other + 1) text) (byte == separator)
  where
    from : bytes_of (pieces separator (place + 1) text) ≡ bytes_of (pieces separator (other + 1) text) → (b : Bool)
        → bytes_of (if b then (record { place = place; bytes = [] } ∷ pieces separator (place + 1) text) else onto_first_piece place byte (pieces separator (place + 1) text))
        ≡ bytes_of (if b then (record { place = other; bytes = [] } ∷ pieces separator (other + 1) text) else onto_first_piece other byte (pieces separator (other + 1) text))
    from later true = ap (λ (l : List (List ℕ)). [] ∷ l) later
    from later false = grown_bytes place other byte _ _ later

-- an item that is added is added at any place
abbrev Shifts : {A : Type 0} → (List A → ℕ → Word → Result (List A) TriggerFault) → Type 0
Shifts {A} add = (list more : List A) (place other : ℕ) (word : Word) → add list place word ≡ Ok more → add list other word ≡ Ok more

-- an item whose steps are known
item_step : {A : Type 0} (add : List A → ℕ → Word → Result (List A) TriggerFault) (list more result : List A) (item : Piece) (items : List Piece) (word : Word)
    → word_of item.bytes ≡ Some word → add list item.place word ≡ Ok more → items_from add more items ≡ Ok result → items_from add list (item ∷ items) ≡ Ok result
item_step add list more result item items word read added rest = rw (read, added) rest

-- so are items
items_shift : {A : Type 0} (add : List A → ℕ → Word → Result (List A) TriggerFault) → Shifts add → (a b : List Piece) (list result : List A) → bytes_of a ≡ bytes_of b → items_from add list a ≡ Ok result → items_from add list b ≡ Ok result
items_shift add shifts [] [] list result same e = e
items_shift add shifts [] (y ∷ b) list result same e = absurd cc
items_shift add shifts (x ∷ a) [] list result same e = absurd cc
items_shift add shifts (x ∷ a) (y ∷ b) list result same e =
    let first : x.bytes ≡ y.bytes = cc in
    let rest : bytes_of a ≡ bytes_of b = cc in
    let more = then_parts (given_or (Syntax x.place) (word_of x.bytes) (add list x.place)) (λ more. items_from add more a) result e in
    let word = given_parts (Syntax x.place) (word_of x.bytes) (add list x.place) more.0 more.1 in
    let read : word_of y.bytes ≡ Some word.0 = ap word_of (sym first) ∙ word.1 in
    let added = shifts list more.0 x.place y.place word.0 word.2 in
    item_step add list more.0 result y b word.0 read added (items_shift add shifts a b more.0 result rest more.2)

-- so is a list
list_shift : {A : Type 0} (add : List A → ℕ → Word → Result (List A) TriggerFault) → Shifts add → (place other : ℕ) (text : List ℕ) (result : List A) → items_of add place text ≡ Ok result → items_of add other text ≡ Ok result
list_shift add shifts place other text result e = items_shift add shifts (pieces 44 place text) (pieces 44 other text) [] result (pieces_bytes 44 place other text) e

-- sort items say no place
sort_shift : Shifts with_sort
unfolding with_sort
sort_shift list more place other word e = e

-- ---- what a part adds

-- one of six things
data Effect : Type 0 where
  TheKeys : List KeyItem → Effect
  TheValues : List Word → Effect
  TheSort : List Word → Effect
  TheSize : ℕ → Effect
  TheVar : Var → Effect
  TheOnmatch : Action → Effect

-- it has not stood yet
abbrev stood : Effect → Draft → Bool
stood (TheKeys keys) d = is_some d.keys
stood (TheValues words) d = is_some d.values
stood (TheSort words) d = is_some d.sort
stood (TheSize size) d = is_some d.size
stood (TheVar variable) d = is_some d.variable
stood (TheOnmatch action) d = is_some d.onmatch

-- a draft with it
abbrev with_it : Effect → Draft → Draft
with_it (TheKeys keys) d = record d { keys = Some keys }
with_it (TheValues words) d = record d { values = Some words }
with_it (TheSort words) d = record d { sort = Some words }
with_it (TheSize size) d = record d { size = Some size }
with_it (TheVar variable) d = record d { variable = Some variable }
with_it (TheOnmatch action) d = record d { onmatch = Some action }

-- a part adds it to each draft in which it has not stood
record Adds (event : Name) (draft more : Draft) (bytes : List ℕ) : Type 0 where
  effect : Effect
  new : stood effect draft ≡ false
  is : with_it effect draft ≡ more
  adds : (other : Draft) (place : ℕ) → stood effect other ≡ false → with_part event other (record { place = place; bytes = bytes }) ≡ Ok (with_it effect other)

-- what a part of a kind adds, if it is read
record KindAdds (event : Name) (draft more : Draft) (kind : Kind) (text : List ℕ) : Type 0 where
  effect : Effect
  new : stood effect draft ≡ false
  is : with_it effect draft ≡ more
  adds : (other : Draft) (place : ℕ) → stood effect other ≡ false → with_kind event other kind place text ≡ Ok (with_it effect other)

-- two of them, in the other order
record Swapped (e f : Effect) (d : Draft) : Type 0 where
  first : stood f d ≡ false
  second : stood e (with_it f d) ≡ false
  same : with_it e (with_it f d) ≡ with_it f (with_it e d)

swap : (e f : Effect) (d : Draft) → stood e d ≡ false → stood f (with_it e d) ≡ false → Swapped e f d
swap (TheKeys x) (TheKeys y) d h k = absurd cc
swap (TheKeys x) (TheValues y) d h k = record { first = k; second = h; same = refl }
swap (TheKeys x) (TheSort y) d h k = record { first = k; second = h; same = refl }
swap (TheKeys x) (TheSize y) d h k = record { first = k; second = h; same = refl }
swap (TheKeys x) (TheVar y) d h k = record { first = k; second = h; same = refl }
swap (TheKeys x) (TheOnmatch y) d h k = record { first = k; second = h; same = refl }
swap (TheValues x) (TheKeys y) d h k = record { first = k; second = h; same = refl }
swap (TheValues x) (TheValues y) d h k = absurd cc
swap (TheValues x) (TheSort y) d h k = record { first = k; second = h; same = refl }
swap (TheValues x) (TheSize y) d h k = record { first = k; second = h; same = refl }
swap (TheValues x) (TheVar y) d h k = record { first = k; second = h; same = refl }
swap (TheValues x) (TheOnmatch y) d h k = record { first = k; second = h; same = refl }
swap (TheSort x) (TheKeys y) d h k = record { first = k; second = h; same = refl }
swap (TheSort x) (TheValues y) d h k = record { first = k; second = h; same = refl }
swap (TheSort x) (TheSort y) d h k = absurd cc
swap (TheSort x) (TheSize y) d h k = record { first = k; second = h; same = refl }
swap (TheSort x) (TheVar y) d h k = record { first = k; second = h; same = refl }
swap (TheSort x) (TheOnmatch y) d h k = record { first = k; second = h; same = refl }
swap (TheSize x) (TheKeys y) d h k = record { first = k; second = h; same = refl }
swap (TheSize x) (TheValues y) d h k = record { first = k; second = h; same = refl }
swap (TheSize x) (TheSort y) d h k = record { first = k; second = h; same = refl }
swap (TheSize x) (TheSize y) d h k = absurd cc
swap (TheSize x) (TheVar y) d h k = record { first = k; second = h; same = refl }
swap (TheSize x) (TheOnmatch y) d h k = record { first = k; second = h; same = refl }
swap (TheVar x) (TheKeys y) d h k = record { first = k; second = h; same = refl }
swap (TheVar x) (TheValues y) d h k = record { first = k; second = h; same = refl }
swap (TheVar x) (TheSort y) d h k = record { first = k; second = h; same = refl }
swap (TheVar x) (TheSize y) d h k = record { first = k; second = h; same = refl }
swap (TheVar x) (TheVar y) d h k = absurd cc
swap (TheVar x) (TheOnmatch y) d h k = record { first = k; second = h; same = refl }
swap (TheOnmatch x) (TheKeys y) d h k = record { first = k; second = h; same = refl }
swap (TheOnmatch x) (TheValues y) d h k = record { first = k; second = h; same = refl }
swap (TheOnmatch x) (TheSort y) d h k = record { first = k; second = h; same = refl }
swap (TheOnmatch x) (TheSize y) d h k = record { first = k; second = h; same = refl }
swap (TheOnmatch x) (TheVar y) d h k = record { first = k; second = h; same = refl }
swap (TheOnmatch x) (TheOnmatch y) d h k = absurd cc

-- ---- parts

module _ (event : Name) where
  -- a part of a kind
  kind_adds : (draft more : Draft) (kind : Kind) (place : ℕ) (text : List ℕ) → with_kind event draft kind place text ≡ Ok more → KindAdds event draft more kind text
  unfolding with_kind
  kind_adds draft more Keys place text e =
      let new = unless_parts (is_some draft.keys) Duplicate [] (items_of (with_key event) place text >>= (λ keys. Ok (record draft { keys = Some keys }))) more e in
      let keys = then_parts (items_of (with_key event) place text) (λ keys. Ok (record draft { keys = Some keys })) more new.1 in
      record {
        effect = TheKeys keys.0;
        new = new.0;
        is = (let done = keys.2 in cc);
        adds = λ other at free. (let read = list_shift (with_key event) (key_shift event) place at text keys.0 keys.1 in rw (free, read) refl);
      }
  kind_adds draft more Values place text e =
      let new = unless_parts (is_some draft.values) Duplicate [] (items_of (with_value event) place text >>= (λ words. Ok (record draft { values = Some words }))) more e in
      let words = then_parts (items_of (with_value event) place text) (λ words. Ok (record draft { values = Some words })) more new.1 in
      record {
        effect = TheValues words.0;
        new = new.0;
        is = (let done = words.2 in cc);
        adds = λ other at free. (let read = list_shift (with_value event) (value_shift event) place at text words.0 words.1 in rw (free, read) refl);
      }
  kind_adds draft more Sort place text e =
      let new = unless_parts (is_some draft.sort) Duplicate [] (items_of with_sort place text >>= (λ words. Ok (record draft { sort = Some words }))) more e in
      let words = then_parts (items_of with_sort place text) (λ words. Ok (record draft { sort = Some words })) more new.1 in
      record {
        effect = TheSort words.0;
        new = new.0;
        is = (let done = words.2 in cc);
        adds = λ other at free. (let read = list_shift with_sort sort_shift place at text words.0 words.1 in rw (free, read) refl);
      }
  kind_adds draft more Size place text e =
      let new = unless_parts (is_some draft.size) Duplicate [] (given_or BadSize (size_of text) (λ size. Ok (record draft { size = Some size }))) more e in
      let size = given_parts BadSize (size_of text) (λ size. Ok (record draft { size = Some size })) more new.1 in
      record {
        effect = TheSize size.0;
        new = new.0;
        is = (let done = size.2 in cc);
        adds = λ other at free. (let read = size.1 in ap (λ (b : Bool). if b then Err Duplicate else given_or BadSize (size_of text) (λ size. Ok (record other { size = Some size }))) free ∙ ap (λ (o : Option ℕ). given_or BadSize o (λ size. Ok (record other { size = Some size }))) read);
      }

  -- nothing is there
  none_there : {A : Type 0} (o : Option A) → is_some o ≡ false → o ≡ None
  none_there None h = refl
  none_there (Some x) h = absurd cc

  -- a part of a kind, if it begins so
  part_labelled : (draft : Draft) (place : ℕ) (bytes : List ℕ) (label : List ℕ × Kind) (answer : Result Draft TriggerFault) → is_part_left_out bytes ≡ false → find (λ label. starts_with ◌==◌ bytes label.0) labels ≡ Some label
      → with_kind event draft label.1 (place + length label.0) (drop (length label.0) bytes) ≡ answer → with_part event draft (record { place = place; bytes = bytes }) ≡ answer
  unfolding with_part
  part_labelled draft place bytes label answer kept is e = rw (kept, is) e

  -- a part of no kind
  part_bare : (draft : Draft) (place : ℕ) (bytes : List ℕ) (answer : Result Draft TriggerFault) → is_part_left_out bytes ≡ false → find (λ label. starts_with ◌==◌ bytes label.0) labels ≡ None
      → with_other event draft (record { place = place; bytes = bytes }) ≡ answer → with_part event draft (record { place = place; bytes = bytes }) ≡ answer
  unfolding with_part
  part_bare draft place bytes answer kept is e = rw (kept, is) e

  -- a part
  part_adds : (draft more : Draft) (part : Piece) → with_part event draft part ≡ Ok more → Adds event draft more part.bytes
  unfolding with_part
  part_adds draft more part e = from (find (λ label. starts_with ◌==◌ part.bytes label.0) labels) refl kept.1
    where
      of_label : List ℕ × Kind → Result Draft TriggerFault
      of_label label = with_kind event draft label.1 (part.place + length label.0) (drop (length label.0) part.bytes)

      kept : (is_part_left_out part.bytes ≡ false) × (option_map_or of_label (find (λ label. starts_with ◌==◌ part.bytes label.0) labels) (with_other event draft part) ≡ Ok more)
      kept = unless_parts (is_part_left_out part.bytes) (LeftOut part.place) [] (option_map_or of_label (find (λ label. starts_with ◌==◌ part.bytes label.0) labels) (with_other event draft part)) more e

      from : (o : Option (List ℕ × Kind)) → find (λ label. starts_with ◌==◌ part.bytes label.0) labels ≡ o → option_map_or of_label o (with_other event draft part) ≡ Ok more → Adds event draft more part.bytes
      from None is e = other (starts_with ◌==◌ part.bytes (codes "onmatch(")) refl e
        where
          other : (b : Bool) → starts_with ◌==◌ part.bytes (codes "onmatch(") ≡ b → cond b (with_onmatch event draft part) (with_variable event draft part) ≡ Ok more → Adds event draft more part.bytes
          other true begins e =
              let v = onmatch_parts event draft more part e in
              record {
                effect = TheOnmatch v.action;
                new = v.none;
                is = v.is;
                adds = λ other at free. part_bare other at part.bytes (Ok (record other { onmatch = Some v.action })) kept.0 is (onmatch_adds event other at part.bytes v.words v.action begins v.apart_made v.handed v.made (none_there other.onmatch free));
              }
          other false bare e =
              let v = var_parts event draft more part e in
              record {
                effect = TheVar (var_of v.cut.0 v.stamp);
                new = v.none;
                is = v.is;
                adds = λ other at free. part_bare other at part.bytes (Ok (record other { variable = Some (var_of v.cut.0 v.stamp) })) kept.0 is (var_adds event other at part.bytes v.cut v.stamp bare v.name v.equals v.apart_made v.stamped v.free (none_there other.variable free));
              }
      from (Some label) is e =
          let k = kind_adds draft more label.1 (part.place + length label.0) (drop (length label.0) part.bytes) e in
          record {
            effect = k.effect;
            new = k.new;
            is = k.is;
            adds = λ other at free. part_labelled other at part.bytes label (Ok (with_it k.effect other)) kept.0 is (k.adds other (at + length label.0) free);
          }

  -- parts that are read, one by one
  abbrev Accepts : Draft → List (List ℕ) → Draft → Type 0
  Accepts draft [] more = draft ≡ more
  Accepts draft (bytes ∷ rest) more = (next : Draft) × Adds event draft next bytes × Accepts next rest more

  -- parts that are read are read so
  accepts : (parts : List Piece) (draft more : Draft) → parts_from event draft parts ≡ Ok more → Accepts draft (bytes_of parts) more
  unfolding parts_from
  accepts [] draft more e = cc
  accepts (part ∷ parts) draft more e =
      let next = then_parts (with_part event draft part) (λ next. parts_from event next parts) more e in
      (next.0, part_adds draft next.0 part next.1, accepts parts next.0 more next.2)

  -- and what is read so is read
  accepted : (parts : List Piece) (draft more : Draft) → Accepts draft (bytes_of parts) more → parts_from event draft parts ≡ Ok more
  unfolding parts_from
  accepted [] draft more h = ap Ok h
  accepted (part ∷ parts) draft more h =
      let read : with_part event draft part ≡ Ok h.0 = h.1.adds draft part.place h.1.new ∙ ap Ok h.1.is in
      rw read (accepted parts h.0 more h.2)

  -- two parts in the other order
  two_swapped : (draft more : Draft) (a b : List ℕ) (rest : List (List ℕ)) → Accepts draft (a ∷ b ∷ rest) more → Accepts draft (b ∷ a ∷ rest) more
  two_swapped draft more a b rest h =
      let one = h.1 in
      let two = h.2.1 in
      let new : stood two.effect (with_it one.effect draft) ≡ false = subst (λ (d : Draft). stood two.effect d ≡ false) (sym one.is) two.new in
      let done = swap one.effect two.effect draft one.new new in
      let end : with_it one.effect (with_it two.effect draft) ≡ h.2.0 = done.same ∙ ap (with_it two.effect) one.is ∙ two.is in (
        with_it two.effect draft,
        record { effect = two.effect; new = done.first; is = refl; adds = two.adds },
        (h.2.0, record { effect = one.effect; new = done.second; is = end; adds = one.adds }, h.2.2),
      )

  -- after others
  swapped : (front : List (List ℕ)) (draft more : Draft) (a b : List ℕ) (rest : List (List ℕ)) → Accepts draft (front ++ a ∷ b ∷ rest) more → Accepts draft (front ++ b ∷ a ∷ rest) more
  swapped [] draft more a b rest h = two_swapped draft more a b rest h
  swapped (first ∷ front) draft more a b rest h = (h.0, h.1, swapped front h.0 more a b rest h.2)

-- ---- heads

-- no `:` stands in a part, and no space and no tab
part_free : (text : List ℕ) → is_part text ≡ true → Free 58 text
part_free = all_weaker is_inner (λ byte. not (byte == 58)) (λ byte h. (and_parts (is_seen byte) (not (byte == 58)) h).1)

part_clear : (text : List ℕ) → is_part text ≡ true → list_any is_gap text ≡ false
part_clear [] h = refl
part_clear (byte ∷ text) h =
    let both = and_parts (is_inner byte) (list_all is_inner text) h in
    or_from (is_gap byte) (list_any is_gap text) (not-true (is_gap byte) (and_parts (is_seen byte) (not (byte == 58)) both.0).0) (part_clear text both.1)

-- nor in parts after a `:`
more_clear : (parts : List (List ℕ)) → list_all is_part parts ≡ true → list_any is_gap (later_parts parts) ≡ false
more_clear [] h = refl
more_clear (part ∷ parts) h =
    let both = and_parts (is_part part) (list_all is_part parts) h in
    list_any-append is_gap part (later_parts parts) ∙ or_from _ _ (part_clear part both.0) (more_clear parts both.1)

-- nor in joined parts
joined_clear : (parts : List (List ℕ)) → list_all is_part parts ≡ true → list_any is_gap (joined_parts parts) ≡ false
joined_clear [] h = refl
joined_clear (part ∷ parts) h =
    let both = and_parts (is_part part) (list_all is_part parts) h in
    list_any-append is_gap part (later_parts parts) ∙ or_from _ _ (part_clear part both.0) (more_clear parts both.1)

-- joined parts are cut into them
joined_bytes : (parts : List (List ℕ)) (part : List ℕ) (place : ℕ) → is_part part ≡ true → list_all is_part parts ≡ true → bytes_of (pieces 58 place (part ++ later_parts parts)) ≡ part ∷ parts
joined_bytes [] part place one all = ap (λ (t : List ℕ). bytes_of (pieces 58 place t)) (append-nil part) ∙ ap bytes_of (pieces_last 58 place part (part_free part one))
joined_bytes (next ∷ parts) part place one all =
    let both = and_parts (is_part next) (list_all is_part parts) all in
    let cut = pieces_first 58 place part (next ++ later_parts parts) (part_free part one) in
    ap bytes_of cut.1 ∙ ap (λ (l : List (List ℕ)). part ∷ l) (joined_bytes parts next cut.0 both.0 both.1)

-- so are those of a list with an item
list_bytes : (parts : List (List ℕ)) (place : ℕ) → 0 < length parts → list_all is_part parts ≡ true → bytes_of (pieces 58 place (joined_parts parts)) ≡ parts
list_bytes [] place some all = absurd (omega arith)
list_bytes (part ∷ parts) place some all = let both = and_parts (is_part part) (list_all is_part parts) all in joined_bytes parts part place both.0 both.1

-- a list with an item between others has one
some_between : (front : List (List ℕ)) (a : List ℕ) (rest : List (List ℕ)) → 0 < length (front ++ a ∷ rest)
some_between [] a rest = omega arith
some_between (first ∷ front) a rest = omega arith

-- what holds of all, holds of them in the other order
all_swapped : (front : List (List ℕ)) (a b : List ℕ) (behind : List (List ℕ)) → list_all is_part (front ++ a ∷ b ∷ behind) ≡ true → list_all is_part (front ++ b ∷ a ∷ behind) ≡ true
all_swapped [] a b behind h =
    let one = and_parts (is_part a) (is_part b && list_all is_part behind) h in
    let two = and_parts (is_part b) (list_all is_part behind) one.1 in
    and_from _ _ two.0 (and_from _ _ one.0 two.1)
all_swapped (first ∷ front) a b behind h =
    let one = and_parts (is_part first) (list_all is_part (front ++ a ∷ b ∷ behind)) h in
    and_from _ _ one.0 (all_swapped front a b behind one.1)

-- a head's length counts only if it has no keys
make_same : (event : Name) (head other : ℕ) (draft : Draft) (hist : Hist) → make_of event head draft ≡ Ok hist → make_of event other draft ≡ Ok hist
make_same event head other draft hist e = from draft.keys e
  where
    rest : List KeyItem → Result Hist TriggerFault
    rest keys = value_items event (own_name draft.variable) (besides_hitcount (unwrap_or draft.values [])) >>= (λ values. sort_in draft keys values >>= (λ sort. Ok (made event draft keys values sort None)))

    from : (keys : Option (List KeyItem)) → given_or (Syntax head) keys rest ≡ Ok hist → given_or (Syntax other) keys rest ≡ Ok hist
    from None e = absurd cc
    from (Some keys) e = e

-- what parts make, they make in the other order
parts_swapped : (event : Name) (front behind : List (List ℕ)) (a b : List ℕ) (draft : Draft) → list_all is_part (front ++ a ∷ b ∷ behind) ≡ true
    → parts_from event empty_draft (pieces 58 5 (joined_parts (front ++ a ∷ b ∷ behind))) ≡ Ok draft → parts_from event empty_draft (pieces 58 5 (joined_parts (front ++ b ∷ a ∷ behind))) ≡ Ok draft
parts_swapped event front behind a b draft all e =
    let here = list_bytes (front ++ a ∷ b ∷ behind) 5 (some_between front a (b ∷ behind)) all in
    let there = list_bytes (front ++ b ∷ a ∷ behind) 5 (some_between front b (a ∷ behind)) (all_swapped front a b behind all) in
    let h = accepts event (pieces 58 5 (joined_parts (front ++ a ∷ b ∷ behind))) empty_draft draft e in
    let k = swapped event front empty_draft draft a b behind (subst (λ (l : List (List ℕ)). Accepts event empty_draft l draft) here h) in
    accepted event (pieces 58 5 (joined_parts (front ++ b ∷ a ∷ behind))) empty_draft draft (subst (λ (l : List (List ℕ)). Accepts event empty_draft l draft) (sym there) k)

-- a head alone is what its parts make
head_made : (event : Name) (parts : List ℕ) → list_any is_gap parts ≡ false
    → trigger_of event (codes "hist:" ++ parts) ≡ ((parts_from event empty_draft (pieces 58 5 parts) >>= make_of event (length (codes "hist:" ++ parts))) >>= with_made (Ok None))
head_made event parts clear = cut_by event (codes "hist:" ++ parts) (codes "hist:" ++ parts) [] [] [] (Ok None) (alone_cut (codes "hist:" ++ parts) clear) (filter_none event (length (codes "hist:" ++ parts) + 0))

-- so is a head with two parts in the other order
pub heads_swapped : (event : Name) (front behind : List (List ℕ)) (a b : List ℕ) (hist : Hist) → list_all is_part (front ++ a ∷ b ∷ behind) ≡ true
    → trigger_of event (codes "hist:" ++ joined_parts (front ++ a ∷ b ∷ behind)) ≡ Ok hist → trigger_of event (codes "hist:" ++ joined_parts (front ++ b ∷ a ∷ behind)) ≡ Ok hist
heads_swapped event front behind a b hist all e =
    let one = joined_parts (front ++ a ∷ b ∷ behind) in
    let two = joined_parts (front ++ b ∷ a ∷ behind) in
    let whole = sym (head_made event one (joined_clear (front ++ a ∷ b ∷ behind) all)) ∙ e in
    let bare = then_parts (parts_from event empty_draft (pieces 58 5 one) >>= make_of event (length (codes "hist:" ++ one))) (with_made (Ok None)) hist whole in
    let draft = then_parts (parts_from event empty_draft (pieces 58 5 one)) (make_of event (length (codes "hist:" ++ one))) bare.0 bare.1 in
    let read = parts_swapped event front behind a b draft.0 all draft.1 in
    let made = make_same event (length (codes "hist:" ++ one)) (length (codes "hist:" ++ two)) draft.0 bare.0 draft.2 in
    head_made event two (joined_clear (front ++ b ∷ a ∷ behind) (all_swapped front a b behind all))
    ∙ ap (λ (r : Result Draft TriggerFault). (r >>= make_of event (length (codes "hist:" ++ two))) >>= with_made (Ok None)) read
    ∙ ap (λ (r : Result Hist TriggerFault). r >>= with_made (Ok None)) made ∙ bare.2
