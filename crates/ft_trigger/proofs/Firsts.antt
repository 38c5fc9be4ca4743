-- Texts between separators, read from the left: the first fault decides.
use Rattle.std.proofs.Common.{◌≡◌, ◌<◌, ◌+◌, ◌==◌, ◌&&◌, ◌||◌, ℕ, Bool, true, false, not, List, [], ◌∷◌, ◌++◌, map, length, Result, Ok, Err, refl, sym, ap, ◌∙◌, subst, arith, append_assoc, append-nil, length-append, eqb-true}
use Rattle.std.proofs.lemmas.Bool.{and_parts}
use Rattle.std.specs.Prelude.{◌↔◌, codes}
use Rattle.std.specs.List.{list_all, list_any}
use Rattle.ft_fields.specs.declared.event.Name.{Name}
use Rattle.ft_hist.specs.declared.fault.TriggerFault.{TriggerFault}
use Rattle.ft_hist.specs.declared.fault.TriggerFault.TheVariants.{Syntax}
use Rattle.ft_head.specs.Draft.{Draft, empty_draft, ◌>>=◌, given_or, items_from, items_of, with_part, parts_from}
use Rattle.ft_text.specs.Items.{Piece, Word, word_of, pieces}
use Rattle.ft_text.proofs.Separators.{Free, pieces_last, pieces_append}
use Rattle.ft_trigger.specs.FirstFaults.{joined_by, AreBetween, front_text, Reading, AreRead, nothing, one_more, FailFirst, ReadAs, of_parts, of_items}
use Rattle.ft_trigger.specs.Shape.{IsCut}
use Rattle.ft_trigger.specs.TriggerIs.{trigger_of}
use Rattle.ft_trigger.proofs.Standing.{parts_first}

-- ---- cuts

-- no separator stands in the text
abbrev is_bare : ℕ → List ℕ → Bool
is_bare separator text = not (list_any (λ byte. byte == separator) text)

-- so none of its bytes is one
bare_free : (separator : ℕ) (text : List ℕ) → is_bare separator text ≡ true → Free separator text
bare_free separator [] bare = refl
bare_free separator (byte ∷ text) bare = from (byte == separator) (bare_free separator text) bare
  where
    from : (b : Bool) → (is_bare separator text ≡ true → Free separator text) → not (b || list_any (λ byte. byte == separator) text) ≡ true → (not b && list_all (λ byte. not (byte == separator)) text) ≡ true
    from true later bare = absurd cc
    from false later bare = later bare

-- texts as pieces, each at its place
placed : ℕ → List (List ℕ) → List Piece
placed place [] = []
placed place (text ∷ texts) = record { place = place; bytes = text } ∷ placed (place + length text + 1) texts

-- the pieces of texts with separators between them
pieces_joined : (separator : ℕ) (texts : List (List ℕ)) (place : ℕ) → 0 < length texts → list_all (is_bare separator) texts ≡ true → pieces separator place (joined_by separator texts) ≡ placed place texts
unfolding placed
pieces_joined separator [] place some bare = absurd (omega arith)
pieces_joined separator (text ∷ []) place some bare = pieces_last separator place text (bare_free separator text (and_parts (is_bare separator text) true bare).0)
pieces_joined separator (text ∷ next ∷ texts) place some bare =
    let both = and_parts (is_bare separator text) (list_all (is_bare separator) (next ∷ texts)) bare in
    pieces_append separator place text (joined_by separator (next ∷ texts))
    ∙ ap (λ (l : List Piece). l ++ pieces separator (place + length text + 1) (joined_by separator (next ∷ texts))) (pieces_last separator place text (bare_free separator text both.0))
    ∙ ap (λ (l : List Piece). record { place = place; bytes = text } ∷ l) (pieces_joined separator (next ∷ texts) (place + length text + 1) (omega arith) both.1)

-- the pieces of a whole
pieces_between : (separator place : ℕ) (whole : List ℕ) (texts : List (List ℕ)) → AreBetween separator whole texts → pieces separator place whole ≡ placed place texts
pieces_between separator place whole texts h = ap (pieces separator place) h.is ∙ pieces_joined separator texts place h.some h.bare

-- the texts of pieces
texts_placed : (texts : List (List ℕ)) (place : ℕ) → map (λ piece. piece.bytes) (placed place texts) ≡ texts
unfolding placed
texts_placed [] place = refl
texts_placed (text ∷ texts) place = ap (λ (l : List (List ℕ)). text ∷ l) (texts_placed texts (place + length text + 1))

-- there is one cut
pub same_cut : (separator : ℕ) (whole : List ℕ) (texts other : List (List ℕ)) → AreBetween separator whole texts → AreBetween separator whole other → texts ≡ other
same_cut separator whole texts other h g =
    sym (texts_placed texts 0) ∙ ap (λ (l : List Piece). map (λ piece. piece.bytes) l) (sym (pieces_between separator 0 whole texts h) ∙ pieces_between separator 0 whole other g) ∙ texts_placed other 0

-- a separator in front begins a text
cut_here : (separator byte : ℕ) (whole : List ℕ) (texts : List (List ℕ)) → byte ≡ separator → AreBetween separator whole texts → AreBetween separator (byte ∷ whole) ([] ∷ texts)
cut_here separator byte whole [] is h = absurd (omega (arith, h.some))
cut_here separator byte whole (text ∷ texts) is h = record { some = omega arith; bare = h.bare; is = ap (λ (b : ℕ). b ∷ whole) is ∙ ap (λ (t : List ℕ). separator ∷ t) h.is }

-- another byte in front is one of the first text
grown_joined : (separator byte : ℕ) (text : List ℕ) (texts : List (List ℕ)) → byte ∷ joined_by separator (text ∷ texts) ≡ joined_by separator ((byte ∷ text) ∷ texts)
grown_joined separator byte text [] = refl
grown_joined separator byte text (next ∷ texts) = refl

-- so it is in a cut
cut_later : (separator byte : ℕ) (whole : List ℕ) (texts : List (List ℕ)) → (byte == separator) ≡ false → AreBetween separator whole texts → (more : List (List ℕ)) × AreBetween separator (byte ∷ whole) more
cut_later separator byte whole [] apart h = absurd (omega (arith, h.some))
cut_later separator byte whole (text ∷ texts) apart h =
    ((byte ∷ text) ∷ texts, record { some = omega arith; bare = rw apart h.bare; is = ap (λ (t : List ℕ). byte ∷ t) h.is ∙ grown_joined separator byte text texts })

-- each text is cut
pub cut_at : (separator : ℕ) (whole : List ℕ) → (texts : List (List ℕ)) × AreBetween separator whole texts
cut_at separator [] = ([] ∷ [], record { some = omega arith; bare = refl; is = refl })
cut_at separator (byte ∷ whole) = from (byte == separator) refl (cut_at separator whole)
  where
    from : (b : Bool) → (byte == separator) ≡ b → (texts : List (List ℕ)) × AreBetween separator whole texts → (texts : List (List ℕ)) × AreBetween separator (byte ∷ whole) texts
    from true is h = ([] ∷ h.0, cut_here separator byte whole h.0 (eqb-true byte separator is) h.1)
    from false is h = cut_later separator byte whole h.0 is h.1

-- ---- readings

module _ {A : Type 0} (r : Reading A) where
  -- pieces, one after the other
  walk : A → List Piece → Result A TriggerFault
  walk read [] = Ok read
  walk read (piece ∷ pieces) = r.adds read piece >>= (λ more. walk more pieces)

  -- where texts after others begin
  abbrev place_behind : List (List ℕ) → ℕ
  place_behind front = r.place + length (front_text r.separator front)

  -- one more text in front
  front_more : (front : List (List ℕ)) (text : List ℕ) → length (front_text r.separator (front ++ text ∷ [])) ≡ length (front_text r.separator front) + length text + 1
  front_more [] text = omega (arith, length-append text (r.separator ∷ []))
  front_more (first ∷ front) text =
      omega (arith, front_more front text, length-append first (r.separator ∷ front_text r.separator (front ++ text ∷ [])), length-append first (r.separator ∷ front_text r.separator front))

  -- what is left is read after what has been read
  reads_from : (rest front : List (List ℕ)) (read : A) (answer : Result A TriggerFault) → AreRead r front read → walk read (placed (place_behind front) rest) ≡ answer → ReadAs r (front ++ rest) answer
  unfolding walk placed
  reads_from [] front read (Ok done) before is = let same : read ≡ done = cc in subst (λ (a : A). AreRead r (front ++ []) a) same (subst (λ (l : List (List ℕ)). AreRead r l read) (sym (append-nil front)) before)
  reads_from [] front read (Err fault) before is = absurd cc
  reads_from (text ∷ rest) front read answer before is = by (reads_from rest (front ++ text ∷ [])) (r.adds read (record { place = place_behind front; bytes = text })) refl is
    where
      by : ((more : A) (answer : Result A TriggerFault) → AreRead r (front ++ text ∷ []) more → walk more (placed (place_behind (front ++ text ∷ [])) rest) ≡ answer → ReadAs r (front ++ text ∷ [] ++ rest) answer)
          → (one : Result A TriggerFault) → r.adds read (record { place = place_behind front; bytes = text }) ≡ one → (one >>= (λ more. walk more (placed (place_behind front + length text + 1) rest))) ≡ answer → ReadAs r (front ++ text ∷ rest) answer
      by later (Ok more) one is =
          let next : place_behind front + length text + 1 ≡ place_behind (front ++ text ∷ []) = omega (arith, front_more front text) in
          subst (λ (l : List (List ℕ)). ReadAs r l answer) (append_assoc front (text ∷ []) rest)
          (later more answer (one_more front read text more before one) (ap (λ (n : ℕ). walk more (placed n rest)) (sym next) ∙ is))
      by later (Err fault) one is = subst (ReadAs r (front ++ text ∷ rest)) is (record { front = front; read = read; text = text; rest = rest; are = refl; before = before; fails = one })

  -- texts that are read are passed
  passes : (front : List (List ℕ)) (read : A) → AreRead r front read → (rest : List (List ℕ)) → walk r.start (placed r.place (front ++ rest)) ≡ walk read (placed (place_behind front) rest)
  unfolding walk placed
  passes [] read nothing rest = ap (λ (n : ℕ). walk r.start (placed n rest)) (omega arith)
  passes _ _ (one_more front read text more before one) rest =
      let next : place_behind front + length text + 1 ≡ place_behind (front ++ text ∷ []) = omega (arith, front_more front text) in
      ap (λ (l : List (List ℕ)). walk r.start (placed r.place l)) (append_assoc front (text ∷ []) rest) ∙ passes front read before (text ∷ rest)
      ∙ ap (λ (a : Result A TriggerFault). a >>= (λ more. walk more (placed (place_behind front + length text + 1) rest))) one ∙ ap (λ (n : ℕ). walk more (placed n rest)) next

  -- texts are read so
  reads_so : (texts : List (List ℕ)) (answer : Result A TriggerFault) → ReadAs r texts answer → walk r.start (placed r.place texts) ≡ answer
  unfolding walk placed
  reads_so texts (Ok read) h = ap (λ (l : List (List ℕ)). walk r.start (placed r.place l)) (sym (append-nil texts)) ∙ passes texts read h []
  reads_so texts (Err fault) h =
      ap (λ (l : List (List ℕ)). walk r.start (placed r.place l)) h.are ∙ passes h.front h.read h.before (h.text ∷ h.rest)
      ∙ ap (λ (a : Result A TriggerFault). a >>= (λ more. walk more (placed (place_behind h.front + length h.text + 1) h.rest))) h.fails

  -- a whole is read as its texts are
  read_between : (whole : List ℕ) (texts : List (List ℕ)) (answer : Result A TriggerFault) → AreBetween r.separator whole texts → (walk r.start (pieces r.separator r.place whole) ≡ answer) ↔ ReadAs r texts answer
  read_between whole texts answer h =
      let cut = ap (walk r.start) (pieces_between r.separator r.place whole texts h) in
      let at : r.place ≡ r.place + 0 = omega arith in
      (λ is. reads_from texts [] r.start answer nothing (ap (λ (n : ℕ). walk r.start (placed n texts)) (sym at) ∙ sym cut ∙ is), λ so. cut ∙ reads_so texts answer so)

-- ---- parts

-- parts are read one after the other
parts_walk : (event : Name) (parts : List Piece) (draft : Draft) → walk (of_parts event) draft parts ≡ parts_from event draft parts
unfolding walk parts_from
parts_walk event [] draft = refl
parts_walk event (part ∷ parts) draft = from (λ more. parts_walk event parts more) (with_part event draft part)
  where
    from : ((more : Draft) → walk (of_parts event) more parts ≡ parts_from event more parts) → (one : Result Draft TriggerFault) → (one >>= (λ more. walk (of_parts event) more parts)) ≡ (one >>= (λ more. parts_from event more parts))
    from later (Ok more) = later more
    from later (Err fault) = refl

-- the parts of a head, by the first that has a fault
pub first_parts : (event : Name) (whole : List ℕ) (parts : List (List ℕ)) (answer : Result Draft TriggerFault) → AreBetween 58 whole parts → (parts_from event empty_draft (pieces 58 5 whole) ≡ answer) ↔ ReadAs (of_parts event) parts answer
first_parts event whole parts answer h =
    let same = parts_walk event (pieces 58 5 whole) empty_draft in
    let so = read_between (of_parts event) whole parts answer h in
    (λ is. so.0 (same ∙ is), λ read. sym same ∙ so.1 read)

-- a text has the first fault of its parts
pub first_fault : (event : Name) (text head gap tail end : List ℕ) (parts : List (List ℕ)) (fault : TriggerFault) → IsCut text (codes "hist:" ++ head) gap tail end → AreBetween 58 head parts → FailFirst (of_parts event) parts fault
    → trigger_of event text ≡ Err fault
first_fault event text head gap tail end parts fault cut h fails = parts_first event text head gap tail end fault cut ((first_parts event head parts (Err fault) h).1 fails)

-- ---- items

module _ {A : Type 0} (add : List A → ℕ → Word → Result (List A) TriggerFault) (place : ℕ) where
  -- items are read one after the other
  items_walk : (items : List Piece) (list : List A) → walk (of_items add place) list items ≡ items_from add list items
  unfolding walk
  items_walk [] list = refl
  items_walk (item ∷ items) list = from (λ more. items_walk items more) (given_or (Syntax item.place) (word_of item.bytes) (add list item.place))
    where
      from : ((more : List A) → walk (of_items add place) more items ≡ items_from add more items) → (one : Result (List A) TriggerFault) → (one >>= (λ more. walk (of_items add place) more items)) ≡ (one >>= (λ more. items_from add more items))
      from later (Ok more) = later more
      from later (Err fault) = refl

  -- the items of a list, by the first that has a fault
  pub first_items : (whole : List ℕ) (items : List (List ℕ)) (answer : Result (List A) TriggerFault) → AreBetween 44 whole items → (items_of add place whole ≡ answer) ↔ ReadAs (of_items add place) items answer
  first_items whole items answer h =
      let same = items_walk (pieces 44 place whole) [] in
      let so = read_between (of_items add place) whole items answer h in
      (λ is. so.0 (same ∙ is), λ read. sym same ∙ so.1 read)
