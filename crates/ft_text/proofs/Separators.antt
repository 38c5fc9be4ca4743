-- Texts cut into pieces, and the bytes that stand in them.
use Rattle.std.proofs.Common.{◌≡◌, ◌<◌, ◌+◌, ◌&&◌, ℕ, Bool, true, false, not, List, [], ◌∷◌, ◌++◌, length, refl, sym, ap, ◌∙◌, arith, ◌==◌, eq-eqb, ne_eqb, cond, if◌then◌else◌}
use Rattle.std.proofs.lemmas.Bool.{and_parts, and_from, not-true, not_from_false, or_from}
use Rattle.std.specs.List.{list_all}
use Rattle.ft_text.specs.Tokens.{is_gap, is_in_name}
use Rattle.ft_text.specs.Items.{Piece, onto_first_piece, pieces}

-- ---- bytes

-- no space and no tab
abbrev pub is_seen : ℕ → Bool
is_seen byte = not (is_gap byte)

-- a byte that can stand in a part: neither a space nor a tab nor a `:`
abbrev pub is_inner : ℕ → Bool
is_inner byte = not (is_gap byte) && not (byte == 58)

-- a byte that can stand in an item: one of a part, and no `,`
abbrev pub is_bare : ℕ → Bool
is_bare byte = is_inner byte && not (byte == 44)

-- the separator does not stand in the text
abbrev pub Free : ℕ → List ℕ → Type 0
Free separator text = list_all (λ byte. not (byte == separator)) text ≡ true

-- what each byte passes, it passes by a weaker test too
pub all_weaker : (p q : ℕ → Bool) → ((byte : ℕ) → p byte ≡ true → q byte ≡ true) → (text : List ℕ) → list_all p text ≡ true → list_all q text ≡ true
all_weaker p q weaker [] h = refl
all_weaker p q weaker (byte ∷ text) h =
    let both = and_parts (p byte) (list_all p text) h in
    and_from (q byte) (list_all q text) (weaker byte both.0) (all_weaker p q weaker text both.1)

-- a byte of an item is one of a part
pub bare_inner : (text : List ℕ) → list_all is_bare text ≡ true → list_all is_inner text ≡ true
bare_inner = all_weaker is_bare is_inner (λ byte h. (and_parts (is_inner byte) (not (byte == 44)) h).0)

-- no `,` stands in an item
pub bare_free : (text : List ℕ) → list_all is_bare text ≡ true → Free 44 text
bare_free = all_weaker is_bare (λ byte. not (byte == 44)) (λ byte h. (and_parts (is_inner byte) (not (byte == 44)) h).1)

-- no `:` stands in a part
pub inner_free : (text : List ℕ) → list_all is_inner text ≡ true → Free 58 text
inner_free = all_weaker is_inner (λ byte. not (byte == 58)) (λ byte h. (and_parts (is_seen byte) (not (byte == 58)) h).1)

-- no space and no tab stands in a part
pub inner_seen : (text : List ℕ) → list_all is_inner text ≡ true → list_all is_seen text ≡ true
inner_seen = all_weaker is_inner is_seen (λ byte h. (and_parts (is_seen byte) (not (byte == 58)) h).0)

-- a byte that passes is none that does not
pub passes_apart : (test : ℕ → Bool) (byte other : ℕ) → test byte ≡ true → test other ≡ false → (byte == other) ≡ false
passes_apart test byte other h fails = ne_eqb byte other (λ e. absurd (let x : true ≡ false = sym h ∙ ap test e ∙ fails in cc))

-- a byte of a name can stand in an item
name_bare : (byte : ℕ) → is_in_name byte ≡ true → is_bare byte ≡ true
name_bare byte h =
    and_from (is_inner byte) (not (byte == 44))
    (and_from (is_seen byte) (not (byte == 58))
    (not_from_false (is_gap byte) (or_from (byte == 32) (byte == 9) (passes_apart is_in_name byte 32 h refl) (passes_apart is_in_name byte 9 h refl)))
    (not_from_false (byte == 58) (passes_apart is_in_name byte 58 h refl)))
    (not_from_false (byte == 44) (passes_apart is_in_name byte 44 h refl))

-- so can a name
pub names_bare : (text : List ℕ) → list_all is_in_name text ≡ true → list_all is_bare text ≡ true
names_bare = all_weaker is_in_name is_bare name_bare

-- ---- pieces

-- one more byte in front of a first piece
grow_first : (b : Bool) (place next byte : ℕ) (a : List ℕ) (other list rest : List Piece) → b ≡ false → list ≡ record { place = next; bytes = a } ∷ rest
    → cond b other (onto_first_piece place byte list) ≡ record { place = place; bytes = byte ∷ a } ∷ rest
grow_first b place next byte a other list rest h e = rw (h, e) refl

-- a piece without the separator, before one
pub pieces_first : (separator place : ℕ) (a b : List ℕ) → Free separator a
    → (after : ℕ) × (pieces separator place (a ++ separator ∷ b) ≡ record { place = place; bytes = a } ∷ pieces separator after b)
pieces_first separator place [] b free = (place + 1, rw (eq-eqb separator separator refl) refl)
pieces_first separator place (byte ∷ a) b free =
    let both = and_parts (not (byte == separator)) (list_all (λ byte. not (byte == separator)) a) free in
    let more = pieces_first separator (place + 1) a b both.1 in
    (more.0, grow_first (byte == separator) place (place + 1) byte a _ _ _ (not-true (byte == separator) both.0) more.1)

-- a text without the separator is one piece
pub pieces_last : (separator place : ℕ) (a : List ℕ) → Free separator a → pieces separator place a ≡ record { place = place; bytes = a } ∷ []
pieces_last separator place [] free = refl
pieces_last separator place (byte ∷ a) free =
    let both = and_parts (not (byte == separator)) (list_all (λ byte. not (byte == separator)) a) free in
    grow_first (byte == separator) place (place + 1) byte a _ _ _ (not-true (byte == separator) both.0) (pieces_last separator (place + 1) a both.1)

-- a byte in front makes no piece
grown_some : (place byte : ℕ) (list : List Piece) → 0 < length list → 0 < length (onto_first_piece place byte list)
grown_some place byte [] some = some
grown_some place byte (piece ∷ list) some = omega arith

-- there is at least one piece
pub pieces_some : (separator place : ℕ) (text : List ℕ) → 0 < length (pieces separator place text)
pieces_some separator place [] = omega arith
pieces_some separator place (byte ∷ text) = from (byte == separator) (grown_some place byte (pieces separator (place + 1) text) (pieces_some separator (place + 1) text))
  where
    from : (b : Bool) → 0 < length (onto_first_piece place byte (pieces separator (place + 1) text))
        → 0 < length (cond b (record { place = place; bytes = [] } ∷ pieces separator (place + 1) text) (onto_first_piece place byte (pieces separator (place + 1) text)))
    from true h = omega arith
    from false h = h

-- one more byte in front of a first piece, before others
grown_append : (place byte : ℕ) (list rest : List Piece) → 0 < length list → onto_first_piece place byte (list ++ rest) ≡ onto_first_piece place byte list ++ rest
grown_append place byte [] rest some = absurd (omega arith)
grown_append place byte (piece ∷ list) rest some = refl

-- texts with a separator between them have the pieces of both
pub pieces_append : (separator place : ℕ) (a b : List ℕ) → pieces separator place (a ++ separator ∷ b) ≡ pieces separator place a ++ pieces separator (place + length a + 1) b
pieces_append separator place [] b =
    let next : place + 1 ≡ place + 0 + 1 = omega arith in
    rw (eq-eqb separator separator refl) (ap (λ (n : ℕ). record { place = place; bytes = [] } ∷ pieces separator n b) next)
pieces_append separator place (byte ∷ a) b = from (pieces_append separator (place + 1) a b) (byte == separator)
  where
    rest : List Piece
    rest = pieces separator (place + length (byte ∷ a) + 1) b

    from : pieces separator (place + 1) (a ++ separator ∷ b) ≡ pieces separator (place + 1) a ++ pieces separator (place + 1 + length a + 1) b
        → (t : Bool) → (if t then (record { place = place; bytes = [] } ∷ pieces separator (place + 1) (a ++ separator ∷ b)) else onto_first_piece place byte (pieces separator (place + 1) (a ++ separator ∷ b)))
        ≡ (if t then (record { place = place; bytes = [] } ∷ pieces separator (place + 1) a) else onto_first_piece place byte (pieces separator (place + 1) a)) ++ rest
    from later true = ap (λ (l : List Piece). record { place = place; bytes = [] } ∷ l) (later ∙ ap (λ (n : ℕ). pieces separator (place + 1) a ++ pieces separator n b) (omega arith))
    from later false =
        ap (onto_first_piece place byte) (later ∙ ap (λ (n : ℕ). pieces separator (place + 1) a ++ pieces separator n b) (omega arith))
        ∙ grown_append place byte (pieces separator (place + 1) a) rest (pieces_some separator (place + 1) a)
