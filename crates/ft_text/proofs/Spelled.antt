-- Pieces and words are what their texts say.
use Rattle.std.proofs.Common.{◌≡◌, ◌≢◌, ◌+◌, ◌==◌, ℕ, Bool, true, false, List, [], ◌∷◌, ◌++◌, length, drop, Option, Some, None, option_map, refl, sym, ap, ◌∙◌, subst, arith, codes, cond, append-nil, eqb-true, if◌then◌else◌}
use Rattle.std.proofs.lemmas.Bool.{and_parts, and_from, or_parts, or_from, not_from_false}
use Rattle.std.proofs.lemmas.Option.{same_Some}
use Rattle.std.specs.Prelude.{◌↔◌}
use Rattle.std.specs.List.{list_all, list_any, starts_with}
use Rattle.std.specs.Option.{option_and_then}
use Rattle.ft_text.specs.Tokens.{is_in_name, name_at}
use Rattle.ft_text.specs.Spelling.{more_pieces, ArePlaced, ArePieces, IsNamed, suffix_bytes, IsItem}
use Rattle.ft_text.specs.Items.{Piece, onto_first_piece, pieces, Word, suffix_of, word_from, word_with, word_of}
use Rattle.ft_text.proofs.Separators.{Free, pieces_last, pieces_append}
use Rattle.ft_text.proofs.Spellings.{IsName, begins_inside, name_parts, front_same, suffix_text, IsSuffix, word_name, word_again}

-- ---- pieces

module _ (separator : ℕ) where
  -- no separator stands in the text
  abbrev bare : List ℕ → Bool
  bare text = list_any (λ byte. byte == separator) text

  -- a piece, before others
  before : (place : ℕ) (text : List ℕ) (list : List Piece) → ArePieces separator (place + 0 + 1) text list → ArePieces separator place (separator ∷ text) (record { place = place; bytes = [] } ∷ list)
  before place text list h = record {
    first = record { place = place; bytes = [] };
    more = list;
    list_is = refl;
    text_is = ap (λ (t : List ℕ). separator ∷ t) (h.text_is ∙ ap (λ (l : List Piece). told l) (sym h.list_is)) ∙ joined h.first h.more list h.list_is;
    placed = (refl, refl, subst (ArePlaced separator (place + 0 + 1)) (sym h.list_is) h.placed);
  }
    where
      told : List Piece → List ℕ
      told [] = []
      told (piece ∷ pieces) = piece.bytes ++ more_pieces separator pieces

      joined : (first : Piece) (more list : List Piece) → list ≡ first ∷ more → separator ∷ told list ≡ more_pieces separator list
      joined first more [] e = absurd cc
      joined first more (piece ∷ pieces) e = refl

  -- a byte more in front of a first piece
  in_front : (place byte : ℕ) (text : List ℕ) (list : List Piece) → (byte == separator) ≡ false → ArePieces separator (place + 1) text list → ArePieces separator place (byte ∷ text) (onto_first_piece place byte list)
  in_front place byte text list apart h = record {
    first = record { place = place; bytes = byte ∷ h.first.bytes };
    more = h.more;
    list_is = ap (onto_first_piece place byte) h.list_is;
    text_is = ap (λ (t : List ℕ). byte ∷ t) h.text_is;
    placed = (
      refl,
      or_from (byte == separator) (bare h.first.bytes) apart h.placed.1,
      (let next : place + 1 + length h.first.bytes + 1 ≡ place + length (byte ∷ h.first.bytes) + 1 = omega arith in subst (λ (n : ℕ). ArePlaced separator n h.more) next h.placed.2),
    );
  }

  -- a text's pieces make it
  pieces_are : (place : ℕ) (text : List ℕ) → ArePieces separator place text (pieces separator place text)
  pieces_are place [] = record { first = record { place = place; bytes = [] }; more = []; list_is = refl; text_is = refl; placed = (refl, refl, tt) }
  pieces_are place (byte ∷ text) = from (pieces_are (place + 1) text) (byte == separator) refl
    where
      from : ArePieces separator (place + 1) text (pieces separator (place + 1) text) → (b : Bool) → (byte == separator) ≡ b
          → ArePieces separator place (byte ∷ text) (if b then (record { place = place; bytes = [] } ∷ pieces separator (place + 1) text) else onto_first_piece place byte (pieces separator (place + 1) text))
      from later true is =
          let same : separator ≡ byte = sym (eqb-true byte separator is) in
          let next : place + 1 ≡ place + 0 + 1 = omega arith in
          subst (λ (s : ℕ). ArePieces separator place (s ∷ text) (record { place = place; bytes = [] } ∷ pieces separator (place + 1) text)) same
          (before place text (pieces separator (place + 1) text) (subst (λ (n : ℕ). ArePieces separator n text (pieces separator (place + 1) text)) next later))
      from later false is = in_front place byte text (pieces separator (place + 1) text) is later

  -- no separator, byte by byte
  free_of : (text : List ℕ) → bare text ≡ false → Free separator text
  free_of [] h = refl
  free_of (byte ∷ text) h = let both = or_parts (byte == separator) (bare text) h in and_from _ _ (not_from_false (byte == separator) both.0) (free_of text both.1)

  -- what pieces make is cut into them
  are_pieces : (place : ℕ) (first : Piece) (more : List Piece) → ArePlaced separator place (first ∷ more) → pieces separator place (first.bytes ++ more_pieces separator more) ≡ first ∷ more
  are_pieces place first [] h =
      ap (pieces separator place) (append-nil first.bytes) ∙ pieces_last separator place first.bytes (free_of first.bytes h.1)
      ∙ ap (λ (p : ℕ). record { place = p; bytes = first.bytes } ∷ []) (sym h.0)
  are_pieces place first (next ∷ more) h =
      pieces_append separator place first.bytes (next.bytes ++ more_pieces separator more)
      ∙ ap (λ (l : List Piece). l ++ pieces separator (place + length first.bytes + 1) (next.bytes ++ more_pieces separator more)) (pieces_last separator place first.bytes (free_of first.bytes h.1))
      ∙ ap (λ (l : List Piece). record { place = place; bytes = first.bytes } ∷ l) (are_pieces (place + length first.bytes + 1) next more h.2)
      ∙ ap (λ (p : ℕ). record { place = p; bytes = first.bytes } ∷ (next ∷ more)) (sym h.0)

  -- a text is cut into these pieces if and only if they make it
  pub one_cut : (place : ℕ) (text : List ℕ) (list : List Piece) → (pieces separator place text ≡ list) ↔ ArePieces separator place text list
  one_cut place text list = (
    λ is. subst (ArePieces separator place text) is (pieces_are place text),
    λ h. ap (pieces separator place) h.text_is ∙ are_pieces place h.first h.more h.placed ∙ sym h.list_is,
  )

-- ---- words

-- a name, told by its bytes
pub named : (text : List ℕ) → IsName text → IsNamed text
named [] h = absurd (let e = h.begins in cc)
named (byte ∷ rest) h = record { first = byte; rest = rest; is = refl; begins = h.begins; inside = (and_parts (is_in_name byte) (list_all is_in_name rest) h.inside).1 }

-- a name that its bytes tell
pub name_told : (text : List ℕ) → IsNamed text → IsName text
name_told text h = subst IsName (sym h.is) (record { begins = h.begins; inside = and_from _ _ (begins_inside h.first h.begins) h.inside })

-- what stands after a name is its suffix
suffix_parts : (rest : List ℕ) (suffix : Option (List ℕ)) → suffix_of rest ≡ Some suffix → (rest ≡ suffix_text suffix) × IsSuffix suffix
suffix_parts [] suffix e = let same : None ≡ suffix = cc in subst (λ (s : Option (List ℕ)). ([] ≡ suffix_text s) × IsSuffix s) same (refl, tt)
suffix_parts (dot ∷ []) suffix e = absurd cc
suffix_parts (dot ∷ byte ∷ rest) suffix e = from (dot == 46) refl e
  where
    from : (b : Bool) → (dot == 46) ≡ b → cond b (Some (Some (byte ∷ rest))) None ≡ Some suffix → (dot ∷ byte ∷ rest ≡ suffix_text suffix) × IsSuffix suffix
    from false is e = absurd cc
    from true is e =
        let same : Some (byte ∷ rest) ≡ suffix = cc in
        subst (λ (s : Option (List ℕ)). (dot ∷ byte ∷ rest ≡ suffix_text s) × IsSuffix s) same (ap (λ (d : ℕ). d ∷ byte ∷ rest) (eqb-true dot 46 is), tt)

-- the word of a text after its `$`, or without one, is its text
with_parts : (dollar : Bool) (text : List ℕ) (word : Word) → word_with dollar text ≡ Some word → (word.dollar ≡ dollar) × (text ≡ word.name ++ suffix_text word.suffix) × IsSuffix word.suffix
unfolding word_with
with_parts dollar text word e = from (name_at text) refl e
  where
    inner : (cut : List ℕ × List ℕ) (o : Option (Option (List ℕ))) → text ≡ cut.0 ++ cut.1 → suffix_of cut.1 ≡ o → option_map (λ suffix. record { dollar = dollar; name = cut.0; suffix = suffix }) o ≡ Some word
        → (word.dollar ≡ dollar) × (text ≡ word.name ++ suffix_text word.suffix) × IsSuffix word.suffix
    inner cut None is ends e = absurd cc
    inner cut (Some suffix) is ends e =
        let parts = suffix_parts cut.1 suffix ends in
        subst (λ (w : Word). (w.dollar ≡ dollar) × (text ≡ w.name ++ suffix_text w.suffix) × IsSuffix w.suffix) (same_Some (record { dollar = dollar; name = cut.0; suffix = suffix }) word e)
        (refl, is ∙ ap (λ (t : List ℕ). cut.0 ++ t) parts.0, parts.1)

    from : (o : Option (List ℕ × List ℕ)) → name_at text ≡ o → option_and_then (word_from dollar) o ≡ Some word → (word.dollar ≡ dollar) × (text ≡ word.name ++ suffix_text word.suffix) × IsSuffix word.suffix
    from None is e = absurd cc
    from (Some cut) is e = inner cut (suffix_of cut.1) (name_parts text cut is).1 refl e

-- the word of an item is its text
word_parts : (item : List ℕ) (word : Word) → word_of item ≡ Some word → (item ≡ (if word.dollar then codes "$" else []) ++ (word.name ++ suffix_text word.suffix)) × IsSuffix word.suffix
unfolding word_of
word_parts item word e = from (starts_with ◌==◌ item (codes "$")) refl e
  where
    from : (b : Bool) → starts_with ◌==◌ item (codes "$") ≡ b → cond b (word_with true (drop 1 item)) (word_with false item) ≡ Some word
        → (item ≡ (if word.dollar then codes "$" else []) ++ (word.name ++ suffix_text word.suffix)) × IsSuffix word.suffix
    from true is e =
        let parts = with_parts true (drop 1 item) word e in
        (front_same item (codes "$") is ∙ ap (λ (t : List ℕ). codes "$" ++ t) parts.1 ∙ ap (λ (d : Bool). (if d then codes "$" else []) ++ (word.name ++ suffix_text word.suffix)) (sym parts.0), parts.2)
    from false is e =
        let parts = with_parts false item word e in
        (parts.1 ∙ ap (λ (d : Bool). (if d then codes "$" else []) ++ (word.name ++ suffix_text word.suffix)) (sym parts.0), parts.2)

-- a suffix's bytes are its text
suffix_same : (suffix : Option (List ℕ)) → suffix_text suffix ≡ suffix_bytes suffix
suffix_same None = refl
suffix_same (Some suffix) = refl

-- a suffix has a byte
suffix_some : (suffix : Option (List ℕ)) → IsSuffix suffix → suffix ≢ Some []
suffix_some None h = λ e. absurd cc
suffix_some (Some []) h = absurd h
suffix_some (Some (byte ∷ rest)) h = λ e. (let same : byte ∷ rest ≡ [] = same_Some (byte ∷ rest) [] e in cc)

-- what has a byte is a suffix
some_suffix : (suffix : Option (List ℕ)) → suffix ≢ Some [] → IsSuffix suffix
some_suffix None h = tt
some_suffix (Some []) h = h refl
some_suffix (Some (byte ∷ rest)) h = tt

-- a word's text, with or without a `$`
text_same : (dollar : Bool) (name rest : List ℕ) → (if dollar then codes "$" else []) ++ (name ++ rest) ≡ (if dollar then codes "$" else []) ++ name ++ rest
text_same true name rest = refl
text_same false name rest = refl

-- an item is read as a word if and only if it is that word's text
pub one_word : (item : List ℕ) (word : Word) → (word_of item ≡ Some word) ↔ IsItem item word
one_word item word = (
  λ e. let parts = word_parts item word e in record {
    named = named word.name (word_name item word e);
    ended = suffix_some word.suffix parts.1;
    is = parts.0 ∙ ap (λ (t : List ℕ). (if word.dollar then codes "$" else []) ++ (word.name ++ t)) (suffix_same word.suffix);
  },
  λ h. ap word_of (h.is ∙ ap (λ (t : List ℕ). (if word.dollar then codes "$" else []) ++ (word.name ++ t)) (sym (suffix_same word.suffix)) ∙ text_same word.dollar word.name (suffix_text word.suffix))
      ∙ word_again word (name_told word.name h.named) (some_suffix word.suffix h.ended),
)
