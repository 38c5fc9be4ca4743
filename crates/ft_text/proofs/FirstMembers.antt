-- The item that stands first in a pattern, by its first byte.
use Rattle.std.proofs.Common.{◌≡◌, ◌≢◌, ℕ, subst, List, [], ◌∷◌, length, refl, sym, ap, ◌∙◌, arith}
use Rattle.ft_text.specs.Glob.{Item, ItemsAre, IsLiteral, Glob}
use Rattle.ft_text.specs.inner.Walk.{Takes}

-- one item stands first, and the others after it
pub record Firsts (item : Item) (rest : List ℕ) (items : List Item) : Type 0 where
  pub behind : List Item
  pub first : items ≡ item ∷ behind
  pub read : ItemsAre rest behind

heads : (a b : ℕ) (x y text : List ℕ) → text ≡ a ∷ x → text ≡ b ∷ y → (a ≡ b) × (x ≡ y)
heads a b x y text e f = let g : a ∷ x ≡ b ∷ y = sym e ∙ f in (cc, cc)

read_at : (rest rest' : List ℕ) (items : List Item) → rest ≡ rest' → ItemsAre rest items → ItemsAre rest' items
read_at rest rest' items e h = subst (λ (t : List ℕ). ItemsAre t items) e h

pub star_first : (text rest : List ℕ) (items : List Item) → text ≡ 42 ∷ rest → ItemsAre text items → Firsts Item.Any rest items
star_first text rest [] e h = absurd cc
star_first text rest (Item.Any ∷ items) e h = record { behind = items; first = refl; read = read_at h.0 rest items (heads 42 42 h.0 rest text h.1 e).1 h.2 }
star_first text rest (Item.One ∷ items) e h = let l = (heads 63 42 h.0 rest text h.1 e).0 in absurd (omega arith)
star_first text rest (Item.Class negated members ∷ items) e h = let l = (heads 91 42 h.1.0 rest text h.1.1 e).0 in absurd (omega arith)
star_first text rest (Item.Byte own ∷ items) e h = absurd (h.1.1.0 (heads own 42 h.0 rest text h.1.0 e).0)

pub one_first : (text rest : List ℕ) (items : List Item) → text ≡ 63 ∷ rest → ItemsAre text items → Firsts Item.One rest items
one_first text rest [] e h = absurd cc
one_first text rest (Item.Any ∷ items) e h = let l = (heads 42 63 h.0 rest text h.1 e).0 in absurd (omega arith)
one_first text rest (Item.One ∷ items) e h = record { behind = items; first = refl; read = read_at h.0 rest items (heads 63 63 h.0 rest text h.1 e).1 h.2 }
one_first text rest (Item.Class negated members ∷ items) e h = let l = (heads 91 63 h.1.0 rest text h.1.1 e).0 in absurd (omega arith)
one_first text rest (Item.Byte own ∷ items) e h = absurd (h.1.1.1 (heads own 63 h.0 rest text h.1.0 e).0)

pub byte_first : (byte : ℕ) (text rest : List ℕ) (items : List Item) → IsLiteral byte → text ≡ byte ∷ rest → ItemsAre text items → Firsts (Item.Byte byte) rest items
byte_first byte text rest [] plain e h = absurd cc
byte_first byte text rest (Item.Any ∷ items) plain e h = absurd (plain.0 (sym (heads 42 byte h.0 rest text h.1 e).0))
byte_first byte text rest (Item.One ∷ items) plain e h = absurd (plain.1 (sym (heads 63 byte h.0 rest text h.1 e).0))
byte_first byte text rest (Item.Class negated members ∷ items) plain e h = absurd (plain.2 (sym (heads 91 byte h.1.0 rest text h.1.1 e).0))
byte_first byte text rest (Item.Byte own ∷ items) plain e h =
    let both = heads own byte h.0 rest text h.1.0 e in
    record { behind = items; first = ap (λ (x : ℕ). Item.Byte x ∷ items) both.0; read = read_at h.0 rest items both.1 h.2 }

-- ---- what a step finds

-- the first item takes the byte
pub record TakesFirst (byte : ℕ) (rest : List ℕ) (items : List Item) : Type 0 where
  pub item : Item
  pub behind : List Item
  pub first : items ≡ item ∷ behind
  pub takes : Takes item byte
  pub read : ItemsAre rest behind

pub takes_one : (first byte : ℕ) (text rest : List ℕ) (items : List Item) → first ≡ 63 → text ≡ first ∷ rest → ItemsAre text items → TakesFirst byte rest items
takes_one first byte text rest items one e h =
    let f = one_first text rest items (e ∙ ap (λ (x : ℕ). x ∷ rest) one) h in
    record { item = Item.One; behind = f.behind; first = f.first; takes = tt; read = f.read }

pub takes_byte : (first byte : ℕ) (text rest : List ℕ) (items : List Item) → IsLiteral first → first ≡ byte → text ≡ first ∷ rest → ItemsAre text items → TakesFirst byte rest items
takes_byte first byte text rest items plain same e h =
    let f = byte_first first text rest items plain e h in
    record { item = Item.Byte first; behind = f.behind; first = f.first; takes = sym same; read = f.read }

-- another byte stands there
pub misses_byte : (first byte : ℕ) (text rest : List ℕ) (items : List Item) → IsLiteral first → first ≢ byte → text ≡ first ∷ rest → ItemsAre text items → (left : List ℕ) → Glob items (byte ∷ left) → ⊥
misses_byte first byte text rest items plain other e h left glob =
    let f = byte_first first text rest items plain e h in
    other (sym (rw f.first at glob).0)

-- no item takes a byte if the pattern is at its end
pub misses_end : (byte : ℕ) (text : List ℕ) (items : List Item) → text ≡ [] → ItemsAre text items → (left : List ℕ) → Glob items (byte ∷ left) → ⊥
misses_end byte text [] e h left glob = absurd cc
misses_end byte text (Item.Any ∷ items) e h left glob = let f = sym e ∙ h.1 in absurd cc
misses_end byte text (Item.One ∷ items) e h left glob = let f = sym e ∙ h.1 in absurd cc
misses_end byte text (Item.Class negated members ∷ items) e h left glob = let f = sym e ∙ h.1.1 in absurd cc
misses_end byte text (Item.Byte own ∷ items) e h left glob = let f = sym e ∙ h.1.0 in absurd cc

pub none_left : (text : List ℕ) → length text ≡ 0 → text ≡ []
none_left [] e = refl
none_left (b ∷ text) e = absurd (omega arith)
