-- What the loop of a match keeps.
use Rattle.std.proofs.Common.{◌≡◌, ◌≤◌, ◌↔◌, ℕ, subst, List, [], ◌∷◌, drop, length, Option, None, Some}
use Rattle.ft_text.specs.declared.globs.Place.{Place}
use Rattle.ft_text.specs.Glob.{Item, ItemsAre, SomeEnd, Glob}
use Rattle.ft_text.specs.inner.Walk.{Takes}
use Rattle.ft_text.proofs.Stars.{Stands, stands_past, stands_star, stands_back, stands_none, stands_end}

-- the items stand for the answer before the text; if a star was met, a later try is at an end after the place where it was tried last
abbrev pub StandsBehind : Type 0 → List ℕ → List ℕ → List ℕ → List ℕ → Type 0
StandsBehind answer pattern text behind tried =
    (items : List Item) × (after : List Item) × ItemsAre pattern items × ItemsAre behind after × Stands answer items text (SomeEnd (Glob after) (drop 1 tried))

abbrev pub StandsAt : Type 0 → List ℕ → List ℕ → Option Place → Type 0
StandsAt answer pattern text None = (items : List Item) × ItemsAre pattern items × Stands answer items text ⊥
StandsAt answer pattern text (Some last) = StandsBehind answer pattern text last.pattern.now last.text.now

-- the first item takes the byte
abbrev pub PastIs : ℕ → List Item → List ℕ → Type 0
PastIs byte items rest = (item : Item) × (behind : List Item) × (items ≡ item ∷ behind) × Takes item byte × ItemsAre rest behind

pub at_past : (answer : Type 0) (pattern rest text left : List ℕ) (byte : ℕ) (star : Option Place) → text ≡ byte ∷ left → ((items : List Item) → ItemsAre pattern items → PastIs byte items rest) → StandsAt answer pattern text star → StandsAt answer rest left star
at_past answer pattern rest text left byte None e step h =
    let s = step h.0 h.1 in
    let here : Stands answer (s.0 ∷ s.1) (byte ∷ left) ⊥ = rw (← s.2, ← e) h.2 in
    (s.1, s.4, stands_past answer ⊥ s.0 s.1 byte left s.3 here)
at_past answer pattern rest text left byte (Some last) e step h =
    let s = step h.0 h.2 in
    let here : Stands answer (s.0 ∷ s.1) (byte ∷ left) (SomeEnd (Glob h.1) (drop 1 last.text.now)) = rw (← s.2, ← e) h.4 in
    (s.1, h.1, s.4, h.3, stands_past answer _ s.0 s.1 byte left s.3 here)

pub at_star : (answer : Type 0) (pattern text : List ℕ) (star : Option Place) (new : Place) → new.text.now ≡ text → ((items : List Item) → ItemsAre pattern items → (behind : List Item) × (items ≡ Item.Any ∷ behind) × ItemsAre new.pattern.now behind) → StandsAt answer pattern text star → StandsAt answer new.pattern.now text (Some new)
at_star answer pattern text None new e step h =
    let s = step h.0 h.1 in
    let here : Stands answer (Item.Any ∷ s.0) text ⊥ = rw (← s.1) h.2 in
    (s.0, s.0, s.2, s.2, rw e (stands_star answer ⊥ s.0 text here))
at_star answer pattern text (Some last) new e step h =
    let s = step h.0 h.2 in
    let here : Stands answer (Item.Any ∷ s.0) text (SomeEnd (Glob h.1) (drop 1 last.text.now)) = rw (← s.1) h.4 in
    (s.0, s.0, s.2, s.2, rw e (stands_star answer _ s.0 text here))

pub at_back : (answer : Type 0) (pattern text left behind tried again : List ℕ) (byte : ℕ) → text ≡ byte ∷ left → ((items : List Item) → ItemsAre pattern items → (end : List ℕ) → Glob items (byte ∷ end) → ⊥) → again ≡ drop 1 tried → StandsBehind answer pattern text behind tried → StandsBehind answer behind again behind again
at_back answer pattern text left behind tried again byte e step same h =
    let miss : Glob h.0 text → ⊥ = λ g. step h.0 h.2 left (subst (λ (t : List ℕ). Glob h.0 t) e g) in
    (h.1, h.1, h.3, h.3, rw same (stands_back answer h.0 h.1 text (drop 1 tried) miss h.4))

pub at_none : (answer : Type 0) (pattern text left : List ℕ) (byte : ℕ) → text ≡ byte ∷ left → ((items : List Item) → ItemsAre pattern items → (end : List ℕ) → Glob items (byte ∷ end) → ⊥) → StandsAt answer pattern text None → answer → ⊥
at_none answer pattern text left byte e step h =
    stands_none answer h.0 text (λ g. step h.0 h.1 left (subst (λ (t : List ℕ). Glob h.0 t) e g)) h.2

pub at_end : (answer : Type 0) (pattern text : List ℕ) (star : Option Place) → text ≡ [] → StandsAt answer pattern text star → (items : List Item) × ItemsAre pattern items × (answer ↔ Glob items [])
at_end answer pattern text None e h = (h.0, h.1, stands_end answer ⊥ h.0 (subst (λ (t : List ℕ). Stands answer h.0 t ⊥) e h.2))
at_end answer pattern text (Some last) e h =
    let later : Type 0 = SomeEnd (Glob h.1) (drop 1 last.text.now) in
    (h.0, h.2, stands_end answer later h.0 (subst (λ (t : List ℕ). Stands answer h.0 t later) e h.4))

-- ---- the loop ends

-- how many bytes of the text the last star leaves to try at
abbrev pub tries : List ℕ → Option Place → ℕ
tries text None = length text
tries text (Some last) = length last.text.now

-- what is after the last star is no longer than the pattern
abbrev pub IsShort : List ℕ → Option Place → Type 0
IsShort pattern None = Unit {0}
IsShort pattern (Some last) = length last.pattern.now ≤ length pattern
