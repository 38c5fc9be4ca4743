-- One remembered star is enough.
use Rattle.std.proofs.Common.{◌≡◌, ◌↔◌, ◌⊎◌, ℕ, inl, inr, subst, List, [], ◌∷◌, ◌++◌, drop, append_assoc, refl, sym, ap, ◌∙◌, eqb, true, false, IsTrue}
use Rattle.std.specs.List.{list_all}
use Rattle.std.proofs.lemmas.Bool.{ne_eqb, and_parts}
use Rattle.ft_text.specs.Glob.{Item, ItemsAre, OneThen, SomeEnd, ClassHas, Glob}
use Rattle.ft_text.specs.inner.Walk.{Takes}

-- ---- ends of a text

-- some end is the text itself or an end of what is after its first byte
pub end_cases : (Q : List ℕ → Type 0) (text : List ℕ) → SomeEnd Q text → Q text ⊎ SomeEnd Q (drop 1 text)
end_cases Q text h = go h.0 h.1 text h.2 h.3
  where
    go : (front end text : List ℕ) → text ≡ front ++ end → Q end → Q text ⊎ SomeEnd Q (drop 1 text)
    go [] end text e q = inl (subst Q (sym e) q)
    go (b ∷ front) end text e q = inr (front, end, ap (drop 1) e, q)

pub end_here : (Q : List ℕ → Type 0) (text : List ℕ) → Q text → SomeEnd Q text
end_here Q text q = ([], text, refl, q)

pub end_later : (Q : List ℕ → Type 0) (text : List ℕ) → SomeEnd Q (drop 1 text) → SomeEnd Q text
end_later Q [] h = h
end_later Q (b ∷ text) h = (b ∷ h.0, h.1, ap (λ (t : List ℕ). b ∷ t) h.2, h.3)

-- an end of an end is an end
pub end_of_end : (Q : List ℕ → Type 0) (text : List ℕ) → SomeEnd (SomeEnd Q) text → SomeEnd Q text
end_of_end Q text h = (h.0 ++ h.3.0, h.3.1, h.2 ∙ ap (λ (t : List ℕ). h.0 ++ t) h.3.2 ∙ sym (append_assoc h.0 h.3.0 h.3.1), h.3.3)

-- the end of no bytes is no bytes
pub end_of_none : (Q : List ℕ → Type 0) → SomeEnd Q [] → Q []
end_of_none Q h = elim (end_cases Q [] h) [ inl q ↦ q | inr later ↦ go later.0 later.1 later.2 later.3 ]
  where
    go : (front end : List ℕ) → [] ≡ front ++ end → Q end → Q []
    go [] end e q = subst Q (sym e) q
    go (b ∷ front) end e q = absurd cc

-- ---- an item that takes a byte

pub takes_glob : (item : Item) (byte : ℕ) (items : List Item) (left : List ℕ) → Takes item byte → Glob (item ∷ items) (byte ∷ left) ↔ Glob items left
takes_glob Item.Any byte items left takes = absurd takes
takes_glob Item.One byte items left takes = (λ g. g.1, λ g. (tt, g))
takes_glob (Item.Class negated members) byte items left takes = (λ g. g.1, λ g. (takes, g))
takes_glob (Item.Byte own) byte items left takes = (λ g. g.1, λ g. (takes, g))

-- if an item for one byte and others match an end, the others match an end after the first byte
end_behind : (P : ℕ → Type 0) (Q : List ℕ → Type 0) (byte : ℕ) (left : List ℕ) → SomeEnd (OneThen P Q) (byte ∷ left) → SomeEnd Q left
end_behind P Q byte left h = go h.0 h.1 h.2 h.3
  where
    go : (front end : List ℕ) → byte ∷ left ≡ front ++ end → OneThen P Q end → SomeEnd Q left
    go [] [] e q = absurd q
    go [] (c ∷ end) e q = let same : end ≡ left = cc in ([], left, refl, subst Q same q.1)
    go (b ∷ front) [] e q = absurd q
    go (b ∷ front) (c ∷ end) e q =
        let same : left ≡ front ++ c ∷ end = cc in
        (front ++ c ∷ [], end, same ∙ sym (append_assoc front (c ∷ []) end), q.1)

pub takes_end : (item : Item) (byte : ℕ) (items : List Item) (left : List ℕ) → Takes item byte → SomeEnd (Glob (item ∷ items)) (byte ∷ left) → SomeEnd (Glob items) left
takes_end Item.Any byte items left takes h = absurd takes
takes_end Item.One byte items left takes h = end_behind (λ b. Unit {0}) (Glob items) byte left h
takes_end (Item.Class negated members) byte items left takes h = end_behind (ClassHas negated members) (Glob items) byte left h
takes_end (Item.Byte own) byte items left takes h = end_behind (λ b. b ≡ own) (Glob items) byte left h

-- ---- the match

-- the answer is whether the items match what is left, or a later try does; and a later try can match only if the items match some end of what is left
pub record Stands (answer : Type 0) (items : List Item) (left : List ℕ) (later : Type 0) : Type 0 where
  pub same : answer ↔ (Glob items left ⊎ later)
  pub ends : later → SomeEnd (Glob items) left

-- the item takes the byte
pub stands_past : (answer later : Type 0) (item : Item) (items : List Item) (byte : ℕ) (left : List ℕ) → Takes item byte → Stands answer (item ∷ items) (byte ∷ left) later → Stands answer items left later
stands_past answer later item items byte left takes h =
    let g = takes_glob item byte items left takes in
    record {
      same = (λ a. elim (h.same.0 a) [ inl now ↦ inl (g.0 now) | inr l ↦ inr l ], λ x. elim x [ inl now ↦ h.same.1 (inl (g.1 now)) | inr l ↦ h.same.1 (inr l) ]);
      ends = λ l. takes_end item byte items left takes (h.ends l);
    }

-- a star: the later tries of the one before are no longer needed
pub stands_star : (answer later : Type 0) (items : List Item) (left : List ℕ) → Stands answer (Item.Any ∷ items) left later → Stands answer items left (SomeEnd (Glob items) (drop 1 left))
stands_star answer later items left h =
    let from : SomeEnd (Glob items) left → answer = λ e. h.same.1 (inl e) in
    record {
      same = (
        λ a. end_cases (Glob items) left (elim (h.same.0 a) [ inl now ↦ now | inr l ↦ end_of_end (Glob items) left (h.ends l) ]),
        λ x. elim x [ inl now ↦ from (end_here (Glob items) left now) | inr l ↦ from (end_later (Glob items) left l) ],
      );
      ends = end_later (Glob items) left;
    }

-- back to the last star
pub stands_back : (answer : Type 0) (items after : List Item) (left text : List ℕ) → (Glob items left → ⊥) → Stands answer items left (SomeEnd (Glob after) text) → Stands answer after text (SomeEnd (Glob after) (drop 1 text))
stands_back answer items after left text miss h =
    let from : SomeEnd (Glob after) text → answer = λ e. h.same.1 (inr e) in
    record {
      same = (
        λ a. elim (h.same.0 a) [ inl now ↦ absurd (miss now) | inr l ↦ end_cases (Glob after) text l ],
        λ x. elim x [ inl now ↦ from (end_here (Glob after) text now) | inr l ↦ from (end_later (Glob after) text l) ],
      );
      ends = end_later (Glob after) text;
    }

-- no star to go back to
pub stands_none : (answer : Type 0) (items : List Item) (left : List ℕ) → (Glob items left → ⊥) → Stands answer items left ⊥ → answer → ⊥
stands_none answer items left miss h a = elim (h.same.0 a) [ inl now ↦ miss now | inr l ↦ l ]

-- nothing is left of the text
pub stands_end : (answer later : Type 0) (items : List Item) → Stands answer items [] later → answer ↔ Glob items []
stands_end answer later items h = (λ a. elim (h.same.0 a) [ inl now ↦ now | inr l ↦ end_of_none (Glob items) (h.ends l) ], λ g. h.same.1 (inl g))

-- ---- the end of the text

-- the items match the empty text if and only if the pattern is only stars
pub stars_glob : (pattern : List ℕ) (items : List Item) → ItemsAre pattern items → IsTrue (list_all (λ byte. eqb byte 42) pattern) ↔ Glob items []
stars_glob pattern [] h = (λ t. refl, λ g. subst (λ (p : List ℕ). list_all (λ byte. eqb byte 42) p ≡ true) (sym h) refl)
stars_glob pattern (Item.Any ∷ items) h =
    let rest = stars_glob h.0 items h.2 in
    rw h.1 (λ t. end_here (Glob items) [] (rest.0 t), λ g. rest.1 (end_of_none (Glob items) g))
stars_glob pattern (Item.One ∷ items) h = rw h.1 (λ t. absurd cc, λ g. absurd g)
stars_glob pattern (Item.Class negated members ∷ items) h = rw h.1.1 (λ t. absurd cc, λ g. absurd g)
stars_glob pattern (Item.Byte own ∷ items) h =
    let other : eqb own 42 ≡ false = ne_eqb own 42 h.1.1.0 in
    rw h.1.0 (λ t. absurd (cc (and_parts (eqb own 42) _ t).0), λ g. absurd g)
