-- Where lines end in their text.
use Rattle.std.proofs.Common.{◌≡◌, ◌<◌, ◌+◌, ℕ, zero, suc, Bool, true, false, List, [], ◌∷◌, ◌++◌, length, take, drop, eqb, refl, sym, ap, subst, ◌∙◌, inl, inr, append_assoc, arith}
use Rattle.std.specs.Prelude.{◌⊎◌, slice_index_or}
use Rattle.std.proofs.lemmas.Bool.{eqb-true}
use Rattle.std.proofs.lemmas.List.{take_at, drop_at, length-append}
use Rattle.std.proofs.Math.Seq.{take-length, drop-length}
use Rattle.ft_text.specs.Lines.{lines_of, onto_first}
use Rattle.ft_lines.specs.Lines.{end_of, lines_from, text_lines, CutsAt}
use Rattle.ft_lines.specs.declared.line.TextLine.{TextLine}

-- a byte is 10, or it is not
module _ (byte : ℕ) {P : Type 0} (is : eqb byte 10 ≡ true → P) (other : eqb byte 10 ≡ false → P) where
  by_end : P
  by_end = at (eqb byte 10) refl
    where
      at : (b : Bool) → eqb byte 10 ≡ b → P
      at true e = is e
      at false e = other e

-- a line break ends the first line of a text, whatever comes after it
record IsBroken (text line : List ℕ) (more : List (List ℕ)) : Type 0 where
  behind : List ℕ
  same : text ≡ line ++ 10 ∷ behind
  others : lines_of behind ≡ more
  opens : (rest : List ℕ) → lines_of (line ++ 10 ∷ rest) ≡ line ∷ lines_of rest

-- its first line is all of a text
record IsWhole (text line : List ℕ) (more : List (List ℕ)) : Type 0 where
  same : text ≡ line
  none : more ≡ []

-- a text by its lines: it has none, or its first one ends
abbrev Begins : List ℕ → List (List ℕ) → Type 0
Begins text [] = text ≡ []
Begins text (line ∷ more) = IsBroken text line more ⊎ IsWhole text line more

begins : (text : List ℕ) → Begins text (lines_of text)
begins [] = refl
begins (byte ∷ bytes) =
    by_end byte (λ e. rw e (inl (record { behind = bytes; same = ap (λ (b : ℕ). b ∷ bytes) (eqb-true byte 10 e); others = refl; opens = λ rest. refl })))
    (λ e. rw e (onto e (lines_of bytes) (begins bytes)))
  where
    onto : eqb byte 10 ≡ false → (lines : List (List ℕ)) → Begins bytes lines → Begins (byte ∷ bytes) (onto_first byte lines)
    onto e [] none = inr (record { same = ap (λ (b : List ℕ). byte ∷ b) none; none = refl })
    onto e (line ∷ more) (inl broken) = inl (record {
      behind = broken.behind;
      same = ap (λ (b : List ℕ). byte ∷ b) broken.same;
      others = broken.others;
      opens = λ rest. rw e (ap (onto_first byte) (broken.opens rest));
    })
    onto e (line ∷ more) (inr whole) = inr (record { same = ap (λ (b : List ℕ). byte ∷ b) whole.same; none = whole.none })

-- a text with a line break that ends its first line, cut behind that
split : (front text line behind : List ℕ) → text ≡ line ++ 10 ∷ behind → front ++ text ≡ (front ++ (line ++ 10 ∷ [])) ++ behind
split front text line behind same =
    ap (λ (t : List ℕ). front ++ t) (same ∙ sym (append_assoc line (10 ∷ []) behind)) ∙ sym (append_assoc front (line ++ 10 ∷ []) behind)

-- how long such a front is
length-front : (front line : List ℕ) → length (front ++ (line ++ 10 ∷ [])) ≡ length front + length line + 1
length-front front line =
    let a = length-append front (line ++ 10 ∷ []) in
    let b = length-append line (10 ∷ []) in
    omega (arith, a, b)

-- a front whose lines have ended: what comes behind it adds its own
abbrev Ends : List ℕ → List (List ℕ) → Type 0
Ends front done = (rest : List ℕ) → lines_of (front ++ rest) ≡ done ++ lines_of rest

-- one line more ends
ends-more : (front line : List ℕ) (done : List (List ℕ)) → Ends front done → ((rest : List ℕ) → lines_of (line ++ 10 ∷ rest) ≡ line ∷ lines_of rest) → Ends (front ++ (line ++ 10 ∷ [])) (done ++ line ∷ [])
ends-more front line done ended opens rest =
    ap lines_of (append_assoc front (line ++ 10 ∷ []) rest) ∙ ended ((line ++ 10 ∷ []) ++ rest)
    ∙ ap (λ (t : List ℕ). done ++ lines_of t) (append_assoc line (10 ∷ []) rest) ∙ ap (λ (ls : List (List ℕ)). done ++ ls) (opens rest) ∙ sym (append_assoc done (line ∷ []) (lines_of rest))

-- where a line ends, if a line break ends it
end-broken : (size start : ℕ) (front text line behind : List ℕ) → size ≡ length (front ++ text) → start ≡ length front → text ≡ line ++ 10 ∷ behind → end_of size start line ≡ length (front ++ (line ++ 10 ∷ []))
end-broken size start front text line behind sized begun same =
    let whole = sized ∙ ap length (split front text line behind same) ∙ length-append (front ++ (line ++ 10 ∷ [])) behind in
    let long = length-front front line in
    omega (arith, begun, whole, long)

-- where the last line ends, if no line break ends it
end-whole : (size start : ℕ) (front text line : List ℕ) → size ≡ length (front ++ text) → start ≡ length front → text ≡ line → end_of size start line ≡ length (front ++ text)
end-whole size start front text line sized begun same =
    let all = length-append front text in
    let long = ap length same in
    omega (arith, begun, sized, all, long)

-- the lines of a text behind a front whose last line has ended
cut-from : (size : ℕ) (lines : List (List ℕ)) (front text : List ℕ) (done : List (List ℕ)) (start number : ℕ) (d : TextLine)
    → size ≡ length (front ++ text) → start ≡ length front → lines_of text ≡ lines → Ends front done
    → number < length lines → CutsAt (front ++ text) (done ++ take (suc number) lines) (drop (suc number) lines) (slice_index_or (lines_from size start lines) number d).end
unfolding lines_from
cut-from size [] front text done start number d sized begun are ended low = absurd (omega arith)
cut-from size (line ∷ more) front text done start zero d sized begun are ended low = elim (subst (Begins text) are (begins text)) [
  | inl broken ↦
      let cut = split front text line broken.behind broken.same in
      let end = sym (end-broken size start front text line broken.behind sized begun broken.same) in
      record {
        front = ap (λ (t : List ℕ). lines_of (take (end_of size start line) t)) cut ∙ ap lines_of (take_at (front ++ (line ++ 10 ∷ [])) broken.behind (end_of size start line) end)
            ∙ ended (line ++ 10 ∷ []) ∙ ap (λ (ls : List (List ℕ)). done ++ ls) (broken.opens []);
        behind = ap (λ (t : List ℕ). lines_of (drop (end_of size start line) t)) cut ∙ ap lines_of (drop_at (front ++ (line ++ 10 ∷ [])) broken.behind (end_of size start line) end) ∙ broken.others;
      }
  | inr whole ↦
      let end = end-whole size start front text line sized begun whole.same in
      record {
        front = ap (λ (n : ℕ). lines_of (take n (front ++ text))) end ∙ ap lines_of (take-length (front ++ text)) ∙ ended text ∙ ap (λ (ls : List (List ℕ)). done ++ ls) (are ∙ ap (λ (ls : List (List ℕ)). line ∷ ls) whole.none);
        behind = ap (λ (n : ℕ). lines_of (drop n (front ++ text))) end ∙ ap lines_of (drop-length (front ++ text)) ∙ sym whole.none;
      }
]
cut-from size (line ∷ more) front text done start (suc number) d sized begun are ended low = elim (subst (Begins text) are (begins text)) [
  | inl broken ↦
      let cut = split front text line broken.behind broken.same in
      let on = cut-from size more (front ++ (line ++ 10 ∷ [])) broken.behind (done ++ line ∷ []) (end_of size start line) number d (sized ∙ ap length cut)
      (end-broken size start front text line broken.behind sized begun broken.same) broken.others (ends-more front line done ended broken.opens) (omega (arith, low)) in
      record {
        front = ap (λ (t : List ℕ). lines_of (take (slice_index_or (lines_from size (end_of size start line) more) number d).end t)) cut ∙ on.front ∙ append_assoc done (line ∷ []) (take (suc number) more);
        behind = ap (λ (t : List ℕ). lines_of (drop (slice_index_or (lines_from size (end_of size start line) more) number d).end t)) cut ∙ on.behind;
      }
  | inr whole ↦
      let none = ap length whole.none in
      absurd (omega (arith, low, none))
]

-- the lines of a text that is cut where one of them ends
pub ends-cut : (text : List ℕ) (number : ℕ) (d : TextLine) → number < length (lines_of text)
    → CutsAt text (take (suc number) (lines_of text)) (drop (suc number) (lines_of text)) (slice_index_or (text_lines text) number d).end
ends-cut text number d low = cut-from (length text) (lines_of text) [] text [] 0 number d refl refl refl (λ rest. refl) low
