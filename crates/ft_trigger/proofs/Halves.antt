-- Texts cut into heads and tails.
use Rattle.std.proofs.Common.{◌≡◌, ◌||◌, ◌+◌, ◌-◌, ℕ, Bool, true, false, not, List, [], ◌∷◌, ◌++◌, length, take, drop, refl, sym, ap, ◌∙◌, subst, arith, cond, append_assoc, append-nil, length-append, one-add, inl, inr, ◌⊎◌}
use Rattle.std.proofs.Math.Seq.{take-append_seam, drop-append_seam}
use Rattle.std.proofs.lemmas.Bool.{and_parts, and_from, or_parts, not_from_false}
use Rattle.std.proofs.lemmas.List.{take-append-drop, reverse-append, reverse-reverse}
use Rattle.std.proofs.lemmas.List.Folds.{list_all-append}
use Rattle.std.specs.Prelude.{reverse}
use Rattle.std.specs.List.{prefix_len, list_all, list_any}
use Rattle.ft_text.specs.Tokens.{is_gap, skip}
use Rattle.ft_trigger.specs.Shape.{Opens, Closes, IsCut, Cut}
use Rattle.ft_trigger.specs.TriggerIs.{head_len, behind_head, without_end, trigger_tail}
use Rattle.ft_trigger.proofs.Cutting.{skip-front}
use Rattle.ft_text.proofs.Separators.{is_seen}
use Rattle.ft_text.proofs.Spellings.{run_front, run_passes}
use Rattle.ft_trigger.proofs.Tails.{skip_none}

-- ---- runs

-- what is after a run begins with no byte of the run
pub behind_run : (test : ℕ → Bool) (text : List ℕ) (byte : ℕ) (rest : List ℕ) → drop (prefix_len test text) text ≡ byte ∷ rest → test byte ≡ false
behind_run test [] byte rest e = absurd cc
behind_run test (first ∷ text) byte rest e = from (test first) refl (behind_run test text byte rest) e
  where
    from : (b : Bool) → test first ≡ b → (drop (prefix_len test text) text ≡ byte ∷ rest → test byte ≡ false) → drop (cond b (1 + prefix_len test text) 0) (first ∷ text) ≡ byte ∷ rest → test byte ≡ false
    from true is later e = later (rw one-add at e)
    from false is later e = let same : first ≡ byte = cc in ap test (sym same) ∙ is

-- bytes that fail make no run
none_run : (test : ℕ → Bool) (text : List ℕ) → list_all (λ byte. not (test byte)) text ≡ true → prefix_len test text ≡ 0
none_run test [] all = refl
none_run test (byte ∷ text) all = from (test byte) (and_parts (not (test byte)) (list_all (λ b. not (test b)) text) all).0
  where
    from : (b : Bool) → not b ≡ true → cond b (1 + prefix_len test text) 0 ≡ 0
    from true e = absurd cc
    from false e = refl

-- ---- spaces and tabs

-- spaces and tabs in front are passed
pub skip_blank : (blank rest : List ℕ) → list_all is_gap blank ≡ true → skip (blank ++ rest) ≡ skip rest
skip_blank [] rest all = refl
skip_blank (byte ∷ blank) rest all =
    let both = and_parts (is_gap byte) (list_all is_gap blank) all in
    skip-front byte (blank ++ rest) both.0 ∙ skip_blank blank rest both.1

-- nothing is left of them
skip_all : (blank : List ℕ) → list_all is_gap blank ≡ true → skip blank ≡ []
skip_all blank all = ap skip (sym (append-nil blank)) ∙ skip_blank blank [] all

-- a text that begins with none is left
pub skip_opens : (text : List ℕ) → Opens text → skip text ≡ text
skip_opens [] opens = refl
skip_opens (byte ∷ text) opens = skip_none byte text (opens byte text refl)

-- what is left begins with none
pub skip_some : (text : List ℕ) → Opens (skip text)
skip_some text byte rest e = behind_run is_gap text byte rest e

-- spaces and tabs, read backwards
blank_back : (blank : List ℕ) → list_all is_gap blank ≡ true → list_all is_gap (reverse blank) ≡ true
blank_back [] all = refl
blank_back (byte ∷ blank) all =
    let both = and_parts (is_gap byte) (list_all is_gap blank) all in
    ap (list_all is_gap) (reverse-append (byte ∷ []) blank) ∙ list_all-append is_gap (reverse blank) (byte ∷ []) ∙ and_from _ _ (blank_back blank both.1) (and_from _ _ both.0 refl)

-- a text that ends with none begins with none if it is read backwards
back_opens : (text : List ℕ) → Closes text → Opens (reverse text)
back_opens text closes byte rest e = closes (reverse rest) byte (sym (reverse-reverse text) ∙ ap reverse e ∙ reverse-append (byte ∷ []) rest)

-- spaces and tabs after a text are left out
end_off : (text end : List ℕ) → Closes text → list_all is_gap end ≡ true → without_end (text ++ end) ≡ text
end_off text end closes blank =
    ap (λ (t : List ℕ). reverse (skip t)) (reverse-append text end) ∙ ap reverse (skip_blank (reverse end) (reverse text) (blank_back end blank))
    ∙ ap reverse (skip_opens (reverse text) (back_opens text closes)) ∙ reverse-reverse text

-- ---- what is known of a text that is cut

-- no space and no tab is in the head
bare_seen : (head : List ℕ) → list_any is_gap head ≡ false → list_all is_seen head ≡ true
bare_seen [] none = refl
bare_seen (byte ∷ head) none =
    let both = or_parts (is_gap byte) (list_any is_gap head) none in
    and_from _ _ (not_from_false (is_gap byte) both.0) (bare_seen head both.1)

-- spaces and tabs end a head
blank_ends : (blank rest : List ℕ) → list_all is_gap blank ≡ true → (blank ≡ [] → prefix_len is_seen rest ≡ 0) → prefix_len is_seen (blank ++ rest) ≡ 0
blank_ends [] rest all ends = ends refl
blank_ends (byte ∷ blank) rest all ends = let here = (and_parts (is_gap byte) (list_all is_gap blank) all).0 in rw here refl

-- what the head and the tail of a text are, that it is cut into
pub record Known (text head gap tail : List ℕ) : Type 0 where
  pub len : head_len text ≡ length head
  pub front : take (head_len text) text ≡ head
  pub tail_is : trigger_tail text ≡ tail
  pub place : (tail ≡ []) ⊎ (length text - length (behind_head text) ≡ length head + length gap)

-- four texts, grouped to the right
to_right : (a b c d : List ℕ) → a ++ b ++ c ++ d ≡ a ++ (b ++ (c ++ d))
to_right a b c d = simp append_assoc

-- so it is if it is grouped to the right
known_tail : (head gap tail end : List ℕ) → IsCut (head ++ (gap ++ (tail ++ end))) head gap tail end → Known (head ++ (gap ++ (tail ++ end))) head gap tail
known_tail head gap tail end cut = record {
  len = len;
  front = ap (λ (n : ℕ). take n text) len ∙ take-append_seam head (gap ++ (tail ++ end));
  tail_is = ap without_end behind ∙ trimmed tail refl;
  place = placed tail refl;
}
  where
    text : List ℕ
    text = head ++ (gap ++ (tail ++ end))

    ends : gap ≡ [] → prefix_len is_seen (tail ++ end) ≡ 0
    ends none = ap (λ (t : List ℕ). prefix_len is_seen (t ++ end)) (cut.tail_apart none) ∙ ap (prefix_len is_seen) (sym (append-nil end)) ∙ blank_ends end [] cut.end_blank (λ e. refl)

    len : head_len text ≡ length head
    len = run_front is_seen head (gap ++ (tail ++ end)) (bare_seen head cut.head_bare) (blank_ends gap (tail ++ end) cut.gap_blank ends)

    behind : behind_head text ≡ skip (tail ++ end)
    behind = ap (λ (n : ℕ). skip (drop n text)) len ∙ ap skip (drop-append_seam head (gap ++ (tail ++ end))) ∙ skip_blank gap (tail ++ end) cut.gap_blank

    begun : (t : List ℕ) (byte : ℕ) (rest : List ℕ) → tail ≡ byte ∷ rest → skip (tail ++ end) ≡ tail ++ end
    begun t byte rest is = ap (λ (t : List ℕ). skip (t ++ end)) is ∙ skip_none byte (rest ++ end) (cut.tail_opens byte rest is) ∙ ap (λ (t : List ℕ). t ++ end) (sym is)

    trimmed : (t : List ℕ) → tail ≡ t → without_end (skip (tail ++ end)) ≡ tail
    trimmed [] is = ap (λ (t : List ℕ). without_end (skip (t ++ end))) is ∙ ap without_end (skip_all end cut.end_blank) ∙ sym is
    trimmed (byte ∷ rest) is = ap without_end (begun tail byte rest is) ∙ end_off tail end cut.tail_closes cut.end_blank

    placed : (t : List ℕ) → tail ≡ t → (tail ≡ []) ⊎ (length text - length (behind_head text) ≡ length head + length gap)
    placed [] is = inl is
    placed (byte ∷ rest) is =
        let left : length (behind_head text) ≡ length (tail ++ end) = ap length (behind ∙ begun tail byte rest is) in
        let whole = length-append head (gap ++ (tail ++ end)) in
        let more = length-append gap (tail ++ end) in
        inr (omega arith)

-- what is known of any text that is cut
pub known : (text head gap tail end : List ℕ) → IsCut text head gap tail end → Known text head gap tail
known text head gap tail end cut =
    let is : text ≡ head ++ (gap ++ (tail ++ end)) = cut.is ∙ to_right head gap tail end in
    subst (λ (t : List ℕ). Known t head gap tail) (sym is) (known_tail head gap tail end (subst (λ (t : List ℕ). IsCut t head gap tail end) is cut))

-- ---- each text can be cut

-- what a run leaves has none
seen_bare : (head : List ℕ) → list_all is_seen head ≡ true → list_any is_gap head ≡ false
seen_bare [] all = refl
seen_bare (byte ∷ head) all = from (is_gap byte) (and_parts (is_seen byte) (list_all is_seen head) all).0 (seen_bare head (and_parts (is_seen byte) (list_all is_seen head) all).1)
  where
    from : (b : Bool) → not b ≡ true → list_any is_gap head ≡ false → (b || list_any is_gap head) ≡ false
    from true e rest = absurd cc
    from false e rest = rest

-- what is after the head is its gap, or nothing
gap_some : (rest : List ℕ) → ((byte : ℕ) (more : List ℕ) → rest ≡ byte ∷ more → is_seen byte ≡ false) → take (prefix_len is_gap rest) rest ≡ [] → without_end (skip rest) ≡ []
gap_some [] begins none = refl
gap_some (byte ∷ rest) begins none = from (is_gap byte) (begins byte rest refl) none
  where
    from : (b : Bool) → not b ≡ false → take (cond b (1 + prefix_len is_gap rest) 0) (byte ∷ rest) ≡ [] → without_end (skip (byte ∷ rest)) ≡ []
    from true gap none = absurd (let e = rw one-add at none in cc)
    from false gap none = absurd cc

-- the cut of a text
pub cut_of : (text : List ℕ) → Cut text
cut_of text = record {
  head = head;
  gap = gap;
  tail = tail;
  end = end;
  cut = record {
    is = sym (take-append-drop (head_len text) text) ∙ ap (λ (t : List ℕ). head ++ t) (sym (take-append-drop (prefix_len is_gap rest) rest) ∙ ap (λ (t : List ℕ). gap ++ t) split) ∙ sym (to_right head gap tail end);
    head_bare = seen_bare head (run_passes is_seen text);
    gap_blank = run_passes is_gap rest;
    end_blank = blank_back (take (prefix_len is_gap back) back) (run_passes is_gap back);
    tail_opens = λ byte more e. behind_run is_gap rest byte (more ++ end) (split ∙ ap (λ (t : List ℕ). t ++ end) e);
    tail_closes = λ front byte e. behind_run is_gap back byte (reverse front) (sym (reverse-reverse (skip back)) ∙ ap reverse e ∙ reverse-append front (byte ∷ []));
    tail_apart = gap_some rest (λ byte more e. behind_run is_seen text byte more e);
  };
}
  where
    head : List ℕ
    head = take (head_len text) text

    rest : List ℕ
    rest = drop (head_len text) text

    gap : List ℕ
    gap = take (prefix_len is_gap rest) rest

    back : List ℕ
    back = reverse (skip rest)

    tail : List ℕ
    tail = reverse (skip back)

    end : List ℕ
    end = reverse (take (prefix_len is_gap back) back)

    split : skip rest ≡ tail ++ end
    split = sym (reverse-reverse (skip rest)) ∙ ap reverse (sym (take-append-drop (prefix_len is_gap back) back)) ∙ reverse-append (take (prefix_len is_gap back) back) (skip back)
