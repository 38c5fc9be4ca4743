-- What lines ask for may be written out.
use Rattle.std.proofs.Common.{◌≡◌, ◌≢◌, ◌&&◌, ◌||◌, ◌==◌, ℕ, Bool, true, false, cond, List, [], ◌∷◌, length, reverse, Option, Some, None, refl, sym, ap, ◌∙◌, subst, codes, leb-true, nat_lt, nat_le, slice_index}
use Rattle.std.proofs.lemmas.List.{reverse-append, reverse-reverse}
use Rattle.std.specs.Char.{is_ascii_digit}
use Rattle.std.specs.List.{list_all, before_first, after_first}
use Rattle.std.specs.Option.{option_map_or}
use Rattle.std.specs.Str.{bytes_eq}
use Rattle.std.specs.Str.Parse.{digits_value}
use Rattle.ft_fields.specs.declared.event.Name.{Name}
use Rattle.ft_fields.specs.declared.event.Name.TheVariants as names
use Rattle.ft_fields.specs.Names.{name_text, is_called, name_called}
use Rattle.ft_script.specs.declared.script.Numbered.{Numbered}
use Rattle.ft_script.specs.Script.{Asked, Nothing, Load, Insert, Attach, Refilter, NoForm, line_limit, most_digits, greatest_number, is_space, is_in_word, is_colon, drop_while, trimmed, first_word, after_word, command_number, load_in, attach_in, strike_of, strike_in, refilter_in, filter_in, numbered_by, about, command_by_word, insert_text, asked_by}
use Rattle.ft_script.specs.Written.{IsCommandNumber, IsStripped, IsWritable}
use Rattle.ft_script.proofs.Spelled.{Opens, Closes}

-- ---- spaces at the ends

-- what is after a first byte ends as the whole
tail_closes : (byte : ℕ) (text : List ℕ) → Closes (byte ∷ text) → Closes text
tail_closes byte text closes front last e = closes (byte ∷ front) last (ap (λ (t : List ℕ). byte ∷ t) e)

-- so does what is left of it
left_closes : (test : ℕ → Bool) (text : List ℕ) → Closes text → Closes (drop_while test text)
left_closes test [] closes = closes
left_closes test (byte ∷ text) closes = from (test byte) (left_closes test text (tail_closes byte text closes))
  where
    from : (b : Bool) → Closes (drop_while test text) → Closes (cond b (drop_while test text) (byte ∷ text))
    from true later = later
    from false later = closes

-- no space begins what is left without spaces
left_opens : (text : List ℕ) → Opens (drop_while is_space text)
left_opens [] byte rest e = absurd cc
left_opens (first ∷ text) byte rest e = from (is_space first) refl (left_opens text byte rest) e
  where
    from : (b : Bool) → is_space first ≡ b → (drop_while is_space text ≡ byte ∷ rest → is_space byte ≡ false) → cond b (drop_while is_space text) (first ∷ text) ≡ byte ∷ rest → is_space byte ≡ false
    from true is later e = later e
    from false is later e = let same : first ≡ byte = cc in ap is_space (sym same) ∙ is

-- no space ends a trimmed text
trimmed_closes : (text : List ℕ) → Closes (trimmed text)
unfolding trimmed
trimmed_closes text front byte e =
    let left : List ℕ = drop_while is_space (reverse (drop_while is_space text)) in
    left_opens (reverse (drop_while is_space text)) byte (reverse front) (sym (reverse-reverse left) ∙ ap reverse e ∙ reverse-append front (byte ∷ []))

-- what is after a word
after_closes : (text : List ℕ) → Closes text → Closes (after_word text)
unfolding after_word
after_closes text closes = left_closes is_space (drop_while is_in_word text) (left_closes is_in_word text closes)

after_bare : (text : List ℕ) → Closes text → IsStripped (after_word text)
unfolding after_word
after_bare text closes = record { opens = left_opens (drop_while is_in_word text); closes = left_closes is_space (drop_while is_in_word text) (left_closes is_in_word text closes) }

-- ---- numbers and names

-- a number that is read is one of 32 bits
number_fits : (text : List ℕ) (n : ℕ) → command_number text ≡ Some n → IsCommandNumber n
unfolding command_number
number_fits text n e =
    from (nat_lt 0 (length text) && nat_le (length text) most_digits && list_all is_ascii_digit text) (nat_le (digits_value 10 text) greatest_number) refl e
  where
    from : (a b : Bool) → nat_le (digits_value 10 text) greatest_number ≡ b → cond (a && b) (Some (digits_value 10 text)) None ≡ Some n → IsCommandNumber n
    from true true is e = let same : digits_value 10 text ≡ n = cc in subst IsCommandNumber same (leb-true _ _ is)
    from true false is e = absurd cc
    from false b is e = absurd cc

-- an event that is called has a name
called_named : (text : List ℕ) (event : Name) → name_called text ≡ Some event → name_text event ≢ None
called_named text names.Waking e none = absurd cc
called_named text names.Wakeup e none = absurd cc
called_named text names.WakeupNew e none = absurd cc
called_named text names.Switch e none = absurd cc
called_named text names.WakeupLatency e none = absurd cc
called_named text names.Other e none = from (is_called text names.Waking) (is_called text names.Wakeup) (is_called text names.WakeupNew) (is_called text names.Switch) (is_called text names.WakeupLatency) e
  where
    from : (a b c d f : Bool) → cond a (Some names.Waking) (cond b (Some names.Wakeup) (cond c (Some names.WakeupNew) (cond d (Some names.Switch) (cond f (Some names.WakeupLatency) None)))) ≡ Some names.Other → ⊥
    from true b c d f e = absurd cc
    from false true c d f e = absurd cc
    from false false true d f e = absurd cc
    from false false false true f e = absurd cc
    from false false false false true e = absurd cc
    from false false false false false e = absurd cc

-- what is read, if it is, is a number of 32 bits
abbrev Fits : Option ℕ → Type 0
Fits o = (n : ℕ) → o ≡ Some n → IsCommandNumber n

-- ---- commands

load_writable : (text : List ℕ) → IsWritable (load_in text)
unfolding load_in
load_writable [] = tt
load_writable (byte ∷ digits) = from (byte == 64) (command_number digits) (number_fits digits)
  where
    from : (b : Bool) (o : Option ℕ) → Fits o → IsWritable (cond b (option_map_or Load o NoForm) NoForm)
    from true None fits = tt
    from true (Some n) fits = fits n refl
    from false o fits = tt

strike_writable : (text : List ℕ) → IsWritable (strike_in text)
unfolding strike_in
strike_writable text = from (command_number (before_first is_colon text)) (command_number (after_first is_colon text)) (number_fits (before_first is_colon text)) (number_fits (after_first is_colon text))
  where
    from : (o p : Option ℕ) → Fits o → Fits p → IsWritable (strike_of o p)
    from o None fits suits = tt
    from None (Some line) fits suits = tt
    from (Some cpu) (Some line) fits suits = (fits cpu refl, suits line refl)

attach_writable : (text : List ℕ) → Closes text → IsWritable (attach_in text)
unfolding attach_in
attach_writable text closes = from (name_called (first_word text)) (called_named (first_word text)) (after_bare text closes)
  where
    from : (o : Option Name) → ((event : Name) → o ≡ Some event → name_text event ≢ None) → IsStripped (after_word text) → IsWritable (option_map_or (λ name. Attach name (after_word text)) o NoForm)
    from None named bare = tt
    from (Some event) named bare = (named event refl, bare)

refilter_writable : (id : ℕ) (text : List ℕ) → IsCommandNumber id → Closes text → IsWritable (refilter_in id text)
unfolding refilter_in
refilter_writable id text low closes = from (bytes_eq text (codes "none")) (bytes_eq (first_word text) (codes "if")) (after_bare text closes)
  where
    from : (a b : Bool) → IsStripped (after_word text) → IsWritable (cond a (Refilter id None) (cond b (Refilter id (Some (after_word text))) NoForm))
    from true b bare = low
    from false true bare = (low, bare)
    from false false bare = tt

filter_writable : (text : List ℕ) → Closes text → IsWritable (filter_in text)
unfolding filter_in
filter_writable text closes = from (command_number (first_word text)) (number_fits (first_word text)) (after_closes text closes)
  where
    from : (o : Option ℕ) → Fits o → Closes (after_word text) → IsWritable (option_map_or (λ id. refilter_in id (after_word text)) o NoForm)
    from None fits left = tt
    from (Some id) fits left = refilter_writable id (after_word text) (fits id refl) left

about_writable : (what : Option Numbered) (o : Option ℕ) → Fits o → IsWritable (about what o)
about_writable what None fits = tt
about_writable None (Some n) fits = tt
about_writable (Some what) (Some n) fits = fits n refl

worded_writable : (text : List ℕ) → Closes text → IsWritable (command_by_word text)
unfolding command_by_word
worded_writable text closes =
    from (bytes_eq (first_word text) (codes "load")) (bytes_eq (first_word text) (codes "strike")) (bytes_eq (first_word text) (codes "attach")) (bytes_eq (first_word text) (codes "filter")) (after_closes text closes)
  where
    from : (a b c d : Bool) → Closes (after_word text)
        → IsWritable (option_map_or (λ (form : List ℕ × (List ℕ → Asked)). form.1 (after_word text)) (cond a (Some (codes "load", load_in)) (cond b (Some (codes "strike", strike_in)) (cond c (Some (codes "attach", attach_in)) (cond d (Some (codes "filter", filter_in)) None)))) (about (numbered_by (first_word text)) (command_number (after_word text))))
    from true b c d left = load_writable (after_word text)
    from false true c d left = strike_writable (after_word text)
    from false false true d left = attach_writable (after_word text) left
    from false false false true left = filter_writable (after_word text) left
    from false false false false left = about_writable (numbered_by (first_word text)) (command_number (after_word text)) (number_fits (after_word text))

-- what a line asks for may be written out
pub asked_writable : (line : List ℕ) → IsWritable (asked_by line)
unfolding asked_by
asked_writable line = from (nat_lt line_limit (length line)) (list_all is_space line || slice_index line 0 == 35) (insert_text line) (worded_writable (trimmed line) (trimmed_closes line))
  where
    from : (a b : Bool) (o : Option (List ℕ)) → IsWritable (command_by_word (trimmed line)) → IsWritable (cond a NoForm (cond b Nothing (option_map_or Insert o (command_by_word (trimmed line)))))
    from true b o fits = tt
    from false true o fits = tt
    from false false (Some text) fits = tt
    from false false None fits = fits
