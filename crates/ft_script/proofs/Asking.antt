-- Lines that write out what is asked.
use Rattle.std.proofs.Common.{◌≡◌, ◌<◌, ◌≤◌, ◌==◌, ◌||◌, ℕ, true, false, List, [], ◌∷◌, ◌++◌, length, Option, Some, None, refl, sym, ap, ◌∙◌, arith, slice_index, codes, decimal, length-append, nat_lt, append-nil}
use Rattle.std.proofs.lemmas.Bool.Decides.{nat_tests}
use Rattle.std.specs.List.{list_all}
use Rattle.std.specs.Option.{option_map_or}
use Rattle.ft_fields.specs.declared.event.Name.{Name}
use Rattle.ft_fields.specs.declared.event.Name.TheVariants as names
use Rattle.ft_fields.specs.Names.{name_called}
use Rattle.ft_script.specs.declared.script.Numbered.{Numbered}
use Rattle.ft_script.specs.declared.script.Numbered.TheVariants as numbers
use Rattle.ft_script.specs.Script.{Asked, Nothing, Load, Insert, Strike, Attach, Refilter, About, NoForm, line_limit, is_space, is_in_word, drop_while, trimmed, first_word, after_word, command_number, load_in, attach_in, strike_in, refilter_in, filter_in, about, command_by_word, insert_text, asked_by}
use Rattle.ft_script.specs.Written.{IsCommandNumber, IsStripped, IsWritable, spaced, written}
use Rattle.ft_script.proofs.Spelled.{Closes, bare_kept, bare_both, closes_behind, word_closes, word_first, word_after, word_opens, spaced_ends, text_after, spaced_closes, number_word, number_some, number_again, colon_cut}

-- ---- lines

-- a line that is no insert, and not silent, is asked for by its words
by_words : (front text : List ℕ) → length (front ++ text) ≤ line_limit → 0 < length text → Closes text → is_space (slice_index (front ++ text) 0) ≡ false
    → (list_all is_space (front ++ text) || slice_index (front ++ text) 0 == 35) ≡ false → insert_text (front ++ text) ≡ None → asked_by (front ++ text) ≡ command_by_word (front ++ text)
unfolding asked_by
by_words front text short some closes first seen apart =
    let within : nat_lt line_limit (length (front ++ text)) ≡ false = grind (arith, nat_tests) in
    rw (within, seen, apart, bare_kept (front ++ text) (bare_both front text first some closes)) refl

-- ---- one number

-- a number after spaces is read
number_left : (n : ℕ) → IsCommandNumber n → command_number (drop_while is_space (decimal n)) ≡ Some n
number_left n low = ap (λ (t : List ℕ). command_number (drop_while is_space t)) (sym (append-nil (decimal n))) ∙ ap command_number (word_opens (decimal n) [] (number_some n low) (number_word n low) ∙ append-nil (decimal n)) ∙ number_again n low

-- a trace file is loaded
load_asked : (n : ℕ) → IsCommandNumber n → length (written (Load n)) ≤ line_limit → asked_by (written (Load n)) ≡ Load n
unfolding insert_text command_by_word first_word after_word load_in
load_asked n low short =
    by_words (codes "load @") (decimal n) short (number_some n low) (word_closes (decimal n) (number_word n low)) refl refl refl
    ∙ ap (λ (o : Option ℕ). option_map_or Load o NoForm) (number_again n low)

-- what is asked about a number
about_asked : (what : Numbered) (n : ℕ) → IsCommandNumber n → length (written (About what n)) ≤ line_limit → asked_by (written (About what n)) ≡ About what n
unfolding insert_text command_by_word first_word after_word
about_asked what n low short = by what short
  where
    some : 0 < length (decimal n)
    some = number_some n low

    closes : Closes (decimal n)
    closes = word_closes (decimal n) (number_word n low)

    by : (what : Numbered) → length (written (About what n)) ≤ line_limit → asked_by (written (About what n)) ≡ About what n
    by numbers.Unload short = by_words (codes "unload ") (decimal n) short some closes refl refl refl ∙ ap (about (Some numbers.Unload)) (number_left n low)
    by numbers.Remove short = by_words (codes "remove ") (decimal n) short some closes refl refl refl ∙ ap (about (Some numbers.Remove)) (number_left n low)
    by numbers.Hist short = by_words (codes "hist ") (decimal n) short some closes refl refl refl ∙ ap (about (Some numbers.Hist)) (number_left n low)
    by numbers.Totals short = by_words (codes "totals ") (decimal n) short some closes refl refl refl ∙ ap (about (Some numbers.Totals)) (number_left n low)
    by numbers.Latencies short = by_words (codes "lat ") (decimal n) short some closes refl refl refl ∙ ap (about (Some numbers.Latencies)) (number_left n low)
    by numbers.Lane short = by_words (codes "list ") (decimal n) short some closes refl refl refl ∙ ap (about (Some numbers.Lane)) (number_left n low)

-- ---- two numbers

-- an event is struck
strike_asked : (cpu line : ℕ) → IsCommandNumber cpu → IsCommandNumber line → length (written (Strike cpu line)) ≤ line_limit → asked_by (written (Strike cpu line)) ≡ Strike cpu line
unfolding insert_text command_by_word first_word after_word strike_in
strike_asked cpu line low under short =
    let text : List ℕ = decimal cpu ++ 58 ∷ decimal line in
    let some : 0 < length text = omega (arith, length-append (decimal cpu) (58 ∷ decimal line)) in
    let ends : Closes (58 ∷ decimal line) = closes_behind (58 ∷ []) (decimal line) (number_some line under) (word_closes (decimal line) (number_word line under)) in
    let cut = colon_cut cpu (decimal line) low in
    by_words (codes "strike ") text short some (closes_behind (decimal cpu) (58 ∷ decimal line) (omega arith) ends) refl refl refl
    ∙ ap strike_in (word_opens (decimal cpu) (58 ∷ decimal line) (number_some cpu low) (number_word cpu low))
    ∙ rw (cut.0, cut.1, number_again cpu low, number_again line under) refl

-- ---- texts

-- a line of a trace is inserted
insert_asked : (text : List ℕ) → length (written (Insert text)) ≤ line_limit → asked_by (written (Insert text)) ≡ Insert text
unfolding asked_by insert_text
insert_asked text short =
    let within : nat_lt line_limit (length (codes "insert " ++ text)) ≡ false = grind (arith, nat_tests) in
    rw within refl

-- an event's name and a trigger's text
attach_read : (event : Name) (name text : List ℕ) → list_all is_in_word name ≡ true → name_called name ≡ Some event → IsStripped text → attach_in (name ++ spaced text) ≡ Attach event text
unfolding attach_in
attach_read event name text all called bare = rw (word_first name (spaced text) all (spaced_ends text), called, text_after name text all bare) refl

-- a trigger is attached, by the name of its event
attach_named : (event : Name) (name text : List ℕ) → 0 < length name → list_all is_in_word name ≡ true → name_called name ≡ Some event → IsStripped text
    → length (codes "attach " ++ (name ++ spaced text)) ≤ line_limit → asked_by (codes "attach " ++ (name ++ spaced text)) ≡ Attach event text
unfolding insert_text command_by_word first_word after_word
attach_named event name text some all called bare short =
    by_words (codes "attach ") (name ++ spaced text) short (omega (arith, length-append name (spaced text))) (spaced_closes name text all bare) refl refl refl
    ∙ ap attach_in (word_opens name (spaced text) some all) ∙ attach_read event name text all called bare

-- so is it at each event that has one
attach_asked : (event : Name) (text : List ℕ) → IsWritable (Attach event text) → length (written (Attach event text)) ≤ line_limit → asked_by (written (Attach event text)) ≡ Attach event text
attach_asked names.Waking text fits short = attach_named names.Waking (codes "sched_waking") text (omega arith) refl refl fits.1 short
attach_asked names.Wakeup text fits short = attach_named names.Wakeup (codes "sched_wakeup") text (omega arith) refl refl fits.1 short
attach_asked names.WakeupNew text fits short = attach_named names.WakeupNew (codes "sched_wakeup_new") text (omega arith) refl refl fits.1 short
attach_asked names.Switch text fits short = attach_named names.Switch (codes "sched_switch") text (omega arith) refl refl fits.1 short
attach_asked names.WakeupLatency text fits short = attach_named names.WakeupLatency (codes "wakeup_latency") text (omega arith) refl refl fits.1 short
attach_asked names.Other text fits short = absurd (fits.0 refl)

-- a trigger's id, and what is after it
filter_read : (id : ℕ) (text : List ℕ) (what : Asked) → IsCommandNumber id → refilter_in id (drop_while is_space text) ≡ what → filter_in (decimal id ++ 32 ∷ text) ≡ what
unfolding filter_in
filter_read id text what low is = rw (word_first (decimal id) (32 ∷ text) (number_word id low) refl, number_again id low, word_after (decimal id) (32 ∷ text) (number_word id low)) is

-- so it is read in a line
filter_behind : (id : ℕ) (text : List ℕ) (what : Asked) → IsCommandNumber id → 0 < length text → Closes (32 ∷ text) → refilter_in id (drop_while is_space text) ≡ what
    → length (codes "filter " ++ (decimal id ++ 32 ∷ text)) ≤ line_limit → asked_by (codes "filter " ++ (decimal id ++ 32 ∷ text)) ≡ what
unfolding insert_text command_by_word first_word after_word
filter_behind id text what low some closes is short =
    by_words (codes "filter ") (decimal id ++ 32 ∷ text) short (omega (arith, length-append (decimal id) (32 ∷ text))) (closes_behind (decimal id) (32 ∷ text) (omega arith) closes) refl refl refl
    ∙ ap filter_in (word_opens (decimal id) (32 ∷ text) (number_some id low) (number_word id low)) ∙ filter_read id text what low is

-- a trigger's filter is taken away
none_asked : (id : ℕ) → IsCommandNumber id → length (written (Refilter id None)) ≤ line_limit → asked_by (written (Refilter id None)) ≡ Refilter id None
unfolding refilter_in
none_asked id low short = filter_behind id (codes "none") (Refilter id None) low (omega arith) (closes_behind (32 ∷ []) (codes "none") (omega arith) (word_closes (codes "none") refl)) refl short

-- a filter's text
if_read : (id : ℕ) (text : List ℕ) → IsStripped text → refilter_in id (codes "if" ++ spaced text) ≡ Refilter id (Some text)
unfolding refilter_in
if_read id text bare = rw (word_first (codes "if") (spaced text) refl (spaced_ends text), text_after (codes "if") text refl bare) refl

-- a trigger has another filter
filter_asked : (id : ℕ) (text : List ℕ) → IsCommandNumber id → IsStripped text → length (written (Refilter id (Some text))) ≤ line_limit → asked_by (written (Refilter id (Some text))) ≡ Refilter id (Some text)
filter_asked id text low bare short =
    filter_behind id (codes "if" ++ spaced text) (Refilter id (Some text)) low (omega arith) (closes_behind (32 ∷ []) (codes "if" ++ spaced text) (omega arith) (spaced_closes (codes "if") text refl bare)) (if_read id text bare) short

-- ---- all of them

-- what is written out is asked for
pub asked_written : (what : Asked) → IsWritable what → length (written what) ≤ line_limit → asked_by (written what) ≡ what
unfolding asked_by trimmed insert_text command_by_word first_word after_word command_number
asked_written Nothing fits short = refl
asked_written (Load n) fits short = load_asked n fits short
asked_written (Insert text) fits short = insert_asked text short
asked_written (Strike cpu line) fits short = strike_asked cpu line fits.0 fits.1 short
asked_written (Attach event text) fits short = attach_asked event text fits short
asked_written (Refilter id None) fits short = none_asked id fits short
asked_written (Refilter id (Some text)) fits short = filter_asked id text fits.0 fits.1 short
asked_written (About what n) fits short = about_asked what n fits short
asked_written NoForm fits short = refl
