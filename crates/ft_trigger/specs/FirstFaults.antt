-- Texts between separators that are read from the left, and the first of them that has a fault (kernel: histogram.rst, hist triggers).
use Rattle.std.specs.Prelude.{◌≡◌, ◌<◌, ◌+◌, ◌==◌, ℕ, true, not, List, [], ◌∷◌, ◌++◌, length, Result, Ok, Err}
use Rattle.std.specs.List.{list_all, list_any}
use Rattle.ft_fields.specs.declared.event.Name.{Name}
use Rattle.ft_hist.specs.declared.fault.TriggerFault.{TriggerFault}
use Rattle.ft_hist.specs.declared.fault.TriggerFault.TheVariants.{Syntax}
use Rattle.ft_head.specs.Draft.{Draft, empty_draft, given_or, with_part}
use Rattle.ft_text.specs.Items.{Piece, Word, word_of}

-- ---- cuts

-- texts with a separator between each two
abbrev pub joined_by : ℕ → List (List ℕ) → List ℕ
joined_by separator [] = []
joined_by separator (text ∷ []) = text
joined_by separator (text ∷ next ∷ texts) = text ++ separator ∷ joined_by separator (next ∷ texts)

-- a text is cut into one or more, which may be empty, at each separator (kernel: histogram.rst, hist triggers)
pub record AreBetween (separator : ℕ) (whole : List ℕ) (texts : List (List ℕ)) : Type 0 where
  pub some : 0 < length texts
  pub bare : list_all (λ text. not (list_any (λ byte. byte == separator) text)) texts ≡ true
  pub is : whole ≡ joined_by separator texts

-- what stands in front of a text: those before it, each with a separator after it
abbrev pub front_text : ℕ → List (List ℕ) → List ℕ
front_text separator [] = []
front_text separator (text ∷ texts) = text ++ separator ∷ front_text separator texts

-- ---- readings

-- what the texts are read into: what there is at the start, and what one more text makes of it, or its fault; and where the first of them begins
pub record Reading (A : Type 0) : Type 0 where
  pub separator : ℕ
  pub place : ℕ
  pub start : A
  pub adds : A → Piece → Result A TriggerFault

-- one more text makes this of what was read of those in front, or has this fault; it begins after all that stands in front, separators counted
abbrev pub Adds : {A : Type 0} → Reading A → List (List ℕ) → A → List ℕ → Result A TriggerFault → Type 0
Adds r front read text answer = r.adds read (record { place = r.place + length (front_text r.separator front); bytes = text }) ≡ answer

-- no text has a fault after those in front of it, and this is read of all (kernel: histogram.rst, hist triggers)
pub data AreRead {A : Type 0} (r : Reading A) : List (List ℕ) → A → Type 0 where
  -- nothing has been read
  nothing : AreRead r [] r.start
  -- one more text, after those that are read
  one_more : (front : List (List ℕ)) (read : A) (text : List ℕ) (more : A) → AreRead r front read → Adds r front read text (Ok more) → AreRead r (front ++ text ∷ []) more

-- one of the texts has this fault, after what is read of those in front of it; what is after it may be anything (kernel: histogram.rst, hist triggers)
pub record FailFirst {A : Type 0} (r : Reading A) (texts : List (List ℕ)) (fault : TriggerFault) : Type 0 where
  pub front : List (List ℕ)
  pub read : A
  pub text : List ℕ
  pub rest : List (List ℕ)
  pub are : texts ≡ front ++ text ∷ rest
  pub before : AreRead r front read
  pub fails : Adds r front read text (Err fault)

-- what the texts are read as: all of them, or the first fault
abbrev pub ReadAs : {A : Type 0} → Reading A → List (List ℕ) → Result A TriggerFault → Type 0
ReadAs r texts (Ok read) = AreRead r texts read
ReadAs r texts (Err fault) = FailFirst r texts fault

-- the parts of a head, which stand between `:` after `hist:` (kernel: histogram.rst, hist triggers)
abbrev pub of_parts : Name → Reading Draft
of_parts event = record { separator = 58; place = 5; start = empty_draft; adds = with_part event }

-- the items of a list that begins at a place, which stand between `,`: each is a word, and adds to those in front (kernel: histogram.rst, hist triggers)
abbrev pub of_items : {A : Type 0} → (List A → ℕ → Word → Result (List A) TriggerFault) → ℕ → Reading (List A)
of_items add place = record { separator = 44; place = place; start = []; adds = λ list item. given_or (Syntax item.place) (word_of item.bytes) (add list item.place) }
