-- How a trigger's text is cut into its head and its tail, and what a tail says (kernel: histogram.rst, hist triggers).
use Rattle.std.specs.Prelude.{◌≡◌, ◌≢◌, ◌<◌, ◌+◌, ℕ, true, false, List, [], ◌∷◌, ◌++◌, length, Option, Some, None, Result, Ok, Err, codes}
use Rattle.std.specs.List.{list_all, list_any}
use Rattle.ft_fields.specs.declared.event.Name.{Name}
use Rattle.ft_filter.specs.declared.fault.FilterFault.{FilterFault}
use Rattle.ft_filter.specs.FilterIs.{FilterIs}
use Rattle.ft_filter.specs.Tree.{Tree}
use Rattle.ft_text.specs.Tokens.{is_gap}
use Rattle.ft_hist.specs.Hist.{Hist, with_filter}
use Rattle.ft_hist.specs.declared.fault.TriggerFault.{TriggerFault}
use Rattle.ft_hist.specs.declared.fault.TriggerFault.TheVariants.{Syntax, BadFilter}
use Rattle.ft_trigger.specs.TriggerIs.{TriggerIs}

-- ---- head and tail

-- the text begins with no space and no tab
abbrev pub Opens : List ℕ → Type 0
Opens text = (byte : ℕ) (rest : List ℕ) → text ≡ byte ∷ rest → is_gap byte ≡ false

-- the text ends with no space and no tab
abbrev pub Closes : List ℕ → Type 0
Closes text = (front : List ℕ) (byte : ℕ) → text ≡ front ++ byte ∷ [] → is_gap byte ≡ false

-- a text is a head, and then nothing, or a gap and a tail: no space and no tab is in the head or at an end of the tail, and the gap and what is after the tail are only spaces and tabs (kernel: histogram.rst, hist triggers)
pub record IsCut (text head gap tail end : List ℕ) : Type 0 where
  pub is : text ≡ head ++ gap ++ tail ++ end
  pub head_bare : list_any is_gap head ≡ false
  pub gap_blank : list_all is_gap gap ≡ true
  pub end_blank : list_all is_gap end ≡ true
  pub tail_opens : Opens tail
  pub tail_closes : Closes tail
  pub tail_apart : gap ≡ [] → tail ≡ []

-- a text with such a cut
pub record Cut (text : List ℕ) : Type 0 where
  pub head : List ℕ
  pub gap : List ℕ
  pub tail : List ℕ
  pub end : List ℕ
  pub cut : IsCut text head gap tail end

-- ---- what a tail says

-- the tail is `if`, one or more spaces or tabs, and the text of a filter (kernel: events.rst, `if` before a filter)
pub record IsIf (tail text : List ℕ) : Type 0 where
  pub gap : List ℕ
  pub is : tail ≡ codes "if" ++ gap ++ text
  pub gap_some : 0 < length gap
  pub gap_blank : list_all is_gap gap ≡ true
  pub text_opens : Opens text

-- what a tail that begins at this place says: nothing, a filter, a filter's fault, or something else (kernel: events.rst, `if` before a filter)
pub data TailIs (event : Name) (place : ℕ) : List ℕ → Result (Option Tree) TriggerFault → Type 0 where
  -- no tail, and no filter
  nothing : TailIs event place [] (Ok None)
  -- a filter
  filtered : (tail text : List ℕ) (tree : Tree) → IsIf tail text → FilterIs event text (Ok tree) → TailIs event place tail (Ok (Some tree))
  -- the text of a filter, with a fault
  unread : (tail text : List ℕ) (fault : FilterFault) → IsIf tail text → FilterIs event text (Err fault) → TailIs event place tail (Err (BadFilter fault))
  -- anything else
  other : (tail : List ℕ) → tail ≢ [] → ((text : List ℕ) → IsIf tail text → ⊥) → TailIs event place tail (Err (Syntax place))

-- a trigger with what its tail says
abbrev pub with_tail : Hist → Result (Option Tree) TriggerFault → Result Hist TriggerFault
with_tail hist (Ok filter) = Ok (with_filter hist filter)
with_tail hist (Err fault) = Err fault

-- ---- triggers

-- the text is a trigger's head, which begins with `hist:` and is the trigger without its filter, and a tail, which is the filter (kernel: histogram.rst, hist triggers)
pub record IsShaped (event : Name) (text : List ℕ) (hist : Hist) : Type 0 where
  pub parts : List ℕ
  pub gap : List ℕ
  pub tail : List ℕ
  pub end : List ℕ
  pub cut : IsCut text (codes "hist:" ++ parts) gap tail end
  pub head : TriggerIs event (codes "hist:" ++ parts) (Ok (with_filter hist None))
  pub filter : TailIs event (length (codes "hist:" ++ parts) + length gap) tail (Ok hist.filter)
