-- The forms of a head's parts, and which of them stand in front (kernel: histogram.rst, hist triggers).
use Rattle.std.specs.Prelude.{◌==◌, ℕ, Bool, true, false, List, if◌then◌else◌, codes}
use Rattle.std.specs.List.{find, list_any, starts_with}
use Rattle.std.specs.Option.{option_map_or, is_some}
use Rattle.ft_head.specs.declared.draft.Kind.{Kind}
use Rattle.ft_head.specs.declared.draft.Kind.TheVariants.{Keys, Values, Sort, Size}
use Rattle.ft_head.specs.Draft.{Draft, labels}

-- a part is of a kind, or says what events are made of, or is a variable's (kernel: histogram.rst, hist triggers)
pub data Form : Type 0 where
  OfKind : Kind → Form
  OfOnmatch : Form
  OfVariable : Form

-- how a part begins says of which form it is; what begins like no other is a variable's (kernel: histogram.rst, hist triggers)
abbrev pub form_of : List ℕ → Form
form_of part = option_map_or (λ label. OfKind label.1) (find (λ label. starts_with ◌==◌ part label.0) labels) (if starts_with ◌==◌ part (codes "onmatch(") then OfOnmatch else OfVariable)

-- two forms are the same
abbrev pub same_form : Form → Form → Bool
same_form (OfKind Keys) (OfKind Keys) = true
same_form (OfKind Values) (OfKind Values) = true
same_form (OfKind Sort) (OfKind Sort) = true
same_form (OfKind Size) (OfKind Size) = true
same_form OfOnmatch OfOnmatch = true
same_form OfVariable OfVariable = true
same_form form other = false

-- one of the parts is of this form
abbrev pub stands : Form → List (List ℕ) → Bool
stands form parts = list_any (λ part. same_form form (form_of part)) parts

-- a part of this form has been read
abbrev pub has_read : Form → Draft → Bool
has_read (OfKind Keys) draft = is_some draft.keys
has_read (OfKind Values) draft = is_some draft.values
has_read (OfKind Sort) draft = is_some draft.sort
has_read (OfKind Size) draft = is_some draft.size
has_read OfOnmatch draft = is_some draft.onmatch
has_read OfVariable draft = is_some draft.variable
