-- Events without a name: no label begins what stands after STAMP.
use Rattle.std.proofs.Common.{◌≡◌, ℕ, inr, List, [], ◌∷◌, ◌++◌, take, get_or, refl, ap, ◌∙◌, append_assoc, Ok}
use Rattle.std.proofs.lemmas.Bool.{ne_eqb}
use Rattle.std.specs.Prelude.{codes, unwrap_or}
use Rattle.ft_fields.specs.declared.event.Body.TheVariants as bodies
use Rattle.ft_fields.specs.declared.event.Name.{Name}
use Rattle.ft_fields.specs.declared.event.Name.TheVariants as names
use Rattle.ft_fields.specs.Names.{name_text}
use Rattle.ft_event.specs.Bytes.{is_space}
use Rattle.ft_event.specs.Labels.{labelled_name, event_label_text}
use Rattle.ft_event.specs.LineIs.{BodyIs, Stops}
use Rattle.ft_quick.specs.inner.Payloads.{IsUnlabelled}
use Rattle.ft_quick.proofs.Fronts.{rest_same}

-- the text of an event's label, and what stands after it
abbrev label_then : Name → List ℕ → List ℕ
label_then n more = (unwrap_or (name_text n) [] ++ codes ":") ++ more

-- a label begins with no space
no_space_first : (n : Name) (more : List ℕ) → Stops is_space (label_then n more)
no_space_first names.Waking more = refl
no_space_first names.Wakeup more = refl
no_space_first names.WakeupNew more = refl
no_space_first names.Switch more = refl
no_space_first names.WakeupLatency more = refl
no_space_first names.Other more = refl

no_label : (n : Name) (text more : List ℕ) → IsUnlabelled text → text ≡ label_then n more → ⊥
no_label names.Waking text more other cut = other.wake (ap (take 8) cut)
no_label names.Wakeup text more other cut = other.wake (ap (take 8) cut)
no_label names.WakeupNew text more other cut = other.wake (ap (take 8) cut)
no_label names.Switch text more other cut = other.turn (ap (take 8) cut)
no_label names.WakeupLatency text more other cut = other.made (ap (λ (x : List ℕ). get_or x 0 0) cut)
no_label names.Other text more other cut = other.colon (ap (λ (x : List ℕ). get_or x 0 0) cut)

first_stops : (text : List ℕ) → (get_or text 0 0 ≡ 32 → ⊥) → Stops is_space text
first_stops [] other = tt
first_stops (x ∷ text) other = ne_eqb x 32 other

rejoined : (before label left payload right : List ℕ) → before ++ label ++ left ++ payload ++ right ≡ before ++ (label ++ (left ++ (payload ++ right)))
rejoined before label left payload right = simp append_assoc

-- an event without a name
pub other_found : (rest text : List ℕ) → rest ≡ codes " " ++ text → IsUnlabelled text → BodyIs rest (Ok bodies.Other)
other_found rest text cut other = inr (
  λ named h.
      let more : List ℕ = h.left ++ (named.1 ++ h.right) in
      let joined : rest ≡ h.before ++ (event_label_text named.0 ++ more) = h.joined ∙ rejoined h.before (event_label_text named.0) h.left named.1 h.right in
      let same : text ≡ event_label_text named.0 ++ more = rest_same is_space rest (codes " ") text h.before (event_label_text named.0 ++ more) cut joined refl h.before_spaces (first_stops text other.space) (no_space_first (labelled_name named.0) more) in
      no_label (labelled_name named.0) text more other same,
  refl,
)
