-- Packed events whose names stand one after the other in a text.
use Rattle.std.proofs.Common.{◌≡◌, ◌+◌, ◌<◌, ◌≤◌, ◌++◌, ℕ, zero, suc, List, [], ◌∷◌, length, get_or, take, drop, map, refl, sym, ap, subst, ◌∙◌, arith, length-append}
use Rattle.std.proofs.lemmas.List.{take-append-drop, length-take-le, take-map, map-append}
use Rattle.std.proofs.Math.Seq.{drop-append-add}
use Rattle.ft_fields.specs.Traced.{Traced, last_stamp}
use Rattle.ft_store.specs.declared.packed.Packed.{Packed}
use Rattle.ft_store.specs.Stored.{stored_at}
use Rattle.ft_store.specs.inner.Packing.{moved, width, event_of, unpacked, all_unpacked, IsSoundPacked, AreLaid}
use Rattle.ft_store.proofs.Names.{added_names, names_stay}

-- an event stands at a place of a list
abbrev pub StandsAt : List Packed → ℕ → Packed → Type 0
StandsAt events n event = (n < length events) × (event ≡ get_or events n event)

-- what holds of a text and events holds of the same
pub of_same : (P : List ℕ → List Packed → Type 0) (text names : List ℕ) (events packs : List Packed) → names ≡ text → packs ≡ events → P text events → P names packs
of_same P text names events packs t e h = subst (λ (bytes : List ℕ). P bytes packs) (sym t) (subst (P text) (sym e) h)

-- ---- where names end

-- the names of events end at or after where they begin
laid_forward : (begins : ℕ) (events : List Packed) (ends : ℕ) → AreLaid begins events ends → begins ≤ ends
laid_forward begins [] ends laid = omega arith
laid_forward begins (event ∷ events) ends laid = omega (arith, laid_forward (begins + width event) events ends laid.2)

-- an event is sound, and its names end within those of all
pub laid_at : (begins : ℕ) (events : List Packed) (ends n : ℕ) (event : Packed) → AreLaid begins events ends → StandsAt events n event
    → IsSoundPacked event × (event.begins + width event ≤ ends)
laid_at begins [] ends n event laid at = absurd (omega arith)
laid_at begins (first ∷ events) ends zero event laid at =
    subst (λ (e : Packed). IsSoundPacked e × (e.begins + width e ≤ ends)) (sym at.1) (laid.0, omega (arith, laid_forward (begins + width first) events ends laid.2))
laid_at begins (first ∷ events) ends (suc n) event laid at = laid_at (begins + width first) events ends n event laid.2 (omega arith, at.1)

-- the stamp at each place is an event's
pub stamps_laid : (text : List ℕ) (begins : ℕ) (events : List Packed) (ends n : ℕ) → AreLaid begins events ends → (stored_at (all_unpacked text events) n).stamp ≤ last_stamp
stamps_laid text begins [] ends n laid = omega arith
stamps_laid text begins (event ∷ events) ends zero laid = laid.0.stamp
stamps_laid text begins (event ∷ events) ends (suc n) laid = stamps_laid text (begins + width event) events ends n laid.2

-- the names of the first events end where those of the next one begin
pub laid_front : (begins : ℕ) (events : List Packed) (ends n : ℕ) (event : Packed) → AreLaid begins events ends → StandsAt events n event
    → AreLaid begins (take n events) event.begins
laid_front begins [] ends n event laid at = absurd (omega arith)
laid_front begins (first ∷ events) ends zero event laid at = sym laid.1 ∙ ap (λ (e : Packed). e.begins) (sym at.1)
laid_front begins (first ∷ events) ends (suc n) event laid at =
    (laid.0, laid.1, laid_front (begins + width first) events ends n event laid.2 (omega arith, at.1))

-- ---- more events

-- events that are laid where others end are laid after them
laid_join : (begins : ℕ) (events : List Packed) (mid : ℕ) (more : List Packed) (ends : ℕ) → AreLaid begins events mid → AreLaid mid more ends
    → AreLaid begins (events ++ more) ends
laid_join begins [] mid more ends laid behind = subst (λ (n : ℕ). AreLaid n more ends) (sym laid) behind
laid_join begins (first ∷ events) mid more ends laid behind = (laid.0, laid.1, laid_join (begins + width first) events mid more ends laid.2 behind)

-- all events come back as before if bytes are added to the text
all_stay : (text more : List ℕ) (begins : ℕ) (events : List Packed) (ends : ℕ) → AreLaid begins events ends → ends ≤ length text
    → all_unpacked (text ++ more) events ≡ all_unpacked text events
all_stay text more begins [] ends laid within = refl
all_stay text more begins (event ∷ events) ends laid within =
    let inside : event.begins + width event ≤ length text = omega (arith, laid_forward (begins + width event) events ends laid.2) in
    ap (λ (names : List ℕ). event_of names event ∷ all_unpacked (text ++ more) events) (names_stay text more event inside)
    ∙ ap (λ (rest : List Traced). unpacked text event ∷ rest) (all_stay text more (begins + width event) events ends laid.2 within)

-- ---- one event more

-- an event whose names are added to the text is laid after the others
pub laid_more : (text names : List ℕ) (events : List Packed) (event : Packed) → AreLaid 0 events (length text) → IsSoundPacked event → event.begins ≡ length text
    → width event ≡ length names → AreLaid 0 (events ++ event ∷ []) (length (text ++ names))
laid_more text names events event laid sound at long =
    laid_join 0 events (length text) (event ∷ []) (length (text ++ names)) laid (sound, at, omega (arith, long, length-append text names))

-- and it comes back after them
pub unpacked_more : (text names : List ℕ) (events : List Packed) (event : Packed) → AreLaid 0 events (length text) → event.begins ≡ length text
    → width event ≡ length names → all_unpacked (text ++ names) (events ++ event ∷ []) ≡ all_unpacked text events ++ event_of names event ∷ []
unpacked_more text names events event laid at long =
    map-append (unpacked (text ++ names)) events (event ∷ [])
    ∙ ap (λ (before : List Traced). before ++ unpacked (text ++ names) event ∷ []) (all_stay text names 0 events (length text) laid (omega arith))
    ∙ ap (λ (own : List ℕ). all_unpacked text events ++ event_of own event ∷ []) (added_names text names event at long)

-- ---- a store more

-- events stay laid if all their names stand further on
laid_moved : (by begins : ℕ) (events : List Packed) (ends : ℕ) → AreLaid begins events ends → AreLaid (by + begins) (map (moved by) events) (by + ends)
laid_moved by begins [] ends laid = ap (λ (n : ℕ). by + n) laid
laid_moved by begins (event ∷ events) ends laid = (
  record { task = laid.0.task; body = laid.0.body; stamp = laid.0.stamp; cpu = laid.0.cpu },
  ap (λ (n : ℕ). by + n) laid.1,
  subst (λ (n : ℕ). AreLaid n (map (moved by) events) (by + ends)) (omega arith) (laid_moved by (begins + width event) events ends laid.2),
)

-- events come back as before if their names stand after a text
all_moved : (text more : List ℕ) (events : List Packed) → all_unpacked (text ++ more) (map (moved (length text)) events) ≡ all_unpacked more events
all_moved text more [] = refl
all_moved text more (event ∷ events) =
    ap (λ (names : List ℕ). event_of (take (width event) names) event ∷ all_unpacked (text ++ more) (map (moved (length text)) events)) (drop-append-add text more event.begins)
    ∙ ap (λ (rest : List Traced). unpacked more event ∷ rest) (all_moved text more events)

-- the events of a store, with their names after the others', are laid after the others
pub laid_all : (text more : List ℕ) (events others : List Packed) → AreLaid 0 events (length text) → AreLaid 0 others (length more)
    → AreLaid 0 (events ++ map (moved (length text)) others) (length (text ++ more))
laid_all text more events others laid behind =
    laid_join 0 events (length text) (map (moved (length text)) others) (length (text ++ more)) laid
    (subst (AreLaid (length text) (map (moved (length text)) others)) (sym (length-append text more))
    (subst (λ (n : ℕ). AreLaid n (map (moved (length text)) others) (length text + length more)) (omega arith) (laid_moved (length text) 0 others (length more) behind)))

-- and they come back after them
pub unpacked_all : (text more : List ℕ) (events others : List Packed) → AreLaid 0 events (length text)
    → all_unpacked (text ++ more) (events ++ map (moved (length text)) others) ≡ all_unpacked text events ++ all_unpacked more others
unpacked_all text more events others laid =
    map-append (unpacked (text ++ more)) events (map (moved (length text)) others)
    ∙ ap (λ (before : List Traced). before ++ all_unpacked (text ++ more) (map (moved (length text)) others)) (all_stay text more 0 events (length text) laid (omega arith))
    ∙ ap (λ (behind : List Traced). all_unpacked text events ++ behind) (all_moved text more others)

-- ---- fewer events

-- the first events come back from what is left of the text
pub unpacked_front : (text : List ℕ) (events : List Packed) (n : ℕ) (event : Packed) → AreLaid 0 events (length text) → StandsAt events n event
    → all_unpacked (take event.begins text) (take n events) ≡ take n (all_unpacked text events)
unpacked_front text events n event laid at =
    let within : event.begins ≤ length text = omega (arith, (laid_at 0 events (length text) n event laid at).1) in
    sym (all_stay (take event.begins text) (drop event.begins text) 0 (take n events) event.begins (laid_front 0 events (length text) n event laid at)
    (omega (arith, length-take-le event.begins text within)))
    ∙ ap (λ (bytes : List ℕ). all_unpacked bytes (take n events)) (take-append-drop event.begins text)
    ∙ sym (take-map (unpacked text) n events)

-- the names of the first events are laid within what is left of the text
pub laid_cut : (text : List ℕ) (events : List Packed) (n : ℕ) (event : Packed) → AreLaid 0 events (length text) → StandsAt events n event
    → AreLaid 0 (take n events) (length (take event.begins text))
laid_cut text events n event laid at =
    let within : event.begins ≤ length text = omega (arith, (laid_at 0 events (length text) n event laid at).1) in
    subst (AreLaid 0 (take n events)) (sym (length-take-le event.begins text within)) (laid_front 0 events (length text) n event laid at)
