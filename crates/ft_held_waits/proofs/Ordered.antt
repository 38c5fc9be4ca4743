-- One held event more.
use Rattle.std.specs.Prelude.{◌≡◌, ◌+◌, ◌<◌, ℕ, Bool, true, List, [], ◌∷◌, ◌++◌, length, reverse, take, filter, filter_map}
use Rattle.std.proofs.Common.{refl, sym, ap, cond, ◌∙◌, get_or}
use Rattle.std.proofs.lemmas.List.{take_more, reverse-append, map-append}
use Rattle.std.proofs.lemmas.List.Elements.{filter_map-append}
use Rattle.ft_fields.specs.declared.pos.Pos.{Pos}
use Rattle.ft_maps.specs.Mapped.{entries_by}
use Rattle.ft_store.specs.Stored.{held}
use Rattle.ft_store.specs.declared.stored.Stored.{Stored}
use Rattle.ft_dispatch.specs.Acts.{Act}
use Rattle.ft_held_waits.specs.Held.{placed_act, acts_of_entries}

-- the acts of references to events
abbrev pub acts_at : List (Pos × Stored) → List (Pos × Act)
acts_at events = acts_of_entries (entries_by held events)

-- the acts of one event more, the newest first
pub acts-more : (xs : List (Pos × Stored)) (i : ℕ) (x : Pos × Stored) → i < length xs → x ≡ get_or xs i x
    → acts_at (take (i + 1) xs) ≡ reverse (filter_map placed_act (entries_by held (x ∷ []))) ++ acts_at (take i xs)
acts-more xs i x within is =
    ap acts_at (take_more xs i x within)
    ∙ ap acts_of_entries (map-append (λ (e : Pos × Stored). (e.0, held e.1)) (take i xs) (get_or xs i x ∷ []))
    ∙ ap reverse (filter_map-append placed_act (entries_by held (take i xs)) (entries_by held (get_or xs i x ∷ [])))
    ∙ reverse-append (filter_map placed_act (entries_by held (take i xs))) (filter_map placed_act (entries_by held (get_or xs i x ∷ [])))
    ∙ ap (λ (y : Pos × Stored). reverse (filter_map placed_act (entries_by held (y ∷ []))) ++ acts_at (take i xs)) (sym is)

-- if each passes, all are left
pub all_left : {X : Type 0} (fits : X → Bool) (xs : List X) → ((x : X) → fits x ≡ true) → filter fits xs ≡ xs
all_left fits [] all = refl
all_left fits (x ∷ xs) all = ap (λ (b : Bool). cond b (x ∷ filter fits xs) (filter fits xs)) (all x) ∙ ap (λ (rest : List _). x ∷ rest) (all_left fits xs all)
