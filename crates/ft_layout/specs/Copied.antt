-- What room holds once a part of a list is copied into it. All of it is our own choice.
use Rattle.std.specs.Prelude.{ℕ, List, ◌++◌, length, take, drop, map}

-- the items from one on, as they are shown, as many as there are and as have room
abbrev pub copied_items : {X Y : Type 0} → (X → Y) → ℕ → List X → ℕ → List Y
copied_items shown from all room = map shown (take room (drop from all))

-- the room: what is copied, and after it what the room held there
abbrev pub copied : {X Y : Type 0} → (X → Y) → ℕ → List X → List Y → List Y
copied shown from all old =
    let new : List _ = copied_items shown from all (length old) in
    new ++ drop (length new) old
