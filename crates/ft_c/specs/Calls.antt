-- Calls of a session through a handle. All of it is our own choice.
use Rattle.std.specs.Prelude.{◌≡◌, ℕ, Option, None, MatchOption, IsSomeAnd}
use Rattle.ft_c.specs.Codes.{closed}
use Rattle.ft_c.specs.Owned.{Held}

-- the session does this, and is in the handle again; a handle without one answers the code for that, and stays so
abbrev pub Calls : Option Held → Option Held → ℕ → (Held → Held → Type 0) → Type 0
Calls old new code does = MatchOption old ((code ≡ closed) × (new ≡ None)) (λ before. IsSomeAnd new (does before))

-- the same of a call that writes: without a session nothing is written
abbrev pub CallsWriting : {T : Type 0} → Option Held → Option Held → ℕ → T → T → (Held → Held → Type 0) → Type 0
CallsWriting old new code before after does = MatchOption old ((code ≡ closed) × (new ≡ None) × (after ≡ before)) (λ held. IsSomeAnd new (does held))

-- nothing happened, and nothing is written, except the code
abbrev pub StaysClosed : {T : Type 0} → Option Held → Option Held → Option Held → Option Held → ℕ → T → T → Type 0
StaysClosed old other new other_now code before after = (code ≡ closed) × (new ≡ old) × (other_now ≡ other) × (after ≡ before)

-- the sessions of two handles do this, and are in them again; if one of the two is without one, nothing happens
abbrev pub CallsBoth : {T : Type 0} → Option Held → Option Held → Option Held → Option Held → ℕ → T → T → (Held → Held → Held → Held → Type 0) → Type 0
CallsBoth old other new other_now code before after does =
    MatchOption old (StaysClosed old other new other_now code before after)
    (λ held. MatchOption other (StaysClosed old other new other_now code before after) (λ held_there. IsSomeAnd new (λ held_now. IsSomeAnd other_now (does held held_there held_now))))

-- only the stream of waits may differ
abbrev pub OnlyWaits : Held → Held → Type 0
OnlyWaits before after = after ≡ record before { waits = after.waits }
