-- One trigger that joins the others, that leaves them, or that gets another filter.
use Rattle.std.specs.Prelude.{◌≡◌, ◌==◌, ◌||◌, ℕ, Bool, false, Some}
use Rattle.std.specs.FinMap as map
use Rattle.ft_hist.specs.Hist.{Hist}
use Rattle.ft_pairs.specs.declared.role.Role.{Role}
use Rattle.ft_pairs.specs.declared.role.Role.TheVariants.{Plain, Saves, Reads}
use Rattle.ft_base.specs.Base.{Triggers, Base}
use Rattle.ft_base.specs.Roles.{is_reader, role_at}

-- the trigger with an id, if there is one, reads no variable (kernel: histogram.rst, inter-event hist triggers)
abbrev pub ReadsNothing : Triggers → ℕ → Type 0
ReadsNothing triggers id = (hist : Hist) → map.get triggers id ≡ Some hist → is_reader hist.variable ≡ false

-- no trigger reads what this one saves, and without it the others do with their variables what they do with it (kernel: histogram.rst, inter-event hist triggers)
pub record IsUnread (triggers : Triggers) (id : ℕ) : Type 0 where
  pub unread : (reader : ℕ) → role_at triggers reader ≡ Reads id → ⊥
  pub others : (other : ℕ) → (other ≡ id → ⊥) → role_at (map.remove triggers id) other ≡ role_at triggers other

-- a base without one of its triggers
abbrev pub base_without : Base → ℕ → Base
base_without base id = record base { triggers = map.remove base.triggers id }

-- a trigger is attached with an id that no trigger had; no other reads what it saves yet, and without it there are the triggers of before
pub record JoinsAs (id : ℕ) (hist : Hist) (old new : Base) : Type 0 where
  pub attached : map.get new.triggers id ≡ Some hist
  pub unread : IsUnread new.triggers id
  pub before : base_without new id ≡ record old { next_id = new.next_id }

-- an attached trigger has another filter, or none: what is held and the other triggers are as before, and each does with its variable what it did
pub record GetsFilter (id : ℕ) (old new : Base) : Type 0 where
  pub was : Hist
  pub attached_before : map.get old.triggers id ≡ Some was
  pub hist : Hist
  pub attached : map.get new.triggers id ≡ Some hist
  pub others : map.remove new.triggers id ≡ map.remove old.triggers id
  pub roles : (other : ℕ) → role_at new.triggers other ≡ role_at old.triggers other
  pub lanes : new.lanes ≡ old.lanes

-- a trigger with this role reads what the one with an id saves (kernel: histogram.rst, inter-event hist triggers)
abbrev pub reads_from : ℕ → Role → Bool
reads_from id Plain = false
reads_from id Saves = false
reads_from id (Reads saver) = saver == id

-- a trigger with an id and a role is the first one, or reads what that one saves (kernel: histogram.rst, inter-event hist triggers)
abbrev pub is_kin : ℕ → ℕ → Role → Bool
is_kin id other role = other == id || reads_from id role

-- the family of a trigger: itself, and those that read what it saves (kernel: histogram.rst, inter-event hist triggers)
abbrev pub is_in_family : Triggers → ℕ → ℕ → Bool
is_in_family triggers id other = is_kin id other (role_at triggers other)
