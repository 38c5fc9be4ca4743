-- What is answered from a base as it stands.
use Rattle.std.specs.Prelude.{◌≡◌, ◌⊎◌, ℕ, List, Result, Ok, Err, map as list_map}
use Rattle.std.specs.Option.{option_map_or}
use Rattle.std.specs.FinMap as map
use Rattle.ft_hist.specs.Hist.{Hist}
use Rattle.ft_hist.specs.Canonical.{canonical}
use Rattle.ft_lanes.specs.Listing.{lane_text}
use Rattle.ft_base.specs.declared.listed.AttachedTrigger.{AttachedTrigger}
use Rattle.ft_base.specs.declared.refused.Refused.{Refused}
use Rattle.ft_base.specs.declared.refused.Refused.TheVariants.{Memory, NoLane, NoTrigger}
use Rattle.ft_base.specs.Base.{Base, Triggers}

-- An answer is the one expected, as view sees it, unless memory ran out.
abbrev pub AnswerIs : {S T : Type 0} → (S → T) → Result T Refused → Result S Refused → Type 0
AnswerIs view expected (Ok answer) = expected ≡ Ok (view answer)
AnswerIs view expected (Err refused) = (refused ≡ Memory) ⊎ (expected ≡ Err refused)

-- the text of a CPU's lane
unfoldable pub list_text : Base → ℕ → Result (List ℕ) Refused
list_text base cpu = option_map_or (λ lane. Ok (lane_text cpu lane)) (map.get base.lanes cpu) (Err (NoLane cpu))

-- an attached trigger by its id and its event
abbrev pub attached_of : ℕ × Hist → AttachedTrigger
attached_of entry = record { id = entry.0; event = entry.1.event }

-- the attached triggers, by id
abbrev pub attached_in : Triggers → List AttachedTrigger
attached_in triggers = list_map attached_of (map.entries triggers)

-- the canonical text of the trigger with an id
unfoldable pub trigger_text : Base → ℕ → Result (List ℕ) Refused
trigger_text base id = option_map_or (λ hist. Ok (canonical hist)) (map.get base.triggers id) (Err NoTrigger)
