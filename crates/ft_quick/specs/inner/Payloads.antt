-- Payloads, cut from the left (kernel: events.rst, the events of `sched`).
use Rattle.std.specs.Prelude.{◌≡◌, ◌≤◌, ℕ, List, ◌∷◌, ◌++◌, length, take, reverse, slice_index, Contains, None, codes, ℤ, FitsSigned}
use Rattle.std.specs.Int.{w32}
use Rattle.ft_fields.specs.declared.event.Turn.{Turn}
use Rattle.ft_fields.specs.declared.event.Wake.{Wake}
use Rattle.ft_event.specs.Bytes.{is_space}
use Rattle.ft_event.specs.LineIs.{IsTurn, IsWake, NumberIs, Stops}

-- a name of at most 31 bytes, a label, `=` and the rest; no other `=` stands before this one
pub record IsLabelledName (label text name rest : List ℕ) : Type 0 where
  pub joined : text ≡ name ++ (label ++ 61 ∷ rest)
  pub short : length name ≤ 31
  pub bare : Contains name 61 → ⊥

-- a task's name, and after its labels its PID and its priority, and the rest
pub record AreTaskParts (pid_label prio_label text comm : List ℕ) (pid prio : ℤ) (rest : List ℕ) : Type 0 where
  pub pid_text : List ℕ
  pub prio_text : List ℕ
  pub joined : text ≡ comm ++ (pid_label ++ 61 ∷ (pid_text ++ (prio_label ++ (prio_text ++ rest))))
  pub short : length comm ≤ 31
  pub bare : Contains comm 61 → ⊥
  pub pid_is : NumberIs pid_text pid
  pub pid_fits : FitsSigned w32 pid
  pub prio_is : NumberIs prio_text prio
  pub prio_fits : FitsSigned w32 prio

-- the payload of a wake event without ` success=N`, with nothing too long or out of range, and no space at its ends
pub record IsFairWake (payload : List ℕ) (wake : Wake) : Type 0 where
  pub is : IsWake payload wake None
  pub short : length wake.comm ≤ 31
  pub pid_fits : FitsSigned w32 wake.pid
  pub prio_fits : FitsSigned w32 wake.prio
  pub cpu_fits : FitsSigned w32 wake.target_cpu
  pub first : Stops is_space payload
  pub last : Stops is_space (reverse payload)

-- the payload of a switch, with nothing too long or out of range, and no space at its ends
pub record IsFairTurn (payload : List ℕ) (turn : Turn) : Type 0 where
  pub is : IsTurn payload turn
  pub prev_short : length turn.prev_comm ≤ 31
  pub prev_pid_fits : FitsSigned w32 turn.prev_pid
  pub prev_prio_fits : FitsSigned w32 turn.prev_prio
  pub state_short : length turn.prev_state ≤ 31
  pub next_short : length turn.next_comm ≤ 31
  pub next_pid_fits : FitsSigned w32 turn.next_pid
  pub next_prio_fits : FitsSigned w32 turn.next_prio
  pub first : Stops is_space payload
  pub last : Stops is_space (reverse payload)

-- what tells a text from all labels: its first byte, and its first eight
pub record IsUnlabelled (text : List ℕ) : Type 0 where
  pub space : slice_index text 0 ≡ 32 → ⊥
  pub colon : slice_index text 0 ≡ 58 → ⊥
  pub made : slice_index text 0 ≡ 119 → ⊥
  pub wake : take 8 text ≡ codes "sched_wa" → ⊥
  pub turn : take 8 text ≡ codes "sched_sw" → ⊥
