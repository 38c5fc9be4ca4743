-- A part that a stream read apart, behind the text of another stream.
use Rattle.std.specs.Prelude.{◌≡◌, ◌+◌, ℕ, Bool, List, [], ◌++◌, map as list_map, Option, Some, None, IsSomeAnd}
use Rattle.std.specs.List.{count_by}
use Rattle.ft_dispatch.specs.Joining.{place_behind, dispatch_behind, firsts, others}
use Rattle.ft_dispatch.specs.declared.dispatch.Dispatch.{Dispatch}
use Rattle.ft_waits.specs.Choice.{Choice}
use Rattle.ft_waits.specs.Joining.{CanJoin, CannotJoin}
use Rattle.ft_waits.specs.declared.fault.WaitsFault.TheVariants.{Memory}
use Rattle.ft_waits.specs.declared.seam.JoinFault.{JoinFault}
use Rattle.ft_waits.specs.declared.seam.JoinFault.TheVariants as joins
use Rattle.ft_waits.specs.declared.stream.Waits.{Waits}
use Rattle.ft_stream.specs.Telling.{Whole, Apart, Streams, events_at, waits_of}
use Rattle.ft_stream.specs.declared.apart.Part.{Part}
use Rattle.ft_stream.specs.declared.fault.StreamFault.{StreamFault}
use Rattle.ft_stream.specs.declared.fault.StreamFault.TheVariants as faults
use Rattle.ft_stream.specs.declared.phase.Phase.{Phase}
use Rattle.ft_stream.specs.declared.phase.Phase.TheVariants as phases

-- ---- whether it is joined

-- the part that is read there, if there is one
abbrev pub part_at : Phase → Option Part
part_at phases.Idle = None
part_at (phases.Running waits) = None
part_at (phases.Part part) = Some part
part_at (phases.Failed fault) = None
part_at (phases.Finished finished) = None

-- a whole text runs there, and a part here that can be joined to it
abbrev pub CanBeJoined : Phase → Phase → Type 0
CanBeJoined phases.Idle here = ⊥
CanBeJoined (phases.Running waits) here = IsSomeAnd (part_at here) (λ part. CanJoin waits part.waits)
CanBeJoined (phases.Part part) here = ⊥
CanBeJoined (phases.Failed fault) here = ⊥
CanBeJoined (phases.Finished finished) here = ⊥

-- why nothing is joined to a text: no part is there, it is refused, or it can't be joined
abbrev pub IsUnfit : Waits → Phase → StreamFault → Type 0
IsUnfit waits phases.Idle why = why ≡ faults.NoStream
IsUnfit waits (phases.Running other) why = why ≡ faults.NoStream
IsUnfit waits (phases.Part part) why = (fault : JoinFault) × (why ≡ faults.Part fault) × CannotJoin fault waits part.waits
IsUnfit waits (phases.Failed fault) why = why ≡ faults.Part joins.Failed
IsUnfit waits (phases.Finished finished) why = why ≡ faults.NoStream

-- why nothing is joined: no whole text runs there, or what is here is unfit
abbrev pub IsNotJoined : Phase → Phase → StreamFault → Type 0
IsNotJoined phases.Idle here why = why ≡ faults.NoStream
IsNotJoined (phases.Running waits) here why = IsUnfit waits here why
IsNotJoined (phases.Part part) here why = why ≡ faults.NoStream
IsNotJoined (phases.Failed fault) here why = why ≡ faults.Text fault
IsNotJoined (phases.Finished finished) here why = why ≡ faults.NoStream

-- ---- what it tells

-- waits of a part, at their places behind so many events of each CPU
abbrev pub waits_behind : List ℕ → List Dispatch → List Dispatch
waits_behind counts waits = list_map (dispatch_behind (place_behind counts)) waits

-- the two texts were read: the last microsecond before the seam adds these dispatches, `late`, and the part has those `behind`, all as one stream would tell them. The waits that are told now are those of `late`, and after them those of each task's first dispatch behind. The waits that the part told before are those of the others, except for their places. Of each sort there are as many among both as the whole text has beside the waits of the text before
pub record IsJoined (choice : Choice) (text own : List ℕ) (told apart : List Dispatch) (counts : List ℕ) (new : Phase) (waits : List Dispatch) : Type 0 where
  pub late : List Dispatch
  pub behind : List Dispatch
  pub reads : Streams Whole choice new (text ++ own) (told ++ waits_of (late ++ behind))
  pub now : waits ≡ waits_of (late ++ firsts behind)
  pub before : waits_behind counts apart ≡ waits_of (others behind)
  pub together : (passes : Dispatch → Bool) → count_by passes waits + count_by passes (waits_behind counts apart) ≡ count_by passes (waits_of (late ++ behind))

-- whatever text was read there, and whatever part here, each with the waits that were told of it: they are joined
abbrev pub JoinsTold : Phase → Phase → Phase → List Dispatch → Type 0
JoinsTold there here new waits = (choice : Choice) (text own : List ℕ) (told apart : List Dispatch) → Streams Whole choice there text told → Streams Apart choice here own apart
    → IsJoined choice text own told apart (events_at there) new waits

-- memory ran out while they were joined: the text is refused for that, and the part is gone
abbrev pub RanOut : StreamFault → Phase → Phase → List Dispatch → Type 0
RanOut why new here_now waits = (why ≡ faults.Text Memory) × (new ≡ phases.Failed Memory) × (here_now ≡ phases.Idle) × (waits ≡ [])
