-- What a stream sums up.
use Rattle.std.specs.Prelude.{◌≡◌, ℕ, List, [], Option, Some, None}
use Rattle.ft_dispatch.specs.declared.dispatch.Dispatch.{Dispatch}
use Rattle.ft_summary.specs.declared.sums.CpuSum.{CpuSum}
use Rattle.ft_summary.specs.declared.sums.Sums.{Sums}
use Rattle.ft_summary.specs.declared.sums.TaskSum.{TaskSum}
use Rattle.ft_waits.specs.Choice.{Choice, and_sums}
use Rattle.ft_stream.specs.Leaving.{HasBegun}
use Rattle.ft_stream.specs.Telling.{Kind, Streams, no_whole_at}
use Rattle.ft_stream.specs.declared.fault.StreamFault.{StreamFault}
use Rattle.ft_stream.specs.declared.fault.StreamFault.TheVariants.{NoStream}
use Rattle.ft_stream.specs.declared.phase.Phase.{Phase}
use Rattle.ft_stream.specs.declared.phase.Phase.TheVariants as phases

-- tasks and CPUs are summed up as well, of a whole text that runs and of which nothing was read: it runs still
abbrev pub SumsThemUp : Phase → Phase → Type 0
SumsThemUp old new =
    (no_whole_at new ≡ None)
    × ((kind : Kind) (choice : Choice) (text : List ℕ) (told : List Dispatch) → Streams kind choice old text told → (text ≡ []) × Streams kind (and_sums choice) new text told)

-- why they are not, of a whole text that runs: it has taken a piece
abbrev pub IsTooLate : Phase → StreamFault → Type 0
IsTooLate phase why = (why ≡ NoStream) × HasBegun phase

-- ---- what is copied

abbrev pub tasks_of : Option Sums → List TaskSum
tasks_of None = []
tasks_of (Some sums) = sums.tasks.items

abbrev pub cpus_of : Option Sums → List CpuSum
cpus_of None = []
cpus_of (Some sums) = sums.cpus.items

-- the sums of tasks, once the text has ended, if they were wanted
abbrev pub tasks_at : Phase → List TaskSum
tasks_at phases.Idle = []
tasks_at (phases.Running waits) = []
tasks_at (phases.Part part) = []
tasks_at (phases.Failed fault) = []
tasks_at (phases.Finished finished) = tasks_of finished.read.sums

-- the sums of CPUs
abbrev pub cpus_at : Phase → List CpuSum
cpus_at phases.Idle = []
cpus_at (phases.Running waits) = []
cpus_at (phases.Part part) = []
cpus_at (phases.Failed fault) = []
cpus_at (phases.Finished finished) = cpus_of finished.read.sums
