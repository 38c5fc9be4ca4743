-- What the flush at a run's end leaves of what was counted.
use Rattle.std.proofs.Common.{◌≡◌, Result, Ok, Err, inl, inr}
use Rattle.ft_desk.specs.declared.running.Status.{Status}
use Rattle.ft_desk.specs.declared.running.RunFault.{RunFault}
use Rattle.ft_desk.specs.declared.running.RunFault.TheVariants as faults
use Rattle.ft_desk.specs.Counts.{Counts}
use Rattle.ft_desk.specs.Steps.{AsksReader, FlushGives}

-- a flush asks no reader
pub flush_asks : (answer result : Result Status RunFault) (flushed asked : Counts) → AsksReader answer asked → FlushGives answer result flushed → AsksReader result asked
flush_asks (Ok status) result flushed asked asks gives = elim gives.1 [
  | inl well ↦ rw well.0 asks
  | inr failed ↦ rw failed.0 asks
]
flush_asks (Err faults.Memory) result flushed asked asks gives = rw gives.1 asks
flush_asks (Err faults.Read) result flushed asked asks gives = rw gives.1 asks
flush_asks (Err faults.Write) result flushed asked asks gives = rw gives.1 asks
