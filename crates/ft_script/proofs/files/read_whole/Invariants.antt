-- What was read is what the reader lost, and is within the limit.
use Rattle.std.proofs.Common.{◌≤◌, ◌<◌, length}
use Rattle.std.specs.Io.KnownBytes.{Consumes}
use Rattle.ft_script.specs.Files.{file_limit}
use Rattle.ft_script.proofs.files.read_whole.Given as goal

abbrev pub invariant-loop : goal.invariant-loop
invariant-loop g l =
    (0 < length l.piece.items) × (length l.bytes.items ≤ file_limit)
    × Consumes (g.R.Read.remaining l.initial.file) (g.R.Read.remaining l.file) l.bytes.items
