use Rattle.std.proofs.Common.{◌≤◌}
use Rattle.askagain.proofs.rows.check_folders.Given as goal

abbrev pub invariant-loop-folder : goal.invariant-loop-folder
invariant-loop-folder g l = l.held ≤ l.folder-index
