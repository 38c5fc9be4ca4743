use Rattle.std.proofs.Common.{rules}
use Rattle.ft_kept.specs.Changes.{ReadingsTold}
use Rattle.ft_kept.specs.Shelves.{FormsStay}
use Rattle.ft_repair.specs.KeptShelves.{AreKeptOf}
use Rattle.ft_repair.proofs.Repaired.{if_there, there_if}
use Rattle.ft_repair.proofs.lane.let_lane_go.Goals as goal

pub take_lane-requires : goal.take_lane-requires
take_lane-requires c = there_if (AreKeptOf c.args.content.now) c.in-Some.tables c.args.kept.now c.in-Some.ensures.value c.requires

pub returns-in-Ok : goal.returns-in-Ok
returns-in-Ok c = record {
  kept = c.in-Ok.ensures.kept;
  deferred = search rules;
  forms = if_there (λ before. FormsStay before c.take_lane.new.tables) c.in-Some.tables c.args.kept.now c.in-Some.ensures.value c.in-Ok.ensures.forms;
  reread = if_there (λ before. ReadingsTold c.args.changes.now.readings c.take_lane.new.changes.readings before c.take_lane.new.tables) c.in-Some.tables c.args.kept.now c.in-Some.ensures.value c.in-Ok.ensures.reread;
  quiet = c.take_lane.ensures.quiet;
  now = search rules;
  evals = c.take_lane.ensures.evals;
  grow = c.take_lane.ensures.grow;
}

pub returns-in_default-take_lane : goal.returns-in_default-take_lane
returns-in_default-take_lane c = record {
  kept = search rules;
  deferred = search rules;
  forms = search rules;
  reread = search rules;
  quiet = c.take_lane.ensures.quiet;
  now = λ plain gone. absurd (c.in_default-take_lane.not-Ok tt (c.take_lane.ensures.now plain));
  evals = c.take_lane.ensures.evals;
  grow = c.take_lane.ensures.grow;
}
