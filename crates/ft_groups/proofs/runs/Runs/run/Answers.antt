-- What stands at a key's index is its run.
use Rattle.std.proofs.Common.{sym, ap, ◌∙◌, arith}
use Rattle.ft_fields.specs.Parts.{key_cmp}
use Rattle.ft_maps.specs.Seen.{seen}
use Rattle.ft_groups.specs.Grouped.{referenced_events}
use Rattle.ft_groups.proofs.Indexing.{nth_read, run_at, run_listed, run_stands}
use Rattle.ft_groups.proofs.runs.Runs.run.Goals as goal

pub index-requires : goal.index-requires
index-requires c =
    let self = c.args.self.now in
    let stands = c.requires.indexed.stands c.args.key.now c.in-Some.index (sym c.in-Some.ensures) in
    omega (arith, self.runs.ok.0, run_stands self c.requires c.args.key.now c.in-Some.index stands)

pub returns-in-Some : goal.returns-in-Some
returns-in-Some c =
    let self = c.args.self.now in
    let runs = self.runs.items in
    let stands = c.requires.indexed.stands c.args.key.now c.in-Some.index (sym c.in-Some.ensures) in
    let within = run_stands self c.requires c.args.key.now c.in-Some.index stands in
    ap referenced_events c.deref.ensures.value
    ∙ sym (run_listed runs (seen key_cmp self.indices) c.args.key.now ∙ ap (run_at runs) (sym c.in-Some.ensures) ∙ nth_read runs c.in-Some.index c.index.result.now within c.index.ensures)

pub returns-in-None : goal.returns-in-None
returns-in-None c =
    let self = c.args.self.now in
    sym (run_listed self.runs.items (seen key_cmp self.indices) c.args.key.now ∙ ap (run_at self.runs.items) (sym c.in-None.ensures))
