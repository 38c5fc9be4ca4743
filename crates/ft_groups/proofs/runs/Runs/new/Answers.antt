-- Groups in which nothing stands are those of no events.
use Rattle.std.proofs.Common.{sym, ap, ◌∙◌, length}
use Rattle.std.specs.FinMap as map
use Rattle.std.specs.FinMap.{get-empty}
use Rattle.ft_fields.specs.Parts.{key_cmp}
use Rattle.ft_maps.specs.Seen.{seen, seen-empty}
use Rattle.ft_groups.proofs.Indexing.{none_grouped, none_indexed, all_unlike, run_listed, run_at}
use Rattle.ft_groups.proofs.runs.Runs.new.Goals as goal

pub returns-clause-by_key : goal.returns-clause-by_key
returns-clause-by_key c = record {
  indexed = none_indexed _ _ c.new-2.ensures.items (seen-empty key_cmp c.new-4.result c.new-4.ensures.empty);
  many = ap length c.new-3.ensures.items ∙ sym (ap length c.new-2.ensures.items);
}

pub returns-clause-none : goal.returns-clause-none
returns-clause-none c hist =
    let runs = c.new-3.result.items in
    let empty = seen-empty key_cmp c.new-4.result c.new-4.ensures.empty in
    none_grouped hist _ c.new-2.ensures.items
    (λ key. run_listed runs (seen key_cmp c.new-4.result) key ∙ ap (run_at runs) (ap (λ m. map.get m key) empty ∙ get-empty key_cmp key))
    (all_unlike _ _ (none_indexed _ _ c.new-2.ensures.items empty))
