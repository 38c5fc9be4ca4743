-- A new key stands after the others, with an empty run.
use Rattle.std.proofs.Common.{◌≡◌, ◌+◌, ◌++◌, ◌∷◌, [], length, refl, sym, ap, ◌∙◌, length-append, Some, arith}
use Rattle.std.specs.Prelude.{slice_get}
use Rattle.std.specs.List.{list_any}
use Rattle.std.specs.FinMap as map
use Rattle.ft_fields.specs.Parts.{key_cmp, same_key}
use Rattle.ft_fields.specs.Ties.{key_same}
use Rattle.ft_maps.specs.Seen.{seen}
use Rattle.ft_groups.proofs.Indexing.{get_push, noted_there, noted_more, indexed_then, run_listed, run_more, run_at}
use Rattle.ft_groups.proofs.runs.Runs.index_for.Goals as goal

pub put-requires : goal.put-requires
put-requires c = key_same

pub returns-in-Some-clause-notes : goal.returns-in-Some-clause-notes
returns-in-Some-clause-notes c = record {
  keys = noted_there _ _ c.requires.indexed c.args.key c.in-Some.index (c.requires.indexed.stands c.args.key c.in-Some.index (sym c.in-Some.ensures));
  runs = λ q. refl;
}

pub returns-clause-by_key : goal.returns-clause-by_key
returns-clause-by_key c =
    let keys = c.args.self.now.keys in
    let index = c.in_ok-put.ensures.ok ∙ ap (map.insert (seen key_cmp c.args.self.now.indices) c.args.key) (c.len-index.ensures ∙ keys.ok.0) in
    record {
      indexed = indexed_then _ _ c.requires.indexed c.args.key (sym c.index_of.ensures ∙ c.in_default.is) _ _ c.in_ok-push-2.ensures.items index;
      many = ap length c.in_ok-push.ensures.items ∙ length-append _ _ ∙ ap (λ n. n + 1) c.requires.many ∙ sym (ap length c.in_ok-push-2.ensures.items ∙ length-append _ _);
    }

pub returns-clause-stands : goal.returns-clause-stands
returns-clause-stands c =
    let keys = c.args.self.now.keys in
    let put : slice_get (keys.items ++ c.args.key ∷ []) (length keys.items) ≡ Some c.args.key = grind (arith, get_push keys.items c.args.key) in
    (λ i. slice_get (c.in_ok-push-2.ensures.items i) ((c.len-index.ensures ∙ keys.ok.0) i)) ∙ put

pub returns-clause-notes : goal.returns-clause-notes
returns-clause-notes c =
    let keys = c.args.self.now.keys in
    let runs = c.args.self.now.runs.items in
    let indices = seen key_cmp c.args.self.now.indices in
    let index = c.in_ok-put.ensures.ok ∙ ap (map.insert indices c.args.key) (c.len-index.ensures ∙ keys.ok.0) in
    let none = sym c.index_of.ensures ∙ c.in_default.is in
    record {
      keys = λ q. ap (list_any (same_key q)) c.in_ok-push-2.ensures.items ∙ noted_more keys.items indices c.requires.indexed c.args.key none q;
      runs = λ q.
          run_listed c.push.new.self.items (seen key_cmp c.put.new.map) q
          ∙ (λ i. run_at (c.in_ok-push.ensures.items i) (map.get (index i) q))
          ∙ run_more keys.items indices c.requires.indexed c.args.key none runs c.requires.many c.new.result c.new.ensures.items q
          ∙ sym (run_listed runs indices q);
    }
