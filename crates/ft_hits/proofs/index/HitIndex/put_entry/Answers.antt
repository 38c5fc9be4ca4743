use Rattle.std.proofs.Common.{sym, ap, subst, ◌∙◌}
use Rattle.std.proofs.lemmas.Result.{on_ok_weaker}
use Rattle.ft_fields.specs.Parts.{key_cmp}
use Rattle.ft_fields.specs.Ties.{key_same}
use Rattle.ft_maps.specs.Seen.{seen}
use Rattle.ft_hits.specs.ByKey.{flat, hits_in}
use Rattle.ft_hits.specs.Hits.{TakesHits}
use Rattle.ft_hits.proofs.Whole.{flat-put}
use Rattle.ft_hits.proofs.index.HitIndex.put_entry.Goals as goal

pub put-requires : goal.put-requires
put-requires c = key_same

pub returns-clause-ok : goal.returns-clause-ok
returns-clause-ok c = on_ok_weaker c.put.result (λ is.
    subst (λ hits. TakesHits c.args.key c.args.entry hits (hits_in c.put.new.map)) c.self.view_is
    (subst (TakesHits c.args.key c.args.entry (hits_in c.self.inside.by_key)) (sym (ap flat is)) (flat-put (seen key_cmp c.self.inside.by_key) c.args.key c.args.entry))) c.put.ensures.ok
