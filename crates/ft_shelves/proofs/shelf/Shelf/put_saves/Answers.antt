use Rattle.std.proofs.Common.{◌≡◌, ◌<◌, ℕ, List, sym, ap, subst, ◌∙◌, Some, None, Option}
use Rattle.std.specs.Prelude.{is_some}
use Rattle.ft_pairs.specs.ByKey.{ChangesKey, OpsByKey, ops_of}
use Rattle.ft_fields.specs.declared.key.Part.{Part}
use Rattle.ft_table.specs.Hits.{Hits}
use Rattle.ft_table.specs.Tabled.{Tabled}
use Rattle.ft_table.specs.Rows.{hit_after}
use Rattle.ft_hits.specs.declared.hit.Hit.{Hit}
use Rattle.ft_shelves.specs.Shelves.{Shelved}
use Rattle.ft_shelves.specs.Following.{with_saves}
use Rattle.ft_shelves.proofs.Counted.{tests_none, none_then}
use Rattle.ft_shelves.proofs.Walking.{with_saves_till, hits_left, begun, unsaved, next_there, one_further, fewer_left}
use Rattle.ft_shelves.proofs.shelf.Shelf.put_saves.Goals as goal

-- so far a save stands at each hit before the next one
so_far : (hits : Hits) (id : ℕ) (key : List Part) (old mid : OpsByKey) {next : Option Hit} {hit : Hit} → next ≡ Some hit → ChangesKey key (with_saves_till hits id key next) old mid → ChangesKey key (with_saves_till hits id key (Some hit)) old mid
so_far hits id key old mid is saved = subst (λ n. ChangesKey key (with_saves_till hits id key n) old mid) is saved

pub loop-next-init : goal.loop-next-init
loop-next-init c =
    let hits = c.self.inside.table.hits in
    record {
      role = ap (λ (s : Shelved). s.role) c.self.view_is;
      table = ap (λ (s : Shelved). s.table) c.self.view_is;
      readings = ap (λ (s : Shelved). s.readings) c.self.view_is;
      there = λ hit is. ap is_some (next_there hits c.args.key None hit (sym c.hit_after-next.ensures ∙ is)).0;
      saved = λ k at. ap (λ (s : Shelved). ops_of s.ops k at) c.self.view_is ∙ begun hits c.args.id c.args.key c.args.self.now.ops c.hit_after-next.result (sym c.hit_after-next.ensures) k at;
      work = tests_none c.args.work.now;
    }

pub put_save-requires : goal.put_save-requires
put_save-requires c =
    unsaved c.loop-next.self-inside.table.hits c.args.id c.args.key c.in-Some.hit c.args.self.now.ops c.loop-next.self-inside.pairs (so_far _ _ _ _ _ c.in-Some.is c.loop-next.invariant.saved) c.requires

pub loop-next-smaller : goal.loop-next-smaller
loop-next-smaller c =
    let hits = c.loop-next.self-inside.table.hits in
    subst (λ (n : Option Hit). hits_left hits c.args.key c.hit_after-next-in-Some.result < hits_left hits c.args.key n) (sym c.in-Some.is)
    (fewer_left hits c.args.key c.in-Some.hit c.hit_after-next-in-Some.result (sym c.hit_after-next-in-Some.ensures))

pub loop-next-preserved : goal.loop-next-preserved
loop-next-preserved c =
    let hits = c.loop-next.self-inside.table.hits in
    let key = c.args.key in
    let known = c.loop-next.invariant in
    let next : hit_after hits key (Some c.in-Some.hit.spot) ≡ c.hit_after-next-in-Some.result = sym c.hit_after-next-in-Some.ensures in
    record {
      role = known.role;
      table = known.table;
      readings = known.readings;
      there = λ hit is. ap is_some (next_there hits key (Some c.in-Some.hit.spot) hit (next ∙ is)).0;
      saved = one_further hits c.args.id key c.in-Some.hit c.args.self.now.ops c.loop-next.self-inside.pairs (so_far _ _ _ _ _ c.in-Some.is known.saved)
          c.hit_after-next-in-Some.result next (known.there c.in-Some.hit c.in-Some.is) c.put_save.new.pairs c.in_ok-put_save.ensures.ok;
      work = none_then c.args.work.now c.loop-next.work c.put_save.new.work known.work c.put_save.ensures.work;
    }

pub returns-clause-ok : goal.returns-clause-ok
returns-clause-ok c =
    let known = c.loop-next.invariant in
    let key = c.args.key in
    let old = c.args.self.now.ops in
    let new = c.loop-next.self-inside.pairs in
    record {
      role = known.role;
      table = known.table;
      readings = known.readings;
      ops = subst (λ (t : Tabled). ChangesKey key (with_saves t.hits c.args.id key) old new) known.table
          (subst (λ (n : Option Hit). ChangesKey key (with_saves_till c.loop-next.self-inside.table.hits c.args.id key n) old new) c.in_default.is known.saved);
    }
