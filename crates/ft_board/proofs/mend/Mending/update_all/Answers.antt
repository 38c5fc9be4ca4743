use Rattle.std.proofs.Common.{◌≡◌, ℕ, ◌∷◌, sym, ap, subst, ◌∙◌}
use Rattle.std.specs.FinMap as map
use Rattle.std.specs.Map.Iter.{deref_pair}
use Rattle.std.proofs.lemmas.Map.Iter.{rest_more, rest_all}
use Rattle.ft_replay.proofs.Stepping.{grow_none, grow_more}
use Rattle.ft_board.specs.inner.Mending.{CanUpdateTo}
use Rattle.ft_board.proofs.MadeShelves.{first_attached, first_same, updating_all, updating_more, updating_none}
use Rattle.ft_hist.specs.Hist.{Hist}
use Rattle.ft_board.proofs.mend.Mending.update_all.Goals as goal

pub loop-id-init : goal.loop-id-init
loop-id-init c = record {
  updated = updating_all _ _ _ _ (c.into_iter-id-iterator.ensures.into_iter_gives ∙ c.iter-id-items.ensures.rest ∙ ap map.entries c.triggers.ensures);
  grow = grow_none _;
}

pub update_counted-requires : goal.update_counted-requires
update_counted-requires c counts =
    let e : ℕ × Hist = (c.in-Some.id.now, c.in-Some.trigger.now) in
    let more : c.loop-id.id-iterator ≡ e ∷ c.next.new.self = rest_more (deref_pair {K = ℕ} {X = Hist}) _ _ _ _ c.in-Some.is c.next.ensures.steps in
    subst (CanUpdateTo c.args.self.now e.1) (sym (first_same _ _ _ _ _ c.loop-id.invariant.updated e c.next.new.self more))
    (c.requires e.0 e.1 (first_attached _ _ _ _ _ c.loop-id.invariant.updated e c.next.new.self more) counts)

pub loop-id-preserved : goal.loop-id-preserved
loop-id-preserved c =
    let e : ℕ × Hist = (c.in-Some.id.now, c.in-Some.trigger.now) in
    let more : c.loop-id.id-iterator ≡ e ∷ c.next.new.self = rest_more (deref_pair {K = ℕ} {X = Hist}) _ _ _ _ c.in-Some.is c.next.ensures.steps in
    record {
      updated = updating_more _ _ _ _ _ c.loop-id.invariant.updated e c.next.new.self more _ c.in_ok-update_counted.ensures.others c.in_ok-update_counted.ensures.updated;
      grow = grow_more _ _ _ c.loop-id.invariant.grow c.update_counted.ensures.grow;
    }

pub returns-clause-made : goal.returns-clause-made
returns-clause-made c = updating_none _ _ _ _ _ c.loop-id.invariant.updated (rest_all (deref_pair {K = ℕ} {X = Hist}) _ _ _ c.in-None.is c.next.ensures.steps)
