-- If none of the shelves is another reader's, each reader is the one.
use Rattle.std.proofs.Common.{◌≡◌, ℕ, ◌∷◌, sym, ap, subst, ◌∙◌, refl, true≢false}
use Rattle.std.proofs.lemmas.Bool.{eq-eqb}
use Rattle.std.specs.FinMap as map
use Rattle.std.specs.FinMap.{get-entries}
use Rattle.std.specs.Map.Iter.{deref_pair}
use Rattle.std.proofs.lemmas.Map.Iter.{rest_more}
use Rattle.ft_shelves.specs.Shelves.{Shelved, Shelves}
use Rattle.ft_kept.proofs.Bare.{OthersAmong, fewer_among, none_among}
use Rattle.ft_kept.proofs.tables.Tables.is_only_reader.Goals as goal
use Rattle.ft_kept.proofs.tables.Tables.is_only_reader.Goals.{else-other-id-via-then-other-id+else-eq, else-other-id-via-else-other-id}

pub loop-other-init : goal.loop-other-init
loop-other-init c = subst (OthersAmong c.args.id c.args.saver c.args.self.now)
    (sym (c.into_iter-other-iterator.ensures.into_iter_gives ∙ c.entries-other-items.ensures.rest ∙ ap (λ (shelves : Shelves). map.entries shelves) c.self.view_is)) (λ other shelf is _ _. sym (get-entries c.args.self.now other) ∙ is)

pub loop-other-preserved : goal.loop-other-preserved
loop-other-preserved c =
    let e : ℕ × Shelved = (c.in-Some.other.now, c.in-Some.shelf.now) in
    let more : c.loop-other.other-iterator ≡ e ∷ c.next.new.self = rest_more (deref_pair {K = ℕ} {X = Shelved}) _ _ _ _ c.in-Some.is c.next.ensures.steps in
    fewer_among c.args.id c.args.saver c.args.self.now e c.next.new.self
    (elim c.else-other-id.branch [ else-other-id-via-then-other-id+else-eq w ↦ λ reads apart. true≢false (sym (rw (w.role.ensures ∙ reads) at w.eq.ensures ∙ eq-eqb c.args.saver c.args.saver refl) ∙ w.if-eq.false) | else-other-id-via-else-other-id w ↦ λ reads apart. apart w.if-other-id.false ])
    (subst (OthersAmong c.args.id c.args.saver c.args.self.now) more c.loop-other.invariant)

pub returns : goal.returns
returns c = λ yes. none_among c.args.id c.args.saver c.args.self.now (subst (OthersAmong c.args.id c.args.saver c.args.self.now) c.in-None.ensures.steps.0 c.loop-other.invariant)
