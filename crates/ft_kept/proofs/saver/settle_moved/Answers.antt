-- First the readings of the other key that moved are settled, then those of the own key or the next one.
use Rattle.std.proofs.Common.{◌≡◌, List, Option, Some, None, true, false, refl, sym, subst, ◌∙◌, inl, inr, ◌⊎◌, true≢false}
use Rattle.std.proofs.lemmas.Result.{on_ok_weaker}
use Rattle.ft_fields.specs.declared.key.Part.{Part}
use Rattle.ft_pairs.specs.Next.{IsNext}
use Rattle.ft_pairs.specs.Source.{Ops}
use Rattle.ft_pairs.specs.declared.at.At.{At}
use Rattle.ft_pairs.specs.declared.at.Op.{Op}
use Rattle.ft_pairs.specs.declared.at.Op.TheVariants.{Read}
use Rattle.ft_shelves.specs.Shelves.{Shelves, kept_on}
use Rattle.ft_shelves.specs.declared.saver.Moved.{Moved}
use Rattle.ft_shelves.proofs.Decided.{none_not_some}
use Rattle.ft_changes.specs.declared.changed.ReadingChange.{ReadingChange}
use Rattle.ft_kept.specs.Acts.{Acts}
use Rattle.ft_kept.specs.Changes.{ChangeUnder, HasTold, Tells}
use Rattle.ft_kept.specs.declared.changes.Changes.{Changes}
use Rattle.ft_kept.specs.declared.act.Act.{Act}
use Rattle.ft_kept.specs.inner.Readings.{AreSettled, IsReadAt, NextIsSettled}
use Rattle.ft_kept.specs.inner.Saving.{MovedAreSettled, ReadsMoved, variable_at}
use Rattle.ft_kept.specs.inner.Telling.{moved_keys, other_key, variable_key}
use Rattle.ft_kept.proofs.Sources.{none_settled, settled_then, settled_too}
use Rattle.ft_kept.proofs.Told.{then_under, told_nothing, told_trans}
use Rattle.ft_kept.proofs.saver.settle_moved.Given.{Over}
use Rattle.ft_kept.proofs.saver.settle_moved.Goals as goal
use Rattle.ft_kept.proofs.saver.settle_moved.Goals.{Joined-moved, in-Some+in_ok-settle_key, in_default}

module _ (act : Act) (acts : Acts) (moves : Moved) (old : Shelves) where
  -- the readings of the other key that moved, if one did
  abbrev OtherReads : At → Type 0
  OtherReads q = (key : List Part) × ((moves.other ≡ Some key) × ((kept_on old).ops (variable_at act key) q ≡ Some Read))

  abbrev OtherSettled : Shelves → Type 0
  OtherSettled mid = AreSettled act.scene acts OtherReads old mid

  -- all that is settled, with this next operation
  abbrev AllReads : Option (At × Op) → At → Type 0
  AllReads next q = IsReadAt next q ⊎ ReadsMoved act moves old q

  module _ (mid new : Shelves) (first : OtherSettled mid) where
    same_ops : (key : List Part) → ◌≡◌ {A = Ops} ((kept_on mid).ops (variable_at act key)) ((kept_on old).ops (variable_at act key))
    same_ops key i q = first.readers.ops (variable_at act key) q i

    -- then those of the own key
    own_settled : moves.own ≡ true → AreSettled act.scene acts (λ q. (kept_on mid).ops (variable_at act act.key) q ≡ Some Read) mid new → MovedAreSettled act acts moves old new
    own_settled own then = record {
      next = None;
      is_next = λ stays. absurd (true≢false (sym own ∙ stays));
      settled = settled_then act.scene acts OtherReads (λ q. (kept_on mid).ops (variable_at act act.key) q ≡ Some Read) (AllReads None) old mid new (λ q. parts) first then;
    }
      where
        parts : {q : At} → AllReads None q → OtherReads q ⊎ ((kept_on mid).ops (variable_at act act.key) q ≡ Some Read)
        parts {q} (inl next) = absurd (none_not_some None (q, Read) refl next)
        parts {q} (inr (key, (inl is, reads))) = inr ((λ i. same_ops act.key i q) ∙ subst (λ k. (kept_on old).ops (variable_at act k) q ≡ Some Read) is.1 reads)
        parts {q} (inr (key, (inr other, reads))) = inl (key, (other, reads))

    -- or the next one
    next_settled : moves.own ≡ false → NextIsSettled act.scene acts (variable_at act act.key) act.at mid new → MovedAreSettled act acts moves old new
    next_settled stays then = record {
      next = then.next;
      is_next = λ _. subst (λ (ops : Ops). IsNext ops (Some act.at) then.next) (same_ops act.key) then.is_next;
      settled = settled_then act.scene acts OtherReads (IsReadAt then.next) (AllReads then.next) old mid new (λ q. parts) first then.settled;
    }
      where
        parts : {q : At} → AllReads then.next q → OtherReads q ⊎ IsReadAt then.next q
        parts (inl next) = inr next
        parts (inr (key, (inl is, reads))) = absurd (true≢false (sym is.0 ∙ stays))
        parts (inr (key, (inr other, reads))) = inl (key, (other, reads))

same_key : (a b : List Part) → Some a ≡ Some b → a ≡ b
same_key a b e = cc

-- the other key that moved is settled and told, if one did
abbrev IsOtherDone : (g : Over) (c : goal.Joined-moved g) → Changes × Shelves → Type 0
IsOtherDone g c now = OtherSettled c.args.act.now g.acts c.args.moved c.args.tables.now now.1 × HasTold (other_key c.args.act.now.at.trigger c.args.moved.other) c.args.changes.now now.0 c.args.tables.now now.1

other_done : (g : Over) (c : goal.Joined-moved g) → IsOtherDone g c (c.match-moved.changes, c.match-moved.tables)
other_done g c =
    let act = c.args.act.now in
    let old = c.args.tables.now in
    let told = λ (other : Option (List Part)) (now : Changes × Shelves). HasTold (other_key act.at.trigger other) c.args.changes.now now.0 old now.1 in
    elim c.match-moved.branch [
      | in-Some+in_ok-settle_key w ↦ subst (IsOtherDone g c) (λ i. (sym w.changes-is i, sym w.tables-is i)) (
        settled_too act.scene g.acts (λ q. (kept_on old).ops (variable_at act w.in-Some.key) q ≡ Some Read) (OtherReads act g.acts c.args.moved old) old w.settle_key.new.tables
            (λ q h. subst (λ k. (kept_on old).ops (variable_at act k) q ≡ Some Read) (same_key h.0 w.in-Some.key (sym h.1.0 ∙ w.in-Some.is)) h.1.1) w.in_ok-settle_key.ensures.settled,
        subst (λ o. told o (record w.record_key.new.self { readings = w.settle_key.new.readings }, w.settle_key.new.tables)) (sym w.in-Some.is)
            (then_under w.record_key.ensures.keys w.record_key.ensures.readings w.in_ok-settle_key.ensures.told),
      )
      | in_default w ↦ subst (IsOtherDone g c) (λ i. (sym w.changes-is i, sym w.tables-is i)) (
        none_settled act.scene g.acts old c.requires (OtherReads act g.acts c.args.moved old) (λ q h. none_not_some c.args.moved.other h.0 w.in_default.is h.1.0),
        subst (λ o. told o (c.args.changes.now, old)) (sym w.in_default.is) (told_nothing c.args.changes.now old),
      )
    ]

pub settle_key-requires-then-moved : goal.settle_key-requires-then-moved
settle_key-requires-then-moved g c = (other_done g (goal.at.settle_key-requires-then-moved g c).Joined-moved).0.can

pub settle_next-requires : goal.settle_next-requires
settle_next-requires g c = (other_done g (goal.at.settle_next-requires g c).Joined-moved).0.can

pub returns-then-moved-clause-settled : goal.returns-then-moved-clause-settled
returns-then-moved-clause-settled g c = on_ok_weaker c.settle_key-then-moved.result
    (own_settled c.args.act.now g.acts c.args.moved c.args.tables.now c.match-moved.tables c.settle_key-then-moved.new.tables (other_done g (goal.at.returns-then-moved-clause-settled g c).Joined-moved).0 c.if-moved.true)
    c.settle_key-then-moved.ensures.settled

pub returns-else-moved-clause-settled : goal.returns-else-moved-clause-settled
returns-else-moved-clause-settled g c = on_ok_weaker c.settle_next.result
    (next_settled c.args.act.now g.acts c.args.moved c.args.tables.now c.match-moved.tables c.settle_next.new.tables (other_done g (goal.at.returns-else-moved-clause-settled g c).Joined-moved).0 c.if-moved.false)
    c.settle_next.ensures.settled

-- and then of the own key
both_told : (g : Over) (c : goal.Joined-moved g) {begun : Option (List ReadingChange)} {after : Changes} {new : Shelves}
    → Tells (variable_key (variable_at c.args.act.now c.args.act.now.key)) c.match-moved.changes.keys after.keys → begun ≡ c.match-moved.changes.readings
    → ChangeUnder (variable_key (variable_at c.args.act.now c.args.act.now.key)) begun after.readings c.match-moved.tables new
    → HasTold (moved_keys c.args.act.now.at.trigger c.args.act.now.key c.args.moved) c.args.changes.now after c.args.tables.now new
both_told g c key same under =
    told_trans (other_key c.args.act.now.at.trigger c.args.moved.other) (variable_key (variable_at c.args.act.now c.args.act.now.key))
    (other_done g c).0.readers.forms (other_done g c).1 (then_under key same under)

pub returns-then-moved-clause-told : goal.returns-then-moved-clause-told
returns-then-moved-clause-told g c = on_ok_weaker c.settle_key-then-moved.result
    (both_told g (goal.at.returns-then-moved-clause-told g c).Joined-moved c.record_key-2.ensures.keys c.record_key-2.ensures.readings) c.settle_key-then-moved.ensures.told

pub returns-else-moved-clause-told : goal.returns-else-moved-clause-told
returns-else-moved-clause-told g c = on_ok_weaker c.settle_next.result
    (both_told g (goal.at.returns-else-moved-clause-told g c).Joined-moved c.record_key-2.ensures.keys c.record_key-2.ensures.readings) c.settle_next.ensures.told
