-- A number that is noted tells the key of its event.
use Rattle.std.proofs.Common.{◌≡◌, ℕ, List, Option, Some, None, sym, ap, subst, ◌∙◌, inl, inr}
use Rattle.std.specs.Prelude.{ℤ, IsSomeAnd, slice_get}
use Rattle.std.proofs.lemmas.Option.{same_Some}
use Rattle.std.proofs.lemmas.Result.{on_ok_weaker}
use Rattle.ft_fields.specs.declared.pos.Pos.{Pos}
use Rattle.ft_fields.specs.Traced.{Traced}
use Rattle.ft_fields.specs.declared.key.Part.{Part}
use Rattle.ft_hist.specs.Hit.{hit}
use Rattle.ft_store.specs.Stored.{held}
use Rattle.ft_groups.specs.Grouped.{Grouped}
use Rattle.ft_groups.specs.declared.keys.KeyFinder.{KeyFinder}
use Rattle.ft_groups.specs.declared.recent.Slot.{Slot}
use Rattle.ft_groups.specs.inner.Adding.{Adds}
use Rattle.ft_groups.specs.inner.Finding.{FindsKeys, counted_by}
use Rattle.ft_groups.specs.inner.Recent.{noted, IsIn, IsKeyOf, AreMet}
use Rattle.ft_groups.specs.inner.Runs.{groups_of}
use Rattle.ft_groups.proofs.Indexing.{adds_none}
use Rattle.ft_groups.proofs.groups.add_event.Goals as goal

-- the number of an event tells its key
known : (finder : KeyFinder) → FindsKeys finder → (keys : List (List Part)) (event : Traced) (key : List Part) (at : ℕ) → hit finder.trigger.now event ≡ Some key → slice_get keys at ≡ Some key
    → (o : Option ℤ) → counted_by finder event ≡ o → (number : ℤ) (index : ℕ) → IsSomeAnd o (λ n. noted number index ≡ noted n at) → IsKeyOf finder keys number index
known finder right keys event key at is stands (Some n) counted number index same =
    let number_is : number ≡ n = ap (λ (slot : Slot). slot.number) same in
    let index_is : index ≡ at = same_Some index at (ap (λ (slot : Slot). slot.index) same) in
    record {
      key = key;
      stands = ap (slice_get keys) index_is ∙ stands;
      hits = λ other by. right.number other event number by (counted ∙ ap (λ z. Some z) (sym number_is)) ∙ is;
    }
known finder right keys event key at is stands None counted number index same = absurd same

-- an event whose number is known comes to its key
met_adds : (finder : KeyFinder) (keys : List (List Part)) (slots : List Slot) → AreMet finder keys slots → (event : Pos × Traced) (o : Option ℤ) → counted_by finder event.1 ≡ o
    → (index : ℕ) → IsSomeAnd o (λ n. IsIn slots (noted n index)) → (old new : Grouped) → ((key : List Part) → slice_get keys index ≡ Some key → Adds (Some key) event old new)
    → Adds (hit finder.trigger.now event.1) event old new
met_adds finder keys slots met event (Some n) counted index inside old new adds =
    let its = met n index inside in
    subst (λ key. Adds key event old new) (sym (its.hits event.1 counted)) (adds its.key its.stands)
met_adds finder keys slots met event None counted index inside old new adds = absurd inside

pub returns-clause-met : goal.returns-clause-met
returns-clause-met c number index inside =
    let keys = c.add.new.self.keys.items in
    let added = c.in_ok-index.ensures in
    elim (c.note.ensures (noted number index) inside) [
      | inl stood ↦
          let was = c.requires.met number index stood in
          record { key = was.key; stands = added.stay index was.key was.stands; hits = was.hits }
      | inr same ↦
          known c.args.finder.now c.requires.finds keys (held c.args.event.now.1) c.in-Some-key_of.key c.in_ok-index.index (sym c.key_of.ensures.key ∙ c.in-Some-key_of.is) added.stands
          c.number-number.result (sym c.number-number.ensures) number index same
    ]

pub returns-in-Some-clause-adds : goal.returns-in-Some-clause-adds
returns-in-Some-clause-adds c =
    on_ok_weaker c.push.result (met_adds c.args.finder.now _ _ c.requires.met (c.args.event.now.0, held c.args.event.now.1) c.number-number.result (sym c.number-number.ensures)
    c.in-Some.index c.in-Some.ensures (groups_of c.args.runs.now) (groups_of c.push.new.self)) c.push.ensures.adds

pub returns-in_default-key_of-clause-adds : goal.returns-in_default-key_of-clause-adds
returns-in_default-key_of-clause-adds c =
    let groups = groups_of c.args.runs.now in
    subst (λ key. Adds key (c.args.event.now.0, held c.args.event.now.1) groups groups) (sym c.in_default-key_of.is ∙ c.key_of.ensures.key) (adds_none _ groups)
