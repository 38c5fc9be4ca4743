-- What stands after some reads were put, and others not.
use Rattle.std.proofs.Common.{◌≡◌, ◌⊎◌, ℕ, ◌<◌, Bool, true, false, cond, List, length, sym, ap, subst, ◌∙◌, refl, get_or, Some, Option, Result, Ok, Err, inl, inr}
use Rattle.std.specs.Prelude.{OnOk, OnErr}
use Rattle.std.specs.FinMap as map
use Rattle.std.specs.FinMap.{get-insert}
use Rattle.std.proofs.lemmas.List.Folds.{list_any_at}
use Rattle.ft_fields.specs.declared.key.Part.{Part}
use Rattle.ft_fields.specs.Orders.{key_cmp_total}
use Rattle.ft_fields.specs.Ties.{key_same}
use Rattle.ft_fields.specs.Parts.{same_key}
use Rattle.ft_maps.specs.Entries.{same_from_tie}
use Rattle.ft_pairs.specs.declared.at.At.{At}
use Rattle.ft_pairs.specs.declared.at.Op.{Op}
use Rattle.ft_pairs.specs.declared.at.Op.TheVariants.{Read}
use Rattle.ft_pairs.specs.Order.{at_cmp_total}
use Rattle.ft_pairs.specs.Source.{Ops}
use Rattle.ft_pairs.specs.ByKey.{KeyOps, OpsByKey, ops_of, PartlyChangesKey}
use Rattle.ft_pairs.specs.Edits.{same_at}
use Rattle.ft_pairs.specs.Runs.{with_reads, SomeReads}
use Rattle.ft_pairs.proofs.Found.{found_in}

-- ---- whatever is answered

-- what holds, holds if all went well
pub on_ok : {T E P : Type 0} (r : Result T E) → P → OnOk r P
on_ok (Ok x) p = p
on_ok (Err e) p = tt

-- and at a refusal
pub on_err : {T E P : Type 0} (r : Result T E) → P → OnErr r P
on_err (Ok x) p = tt
on_err (Err e) p = p

-- ---- reads that are put in turn

-- one more read of some is put
pub one_more : (old ops : KeyOps) (reads : List At) (i : ℕ) (d : At) → i < length reads → SomeReads reads (map.get old) (map.get ops)
    → SomeReads reads (map.get old) (map.get (map.insert ops (get_or reads i d) Read))
one_more old ops reads i d lt put q = by (same_at q (get_or reads i d)) refl
  where
    by : (b : Bool) → same_at q (get_or reads i d) ≡ b
        → (map.get (map.insert ops (get_or reads i d) Read) q ≡ map.get old q) ⊎ (map.get (map.insert ops (get_or reads i d) Read) q ≡ with_reads reads (map.get old) q)
    by true tie = inr (
        get-insert at_cmp_total ops (get_or reads i d) Read q ∙ ap (λ b. cond b (Some Read) (map.get ops q)) tie
        ∙ sym (ap (λ b. cond b (Some Read) (map.get old q)) (list_any_at (same_at q) reads i d lt tie)))
    by false apart = subst (λ o. (o ≡ map.get old q) ⊎ (o ≡ with_reads reads (map.get old) q))
        (sym (get-insert at_cmp_total ops (get_or reads i d) Read q ∙ ap (λ b. cond b (Some Read) (map.get ops q)) apart)) (put q)

-- ---- the key

-- what a place of a key has is what it had, or what an edit of one key makes of it
abbrev Either : OpsByKey → List Part → (Ops → Ops) → At → Option Op → List Part → Type 0
Either m key edit at o k = (o ≡ ops_of m k at) ⊎ ((k ≡ key) × (o ≡ edit (ops_of m k) at))

-- if each place of what one key has is as it was or as an edit makes it, so is each place of the key, and those of other keys stay
pub partly_changed : (m : OpsByKey) (key : List Part) (ops : KeyOps) (edit : Ops → Ops)
    → ((q : At) → (map.get ops q ≡ ops_of m key q) ⊎ (map.get ops q ≡ edit (ops_of m key) q)) → PartlyChangesKey key edit m (map.insert m key ops)
partly_changed m key ops edit is k at = by (same_key k key) refl
  where
    one : (x : List Part) → key ≡ x → Either m key edit at (map.get ops at) x
    one x same = subst (Either m key edit at (map.get ops at)) same (elim (is at) [ inl stays ↦ inl stays | inr put ↦ inr (refl, put) ])

    by : (b : Bool) → same_key k key ≡ b → Either m key edit at (found_in (map.get (map.insert m key ops) k) at) k
    by true tie =
        subst (λ o. Either m key edit at (found_in o at) k) (sym (get-insert key_cmp_total m key ops k ∙ ap (λ b. cond b (Some ops) (map.get m k)) tie))
        (one k (sym (same_from_tie key_same k key tie)))
    by false apart = inl (ap (λ o. found_in o at) (get-insert key_cmp_total m key ops k ∙ ap (λ b. cond b (Some ops) (map.get m k)) apart))

-- what has not changed has partly changed
pub unchanged : (key : List Part) (edit : Ops → Ops) (old new : OpsByKey) → new ≡ old → PartlyChangesKey key edit old new
unchanged key edit old new is k at = inl (ap (λ m. ops_of m k at) is)
