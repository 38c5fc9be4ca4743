-- A key that is counted once is in the table for good, and one that found no room is never in it.
use Rattle.std.proofs.Common.{◌≡◌, ℕ, ◌+◌, true, false, cond, List, [], ◌∷◌, refl, sym, ap, subst, ◌∙◌, Some, None, nat_lt}
use Rattle.std.specs.Prelude.{fold, ◌||◌, is_some}
use Rattle.std.proofs.lemmas.Bool.{or_parts, or_right}
use Rattle.std.specs.Ordering.{nat_cmp, eq_by_cmp}
use Rattle.std.specs.Cmp.{eq_by_cmp_equiv}
use Rattle.std.specs.FinMap as map
use Rattle.std.specs.FinMap.{get-insert, len-insert, nat_cmp-IsAntisymmetric}
use Rattle.ft_fields.specs.declared.key.Part.{Part}
use Rattle.ft_fields.specs.Parts.{key_cmp}
use Rattle.ft_fields.specs.Orders.{key_cmp_total}
use Rattle.ft_fields.specs.Ties.{key_same}
use Rattle.ft_maps.specs.Entries.{same_from_tie}
use Rattle.ft_table.specs.Counted.{Counted}
use Rattle.ft_replay.specs.Tally.{RowsByKey, Tally, RowGrowth, has_place, count}
use Rattle.ft_replay.proofs.Acts.{Act, tell_act, told_plain}

contains-insert : (table : RowsByKey) (k : List Part) (x : Counted) (q : List Part) → map.contains_key (map.insert table k x) q ≡ (eq_by_cmp key_cmp q k || map.contains_key table q)
contains-insert table k x q =
    ap is_some (get-insert key_cmp_total table k x q)
    ∙ elim (eq_by_cmp key_cmp q k) as (λ b. is_some (cond b (Some x) (map.get table q)) ≡ (b || map.contains_key table q)) [ true ↦ refl | false ↦ refl ]

module _ (size : ℕ → ℕ) (growth : Act → RowGrowth) where
  -- the table after an act that reads nothing
  abbrev after : Act → Tally → RowsByKey
  after a t = (tell_act size growth a None t).table

  in-is : (a : Act) (t : Tally) → has_place (size a.at.trigger) t.table a.key ≡ true → after a t ≡ map.insert t.table a.key (growth a None (map.get t.table a.key))
  unfolding count
  in-is a t room = rw (room, after) refl

  out-is : (a : Act) (t : Tally) → has_place (size a.at.trigger) t.table a.key ≡ false → after a t ≡ t.table
  unfolding count
  out-is a t full = rw (full, after) refl

  keeps : (a : Act) (t : Tally) (k : List Part) → map.contains_key t.table k ≡ true → map.contains_key (after a t) k ≡ true
  keeps a t k h = elim (has_place (size a.at.trigger) t.table a.key) as (λ b. has_place (size a.at.trigger) t.table a.key ≡ b → map.contains_key (after a t) k ≡ true) [
    | true ↦ λ room. ap (λ (m : RowsByKey). map.contains_key m k) (in-is a t room) ∙ contains-insert t.table a.key _ k ∙ or_right _ _ h
    | false ↦ λ full. ap (λ (m : RowsByKey). map.contains_key m k) (out-is a t full) ∙ h
  ] refl

  stays_in : (id : ℕ) (k : List Part) (t : Tally) (xs : List Act) → map.contains_key t.table k ≡ true → map.contains_key (fold (told_plain size growth id) t xs).table k ≡ true
  stays_in id k t [] h = h
  stays_in id k t (a ∷ xs) h = stays_in id k (told_plain size growth id t a) xs
      (elim (eq_by_cmp nat_cmp id a.at.trigger) as (λ b. map.contains_key (cond b (tell_act size growth a None t) t).table k ≡ true) [ true ↦ keeps a t k h | false ↦ h ])

  -- a full table without the key
  abbrev IsShut : ℕ → RowsByKey → List Part → Type 0
  IsShut id table k = (map.contains_key table k ≡ false) × (nat_lt (map.len table) (size id) ≡ false)

  -- a key that is in the table is another than one that isn't
  other_key : (table : RowsByKey) (k q : List Part) → map.contains_key table k ≡ false → map.contains_key table q ≡ true → eq_by_cmp key_cmp k q ≡ false
  other_key table k q out is = elim (eq_by_cmp key_cmp k q) as (λ b. eq_by_cmp key_cmp k q ≡ b → b ≡ false) [
    | true ↦ λ same. sym is ∙ ap (map.contains_key table) (sym (same_from_tie key_same k q same)) ∙ out
    | false ↦ λ _. refl
  ] refl

  shut_step : (a : Act) (t : Tally) (k : List Part) → IsShut a.at.trigger t.table k → IsShut a.at.trigger (after a t) k
  shut_step a t k h = elim (map.contains_key t.table a.key) as (λ b. map.contains_key t.table a.key ≡ b → IsShut a.at.trigger (after a t) k) [
    | true ↦ λ has. subst (λ (m : RowsByKey). IsShut a.at.trigger m k) (sym (in-is a t (ap (λ b. b || nat_lt (map.len t.table) (size a.at.trigger)) has))) (
      contains-insert t.table a.key _ k ∙ ap (λ b. b || map.contains_key t.table k) (other_key t.table k a.key h.0 has) ∙ h.0,
      ap (λ n. nat_lt n (size a.at.trigger)) (len-insert key_cmp_total t.table a.key _ ∙ ap (λ b. cond b (map.len t.table) (map.len t.table + 1)) has) ∙ h.1,
    )
    | false ↦ λ new. subst (λ (m : RowsByKey). IsShut a.at.trigger m k) (sym (out-is a t (ap (λ b. b || nat_lt (map.len t.table) (size a.at.trigger)) new ∙ h.1))) h
  ] refl

  stays_out : (id : ℕ) (k : List Part) (t : Tally) (xs : List Act) → IsShut id t.table k → IsShut id (fold (told_plain size growth id) t xs).table k
  stays_out id k t [] h = h
  stays_out id k t (a ∷ xs) h = stays_out id k (told_plain size growth id t a) xs
      (elim (eq_by_cmp nat_cmp id a.at.trigger) as (λ b. eq_by_cmp nat_cmp id a.at.trigger ≡ b → IsShut id (cond b (tell_act size growth a None t) t).table k) [
        | true ↦ λ tie. let same : id ≡ a.at.trigger = same_from_tie nat_cmp-IsAntisymmetric id a.at.trigger tie in
            subst (λ i. IsShut i (after a t) k) (sym same) (shut_step a t k (subst (λ i. IsShut i t.table k) same h))
        | false ↦ λ _. h
      ] refl)

  -- a hit finds room exactly if its key is in the table at the end
  pub has_place-is : (a : Act) (t : Tally) (xs : List Act)
      → has_place (size a.at.trigger) t.table a.key ≡ map.contains_key (fold (told_plain size growth a.at.trigger) (tell_act size growth a None t) xs).table a.key
  has_place-is a t xs = elim (has_place (size a.at.trigger) t.table a.key) as (λ b. has_place (size a.at.trigger) t.table a.key ≡ b
      → b ≡ map.contains_key (fold (told_plain size growth a.at.trigger) (tell_act size growth a None t) xs).table a.key) [
        | true ↦ λ room. sym (stays_in a.at.trigger a.key _ xs (
            ap (λ (m : RowsByKey). map.contains_key m a.key) (in-is a t room) ∙ contains-insert t.table a.key _ a.key
            ∙ ap (λ b. b || map.contains_key t.table a.key) ((eq_by_cmp_equiv key_cmp_total).refl a.key)))
        | false ↦ λ full. sym (stays_out a.at.trigger a.key _ xs (subst (λ (m : RowsByKey). IsShut a.at.trigger m a.key) (sym (out-is a t full)) ((or_parts _ _ full).0, (or_parts _ _ full).1))).0
      ] refl
