-- Slots by CPU in a list: the map that they give when they are put in, and the slots of a load's events.
use Rattle.std.proofs.Common.{◌≡◌, ℕ, ◌+◌, ◌<◌, ◌≤◌, zero, suc, Bool, true, false, ◌==◌, if◌then◌else◌, List, [], ◌∷◌, ◌++◌, length, get_or, slice_set, Result, Ok, Err, OnErr, refl, sym, ap, ◌∙◌, subst, Option, Some, None, unwrap_or, ◌⊎◌, inl, inr, ⊎_elim, arith}
use Rattle.std.specs.Cmp.{nat_cmp_total}
use Rattle.std.specs.FinMap as map
use Rattle.std.specs.FinMap.{same_map, nat_cmp-IsAntisymmetric}
use Rattle.std.proofs.lemmas.Bool.{cases_eq, cases_lt, ne_eqb}
use Rattle.std.proofs.lemmas.List.{get_or_default, get_or-set_same, get_or-set_other, length-set}
use Rattle.ft_fields.specs.Traced.{Traced}
use Rattle.ft_lanes.specs.Held.{number_limit}
use Rattle.ft_lanes.specs.inner.Slots.{SlotsOf, AllSlots, cpu_limit, no_slots, slots_with, all_with, all_put, all_merged, slots_at, slots_in, AgreeUnmoved, HasRoom, IsFreeOf}
use Rattle.ft_lanes.proofs.Counts.{slots-more}
use Rattle.ft_lanes.proofs.Loads.{Pushed, has_cpu-at, pushed-start, pushed-room, pushed-step}
use Rattle.ft_maps.specs.Entries.{get-insert_same, get-insert_other}

-- ---- slots put in, CPU by CPU

-- the slots of a CPU, or what it had if there are none
abbrev pub pick : SlotsOf → Option SlotsOf → Option SlotsOf
pick s o = if s.next == 1 then o else Some s

put-same : (all : AllSlots) (cpu : ℕ) (s : SlotsOf) → map.get (all_put all cpu s) cpu ≡ pick s (map.get all cpu)
put-same all cpu s = at (s.next == 1)
  where
    at : (b : Bool) → map.get (if b then all else map.insert all cpu s) cpu ≡ (if b then map.get all cpu else Some s)
    at true = refl
    at false = get-insert_same nat_cmp_total all cpu s

put-other : (all : AllSlots) (cpu : ℕ) (s : SlotsOf) (q : ℕ) → (q ≡ cpu → ⊥) → map.get (all_put all cpu s) q ≡ map.get all q
put-other all cpu s q ne = at (s.next == 1)
  where
    at : (b : Bool) → map.get (if b then all else map.insert all cpu s) q ≡ map.get all q
    at true = refl
    at false = get-insert_other nat_cmp_total nat_cmp-IsAntisymmetric all cpu s q ne

merged-below : (all : AllSlots) (n : ℕ) (ss : List SlotsOf) (q : ℕ) → q < n → map.get (all_merged all n ss) q ≡ map.get all q
merged-below all n [] q lt = refl
merged-below all n (s ∷ ss) q lt = merged-below (all_put all n s) (n + 1) ss q (omega arith) ∙ put-other all n s q (λ e. omega arith)

merged-at : (all : AllSlots) (n : ℕ) (ss : List SlotsOf) (k : ℕ) → map.get (all_merged all n ss) (n + k) ≡ pick (slots_at ss k) (map.get all (n + k))
merged-at all n [] k = refl
merged-at all n (s ∷ ss) zero =
    let here : n + 0 ≡ n = omega arith in
    subst (λ q. map.get (all_merged (all_put all n s) (n + 1) ss) q ≡ pick s (map.get all q)) (sym here)
    (merged-below (all_put all n s) (n + 1) ss n (omega arith) ∙ put-same all n s)
merged-at all n (s ∷ ss) (suc k) =
    let next : n + suc k ≡ n + 1 + k = omega arith in
    subst (λ q. map.get (all_merged (all_put all n s) (n + 1) ss) q ≡ pick (slots_at ss k) (map.get all q)) (sym next)
    (merged-at (all_put all n s) (n + 1) ss k ∙ ap (pick (slots_at ss k)) (put-other all n s (n + 1 + k) (λ e. omega arith)))

merged-get : (all : AllSlots) (ss : List SlotsOf) (q : ℕ) → map.get (all_merged all 0 ss) q ≡ pick (slots_at ss q) (map.get all q)
merged-get all ss q =
    let same : 0 + q ≡ q = omega arith in
    subst (λ k. map.get (all_merged all 0 ss) k ≡ pick (slots_at ss q) (map.get all k)) same (merged-at all 0 ss q)

-- what holds once the slots below a CPU are put in
pub record Merging (old : AllSlots) (by_cpu : List SlotsOf) (new : AllSlots) (cpu : ℕ) (left : List SlotsOf) : Type 0 where
  pub whole : all_merged new cpu left ≡ all_merged old 0 by_cpu
  pub few : cpu + length left ≤ cpu_limit
  pub far : (q : ℕ) → cpu ≤ q → map.get new q ≡ map.get old q

pub merging-start : (old : AllSlots) (by_cpu left : List SlotsOf) → left ≡ by_cpu → length by_cpu ≤ cpu_limit → Merging old by_cpu old 0 left
merging-start old by_cpu left e few =
    let within : length left ≤ cpu_limit = subst (λ l. length l ≤ cpu_limit) (sym e) few in
    record {
      whole = ap (all_merged old 0) e;
      few = omega arith;
      far = λ q le. refl;
    }

pub merging-step : (old : AllSlots) (by_cpu : List SlotsOf) (m n : AllSlots) (cpu : ℕ) (s : SlotsOf) (left rest : List SlotsOf) → Merging old by_cpu m cpu left → left ≡ s ∷ rest → n ≡ all_put m cpu s → Merging old by_cpu n (cpu + 1) rest
merging-step old by_cpu m n cpu s left rest is front e =
    let few : cpu + length (s ∷ rest) ≤ cpu_limit = subst (λ l. cpu + length l ≤ cpu_limit) front is.few in
    record {
      whole = ap (λ x. all_merged x (cpu + 1) rest) e ∙ ap (all_merged m cpu) (sym front) ∙ is.whole;
      few = omega arith;
      far = λ q le. ap (λ x. map.get x q) e ∙ put-other m cpu s q (λ k. omega arith) ∙ is.far q (omega arith);
    }

pub merging-end : (old : AllSlots) (by_cpu : List SlotsOf) (m : AllSlots) (cpu : ℕ) (left : List SlotsOf) → Merging old by_cpu m cpu left → left ≡ [] → m ≡ all_merged old 0 by_cpu
merging-end old by_cpu m cpu left is none = ap (all_merged m cpu) (sym none) ∙ is.whole

-- what is put in so far is the slots of a CPU, or what it had
pub merging-part : (old : AllSlots) (by_cpu : List SlotsOf) (m n : AllSlots) (cpu : ℕ) (left : List SlotsOf) → Merging old by_cpu m cpu left → n ≡ m → AgreeUnmoved by_cpu old n
merging-part old by_cpu m n cpu left is e q same =
    ap (λ x. map.get x q) e
    ∙ ⊎_elim
    (λ lt. sym (merged-below m cpu left q lt) ∙ ap (λ x. map.get x q) is.whole ∙ same)
    (λ le. is.far q le)
    (cases_lt q cpu)

-- there is a number for each CPU
pub merging-few : (old : AllSlots) (by_cpu : List SlotsOf) (m : AllSlots) (cpu : ℕ) (left : List SlotsOf) (s : SlotsOf) (rest : List SlotsOf) → Merging old by_cpu m cpu left → left ≡ s ∷ rest → cpu < cpu_limit
merging-few old by_cpu m cpu left s rest is front =
    let few : cpu + length (s ∷ rest) ≤ cpu_limit = subst (λ l. cpu + length l ≤ cpu_limit) front is.few in
    omega arith

-- a clause on refusal that holds
pub on_err : {T E P : Type 0} (r : Result T E) → P → OnErr r P
on_err (Ok x) p = tt
on_err (Err y) p = p

pub none_left : {X : Type 0} (xs : List X) → length xs ≡ 0 → xs ≡ []
none_left [] e = refl
none_left (x ∷ xs) e = absurd (omega (arith, e))

-- ---- the list by CPU

-- CPUs without slots change nothing
pub at-push : (ss : List SlotsOf) (s : SlotsOf) → s ≡ no_slots → (q : ℕ) → slots_at (ss ++ s ∷ []) q ≡ slots_at ss q
at-push [] s e zero = e
at-push [] s e (suc q) = refl
at-push (x ∷ ss) s e zero = refl
at-push (x ∷ ss) s e (suc q) = at-push ss s e q

-- what is read at a CPU of the list
pub at-read : (ss : List SlotsOf) (cpu : ℕ) → cpu < length ss → (was : SlotsOf) → was ≡ get_or ss cpu was → was ≡ slots_at ss cpu
at-read ss cpu lt was is = is ∙ get_or_default ss cpu was no_slots lt

-- and what is there once it was written
pub at-set_same : (ss : List SlotsOf) (cpu : ℕ) → cpu < length ss → (s : SlotsOf) → slots_at (slice_set ss cpu s) cpu ≡ s
at-set_same ss cpu lt s = get_or-set_same ss cpu s no_slots lt

pub at-set_other : (ss : List SlotsOf) (cpu : ℕ) (s : SlotsOf) (q : ℕ) → (q ≡ cpu → ⊥) → slots_at (slice_set ss cpu s) q ≡ slots_at ss q
at-set_other ss cpu s q ne = get_or-set_other ss cpu q s no_slots ne

pub length-at : (ss : List SlotsOf) (cpu : ℕ) (s : SlotsOf) → length (slice_set ss cpu s) ≡ length ss
length-at ss cpu s = length-set ss cpu s

-- ---- slots of a load's events

-- no slots, or at least one was added
abbrev pub IsGrown : SlotsOf → Type 0
IsGrown s = (s ≡ no_slots) ⊎ (1 < s.next)

-- what the map has for a CPU that had none
as_put : (s : SlotsOf) (o : Option SlotsOf) → IsGrown s → o ≡ None → s ≡ unwrap_or (pick s o) no_slots
as_put s o grown none =
    ⊎_elim
    (λ e. e ∙ (λ i. unwrap_or (pick (sym e i) (sym none i)) no_slots))
    (λ lt. ap (λ b. unwrap_or (if b then o else Some s) no_slots) (sym (ne_eqb s.next 1 (λ e. omega arith))))
    grown

above : (s : SlotsOf) → IsGrown s → 1 ≤ s.next
above s grown = ⊎_elim (λ e. subst (λ k. 1 ≤ k.next) (sym e) (omega arith)) (λ lt. omega arith) grown

pick-with : (s : SlotsOf) (o : Option SlotsOf) (place : ℕ) → 1 ≤ s.next → pick (slots_with s place) o ≡ Some (slots_with s place)
pick-with s o place le = ap (λ b. if b then o else Some (slots_with s place)) (ne_eqb (s.next + 1) 1 (λ e. omega arith))

-- what holds once i events have slots by CPU
pub record Filled (old : AllSlots) (first : ℕ) (es : List Traced) (by_cpu : List SlotsOf) (place i : ℕ) : Type 0 where
  pub pushed : Pushed old first es (all_merged old 0 by_cpu) place i
  pub grown : (q : ℕ) → IsGrown (slots_at by_cpu q)
  pub few : length by_cpu ≤ cpu_limit

pub filled-start : (old : AllSlots) (first : ℕ) (es : List Traced) (by_cpu : List SlotsOf) → by_cpu ≡ [] → HasRoom old es → Filled old first es by_cpu first 0
filled-start old first es by_cpu none room =
    subst (λ l. Filled old first es l first 0) (sym none)
    (record { pushed = pushed-start old first es room; grown = λ q. inl refl; few = omega arith })

module _ (old : AllSlots) (first : ℕ) (es : List Traced) (free : IsFreeOf old es) (by_cpu : List SlotsOf) (place i : ℕ) (is : Filled old first es by_cpu place i) (d : Traced) (lt : i < length es) where
  abbrev cpu_now : ℕ
  cpu_now = (get_or es i d).cpu

  abbrev m : AllSlots
  m = all_merged old 0 by_cpu

  -- the slots of the next event's CPU are those that the map would have
  slots-now : slots_at by_cpu cpu_now ≡ unwrap_or (map.get m cpu_now) no_slots
  slots-now =
      as_put (slots_at by_cpu cpu_now) (map.get old cpu_now) (is.grown cpu_now) (free cpu_now (has_cpu-at es i d lt))
      ∙ ap (λ o. unwrap_or o no_slots) (sym (merged-get old by_cpu cpu_now))

  -- the next event's lane has a number left
  pub filled-room : (slots_at by_cpu cpu_now).next ≤ number_limit
  filled-room = subst (λ s. s.next ≤ number_limit) (sym slots-now) (pushed-room old first es m place i is.pushed d lt)

  module _ (more : List SlotsOf) (here : slots_at more cpu_now ≡ slots_with (slots_at by_cpu cpu_now) place) (others : (q : ℕ) → (q ≡ cpu_now → ⊥) → slots_at more q ≡ slots_at by_cpu q) where
    merged-with : all_merged old 0 more ≡ all_with m cpu_now place
    merged-with = same_map nat_cmp_total nat_cmp-IsAntisymmetric _ _ (λ q.
        let same : map.get (all_merged old 0 more) cpu_now ≡ map.get (all_with m cpu_now place) cpu_now =
        merged-get old more cpu_now
        ∙ ap (λ s. pick s (map.get old cpu_now)) here
        ∙ pick-with (slots_at by_cpu cpu_now) (map.get old cpu_now) place (above (slots_at by_cpu cpu_now) (is.grown cpu_now))
        ∙ ap (λ s. Some (slots_with s place)) slots-now
        ∙ sym (get-insert_same nat_cmp_total m cpu_now _) in
        ⊎_elim
        (λ s. subst (λ k. map.get (all_merged old 0 more) k ≡ map.get (all_with m cpu_now place) k) (sym s) same)
        (λ ne. merged-get old more q ∙ ap (λ s. pick s (map.get old q)) (others q ne) ∙ sym (merged-get old by_cpu q) ∙ sym (get-insert_other nat_cmp_total nat_cmp-IsAntisymmetric m cpu_now _ q ne))
        (cases_eq q cpu_now))

    -- the next event has a slot
    pub filled-step : map.len (slots_at more cpu_now).places ≡ map.len (slots_at by_cpu cpu_now).places + 1 → length more ≤ cpu_limit → Filled old first es more (place + 1) (i + 1)
    filled-step grows few = record {
      pushed = pushed-step old first es m place i is.pushed d lt (all_merged old 0 more) merged-with
          (ap slots_in merged-with
          ∙ slots-more m cpu_now (slots_with (unwrap_or (map.get m cpu_now) no_slots) place)
          (ap (λ s. map.len (slots_with s place).places) (sym slots-now) ∙ ap (λ s. map.len s.places) (sym here) ∙ grows ∙ ap (λ s. map.len s.places + 1) slots-now));
      grown = λ q. ⊎_elim
          (λ s. inr (subst (λ k. 1 < (slots_at more k).next) (sym s) (subst (λ t. 1 < t.next) (sym here) (next_above (above (slots_at by_cpu cpu_now) (is.grown cpu_now))))))
          (λ ne. subst IsGrown (sym (others q ne)) (is.grown q))
          (cases_eq q cpu_now);
      few = few;
    }
      where
        next_above : {n : ℕ} → 1 ≤ n → 1 < n + 1
        next_above le = omega arith
