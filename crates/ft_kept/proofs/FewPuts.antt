-- Which tables stay as one trigger's act comes or goes, and how few things it puts into maps.
use Rattle.std.proofs.Common.{◌≡◌, ℕ, ◌+◌, ◌*◌, ◌≤◌, Bool, true, false, cond, List, ◌∷◌, refl, sym, ap, subst, ◌∙◌, Some, None, inl, inr, arith, ◌⊎◌, ◌&&◌, option_map, true≢false}
use Rattle.std.specs.FinMap as map
use Rattle.ft_fields.specs.Traced.{Traced, name_of}
use Rattle.ft_hist.specs.Hist.{Hist}
use Rattle.ft_hist.specs.Triggers.{Triggers}
use Rattle.ft_hist.specs.Hit.{hit, key_of, passes_filter, same_name}
use Rattle.ft_hist.specs.Steps.{Steps, StepsGrow}
use Rattle.ft_fields.specs.declared.key.Part.{Part}
use Rattle.ft_kept.specs.inner.OneAct.{IsDoneToo}
use Rattle.ft_kept.specs.Bounds.{TableEdit, SaverMoves, SomeSaverMoves, OtherSaversStay, table_on}
use Rattle.ft_hist.specs.Tests.{tests_taken}
use Rattle.ft_shelves.specs.Shelves.{Shelved, Shelves, FormsStay, role_on}
use Rattle.ft_kept.specs.inner.Edits.{ReadersChange}
use Rattle.ft_pairs.specs.declared.role.Role.TheVariants.{Saves}
use Rattle.ft_shelves.proofs.Decided.{none_not_some}
use Rattle.ft_kept.proofs.Between.{IsFirst, all_but, asked_more, asked_of}
use Rattle.ft_kept.proofs.Forms.{roles_stay}

-- ---- the tables of all savers except one trigger

-- they stay, if all other shelves do
pub savers_but : (id : ℕ) (old new : Shelves) → ((i : ℕ) → (i ≡ id → ⊥) → map.get new i ≡ map.get old i) → OtherSaversStay id old new
savers_but id old new others other apart saves = ap (option_map (λ (shelf : Shelved). shelf.table)) (others other apart)

-- and then only what readers counted and read changes
pub savers_stay : (id : ℕ) (old mid new : Shelves) → FormsStay old mid → OtherSaversStay id old mid → ReadersChange mid new → OtherSaversStay id old new
savers_stay id old mid new forms stay readers other apart saves = readers.tables other (roles_stay old mid forms other ∙ saves) ∙ stay other apart saves

-- ---- steps

pub steps_refl : (steps : Steps) → StepsGrow steps steps
steps_refl steps = record { evals = omega arith; puts = omega arith }

pub steps_trans : (a b c : Steps) → StepsGrow a b → StepsGrow b c → StepsGrow a c
steps_trans a b c h k = record { evals = omega (arith, h.evals, k.evals); puts = omega (arith, h.puts, k.puts) }

-- three puts at most for each trigger of these, or something else
abbrev pub Few : Type 0 → ℕ → ℕ → ℕ → Type 0
Few Else puts left limit = (puts + 3 * left ≤ limit) ⊎ Else

-- before any trigger is done
pub few_first : {Else : Type 0} (puts left count : ℕ) → left ≡ count → Few Else puts left (puts + 3 * count)
few_first puts left count same = inl (omega (arith, same))

-- one trigger more is done
few_more : {Else : Type 0} (before after here left limit : ℕ) → Few Else before (here + left) limit → (after ≤ before + 3 * here) ⊎ Else → Few Else after left limit
few_more before after here left limit (inr it) more = inr it
few_more before after here left limit (inl few) (inr it) = inr it
few_more before after here left limit (inl few) (inl more) = inl (omega (arith, few, more))

-- what is left takes no puts away
pub few_all : {Else : Type 0} (puts left limit : ℕ) → Few Else puts left limit → (puts ≤ limit) ⊎ Else
few_all puts left limit (inr it) = inr it
few_all puts left limit (inl few) = inl (omega (arith, few))

-- ---- a saver's table that moves on the way moved from the start

module _ (edit : TableEdit) (triggers : Triggers) (start now : Shelves) (forms : FormsStay start now) (id : ℕ) (hist : Hist) (attached : map.get triggers id ≡ Some hist)
    (stays : role_on start id ≡ Saves → table_on now id ≡ table_on start id) where
  saver_moves : SaverMoves edit hist now id → SaverMoves edit hist start id
  saver_moves moves =
      let saves : role_on start id ≡ Saves = sym (roles_stay start now forms id) ∙ moves.0 in
      (saves, (moves.1.0, (sym (stays saves) ∙ moves.1.1.0, moves.1.1.1)))

  -- so an act takes few puts, or some saver's table moves
  some_moves : {Few : Type 0} → Few ⊎ SaverMoves edit hist now id → Few ⊎ SomeSaverMoves edit triggers start
  some_moves (inl few) = inl few
  some_moves (inr moves) = inr (record { id = id; hist = hist; attached = attached; moves = saver_moves moves })

-- ---- one act

-- a hit's event is tested once
pub hit_asked : (hist : Hist) (event : Traced) (key : List Part) → hit hist event ≡ Some key → tests_taken hist event ≡ 1
hit_asked hist event key one = by (same_name hist.event (name_of event.body)) refl
  where
    by : (b : Bool) → same_name hist.event (name_of event.body) ≡ b → tests_taken hist event ≡ 1
    by true is = ap (λ b. cond b 1 0) is
    by false is = absurd (none_not_some (hit hist event) key (ap (λ b. cond (b && passes_filter hist.filter event) (key_of hist.keys event) None) is) one)

-- ---- the triggers that are left

-- the savers among the triggers that are left have the tables of the start
abbrev pub LeftStay : (ℕ → Bool) → Shelves → Shelves → Type 0
LeftStay done start now = (id : ℕ) → done id ≡ false → role_on start id ≡ Saves → table_on now id ≡ table_on start id

-- before any trigger is done
pub left_refl : (done : ℕ → Bool) (start : Shelves) → LeftStay done start start
left_refl done start id is_left saves = refl

-- one trigger more is done
pub left_step : (id : ℕ) (done more : ℕ → Bool) → IsDoneToo id done more → (start now next : Shelves) → FormsStay start now → OtherSaversStay id now next → LeftStay done start now → LeftStay more start next
left_step id done more too start now next forms savers left other is_left saves =
    let apart : other ≡ id → ⊥ = (λ same. true≢false (sym too.is ∙ ap more (sym same) ∙ is_left)) in
    savers other apart (roles_stay start now forms other ∙ saves) ∙ left other (sym (too.others other apart) ∙ is_left) saves

-- and few things were put, or some saver's table moved
pub few_puts : {edit : TableEdit} {triggers : Triggers} {start : Shelves} {e : ℕ × Hist} {left rest : List (ℕ × Hist)} (now : Shelves) (event : Traced) (before after limit : ℕ) → left ≡ e ∷ rest → IsFirst triggers e left rest
    → FormsStay start now → LeftStay (all_but left) start now → Few (SomeSaverMoves edit triggers start) before (asked_of event left) limit
    → (after ≤ before + 3 * tests_taken e.1 event) ⊎ SaverMoves edit e.1 now e.0 → Few (SomeSaverMoves edit triggers start) after (asked_of event rest) limit
few_puts {edit} {triggers} {start} {e} {left} {rest} now event before after limit more first forms savers few did =
    few_more before after (tests_taken e.1 event) (asked_of event rest) limit
    (subst (λ n. Few (SomeSaverMoves edit triggers start) before n limit) (ap (asked_of event) more ∙ asked_more event e rest) few)
    (some_moves edit triggers start now forms e.0 e.1 first.attached (savers e.0 first.too.was) did)
