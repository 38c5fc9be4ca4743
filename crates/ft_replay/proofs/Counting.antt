-- The outcomes of one event at one attached trigger, by its counter.
use Rattle.std.proofs.Common.{◌≡◌, ℕ, Bool, true, false, cond, List, refl, sym, ap, ◌∙◌, Some, None, Option}
use Rattle.std.specs.Prelude.{ℤ}
use Rattle.std.specs.declared.cmp.Ordering.{Ordering}
use Rattle.std.specs.Option.{option_map_or}
use Rattle.std.specs.Ordering.{eq_by_cmp}
use Rattle.std.specs.Cmp.{IsTotalOrder}
use Rattle.std.specs.FinMap as map
use Rattle.std.specs.FinMap.{FinMap, IsAntisymmetric, get-remove, same_map}
use Rattle.ft_fields.specs.Traced.{Traced}
use Rattle.ft_fields.specs.declared.pos.Pos.{Pos}
use Rattle.ft_hist.specs.Hist.{Hist}
use Rattle.ft_hist.specs.Hit.{hit}
use Rattle.ft_fields.specs.declared.key.Part.{Part}
use Rattle.ft_maps.specs.Entries.{same_from_tie}
use Rattle.ft_pairs.specs.declared.at.At.{At}
use Rattle.ft_pairs.specs.declared.role.Role.TheVariants.{Reads}
use Rattle.ft_table.specs.Values.{values_at}
use Rattle.ft_replay.specs.Counters.{Counting, Counters}
use Rattle.ft_replay.specs.inner.Replaying.{Saved, after_hit, after_key, after_act}

module _ {K X : Type 0} {R : K → K → Ordering} (total : IsTotalOrder R) (same : IsAntisymmetric R) where
  gone : (m : FinMap R X) (k : K) → map.get m k ≡ None → (q : K) (at : Bool) → eq_by_cmp R q k ≡ at → cond at None (map.get m q) ≡ map.get m q
  gone m k none q true is = sym (ap (map.get m) (same_from_tie same q k is) ∙ none)
  gone m k none q false is = refl

  -- a key that has nothing, removed, changes nothing
  pub remove_absent : (m : FinMap R X) (k : K) → map.get m k ≡ None → map.remove m k ≡ m
  remove_absent m k none = same_map total same _ _ (λ q. get-remove total m k q ∙ gone m k none q (eq_by_cmp R q k) refl)

-- a reading of an unset variable is no hit
pub after_hit-unset : (values : Option Pos → List ℤ) (saver : ℕ) (at : At) (key : List Part) (counter : Counting) (saved : Saved)
    → map.get saved (record { saver = saver; key = key }) ≡ None → after_hit values (Reads saver) at key (counter, saved) ≡ (counter, saved)
after_hit-unset values saver at key counter saved none = rw none refl

module _ (hist : Hist) (event : Traced) (at : At) (counters : Counters) (saved : Saved) where
  pub after_act-no_hit : hit hist event ≡ None → after_act hist event at (counters, saved) ≡ (counters, saved)
  unfolding after_act
  after_act-no_hit none = ap (λ o. option_map_or (after_key hist event at (counters, saved)) o (counters, saved)) none

  pub after_act-no_counter : (key : List Part) → hit hist event ≡ Some key → map.get counters at.trigger ≡ None → after_act hist event at (counters, saved) ≡ (counters, saved)
  unfolding after_act
  after_act-no_counter key is none =
      ap (λ o. option_map_or (after_key hist event at (counters, saved)) o (counters, saved)) is
      ∙ rw none refl

  -- a hit changes its trigger's counter, and the variables
  abbrev pub with_hit_on : List Part → Counting → Counters × Saved
  with_hit_on key counter =
      let after = after_hit (values_at hist at.pos event) counter.role at key (counter, saved) in
      (map.insert counters at.trigger after.0, after.1)

  pub after_act-hit : (key : List Part) (counter : Counting) → hit hist event ≡ Some key → map.get counters at.trigger ≡ Some counter → after_act hist event at (counters, saved) ≡ with_hit_on key counter
  unfolding after_act
  after_act-hit key counter is there =
      ap (λ o. option_map_or (after_key hist event at (counters, saved)) o (counters, saved)) is
      ∙ ap (λ o. option_map_or (with_hit_on key) o (counters, saved)) there
