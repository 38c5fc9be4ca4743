-- What giving a filter answers, by whether there is such a trigger.
use Rattle.std.proofs.Common.{◌≡◌, ℕ, true, false, refl, Option, Some, None, is_some, Ok, Err}
use Rattle.std.specs.Option.{option_map_or}
use Rattle.std.specs.FinMap as map
use Rattle.ft_filter.specs.Tree.{Tree}
use Rattle.ft_hist.specs.Hist.{Hist, with_filter}
use Rattle.ft_base.specs.declared.refused.Refused.TheVariants.{NoTrigger}
use Rattle.ft_base.specs.Base.{Base, Triggers}
use Rattle.ft_base.specs.After.{after_refilter}
use Rattle.ft_base.specs.Reachable.{IsReachable}
use Rattle.ft_base.proofs.Cases.{refilter-none, refilter-ok}
use Rattle.ft_base.specs.OneTrigger.{GetsFilter}
use Rattle.ft_base.proofs.Filters.{gets_filter}
use Rattle.ft_base.proofs.TriggerEdits.{refilter-IsReachable}

-- the triggers with another filter at an id, if there is one
abbrev pub refiltered : Triggers → ℕ → Option Tree → Triggers
refiltered triggers id filter = option_map_or (λ hist. map.insert triggers id (with_filter hist filter)) (map.get triggers id) triggers

pub refilter-missing : (base : Base) (id : ℕ) (filter : Option Tree) → map.contains_key base.triggers id ≡ false → (refiltered base.triggers id filter ≡ base.triggers) × (after_refilter base id filter ≡ Err NoTrigger)
refilter-missing base id filter missing =
    elim (map.get base.triggers id) as (λ o. map.get base.triggers id ≡ o → is_some o ≡ false → (option_map_or (λ hist. map.insert base.triggers id (with_filter hist filter)) o base.triggers ≡ base.triggers) × (after_refilter base id filter ≡ Err NoTrigger)) [
      | None ↦ λ none _. (refl, refilter-none base id filter none)
      | Some hist ↦ λ _ e. cc
    ] refl missing

pub refilter-there : (base : Base) (id : ℕ) (filter : Option Tree) → map.contains_key base.triggers id ≡ true → IsReachable base
    → (after_refilter base id filter ≡ Ok (record base { triggers = refiltered base.triggers id filter }, id)) × IsReachable (record base { triggers = refiltered base.triggers id filter })
refilter-there base id filter there is =
    elim (map.get base.triggers id) as (λ o. map.get base.triggers id ≡ o → is_some o ≡ true → (after_refilter base id filter ≡ Ok (record base { triggers = option_map_or (λ hist. map.insert base.triggers id (with_filter hist filter)) o base.triggers }, id)) × IsReachable (record base { triggers = option_map_or (λ hist. map.insert base.triggers id (with_filter hist filter)) o base.triggers })) [
      | None ↦ λ _ e. cc
      | Some hist ↦ λ at _. (refilter-ok base id filter hist at, refilter-IsReachable base id hist filter is at)
    ] refl there

-- no trigger is found by an id that none has
pub none_there : (base : Base) (id : ℕ) → map.contains_key base.triggers id ≡ false → map.get base.triggers id ≡ None
none_there base id missing =
    elim (map.get base.triggers id) as (λ (o : Option Hist). is_some o ≡ false → o ≡ None) [
      | None ↦ λ _. refl
      | Some hist ↦ λ e. cc
    ] missing

pub refilter-filters : (base : Base) (id : ℕ) (filter : Option Tree) → map.contains_key base.triggers id ≡ true → IsReachable base
    → GetsFilter id base (record base { triggers = refiltered base.triggers id filter })
refilter-filters base id filter there is =
    elim (map.get base.triggers id) as (λ o. map.get base.triggers id ≡ o → is_some o ≡ true → GetsFilter id base (record base { triggers = option_map_or (λ hist. map.insert base.triggers id (with_filter hist filter)) o base.triggers })) [
      | None ↦ λ _ e. cc
      | Some hist ↦ λ at _. gets_filter base id hist filter is at
    ] refl there
