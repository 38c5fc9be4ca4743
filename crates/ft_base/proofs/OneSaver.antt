-- A name that one attached trigger at most saves: who saves it.
use Rattle.std.proofs.Common.{◌≡◌, ℕ, Bool, true, false, cond, List, [], ◌∷◌, refl, sym, ap, ◌∙◌, Some}
use Rattle.std.specs.Prelude.{option_map, is_some, unwrap_or}
use Rattle.std.specs.List as list
use Rattle.std.specs.List.{AllByRecursion}
use Rattle.std.specs.Ordering.{nat_cmp, eq_by_cmp}
use Rattle.std.specs.Cmp.{nat_cmp_total}
use Rattle.std.specs.FinMap as map
use Rattle.std.specs.FinMap.{find, get-entries}
use Rattle.std.proofs.lemmas.Bool.{true≢false}
use Rattle.ft_hist.specs.Hist.{Hist}
use Rattle.ft_base.specs.Base.{Triggers}
use Rattle.ft_base.specs.Reachable.{HasOneSaver}
use Rattle.ft_base.specs.Roles.{saves_name, saver_of}
use Rattle.ft_base.proofs.Apart.{entries_found}

module _ (triggers : Triggers) (one : HasOneSaver triggers) (name : List ℕ) (id : ℕ) (hist : Hist) (attached : map.get triggers id ≡ Some hist) (saves : saves_name name hist.variable ≡ true) where
  abbrev saves_it : ℕ × Hist → Bool
  saves_it t = saves_name name t.1.variable

  first_saver : (ts : List (ℕ × Hist)) → AllByRecursion (λ t. map.get triggers t.0 ≡ Some t.1) ts → find nat_cmp id ts ≡ Some hist
      → option_map (λ (t : ℕ × Hist). t.0) (list.find saves_it ts) ≡ Some id
  first_saver [] all found = absurd (true≢false (sym (ap is_some found)))
  first_saver (t ∷ ts) all found = elim (saves_it t) as (λ b. saves_it t ≡ b → option_map (λ (t : ℕ × Hist). t.0) (cond b (Some t) (list.find saves_it ts)) ≡ Some id) [
    | true ↦ λ is. ap Some (one t.0 id t.1 hist name all.0 attached is saves)
    | false ↦ λ other. first_saver ts all.1 (elim (eq_by_cmp nat_cmp id t.0) as (λ b. cond b (Some t.1) (find nat_cmp id ts) ≡ Some hist → find nat_cmp id ts ≡ Some hist) [
      | true ↦ λ same. absurd (true≢false (sym saves ∙ ap (λ h. saves_name name h.variable) (sym (ap (λ o. unwrap_or o hist) same)) ∙ other))
      | false ↦ λ rest. rest
    ] found)
  ] refl

  saver-is : saver_of triggers name ≡ Some id
  unfolding saver_of
  saver-is = first_saver (map.entries triggers) (entries_found nat_cmp nat_cmp_total triggers) (sym (get-entries triggers id) ∙ attached)

-- if no two triggers save one name, the trigger that saves it is its saver
pub one_saver : (triggers : Triggers) → HasOneSaver triggers → (name : List ℕ) (id : ℕ) (hist : Hist) → map.get triggers id ≡ Some hist → saves_name name hist.variable ≡ true → saver_of triggers name ≡ Some id
one_saver triggers one name id hist attached saves = saver-is triggers one name id hist attached saves
