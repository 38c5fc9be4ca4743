-- A trigger gets another filter: all do with their variables what they did.
use Rattle.std.proofs.Common.{◌≡◌, ℕ, List, refl, sym, ap, subst, ◌∙◌, Option, Some, None, unwrap_or, ⊎_elim}
use Rattle.std.specs.Option.{option_map_or}
use Rattle.std.specs.Cmp.{nat_cmp_total}
use Rattle.std.specs.FinMap as map
use Rattle.std.specs.FinMap.{same_map, nat_cmp-IsAntisymmetric}
use Rattle.std.proofs.lemmas.Bool.{cases_eq}
use Rattle.ft_filter.specs.Tree.{Tree}
use Rattle.ft_hist.specs.declared.label.Var.{Var}
use Rattle.ft_hist.specs.declared.label.Var.TheVariants as vars
use Rattle.ft_hist.specs.Hist.{Hist, with_filter}
use Rattle.ft_pairs.specs.declared.role.Role.TheVariants.{Plain, Reads}
use Rattle.ft_maps.specs.Entries.{get-insert_same, get-insert_other, get-remove_same, get-remove_other}
use Rattle.ft_base.specs.Base.{Triggers, Base}
use Rattle.ft_base.specs.OneTrigger.{GetsFilter}
use Rattle.ft_base.specs.Reachable.{HasSaver, IsReachable}
use Rattle.ft_base.specs.Roles.{saves_name, saver_of, role_of, role_at}
use Rattle.ft_base.proofs.OneSaver.{one_saver}
use Rattle.ft_base.proofs.Reachable.{same-Some}
use Rattle.ft_base.proofs.Savers.{saver-saves}
use Rattle.ft_base.proofs.TriggerEdits.{refilter-IsReachable}

module _ (base : Base) (id : ℕ) (hist : Hist) (filter : Option Tree) (is : IsReachable base) (attached : map.get base.triggers id ≡ Some hist) where
  abbrev old : Triggers
  old = base.triggers

  abbrev new : Triggers
  new = map.insert old id (with_filter hist filter)

  at_id : map.get new id ≡ Some (with_filter hist filter)
  at_id = get-insert_same nat_cmp_total old id (with_filter hist filter)

  at_other : (q : ℕ) → (q ≡ id → ⊥) → map.get new q ≡ map.get old q
  at_other q apart = get-insert_other nat_cmp_total nat_cmp-IsAntisymmetric old id (with_filter hist filter) q apart

  -- what stands at an id had its variable before
  had_variable : (q : ℕ) (other : Hist) → map.get new q ≡ Some other → (was : Hist) × ((map.get old q ≡ Some was) × (was.variable ≡ other.variable))
  had_variable q other found = ⊎_elim
      (λ same. (
        hist,
        (
          ap (map.get old) same ∙ attached,
          ap (λ (h : Hist). h.variable) (same-Some (with_filter hist filter) other (sym at_id ∙ ap (map.get new) (sym same) ∙ found)),
        ),
      ))
      (λ apart. (other, (sym (at_other q apart) ∙ found, refl)))
      (cases_eq q id)

  -- what is read has the same saver
  saver_same : (reader : ℕ) (other : Hist) (own source : List ℕ) → map.get new reader ≡ Some other → other.variable ≡ Some (vars.Reads own source) → saver_of new source ≡ saver_of old source
  saver_same reader other own source there reads =
      let has : HasSaver new other source = (refilter-IsReachable base id hist filter is attached).savers reader other own source there reads in
      let was = had_variable has.id has.saver has.attached in
      let saves = ap (saves_name source) was.1.1 ∙ saver-saves new source has.id has.saver has.attached has.named in
      has.named ∙ sym (one_saver old is.one_saver source has.id was.0 was.1.0 saves)

  role_same : (reader : ℕ) (other : Hist) → map.get new reader ≡ Some other → (variable : Option Var) → other.variable ≡ variable → role_of new variable ≡ role_of old variable
  role_same reader other there None reads = refl
  role_same reader other there (Some (vars.Saves label)) reads = refl
  role_same reader other there (Some (vars.Reads own source)) reads = ap (λ (o : Option ℕ). Reads (unwrap_or o 0)) (saver_same reader other own source there reads)

  role_here : role_at new id ≡ role_at old id
  unfolding role_at
  role_here =
      ap (λ (o : Option Hist). option_map_or (λ (h : Hist). role_of new h.variable) o Plain) at_id
      ∙ role_same id (with_filter hist filter) at_id hist.variable refl
      ∙ sym (ap (λ (o : Option Hist). option_map_or (λ (h : Hist). role_of old h.variable) o Plain) attached)

  role_elsewhere : (q : ℕ) → (q ≡ id → ⊥) → role_at new q ≡ role_at old q
  unfolding role_at
  role_elsewhere q apart =
      elim (map.get new q) as (λ (o : Option Hist). map.get new q ≡ o → option_map_or (λ (h : Hist). role_of new h.variable) o Plain ≡ option_map_or (λ (h : Hist). role_of old h.variable) o Plain) [
        | None ↦ λ _. refl
        | Some other ↦ λ there. role_same q other there other.variable refl
      ] refl
      ∙ ap (λ (o : Option Hist). option_map_or (λ (h : Hist). role_of old h.variable) o Plain) (at_other q apart)

  roles : (q : ℕ) → role_at new q ≡ role_at old q
  roles q = ⊎_elim (λ (same : q ≡ id). subst (λ (k : ℕ). role_at new k ≡ role_at old k) (sym same) role_here) (role_elsewhere q) (cases_eq q id)

  others : map.remove new id ≡ map.remove old id
  others = same_map nat_cmp_total nat_cmp-IsAntisymmetric (map.remove new id) (map.remove old id) (λ q. ⊎_elim
      (λ same. ap (map.get (map.remove new id)) same ∙ get-remove_same nat_cmp_total new id ∙ sym (ap (map.get (map.remove old id)) same ∙ get-remove_same nat_cmp_total old id))
      (λ apart. get-remove_other nat_cmp_total nat_cmp-IsAntisymmetric new id q apart ∙ at_other q apart ∙ sym (get-remove_other nat_cmp_total nat_cmp-IsAntisymmetric old id q apart))
      (cases_eq q id))

  pub gets_filter : GetsFilter id base (record base { triggers = new })
  gets_filter = record {
    was = hist;
    attached_before = attached;
    hist = with_filter hist filter;
    attached = at_id;
    others = others;
    roles = roles;
    lanes = refl;
  }
