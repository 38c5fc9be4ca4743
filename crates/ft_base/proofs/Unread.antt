-- A trigger that no other reads: without it the others do with their variables what they do with it.
use Rattle.std.proofs.Common.{◌≡◌, ℕ, ◌+◌, ◌<◌, ◌≤◌, true≢false, List, refl, sym, ap, subst, ◌∙◌, Option, Some, None, unwrap_or, ⊎_elim, arith}
use Rattle.std.specs.Option.{option_map_or}
use Rattle.std.specs.Cmp.{nat_cmp_total}
use Rattle.std.specs.FinMap as map
use Rattle.std.specs.FinMap.{same_map, nat_cmp-IsAntisymmetric}
use Rattle.std.proofs.lemmas.Bool.{cases_eq}
use Rattle.ft_hist.specs.declared.label.Var.{Var}
use Rattle.ft_hist.specs.declared.label.Var.TheVariants as vars
use Rattle.ft_hist.specs.Hist.{Hist}
use Rattle.ft_pairs.specs.declared.role.Role.TheVariants.{Plain, Reads}
use Rattle.ft_maps.specs.Entries.{get-insert_same, get-insert_other, get-remove_same, get-remove_other}
use Rattle.ft_base.specs.Base.{Triggers, Base, id_limit, trigger_limit}
use Rattle.ft_base.specs.After.{variable_refusal, reader_on}
use Rattle.ft_base.specs.OneTrigger.{IsUnread, JoinsAs}
use Rattle.ft_base.specs.Reachable.{HasOneSaver, HasSaver, HasSavers, IsReachable}
use Rattle.ft_base.specs.Roles.{saves_name, saver_of, role_of, role_at}
use Rattle.ft_base.proofs.Attaching.{attach-IsReachable}
use Rattle.ft_base.proofs.LaneEdits.{found-before}
use Rattle.ft_base.proofs.OneSaver.{one_saver}
use Rattle.ft_base.proofs.Savers.{saver-saves, reads_of}
use Rattle.ft_base.proofs.TriggerEdits.{remove-IsReachable}

-- ---- fewer triggers, whose savers stay

module _ (old new : Triggers) (one : HasOneSaver old) (savers : HasSavers new) (within : (q : ℕ) (hist : Hist) → map.get new q ≡ Some hist → map.get old q ≡ Some hist) where
  -- what is read has the same saver
  saver_same : (reader : ℕ) (hist : Hist) (own source : List ℕ) → map.get new reader ≡ Some hist → hist.variable ≡ Some (vars.Reads own source) → saver_of new source ≡ saver_of old source
  saver_same reader hist own source there reads =
      let has : HasSaver new hist source = savers reader hist own source there reads in
      has.named ∙ sym (one_saver old one source has.id has.saver (within has.id has.saver has.attached) (saver-saves new source has.id has.saver has.attached has.named))

  role_same : (reader : ℕ) (hist : Hist) → map.get new reader ≡ Some hist → (variable : Option Var) → hist.variable ≡ variable → role_of new variable ≡ role_of old variable
  role_same reader hist there None is = refl
  role_same reader hist there (Some (vars.Saves label)) is = refl
  role_same reader hist there (Some (vars.Reads own source)) is = ap (λ (o : Option ℕ). Reads (unwrap_or o 0)) (saver_same reader hist own source there is)

  -- a trigger that stays does the same with its variable
  roles_same : (q : ℕ) → map.get new q ≡ map.get old q → role_at new q ≡ role_at old q
  unfolding role_at
  roles_same q same =
      elim (map.get new q) as (λ (o : Option Hist). map.get new q ≡ o → option_map_or (λ (h : Hist). role_of new h.variable) o Plain ≡ option_map_or (λ (h : Hist). role_of old h.variable) o Plain) [
        | None ↦ λ _. refl
        | Some hist ↦ λ there. role_same q hist there hist.variable refl
      ] refl
      ∙ ap (λ (o : Option Hist). option_map_or (λ (h : Hist). role_of old h.variable) o Plain) same

-- ---- one less

module _ (triggers : Triggers) (id : ℕ) (one : HasOneSaver triggers) (savers : HasSavers triggers) (left : HasSavers (map.remove triggers id)) where
  within : (q : ℕ) (hist : Hist) → map.get (map.remove triggers id) q ≡ Some hist → map.get triggers q ≡ Some hist
  within q hist found = found-before triggers id q hist found

  -- no trigger saves what it reads itself
  not_itself : (hist : Hist) (own source : List ℕ) → map.get triggers id ≡ Some hist → hist.variable ≡ Some (vars.Reads own source) → saver_of triggers source ≡ Some id → ⊥
  not_itself hist own source there reads named = true≢false (sym (saver-saves triggers source id hist there named) ∙ ap (saves_name source) reads)

  -- and the savers of the others are left without it
  not_other : (reader : ℕ) (hist : Hist) (own source : List ℕ) → map.get (map.remove triggers id) reader ≡ Some hist → hist.variable ≡ Some (vars.Reads own source) → unwrap_or (saver_of triggers source) 0 ≡ id → ⊥
  not_other reader hist own source there reads named =
      let has : HasSaver (map.remove triggers id) hist source = left reader hist own source there reads in
      let same : has.id ≡ id = ap (λ (o : Option ℕ). unwrap_or o 0) (sym has.named ∙ saver_same triggers (map.remove triggers id) one left within reader hist own source there reads) ∙ named in
      let both : ◌≡◌ {A = Option Hist} None (Some has.saver) = sym (get-remove_same nat_cmp_total triggers id) ∙ ap (map.get (map.remove triggers id)) (sym same) ∙ has.attached in
      absurd cc

  no_reader : (reader : ℕ) (hist : Hist) → map.get triggers reader ≡ Some hist → role_of triggers hist.variable ≡ Reads id → ⊥
  no_reader reader hist there is =
      let reads = reads_of triggers hist.variable id is in
      ⊎_elim
      (λ same.
      let has : HasSaver triggers hist reads.1.0 = savers reader hist reads.0 reads.1.0 there reads.1.1.0 in
      not_itself hist reads.0 reads.1.0 (ap (map.get triggers) (sym same) ∙ there) reads.1.1.0
      (has.named ∙ ap (λ (k : ℕ). Some k) (ap (λ (o : Option ℕ). unwrap_or o 0) (sym has.named) ∙ reads.1.1.1)))
      (λ apart. not_other reader hist reads.0 reads.1.0 (get-remove_other nat_cmp_total nat_cmp-IsAntisymmetric triggers id reader apart ∙ there) reads.1.1.0 reads.1.1.1)
      (cases_eq reader id)

  none_reads : (reader : ℕ) → role_at triggers reader ≡ Reads id → ⊥
  unfolding role_at
  none_reads reader is =
      elim (map.get triggers reader) as (λ (o : Option Hist). map.get triggers reader ≡ o → option_map_or (λ (h : Hist). role_of triggers h.variable) o Plain ≡ Reads id → ⊥) [
        | None ↦ λ _ same. absurd cc
        | Some hist ↦ λ there same. no_reader reader hist there same
      ] refl is

  -- if what the others read is saved without it, it is unread
  is_unread : IsUnread triggers id
  is_unread = record {
    unread = none_reads;
    others = λ other apart. roles_same triggers (map.remove triggers id) one left within other (get-remove_other nat_cmp_total nat_cmp-IsAntisymmetric triggers id other apart);
  }

-- a trigger that can be removed is unread
pub removable_unread : (base : Base) (id : ℕ) (hist : Hist) → IsReachable base → map.get base.triggers id ≡ Some hist → reader_on base.triggers hist.variable ≡ None → IsUnread base.triggers id
removable_unread base id hist is attached unread = is_unread base.triggers id is.one_saver is.savers (remove-IsReachable base id hist is attached unread).savers

-- ---- one more

-- without the trigger at a new id there are the triggers of before
taken_back : (triggers : Triggers) (id : ℕ) (hist : Hist) → map.get triggers id ≡ None → map.remove (map.insert triggers id hist) id ≡ triggers
taken_back triggers id hist free = same_map nat_cmp_total nat_cmp-IsAntisymmetric (map.remove (map.insert triggers id hist) id) triggers (λ q. ⊎_elim
    (λ same. ap (map.get (map.remove (map.insert triggers id hist) id)) same ∙ get-remove_same nat_cmp_total (map.insert triggers id hist) id ∙ sym (ap (map.get triggers) same ∙ free))
    (λ apart. get-remove_other nat_cmp_total nat_cmp-IsAntisymmetric (map.insert triggers id hist) id q apart ∙ get-insert_other nat_cmp_total nat_cmp-IsAntisymmetric triggers id hist q apart)
    (cases_eq q id))

-- the next id is no trigger's
next_free : (base : Base) → IsReachable base → map.get base.triggers base.next_id ≡ None
next_free base is =
    elim (map.get base.triggers base.next_id) as (λ (o : Option Hist). map.get base.triggers base.next_id ≡ o → o ≡ None) [
      | None ↦ λ _. refl
      | Some hist ↦ λ found. absurd (omega (arith, (is.ids base.next_id hist found).1))
    ] refl

-- a trigger that is attached joins as the next id's
pub attached_joins : (base : Base) (hist : Hist) → IsReachable base → map.len base.triggers < trigger_limit → base.next_id ≤ id_limit → variable_refusal base.triggers hist hist.variable ≡ None
    → JoinsAs base.next_id hist base (record base { triggers = map.insert base.triggers base.next_id hist; next_id = base.next_id + 1 })
attached_joins base hist is few low free =
    let with : Triggers = map.insert base.triggers base.next_id hist in
    let back : map.remove with base.next_id ≡ base.triggers = taken_back base.triggers base.next_id hist (next_free base is) in
    let now = attach-IsReachable base hist is few low free in
    record {
      attached = get-insert_same nat_cmp_total base.triggers base.next_id hist;
      unread = is_unread with base.next_id now.one_saver now.savers (subst HasSavers (sym back) is.savers);
      before = (λ i. record base { triggers = back i; next_id = base.next_id + 1 });
    }
