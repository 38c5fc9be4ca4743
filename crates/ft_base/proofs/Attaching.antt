-- A trigger at a new greatest id: each name that is saved keeps its saver, and the base stays reachable.
use Rattle.std.proofs.Common.{◌≡◌, ℕ, ◌+◌, ◌<◌, ◌≤◌, ◌⊎◌, inl, inr, Bool, true, false, cond, true≢false, List, [], ◌∷◌, refl, sym, ap, subst, ◌∙◌, Option, Some, None, is_some, ⊎_elim, arith}
use Rattle.std.specs.Prelude.{option_map}
use Rattle.std.specs.List as list
use Rattle.std.specs.Ordering.{nat_cmp, eq_by_cmp}
use Rattle.std.specs.declared.cmp.Ordering.TheVariants.{Greater}
use Rattle.std.specs.Cmp.{nat_cmp_total, nat_cmp_is, eq_by_cmp_equiv}
use Rattle.std.specs.Cmp.Lexicographic.{same_text}
use Rattle.std.specs.FinMap as map
use Rattle.std.specs.FinMap.{find, put, get-entries, entries-insert, len-insert, nat_cmp-IsAntisymmetric}
use Rattle.std.specs.FinMap.Entries.{by_order}
use Rattle.std.proofs.lemmas.Bool.{cases_eq}
use Rattle.ft_hist.specs.declared.label.Var.{Var}
use Rattle.ft_hist.specs.declared.label.Var.TheVariants as vars
use Rattle.ft_hist.specs.Hist.{Hist}
use Rattle.ft_base.specs.declared.refused.Refused.{Refused}
use Rattle.ft_base.specs.declared.refused.Refused.TheVariants.{NameTaken}
use Rattle.ft_base.specs.Base.{Triggers, Base, id_limit, trigger_limit}
use Rattle.ft_base.specs.Roles.{saves_name, saver_of}
use Rattle.ft_base.specs.After.{reader_refusal, variable_refusal}
use Rattle.ft_base.specs.Reachable.{HasOneSaver, HasSaver, HasSavers, IsReachable}
use Rattle.ft_maps.specs.Entries.{get-insert_same, get-insert_other}
use Rattle.ft_base.proofs.Savers.{saver_among, saver_of-among, saves-none}
use Rattle.ft_base.proofs.Reachable.{same-Some}

-- ---- among some triggers

-- one more after them leaves the saver that is found as it was
saver-put : (name : List ℕ) (id : ℕ) (hist : Hist) (es : List (ℕ × Hist)) (saver : ℕ) → ((q : ℕ) → is_some (find nat_cmp q es) ≡ true → q < id) → saver_among name es ≡ Some saver → saver_among name (put nat_cmp id hist es) ≡ Some saver
saver-put name id hist [] saver below named = cc
saver-put name id hist (e ∷ es) saver below named =
    let here : e.0 < id = below e.0 (ap (λ b. is_some (cond b (Some e.1) (find nat_cmp e.0 es))) ((eq_by_cmp_equiv nat_cmp_total).refl e.0)) in
    ap (λ o. saver_among name (by_order o ((id, hist) ∷ e ∷ es) ((e.0, hist) ∷ es) (e ∷ put nat_cmp id hist es))) (sym (nat_cmp_is id e.0 Greater here))
    ∙ elim (saves_name name e.1.variable) as (λ b. option_map (λ (x : ℕ × Hist). x.0) (cond b (Some e) (list.find (λ x. saves_name name x.1.variable) es)) ≡ Some saver → option_map (λ (x : ℕ × Hist). x.0) (cond b (Some e) (list.find (λ x. saves_name name x.1.variable) (put nat_cmp id hist es))) ≡ Some saver) [
      | true ↦ λ is. is
      | false ↦ λ rest. saver-put name id hist es saver (λ q found. below q (elim (eq_by_cmp nat_cmp q e.0) as (λ b. is_some (cond b (Some e.1) (find nat_cmp q es)) ≡ true) [ true ↦ refl | false ↦ found ])) rest
    ] named

-- ---- among all that are attached

abbrev AreBelow : Triggers → ℕ → Type 0
AreBelow triggers next = (id : ℕ) (hist : Hist) → map.get triggers id ≡ Some hist → id < next

found-below : (triggers : Triggers) (next : ℕ) → AreBelow triggers next → (id : ℕ) → is_some (map.get triggers id) ≡ true → id < next
found-below triggers next below id is =
    elim (map.get triggers id) as (λ o. map.get triggers id ≡ o → is_some o ≡ true → id < next) [
      | None ↦ λ _ not. cc
      | Some hist ↦ λ found _. below id hist found
    ] refl is

-- a trigger at a greater id leaves each name that is saved with its saver
saver-insert : (triggers : Triggers) (next : ℕ) (hist : Hist) (name : List ℕ) (saver : ℕ) → AreBelow triggers next → saver_of triggers name ≡ Some saver → saver_of (map.insert triggers next hist) name ≡ Some saver
saver-insert triggers next hist name saver below named =
    sym (saver_of-among (map.insert triggers next hist) name)
    ∙ ap (saver_among name) (entries-insert nat_cmp_total triggers next hist)
    ∙ saver-put name next hist (map.entries triggers) saver (λ q is. found-below triggers next below q (ap is_some (get-entries triggers q) ∙ is)) (saver_of-among triggers name ∙ named)

get-kept : (triggers : Triggers) (next : ℕ) (hist : Hist) (id : ℕ) (other : Hist) → AreBelow triggers next → map.get triggers id ≡ Some other → map.get (map.insert triggers next hist) id ≡ Some other
get-kept triggers next hist id other below found =
    let less = below id other found in
    get-insert_other nat_cmp_total nat_cmp-IsAntisymmetric triggers next hist id (λ same. omega (arith, less, same)) ∙ found

HasSaver-insert : (triggers : Triggers) (next : ℕ) (hist : Hist) (reader : Hist) (name : List ℕ) → AreBelow triggers next → HasSaver triggers reader name → HasSaver (map.insert triggers next hist) reader name
HasSaver-insert triggers next hist reader name below is = record {
  id = is.id;
  saver = is.saver;
  named = saver-insert triggers next hist name is.id below is.named;
  attached = get-kept triggers next hist is.id is.saver below is.attached;
  matching = is.matching;
  at = is.at;
}

-- ---- a variable that nothing stands against

-- its name is free
name-free : (triggers : Triggers) (hist : Hist) (variable : Option Var) (name : List ℕ) → variable_refusal triggers hist variable ≡ None → saves_name name variable ≡ true → saver_of triggers name ≡ None
name-free triggers hist None name free saves = cc
name-free triggers hist (Some (vars.Reads own source)) name free saves = cc
name-free triggers hist (Some (vars.Saves label)) name free saves =
    ap (saver_of triggers) (sym (same_text label name (sym saves)))
    ∙ elim (saver_of triggers label) as (λ o. option_map NameTaken o ≡ None → o ≡ None) [ None ↦ λ _. refl | Some id ↦ λ taken. cc ] free

-- a test passes if no refusal comes of it
passed : (b : Bool) (refused : Refused) → cond b None (Some refused) ≡ None → b ≡ true
passed true refused none = refl
passed false refused none = cc

-- two tests that pass, one after the other
both : (a b : Bool) (refused other : Refused) → cond a (cond b None (Some refused)) (Some other) ≡ None → (a ≡ true) × (b ≡ true)
both true b refused other none = (refl, passed b refused none)
both false b refused other none = cc

-- what it reads has a saver
reader-has : (triggers : Triggers) (reader : Hist) (source : List ℕ) → reader_refusal triggers reader source ≡ None → HasSaver triggers reader source
unfolding reader_refusal
reader-has triggers reader source free =
    elim (saver_of triggers source) as (λ o. saver_of triggers source ≡ o → HasSaver triggers reader source) [
      | None ↦ λ unnamed. absurd (let stands = rw unnamed at free in cc)
      | Some id ↦ λ named. elim (map.get triggers id) as (λ o. map.get triggers id ≡ o → HasSaver triggers reader source) [
        | None ↦ λ unattached. absurd (let stands = rw (named, unattached) at free in cc)
        | Some saver ↦ λ attached. record { id = id; saver = saver; named = named; attached = attached; matching = (both _ _ _ _ (rw (named, attached) at free)).1; at = (both _ _ _ _ (rw (named, attached) at free)).0 }
      ] refl
    ] refl

-- ---- the base with the trigger

module _ (triggers : Triggers) (next : ℕ) (hist : Hist) (below : AreBelow triggers next) (free : variable_refusal triggers hist hist.variable ≡ None) where
  -- at an id stands the new trigger or one of the old
  at-insert : (id : ℕ) (other : Hist) → map.get (map.insert triggers next hist) id ≡ Some other → ((id ≡ next) × (hist ≡ other)) ⊎ (map.get triggers id ≡ Some other)
  at-insert id other found =
      ⊎_elim
      (λ same. inl (same, same-Some hist other (sym (ap (map.get (map.insert triggers next hist)) same ∙ get-insert_same nat_cmp_total triggers next hist) ∙ found)))
      (λ apart. inr (sym (get-insert_other nat_cmp_total nat_cmp-IsAntisymmetric triggers next hist id apart) ∙ found))
      (cases_eq id next)

  -- no old trigger saves the new one's name
  not-both : (id : ℕ) (old new : Hist) (name : List ℕ) → hist ≡ new → map.get triggers id ≡ Some old → saves_name name old.variable ≡ true → saves_name name new.variable ≡ true → ⊥
  not-both id old new name same found saves also =
      let none = name-free triggers hist hist.variable name free (ap (λ (h : Hist). saves_name name h.variable) same ∙ also) in
      true≢false (sym saves ∙ saves-none triggers name id old none found)

  one_saver-insert : HasOneSaver triggers → HasOneSaver (map.insert triggers next hist)
  one_saver-insert one i j a b name found-i found-j saves-i saves-j = elim (at-insert i a found-i) [
    | inl new-i ↦ elim (at-insert j b found-j) [
      | inl new-j ↦ new-i.0 ∙ sym new-j.0
      | inr old-j ↦ absurd (not-both j b a name new-i.1 old-j saves-j saves-i)
    ]
    | inr old-i ↦ elim (at-insert j b found-j) [
      | inl new-j ↦ absurd (not-both i a b name new-j.1 old-i saves-i saves-j)
      | inr old-j ↦ one i j a b name old-i old-j saves-i saves-j
    ]
  ]

  savers-insert : HasSavers triggers → HasSavers (map.insert triggers next hist)
  savers-insert savers id other own source found reads = HasSaver-insert triggers next hist other source below (elim (at-insert id other found) [
    | inl new ↦ subst (λ (h : Hist). HasSaver triggers h source) new.1
        (reader-has triggers hist source (ap (variable_refusal triggers hist) (sym (ap (λ (h : Hist). h.variable) new.1 ∙ reads)) ∙ free))
    | inr old ↦ savers id other own source old reads
  ])

at_most : (known : Bool) (n : ℕ) → n < trigger_limit → cond known n (n + 1) ≤ trigger_limit
at_most true n few = omega arith
at_most false n few = omega arith

-- attaching a trigger keeps the base reachable
pub attach-IsReachable : (base : Base) (hist : Hist) → IsReachable base → map.len base.triggers < trigger_limit → base.next_id ≤ id_limit → variable_refusal base.triggers hist hist.variable ≡ None → IsReachable (record base { triggers = map.insert base.triggers base.next_id hist; next_id = base.next_id + 1 })
attach-IsReachable base hist is few low free =
    let below : AreBelow base.triggers base.next_id = λ id other found. (is.ids id other found).1 in
    record {
      cpus = is.cpus;
      numbers = is.numbers;
      lines = is.lines;
      ids = λ id other found. elim (at-insert base.triggers base.next_id hist below free id other found) [
        | inl new ↦ let at = new.0 in (omega (arith, at, is.next_id.0), omega (arith, at))
        | inr old ↦ let known = is.ids id other old in (known.0, omega (arith, known.1))
      ];
      next_id = (omega arith, omega arith);
      few_events = is.few_events;
      few_triggers = subst (λ n. n ≤ trigger_limit) (sym (len-insert nat_cmp_total base.triggers base.next_id hist)) (at_most (is_some (map.get base.triggers base.next_id)) (map.len base.triggers) few);
      one_saver = one_saver-insert base.triggers base.next_id hist below free is.one_saver;
      savers = savers-insert base.triggers base.next_id hist below free is.savers;
    }
