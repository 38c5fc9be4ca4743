-- The family of a trigger: no other reads a saver of it.
use Rattle.std.proofs.Common.{◌≡◌, ◌⊎◌, ℕ, Bool, true, false, true≢false, inl, inr, List, refl, sym, ap, ◌∙◌, Option, Some, None, unwrap_or, ⊎_elim}
use Rattle.std.specs.Prelude.{◌==◌, ◌||◌}
use Rattle.std.specs.FinMap as map
use Rattle.ft_hist.specs.declared.label.Var.{Var}
use Rattle.ft_hist.specs.declared.label.Var.TheVariants as vars
use Rattle.ft_base.specs.Reachable.{HasSaver, HasSavers}
use Rattle.ft_base.specs.Roles.{saves_name, is_reader, role_at, role_of}
use Rattle.ft_repair.specs.inner.Joining.{is_meant, family_of}
use Rattle.ft_base.specs.Base.{Triggers}
use Rattle.ft_base.specs.OneTrigger.{ReadsNothing, is_in_family, reads_from}
use Rattle.ft_hist.specs.Hist.{Hist}
use Rattle.ft_pairs.specs.declared.role.Role.{Role}
use Rattle.ft_pairs.specs.declared.role.Role.TheVariants.{Plain, Reads, Saves}
use Rattle.std.proofs.lemmas.Bool.{cases_Bool, eq-eqb, eqb-false, eqb-true, or_parts}
use Rattle.std.specs.Option.{option_map_or}
use Rattle.ft_base.proofs.Savers.{reads_of, saver-saves}

pub reads_from_is : (id : ℕ) (role : Role) → reads_from id role ≡ true → role ≡ Reads id
reads_from_is id Plain is = let both : ◌≡◌ {A = Bool} false true = is in absurd cc
reads_from_is id Saves is = let both : ◌≡◌ {A = Bool} false true = is in absurd cc
reads_from_is id (Reads saver) is = ap (λ (k : ℕ). Reads k) (eqb-true saver id is)

module _ (triggers : Triggers) (id : ℕ) where
  pub outside_apart : (other : ℕ) → is_in_family triggers id other ≡ false → other ≡ id → ⊥
  outside_apart other out same = eqb-false other id (or_parts (other == id) (reads_from id (role_at triggers other)) out).0 same

  pub outside_reads : (other : ℕ) → is_in_family triggers id other ≡ false → role_at triggers other ≡ Reads id → ⊥
  outside_reads other out reads =
      true≢false (sym (ap (reads_from id) reads ∙ eq-eqb id id refl) ∙ (or_parts (other == id) (reads_from id (role_at triggers other)) out).1)

  pub inside_is : (other : ℕ) → is_in_family triggers id other ≡ true → (other ≡ id) ⊎ (role_at triggers other ≡ Reads id)
  inside_is other inside = ⊎_elim
      (λ same. inl (eqb-true other id same))
      (λ apart. inr (reads_from_is id (role_at triggers other) (sym (ap (λ (b : Bool). b || reads_from id (role_at triggers other)) apart) ∙ inside)))
      (cases_Bool (other == id))

-- the role of a trigger that is attached
pub role_there : (triggers : Triggers) (id : ℕ) (hist : Hist) → map.get triggers id ≡ Some hist → role_at triggers id ≡ role_of triggers hist.variable
unfolding role_at
role_there triggers id hist there = ap (λ (o : Option Hist). option_map_or (λ (h : Hist). role_of triggers h.variable) o Plain) there

-- a trigger with a variable is attached
pub attached_as : (triggers : Triggers) (id : ℕ) → (role_at triggers id ≡ Plain → ⊥) → (hist : Hist) × (map.get triggers id ≡ Some hist)
unfolding role_at
attached_as triggers id some = elim (map.get triggers id) as (λ (o : Option Hist). (option_map_or (λ (h : Hist). role_of triggers h.variable) o Plain ≡ Plain → ⊥) → (hist : Hist) × (o ≡ Some hist)) [
  | None ↦ λ not. absurd (not refl)
  | Some hist ↦ λ _. (hist, refl)
] some

pub saves_some : (role : Role) → role ≡ Saves → role ≡ Plain → ⊥
saves_some role is plain = let both : ◌≡◌ {A = Role} Saves Plain = sym is ∙ plain in absurd cc

pub reads_some : (role : Role) (saver : ℕ) → role ≡ Reads saver → role ≡ Plain → ⊥
reads_some role saver is plain = let both : ◌≡◌ {A = Role} (Reads saver) Plain = sym is ∙ plain in absurd cc

-- one whose variable is not read is no reader
pub not_reads : (triggers : Triggers) (variable : Option Var) → is_reader variable ≡ false → (saver : ℕ) → role_of triggers variable ≡ Reads saver → ⊥
not_reads triggers variable quiet saver is =
    let reads = reads_of triggers variable saver is in
    true≢false (sym (ap is_reader reads.1.1.0) ∙ quiet)

pub nothing_read : (triggers : Triggers) (id : ℕ) → ReadsNothing triggers id → (saver : ℕ) → role_at triggers id ≡ Reads saver → ⊥
nothing_read triggers id nothing saver is =
    let attached = attached_as triggers id (reads_some (role_at triggers id) saver is) in
    not_reads triggers attached.0.variable (nothing attached.0 attached.1) saver (sym (role_there triggers id attached.0 attached.1) ∙ is)

-- a trigger that saves a name is a saver
saves_role : (triggers : Triggers) (name : List ℕ) (variable : Option Var) → saves_name name variable ≡ true → role_of triggers variable ≡ Saves
saves_role triggers name None saves = let both : ◌≡◌ {A = Bool} false true = saves in absurd cc
saves_role triggers name (Some (vars.Saves label)) saves = refl
saves_role triggers name (Some (vars.Reads own source)) saves = let both : ◌≡◌ {A = Bool} false true = saves in absurd cc

saver_of_hist : (triggers : Triggers) → HasSavers triggers → (reader : ℕ) (hist : Hist) (saver : ℕ) → map.get triggers reader ≡ Some hist → role_of triggers hist.variable ≡ Reads saver → role_at triggers saver ≡ Saves
saver_of_hist triggers savers reader hist saver there is =
    let reads = reads_of triggers hist.variable saver is in
    let has : HasSaver triggers hist reads.1.0 = savers reader hist reads.0 reads.1.0 there reads.1.1.0 in
    let same : has.id ≡ saver = ap (λ (o : Option ℕ). unwrap_or o 0) (sym has.named) ∙ reads.1.1.1 in
    role_there triggers saver has.saver (ap (map.get triggers) (sym same) ∙ has.attached)
    ∙ saves_role triggers reads.1.0 has.saver.variable (saver-saves triggers reads.1.0 has.id has.saver has.attached has.named)

-- what is read is a saver's
pub read_saves : (triggers : Triggers) → HasSavers triggers → (reader saver : ℕ) → role_at triggers reader ≡ Reads saver → role_at triggers saver ≡ Saves
read_saves triggers savers reader saver is =
    let attached = attached_as triggers reader (reads_some (role_at triggers reader) saver is) in
    saver_of_hist triggers savers reader attached.0 saver attached.1 (sym (role_there triggers reader attached.0 attached.1) ∙ is)

-- who reads a saver of the family is of the family
pub closed : (triggers : Triggers) (id : ℕ) → HasSavers triggers → (reader saver : ℕ) → is_in_family triggers id reader ≡ false → is_in_family triggers id saver ≡ true → role_at triggers reader ≡ Reads saver → ⊥
closed triggers id savers reader saver out inside reads = ⊎_elim
    (λ same. outside_reads triggers id reader out (reads ∙ ap (λ (k : ℕ). Reads k) same))
    (λ other. let both : ◌≡◌ {A = Role} Saves (Reads id) = sym (read_saves triggers savers reader saver reads) ∙ other in absurd cc)
    (inside_is triggers id saver inside)

-- whether an attached trigger is of a family, by its role
pub in_family : (triggers : Triggers) (head : Option ℕ) (e : ℕ × Hist) → map.get triggers e.0 ≡ Some e.1 → {role : Role} → role ≡ role_of triggers e.1.variable → {kin is : Bool} → kin ≡ is_meant head e.0 role → kin ≡ is → family_of triggers head e.0 ≡ is
in_family triggers head e attached role kin is = ap (is_meant head e.0) (role_there triggers e.0 e.1 attached ∙ sym role) ∙ sym kin ∙ is
