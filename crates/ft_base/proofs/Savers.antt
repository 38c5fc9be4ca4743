-- Looking for the saver of a name, or for its reader, trigger by trigger.
use Rattle.std.proofs.Common.{◌≡◌, ℕ, Bool, true, false, cond, List, [], ◌∷◌, Option, Some, None, refl, sym, ap, ◌∙◌}
use Rattle.std.specs.Prelude.{option_map, unwrap_or}
use Rattle.std.specs.List.{AllByRecursion, find}
use Rattle.std.specs.Ordering.{nat_cmp, eq_by_cmp}
use Rattle.std.specs.Cmp.{nat_cmp_total}
use Rattle.std.specs.FinMap as map
use Rattle.std.specs.FinMap.{get-entries}
use Rattle.std.specs.FinMap.Entries as entries
use Rattle.ft_hist.specs.declared.label.Var.{Var}
use Rattle.ft_hist.specs.declared.label.Var.TheVariants as vars
use Rattle.ft_hist.specs.Hist.{Hist}
use Rattle.ft_base.specs.Base.{Triggers}
use Rattle.ft_pairs.specs.declared.role.Role.{Role}
use Rattle.ft_pairs.specs.declared.role.Role.TheVariants.{Plain, Saves, Reads}
use Rattle.ft_base.specs.Roles.{saves_name, saver_of, reads_name, reader_of, role_of}
use Rattle.ft_base.proofs.Apart.{entries_found}
use Rattle.ft_base.proofs.Reachable.{same-Some}

-- the saver of a name among some triggers
abbrev pub saver_among : List ℕ → List (ℕ × Hist) → Option ℕ
saver_among name attached = option_map (λ e. e.0) (find (λ e. saves_name name e.1.variable) attached)

pub saver_of-among : (triggers : Triggers) (name : List ℕ) → saver_among name (map.entries triggers) ≡ saver_of triggers name
unfolding saver_of
saver_of-among triggers name = refl

pub saver_among-here : (name : List ℕ) (e : ℕ × Hist) (es : List (ℕ × Hist)) → saves_name name e.1.variable ≡ true → saver_among name (e ∷ es) ≡ Some e.0
saver_among-here name e es is = ap (λ b. option_map (λ (x : ℕ × Hist). x.0) (cond b (Some e) (find (λ x. saves_name name x.1.variable) es))) is

pub saver_among-later : (name : List ℕ) (e : ℕ × Hist) (es : List (ℕ × Hist)) → saves_name name e.1.variable ≡ false → saver_among name (e ∷ es) ≡ saver_among name es
saver_among-later name e es is = ap (λ b. option_map (λ (x : ℕ × Hist). x.0) (cond b (Some e) (find (λ x. saves_name name x.1.variable) es))) is

-- the reader of a name among some triggers
abbrev pub reader_among : List ℕ → List (ℕ × Hist) → Option ℕ
reader_among name attached = option_map (λ e. e.0) (find (λ e. reads_name name e.1.variable) attached)

pub reader_of-among : (triggers : Triggers) (name : List ℕ) → reader_among name (map.entries triggers) ≡ reader_of triggers name
unfolding reader_of
reader_of-among triggers name = refl

-- ---- who is not found

-- if no variable among some triggers passes a test, the one at an id doesn't
pub none-among : (test : Option Var → Bool) (es : List (ℕ × Hist)) (id : ℕ) (hist : Hist) → option_map (λ (e : ℕ × Hist). e.0) (find (λ e. test e.1.variable) es) ≡ None → entries.find nat_cmp id es ≡ Some hist → test hist.variable ≡ false
none-among test [] id hist none found = cc
none-among test (e ∷ es) id hist none found =
    elim (test e.1.variable) as (λ b. test e.1.variable ≡ b → option_map (λ (x : ℕ × Hist). x.0) (cond b (Some e) (find (λ x. test x.1.variable) es)) ≡ None → test hist.variable ≡ false) [
      | true ↦ λ _ other. cc
      | false ↦ λ not rest. elim (eq_by_cmp nat_cmp id e.0) as (λ b. cond b (Some e.1) (entries.find nat_cmp id es) ≡ Some hist → test hist.variable ≡ false) [
        | true ↦ λ here. ap (λ (h : Hist). test h.variable) (sym (same-Some e.1 hist here)) ∙ not
        | false ↦ λ later. none-among test es id hist rest later
      ] found
    ] refl none

-- a trigger doesn't save a name that nobody saves
pub saves-none : (triggers : Triggers) (name : List ℕ) (id : ℕ) (hist : Hist) → saver_of triggers name ≡ None → map.get triggers id ≡ Some hist → saves_name name hist.variable ≡ false
saves-none triggers name id hist none found = none-among (saves_name name) (map.entries triggers) id hist (saver_of-among triggers name ∙ none) (sym (get-entries triggers id) ∙ found)

-- nor reads one that nobody reads
pub reads-none : (triggers : Triggers) (name : List ℕ) (id : ℕ) (hist : Hist) → reader_of triggers name ≡ None → map.get triggers id ≡ Some hist → reads_name name hist.variable ≡ false
reads-none triggers name id hist none found = none-among (reads_name name) (map.entries triggers) id hist (reader_of-among triggers name ∙ none) (sym (get-entries triggers id) ∙ found)

-- ---- who is found

module _ (triggers : Triggers) (name : List ℕ) (id : ℕ) (saver : Hist) (attached : map.get triggers id ≡ Some saver) where
  saves-among : (es : List (ℕ × Hist)) → AllByRecursion (λ e. map.get triggers e.0 ≡ Some e.1) es → saver_among name es ≡ Some id → saves_name name saver.variable ≡ true
  saves-among [] all named = cc
  saves-among (e ∷ es) all named = elim (saves_name name e.1.variable) as (λ b. saves_name name e.1.variable ≡ b → option_map (λ (x : ℕ × Hist). x.0) (cond b (Some e) (find (λ x. saves_name name x.1.variable) es)) ≡ Some id → saves_name name saver.variable ≡ true) [
    | true ↦ λ saves here.
        let same : e.1 ≡ saver = same-Some e.1 saver (sym all.0 ∙ ap (map.get triggers) (same-Some e.0 id here) ∙ attached) in
        ap (λ (h : Hist). saves_name name h.variable) (sym same) ∙ saves
    | false ↦ λ _ later. saves-among es all.1 later
  ] refl named

  -- the saver of a name saves it
  pub saver-saves : saver_of triggers name ≡ Some id → saves_name name saver.variable ≡ true
  saver-saves named = saves-among (map.entries triggers) (entries_found nat_cmp nat_cmp_total triggers) (saver_of-among triggers name ∙ named)

-- a variable that is read has its reader's role
pub reads_of : (triggers : Triggers) (variable : Option Var) (saver : ℕ) → role_of triggers variable ≡ Reads saver
    → (own : List ℕ) × ((source : List ℕ) × ((variable ≡ Some (vars.Reads own source)) × (unwrap_or (saver_of triggers source) 0 ≡ saver)))
reads_of triggers None saver is = let both : ◌≡◌ {A = Role} Plain (Reads saver) = is in absurd cc
reads_of triggers (Some (vars.Saves label)) saver is = let both : ◌≡◌ {A = Role} Saves (Reads saver) = is in absurd cc
reads_of triggers (Some (vars.Reads own source)) saver is = (own, (source, (refl, ap saver_in is)))
  where
    saver_in : Role → ℕ
    saver_in (Reads saver) = saver
    saver_in Plain = 0
    saver_in Saves = 0
