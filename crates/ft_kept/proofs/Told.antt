-- What repairs recorded, put together from what each of their steps recorded.
use Rattle.std.proofs.Common.{◌≡◌, ℕ, ◌+◌, ◌≤◌, false, List, [], ◌∷◌, ◌++◌, length, refl, ap, subst, ◌∙◌, arith, rules, Option}
use Rattle.std.specs.Prelude.{◌||◌}
use Rattle.std.proofs.lemmas.Bool.Decides.{nat_tests}
use Rattle.std.proofs.lemmas.List.{append-nil, append_assoc, length-append, map-append}
use Rattle.std.proofs.lemmas.List.Elements.{filter-append}
use Rattle.std.proofs.lemmas.List.Folds.{list_any-append}
use Rattle.ft_changes.proofs.Leading.{SameFindings, lead_trans}
use Rattle.ft_changes.specs.declared.changed.ReadingChange.{ReadingChange}
use Rattle.ft_hist.specs.Hist.{Hist}
use Rattle.ft_hits.proofs.Flat.{same_itself}
use Rattle.ft_fields.specs.declared.key.Part.{Part}
use Rattle.ft_pairs.specs.declared.role.Role.{Role}
use Rattle.ft_pairs.specs.declared.role.Role.TheVariants.{Reads}
use Rattle.ft_shelves.specs.declared.saver.Moved.{Moved}
use Rattle.ft_shelves.specs.Shelves.{FormsStay, Shelves, kept_on, role_on}
use Rattle.ft_kept.specs.Changes.{AreFew, ChangeUnder, HasTold, HasToldFew, ReadingsTold, Tells, is_told, keys_of, most, whose_of}
use Rattle.ft_kept.specs.declared.changes.Changes.{Changes}
use Rattle.ft_kept.specs.declared.changes.KeyChange.{KeyChange}
use Rattle.ft_kept.specs.declared.changes.Whose.{Whose}
use Rattle.ft_kept.specs.inner.Telling.{moved_keys, own_key, variable_key}
use Rattle.ft_kept.proofs.Forms.{roles_stay}

-- ---- one log

module _ {T : Type 0} where
  -- nothing more is recorded
  pub tells_same : (old new : Option (List T)) → new ≡ old → Tells [] old new
  tells_same old new same = search (append-nil, rules)

  -- some more is recorded, and then others
  pub tells_trans : (xs ys : List T) (a b c : Option (List T)) → Tells xs a b → Tells ys b c → Tells (xs ++ ys) a c
  tells_trans xs ys a b c first then = search (append_assoc, rules)

-- ---- keys

told-append : (xs ys : List KeyChange) (whose : Whose) (key : List Part) → is_told (xs ++ ys) whose key ≡ (is_told xs whose key || is_told ys whose key)
told-append xs ys whose key = grind (arith, filter-append, map-append, list_any-append)

-- what isn't the one key that is recorded of some hits is another
pub not_told : (change : KeyChange) (whose : Whose) (key : List Part) → is_told (change ∷ []) whose key ≡ false → whose ≡ change.whose → key ≡ change.key → ⊥
not_told change whose key none its here = grind (arith, nat_tests, same_itself change.key, none, its, here)

module _ (role : ℕ → Role) (id : ℕ) (hist : Hist) (key : List Part) where
  -- one of its own is few for a trigger
  pub few_own : AreFew role ((id, hist) ∷ []) (own_key id key)
  few_own whose = grind arith

  -- one of those who read what a saver saves is few for a reader
  pub few_reading : (saver : ℕ) → role id ≡ Reads saver → AreFew role ((id, hist) ∷ []) (variable_key (record { saver = saver; key = key }))
  few_reading saver reads whose = grind (arith, reads)

  -- two of those who read what it saves are few for a saver, beside one of its own
  pub few_saving : (moves : Moved) → AreFew role ((id, hist) ∷ []) (own_key id key ++ moved_keys id key moves)
  few_saving moves whose = grind arith

-- ---- what changes under keys

-- readings stay, and nothing is recorded of them
pub readings_same : (before after : Option (List ReadingChange)) (old new : Shelves) → after ≡ before → SameFindings (kept_on old).read (kept_on new).read → ReadingsTold before after old new
readings_same before after old new same found = record { readings = []; told = tells_same before after same; lead = found }

-- readings change, and then others
pub readings_trans : {s t u : Option (List ReadingChange)} {a b c : Shelves} → ReadingsTold s t a b → ReadingsTold t u b c → ReadingsTold s u a c
readings_trans {s} {t} {u} {a} {b} {c} first then = record {
  readings = first.readings ++ then.readings;
  told = tells_trans first.readings then.readings s t u first.told then.told;
  lead = lead_trans first.readings then.readings (kept_on a).read (kept_on b).read (kept_on c).read first.lead then.lead;
}

-- nothing changes
pub under_nothing : (keys : List KeyChange) (told : Option (List ReadingChange)) (shelves : Shelves) → ChangeUnder keys told told shelves shelves
under_nothing keys told shelves = record { hits = λ id mark none. refl; readings = readings_same told told shelves shelves refl (λ id pos. refl) }

-- what changes under some keys changes under more
under_more : {before after : Option (List ReadingChange)} {old new : Shelves} (keys more : List KeyChange) → ((whose : Whose) (key : List Part) → is_told more whose key ≡ false → is_told keys whose key ≡ false)
    → ChangeUnder keys before after old new → ChangeUnder more before after old new
under_more {old = old} keys more among change = record { hits = λ id mark none. change.hits id mark (among (whose_of (role_on old id) id) mark.key none); readings = change.readings }

-- some changes, and then others
pub under_trans : {keys : List KeyChange} {s t u : Option (List ReadingChange)} {a b c : Shelves} → FormsStay a b → ChangeUnder keys s t a b → ChangeUnder keys t u b c → ChangeUnder keys s u a c
under_trans {keys} {a = a} {b = b} forms first then = record {
  hits = λ id mark none. then.hits id mark (ap (λ r. is_told keys (whose_of r id) mark.key) (roles_stay a b forms id) ∙ none) ∙ first.hits id mark none;
  readings = readings_trans first.readings then.readings;
}

-- ---- what is recorded

-- nothing
pub told_nothing : (told : Changes) (shelves : Shelves) → HasTold [] told told shelves shelves
told_nothing told shelves = record { told = tells_same told.keys told.keys refl; under = under_nothing [] told.readings shelves }

-- keys, and then what changes under them
pub then_under : {keys : List KeyChange} {before after : Changes} {begun : Option (List ReadingChange)} {old new : Shelves} → Tells keys before.keys after.keys → begun ≡ before.readings → ChangeUnder keys begun after.readings old new
    → HasTold keys before after old new
then_under {keys} {before} {after} {begun} {old} {new} tells same under = record { told = tells; under = subst (λ (o : Option (List ReadingChange)). ChangeUnder keys o after.readings old new) same under }

-- keys, and then others
pub told_trans : (xs ys : List KeyChange) {s t u : Changes} {a b c : Shelves} → FormsStay a b → HasTold xs s t a b → HasTold ys t u b c → HasTold (xs ++ ys) s u a c
told_trans xs ys {s} {t} {u} forms first then = record {
  told = tells_trans xs ys s.keys t.keys u.keys first.told then.told;
  under = under_trans forms (under_more xs (xs ++ ys) (λ whose key none. grind (arith, told-append, none)) first.under) (under_more ys (xs ++ ys) (λ whose key none. grind (arith, told-append, none)) then.under);
}

-- ---- triggers one by one

-- of all triggers some are left, and what the others changed is recorded
pub record IsToldOf (all left : List (ℕ × Hist)) (before now : Changes) (old new : Shelves) : Type 0 where
  pub keys : List KeyChange
  pub few : (whose : Whose) → length (keys_of whose keys) + most (role_on old) left whose ≤ most (role_on old) all whose
  pub told : HasTold keys before now old new

-- all are left
pub told_first : {all left : List (ℕ × Hist)} {told : Changes} {shelves : Shelves} → left ≡ all → IsToldOf all left told told shelves shelves
told_first {told = told} {shelves = shelves} same = record { keys = []; few = λ whose. grind (arith, same); told = told_nothing told shelves }

-- the first that is left is asked
pub told_more : {all left rest : List (ℕ × Hist)} {e : ℕ × Hist} {s t u : Changes} {a b c : Shelves} → left ≡ e ∷ rest → FormsStay a b → IsToldOf all left s t a b → HasToldFew (e ∷ []) t u b c → IsToldOf all rest s u a c
told_more {a = a} {b = b} more forms so_far then = record {
  keys = so_far.keys ++ then.keys;
  few = λ whose. grind (arith, so_far.few whose, then.few whose, more, roles_stay a b forms, filter-append, map-append, length-append);
  told = told_trans so_far.keys then.keys forms so_far.told then.told;
}

-- none is left
pub told_all : {all left : List (ℕ × Hist)} {before now : Changes} {old new : Shelves} → IsToldOf all left before now old new → HasToldFew all before now old new
told_all so_far = record { keys = so_far.keys; few = λ whose. grind (arith, so_far.few whose); told = so_far.told }
