-- Each event that has a name is found by it, and what is found has the name.
use Rattle.std.proofs.Common.{◌≡◌, ℕ, true, false, List, Option, Some, None, refl, ap, subst}
use Rattle.std.specs.Option.{option_map_or}
use Rattle.std.specs.Str.{bytes_eq}
use Rattle.std.proofs.lemmas.Slice.Eq.{bytes_eq-Decides}
use Rattle.ft_fields.specs.declared.event.Name.{Name}
use Rattle.ft_fields.specs.declared.event.Name.TheVariants as names
use Rattle.ft_fields.specs.Names.{name_text, all_names, is_called, name_called}
use Rattle.ft_fields.proofs.FieldTable.{find_passes}

own_text : (text : List ℕ) (own : Option (List ℕ)) → option_map_or (λ o. bytes_eq o text) own false ≡ true → own ≡ Some text
own_text text None e = cc
own_text text (Some own) e = ap Some ((bytes_eq-Decides own text).0 e)

pub name_passes : (text : List ℕ) (name : Name) → name_called text ≡ Some name → name_text name ≡ Some text
name_passes text name e = own_text text (name_text name) (find_passes (is_called text) all_names name e)

same_text : (own text : List ℕ) → Some own ≡ Some text → own ≡ text
same_text own text e = cc

pub name_found : (text : List ℕ) (name : Name) → name_text name ≡ Some text → name_called text ≡ Some name
name_found text names.Waking e = subst (λ t. name_called t ≡ Some names.Waking) (same_text _ _ e) refl
name_found text names.Wakeup e = subst (λ t. name_called t ≡ Some names.Wakeup) (same_text _ _ e) refl
name_found text names.WakeupNew e = subst (λ t. name_called t ≡ Some names.WakeupNew) (same_text _ _ e) refl
name_found text names.Switch e = subst (λ t. name_called t ≡ Some names.Switch) (same_text _ _ e) refl
name_found text names.WakeupLatency e = subst (λ t. name_called t ≡ Some names.WakeupLatency) (same_text _ _ e) refl
name_found text names.Other e = cc
