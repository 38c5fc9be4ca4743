-- What words name, from left to right.
use Rattle.std.proofs.Common.{◌≡◌, ℕ, ◌+◌, length, arith, Bool, true, false, not, List, [], ◌∷◌, ◌++◌, Option, Some, None, Result, Ok, Err, refl, sym, ap, ◌∙◌, append_assoc}
use Rattle.std.proofs.lemmas.List.{length-append}
use Rattle.std.proofs.lemmas.Option.{none-some}
use Rattle.std.specs.Result.{result_ok}
use Rattle.std.specs.Prelude.{codes, if◌then◌else◌}
use Rattle.ft_fields.specs.declared.event.Name.{Name}
use Rattle.ft_hist.specs.declared.fault.TriggerFault.{TriggerFault}
use Rattle.ft_hist.specs.declared.fault.TriggerFault.TheVariants.{NoField, BadSort}
use Rattle.ft_hist.specs.declared.item.KeyItem.{KeyItem}
use Rattle.ft_hist.specs.declared.item.Item.{Item}
use Rattle.ft_hist.specs.declared.item.SortBy.{SortBy}
use Rattle.ft_hist.specs.declared.item.SortItem.{SortItem}
use Rattle.ft_hist.specs.declared.label.Var.{Var}
use Rattle.ft_hist.specs.declared.label.Var.TheVariants as vars
use Rattle.ft_hist.specs.Canonical.{variable_name}
use Rattle.ft_text.specs.Items.{Word, is_word}
use Rattle.ft_head.specs.Draft.{◌>>=◌, given_or, besides_hitcount}
use Rattle.ft_trigger.specs.TriggerIs.{own_name, value_item, value_items, sort_by, sorts_of, is_descending}

-- what is still to be read, after what is read already
abbrev pub onto : {A : Type 0} → List A → Result (List A) TriggerFault → Result (List A) TriggerFault
onto done rest = rest >>= (λ more. Ok (done ++ more))

-- after nothing it stands for itself
pub onto_none : {A : Type 0} (rest : Result (List A) TriggerFault) → onto [] rest ≡ rest
onto_none (Ok more) = refl
onto_none (Err fault) = refl

-- one more that is read moves to what is read already
pub onto_more : {A : Type 0} (done : List A) (x : A) (rest : Result (List A) TriggerFault) → onto done (rest >>= (λ more. Ok (x ∷ more))) ≡ onto (done ++ x ∷ []) rest
onto_more done x (Ok more) = ap Ok (sym (append_assoc done (x ∷ []) more))
onto_more done x (Err fault) = refl

-- what is read already with what one more word names
abbrev pub with_word : Bool → Option Item → List Item → Result (List Item) TriggerFault
with_word hits value done = if hits then Ok done else given_or NoField value (λ value. Ok (done ++ value ∷ []))

-- the words besides `hitcount`, with one more in front
abbrev in_front : Bool → Word → List Word → List Word
in_front hits word words = if not hits then word ∷ words else words

-- what is kept: the new items, or the old ones if there is a fault
abbrev kept : List Item → Result (List Item) TriggerFault → List Item
kept done (Ok new) = new
kept done (Err fault) = done

-- a word that is read moves what it names to what is read already
pub values_step : (event : Name) (own : Option (List ℕ)) (done new : List Item) (word : Word) (words : List Word) → with_word (is_word word (codes "hitcount")) (value_item event own word) done ≡ Ok new → onto new (value_items event own (besides_hitcount words)) ≡ onto done (value_items event own (besides_hitcount (word ∷ words)))
values_step event own done new word words = by (is_word word (codes "hitcount")) (value_item event own word) refl
  where
    by : (hits : Bool) (value : Option Item) → value_item event own word ≡ value → with_word hits value done ≡ Ok new → onto new (value_items event own (besides_hitcount words)) ≡ onto done (value_items event own (in_front hits word (besides_hitcount words)))
    by true value is ok = ap (λ d. onto d (value_items event own (besides_hitcount words))) (sym (ap (kept done) ok))
    by false (Some value) is ok =
        ap (λ d. onto d (value_items event own (besides_hitcount words))) (sym (ap (kept done) ok))
        ∙ sym (rw is (onto_more done value (value_items event own (besides_hitcount words))))
    by false None is ok = absurd (none-some _ (ap result_ok ok))

-- a word with a fault
pub values_stop : (event : Name) (own : Option (List ℕ)) (done : List Item) (fault : TriggerFault) (word : Word) (words : List Word) → with_word (is_word word (codes "hitcount")) (value_item event own word) done ≡ Err fault → onto done (value_items event own (besides_hitcount (word ∷ words))) ≡ Err fault
values_stop event own done fault word words = by (is_word word (codes "hitcount")) (value_item event own word) refl
  where
    by : (hits : Bool) (value : Option Item) → value_item event own word ≡ value → with_word hits value done ≡ Err fault → onto done (value_items event own (in_front hits word (besides_hitcount words))) ≡ Err fault
    by true value is err = absurd (none-some _ (ap result_ok (sym err)))
    by false (Some value) is err = absurd (none-some _ (ap result_ok (sym err)))
    by false None is err = rw is err

-- a word that is read is one more value, or `hitcount`
pub values_count : (value : Option Item) (done new : List Item) (word : Word) (words : List Word) → with_word (is_word word (codes "hitcount")) value done ≡ Ok new → length new + length (besides_hitcount words) ≡ length done + length (besides_hitcount (word ∷ words))
values_count value done new word words = by (is_word word (codes "hitcount")) value
  where
    by : (hits : Bool) (value : Option Item) → with_word hits value done ≡ Ok new → length new + length (besides_hitcount words) ≡ length done + length (in_front hits word (besides_hitcount words))
    by true value ok = ap (λ d. length d + length (besides_hitcount words)) (sym (ap (kept done) ok))
    by false (Some value) ok =
        let more = ap length (ap (kept done) ok) in
        let len = length-append done (value ∷ []) in
        omega arith
    by false None ok = absurd (none-some _ (ap result_ok ok))

-- a word that names something to sort by
pub sorts_more : (keys : List KeyItem) (values : List Item) (own : Option (List ℕ)) (done : List SortItem) (word : Word) (words : List Word) (what : SortBy) → sort_by keys values own word ≡ Some what → onto done (sorts_of keys values own (word ∷ words)) ≡ onto (done ++ record { what = what; descending = is_descending word } ∷ []) (sorts_of keys values own words)
sorts_more keys values own done word words what is = rw is (onto_more done (record { what = what; descending = is_descending word }) (sorts_of keys values own words))

-- a word that names nothing to sort by
pub sorts_fault : (keys : List KeyItem) (values : List Item) (own : Option (List ℕ)) (done : List SortItem) (word : Word) (words : List Word) → sort_by keys values own word ≡ None → onto done (sorts_of keys values own (word ∷ words)) ≡ Err BadSort
sorts_fault keys values own done word words is = rw is refl

-- a trigger's variable has a name
pub own_named : (variable : Var) → own_name (Some variable) ≡ Some (variable_name (Some variable))
own_named (vars.Saves name) = refl
own_named (vars.Reads own source) = refl
