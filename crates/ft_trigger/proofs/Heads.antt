-- The parts of a canonical head are read as what they were written for.
use Rattle.std.proofs.Common.{◌≡◌, ◌+◌, ℕ, true, List, [], ◌∷◌, ◌++◌, map, Option, Some, None, Result, Ok, refl, ap, ◌∙◌, codes, decimal, append-nil}
use Rattle.std.proofs.lemmas.Bool.{and_from}
use Rattle.std.proofs.lemmas.List.Folds.{list_all-append}
use Rattle.std.specs.List.{list_all}
use Rattle.ft_fields.specs.declared.event.Name.{Name}
use Rattle.ft_hist.specs.declared.fault.TriggerFault.{TriggerFault}
use Rattle.ft_hist.specs.declared.fault.TriggerFault.TheVariants.{BadSize}
use Rattle.ft_hist.specs.declared.item.KeyItem.{KeyItem}
use Rattle.ft_hist.specs.declared.label.Var.{Var}
use Rattle.ft_hist.specs.Canonical.{listed, more_items, key_item_text}
use Rattle.ft_head.specs.Draft.{Draft, empty_draft, ◌>>=◌, given_or, besides_hitcount, with_key, with_kind, with_part, parts_from}
use Rattle.ft_head.specs.Onmatch.{Action}
use Rattle.ft_text.specs.Items.{pieces, Word}
use Rattle.ft_trigger.proofs.Actions.{ActionFits, action_bytes}
use Rattle.ft_trigger.proofs.Chains.{Chain, items_again, chain_inner}
use Rattle.ft_trigger.proofs.Drafts.{If}
use Rattle.ft_trigger.proofs.Keyed.{KeyFits, key_again, key_bare}
use Rattle.ft_head.proofs.Numerals.{SizeFits}
use Rattle.ft_text.proofs.Separators.{is_inner, is_seen, bare_inner, inner_free, inner_seen, pieces_first, pieces_last}
use Rattle.ft_trigger.proofs.Sorted.{SortFits, directed, sorts_again, sorts_inner}
use Rattle.ft_text.proofs.Spellings.{word_text}
use Rattle.ft_trigger.proofs.Valued.{ValueFits, hits, values_again, values_inner}
use Rattle.ft_trigger.proofs.Variables.{VarFits, var_bytes}

-- ---- parts, one by one

-- one part is read, and then those after it
part_step : (event : Name) (draft more : Draft) (part rest : List ℕ) (answer : Result Draft TriggerFault) (place : ℕ) → list_all is_inner part ≡ true
    → ((p : ℕ) → with_part event draft (record { place = p; bytes = part }) ≡ Ok more) → ((p : ℕ) → parts_from event more (pieces 58 p rest) ≡ answer)
    → parts_from event draft (pieces 58 place (part ++ 58 ∷ rest)) ≡ answer
unfolding parts_from
part_step event draft more part rest answer place inner reads later =
    let cut = pieces_first 58 place part rest (inner_free part inner) in
    ap (parts_from event draft) cut.1 ∙ ap (λ (r : Result Draft TriggerFault). r >>= (λ next. parts_from event next (pieces 58 cut.0 rest))) (reads place) ∙ later cut.0

-- the last part is read
part_last : (event : Name) (draft more : Draft) (part : List ℕ) (place : ℕ) → list_all is_inner part ≡ true → with_part event draft (record { place = place; bytes = part }) ≡ Ok more
    → parts_from event draft (pieces 58 place part) ≡ Ok more
unfolding parts_from
part_last event draft more part place inner reads =
    ap (parts_from event draft) (pieces_last 58 place part (inner_free part inner)) ∙ ap (λ (r : Result Draft TriggerFault). r >>= (λ next. parts_from event next [])) reads

-- what has been read after the keys
abbrev keyed : List KeyItem → Draft
keyed keys = record { keys = Some keys; values = None; sort = None; size = None; variable = None; onmatch = None }

-- what has been read after the values
abbrev valued : List KeyItem → List Word → Draft
valued keys values = record { keys = Some keys; values = Some values; sort = None; size = None; variable = None; onmatch = None }

-- what has been read after the variable
abbrev labelled : List KeyItem → List Word → Option Var → Draft
labelled keys values variable = record { keys = Some keys; values = Some values; sort = None; size = None; variable = variable; onmatch = None }

-- what has been read after the sort items
abbrev sorted : List KeyItem → List Word → Option Var → List Word → Draft
sorted keys values variable sort = record { keys = Some keys; values = Some values; sort = Some sort; size = None; variable = variable; onmatch = None }

-- what has been read in the end
abbrev pub whole : List KeyItem → List Word → Option Var → List Word → ℕ → Option Action → Draft
whole keys values variable sort size onmatch = record { keys = Some keys; values = Some values; sort = Some sort; size = Some size; variable = variable; onmatch = onmatch }

-- what is after a size: what events are made of, if that stands
abbrev pub behind_size : Option Action → List ℕ
behind_size None = []
behind_size (Some action) = 58 ∷ action_bytes action

-- a size's part, and what is after it
abbrev size_part : ℕ → Option Action → List ℕ
size_part size onmatch = codes "size=" ++ (decimal size ++ behind_size onmatch)

-- the sort items' part, and what is after it
abbrev sort_part : List Word → ℕ → Option Action → List ℕ
sort_part sort size onmatch = codes "sort=" ++ (listed (map word_text (map directed sort)) ++ 58 ∷ size_part size onmatch)

-- a variable's part, and what is after it
abbrev pub behind_values : Option Var → List ℕ → List ℕ
behind_values None rest = rest
behind_values (Some variable) rest = var_bytes variable ++ 58 ∷ rest

module _ (event : Name) where
  -- keys are read
  keys_read : (key : KeyItem) (keys : List KeyItem) (place : ℕ) → Chain (KeyFits event) [] (key ∷ keys)
      → with_part event empty_draft (record { place = place; bytes = codes "keys=" ++ listed (map key_item_text (key ∷ keys)) }) ≡ Ok (keyed (key ∷ keys))
  unfolding with_part with_kind
  keys_read key keys place chain =
      ap (λ (r : Result (List KeyItem) TriggerFault). r >>= (λ keys. Ok (keyed keys))) (items_again (with_key event) (KeyFits event) key_item_text (key_again event) keys [] key (place + 5) chain.0 chain.1)

  -- values are read
  values_read : (keys : List KeyItem) (values : List Word) (place : ℕ) → Chain (ValueFits event) [] values
      → with_part event (keyed keys) (record { place = place; bytes = codes "vals=hitcount" ++ more_items (map word_text (besides_hitcount values)) }) ≡ Ok (valued keys (hits ∷ besides_hitcount values))
  unfolding with_part with_kind
  values_read keys values place chain = ap (λ (r : Result (List Word) TriggerFault). r >>= (λ words. Ok (valued keys words))) (values_again event values (place + 5) chain)

  -- a variable is read
  variable_read : (keys : List KeyItem) (values : List Word) (variable : Var) (place : ℕ) → VarFits event variable
      → with_part event (valued keys values) (record { place = place; bytes = var_bytes variable }) ≡ Ok (labelled keys values (Some variable))
  unfolding with_part
  variable_read keys values variable place fits = rw (fits.kept, fits.apart) (fits.adds (valued keys values) place refl)

  -- sort items are read
  sorts_read : (keys : List KeyItem) (values : List Word) (variable : Option Var) (word : Word) (more : List Word) (place : ℕ) → Chain SortFits [] (word ∷ more)
      → with_part event (labelled keys values variable) (record { place = place; bytes = codes "sort=" ++ listed (map word_text (map directed (word ∷ more))) }) ≡ Ok (sorted keys values variable (map directed (word ∷ more)))
  unfolding with_part with_kind
  sorts_read keys values variable word more place chain = ap (λ (r : Result (List Word) TriggerFault). r >>= (λ words. Ok (sorted keys values variable words))) (sorts_again word more (place + 5) chain)

  -- a size is read
  size_read : (keys : List KeyItem) (values : List Word) (variable : Option Var) (sort : List Word) (size place : ℕ) → SizeFits size
      → with_part event (sorted keys values variable sort) (record { place = place; bytes = codes "size=" ++ decimal size }) ≡ Ok (whole keys values variable sort size None)
  unfolding with_part with_kind
  size_read keys values variable sort size place fits = ap (λ (o : Option ℕ). given_or BadSize o (λ size. Ok (whole keys values variable sort size None))) fits.reads

  -- what events are made of is read
  action_read : (keys : List KeyItem) (values : List Word) (variable : Option Var) (sort : List Word) (size : ℕ) (action : Action) (place : ℕ) → ActionFits event action
      → with_part event (whole keys values variable sort size None) (record { place = place; bytes = action_bytes action }) ≡ Ok (whole keys values variable sort size (Some action))
  unfolding with_part
  action_read keys values variable sort size action place fits = fits.adds (whole keys values variable sort size None) place refl

  -- ---- heads

  -- what a head is made of
  pub record Told : Type 0 where
    pub key : KeyItem
    pub keys : List KeyItem
    pub values : List Word
    pub word : Word
    pub words : List Word
    pub size : ℕ
    pub variable : Option Var
    pub keys_fit : Chain (KeyFits event) [] (key ∷ keys)
    pub values_fit : Chain (ValueFits event) [] values
    pub words_fit : Chain SortFits [] (word ∷ words)
    pub size_fits : SizeFits size
    pub variable_fits : If (VarFits event) variable
    pub onmatch : Option Action
    pub onmatch_fits : If (ActionFits event) onmatch

  -- a head after `hist:`
  abbrev pub body : Told → List ℕ
  body t =
      codes "keys=" ++ (listed (map key_item_text (t.key ∷ t.keys)) ++ 58 ∷ (codes "vals=hitcount" ++ (more_items (map word_text (besides_hitcount t.values)) ++ 58 ∷ behind_values t.variable (sort_part (t.word ∷ t.words) t.size t.onmatch))))

  -- what is read of it
  abbrev pub told : Told → Draft
  told t = whole (t.key ∷ t.keys) (hits ∷ besides_hitcount t.values) t.variable (map directed (t.word ∷ t.words)) t.size t.onmatch

  -- a size is read at the end, or before what events are made of
  size_then : (keys : List KeyItem) (values : List Word) (variable : Option Var) (sort : List Word) (size place : ℕ) (onmatch : Option Action) → SizeFits size → If (ActionFits event) onmatch
      → parts_from event (sorted keys values variable sort) (pieces 58 place (size_part size onmatch)) ≡ Ok (whole keys values variable sort size onmatch)
  size_then keys values variable sort size place None fits made =
      ap (λ (t : List ℕ). parts_from event (sorted keys values variable sort) (pieces 58 place (codes "size=" ++ t))) (append-nil (decimal size))
      ∙ part_last event _ (whole keys values variable sort size None) (codes "size=" ++ decimal size) place (bare_inner (decimal size) fits.bare) (size_read keys values variable sort size place fits)
  size_then keys values variable sort size place (Some action) fits made =
      part_step event _ (whole keys values variable sort size None) (codes "size=" ++ decimal size) (action_bytes action) (Ok (whole keys values variable sort size (Some action))) place (bare_inner (decimal size) fits.bare)
      (λ p. size_read keys values variable sort size p fits)
      (λ p. part_last event _ (whole keys values variable sort size (Some action)) (action_bytes action) p made.inner (action_read keys values variable sort size action p made))

  -- so it is in a head
  size_ends : (t : Told) (place : ℕ) → parts_from event (sorted (t.key ∷ t.keys) (hits ∷ besides_hitcount t.values) t.variable (map directed (t.word ∷ t.words))) (pieces 58 place (size_part t.size t.onmatch)) ≡ Ok (told t)
  size_ends t place = size_then (t.key ∷ t.keys) (hits ∷ besides_hitcount t.values) t.variable (map directed (t.word ∷ t.words)) t.size place t.onmatch t.size_fits t.onmatch_fits

  -- sort items are read before it
  sort_ends : (t : Told) (place : ℕ) → parts_from event (labelled (t.key ∷ t.keys) (hits ∷ besides_hitcount t.values) t.variable) (pieces 58 place (sort_part (t.word ∷ t.words) t.size t.onmatch)) ≡ Ok (told t)
  sort_ends t place =
      part_step event _ _ (codes "sort=" ++ listed (map word_text (map directed (t.word ∷ t.words)))) (size_part t.size t.onmatch) (Ok (told t)) place (sorts_inner t.word t.words t.words_fit)
      (λ p. sorts_read _ _ t.variable t.word t.words p t.words_fit) (size_ends t)

  -- a variable is read before others, if one stands
  behind_read : (keys : List KeyItem) (values : List Word) (variable : Option Var) (rest : List ℕ) (answer : Result Draft TriggerFault) (place : ℕ) → If (VarFits event) variable
      → ((p : ℕ) → parts_from event (labelled keys values variable) (pieces 58 p rest) ≡ answer) → parts_from event (valued keys values) (pieces 58 place (behind_values variable rest)) ≡ answer
  behind_read keys values None rest answer place fits later = later place
  behind_read keys values (Some variable) rest answer place fits later =
      part_step event (valued keys values) (labelled keys values (Some variable)) (var_bytes variable) rest answer place fits.inner (λ p. variable_read keys values variable p fits) later

  -- so it is before the sort items
  variable_ends : (t : Told) (place : ℕ) → parts_from event (valued (t.key ∷ t.keys) (hits ∷ besides_hitcount t.values)) (pieces 58 place (behind_values t.variable (sort_part (t.word ∷ t.words) t.size t.onmatch))) ≡ Ok (told t)
  variable_ends t place = behind_read (t.key ∷ t.keys) (hits ∷ besides_hitcount t.values) t.variable (sort_part (t.word ∷ t.words) t.size t.onmatch) (Ok (told t)) place t.variable_fits (sort_ends t)

  -- values are read before it
  values_end : (t : Told) (place : ℕ) → parts_from event (keyed (t.key ∷ t.keys))
      (pieces 58 place (codes "vals=hitcount" ++ (more_items (map word_text (besides_hitcount t.values)) ++ 58 ∷ behind_values t.variable (sort_part (t.word ∷ t.words) t.size t.onmatch)))) ≡ Ok (told t)
  values_end t place =
      part_step event _ _ (codes "vals=hitcount" ++ more_items (map word_text (besides_hitcount t.values))) (behind_values t.variable (sort_part (t.word ∷ t.words) t.size t.onmatch)) (Ok (told t)) place (values_inner event t.values t.values_fit)
      (λ p. values_read _ t.values p t.values_fit) (variable_ends t)

  -- the texts of keys can stand in a part
  keys_inner : (key : KeyItem) (keys : List KeyItem) → Chain (KeyFits event) [] (key ∷ keys) → list_all is_inner (listed (map key_item_text (key ∷ keys))) ≡ true
  keys_inner key keys chain =
      list_all-append is_inner (key_item_text key) (more_items (map key_item_text keys))
      ∙ and_from _ _ (bare_inner (key_item_text key) (key_bare event [] key chain.0)) (chain_inner (KeyFits event) key_item_text (key_bare event) keys (key ∷ []) chain.1)

  -- a head is read
  pub head_again : (t : Told) (place : ℕ) → parts_from event empty_draft (pieces 58 place (body t)) ≡ Ok (told t)
  head_again t place =
      part_step event _ _ (codes "keys=" ++ listed (map key_item_text (t.key ∷ t.keys))) (codes "vals=hitcount" ++ (more_items (map word_text (besides_hitcount t.values)) ++ 58 ∷ behind_values t.variable (sort_part (t.word ∷ t.words) t.size t.onmatch)))
      (Ok (told t)) place (keys_inner t.key t.keys t.keys_fit) (λ p. keys_read t.key t.keys p t.keys_fit) (values_end t)

  -- ---- no space and no tab stands in a head

  -- two texts without one
  seen_both : (a b : List ℕ) → list_all is_inner a ≡ true → list_all is_seen b ≡ true → list_all is_seen (a ++ b) ≡ true
  seen_both a b inner seen = list_all-append is_seen a b ∙ and_from _ _ (inner_seen a inner) seen

  -- a variable's part has none
  behind_seen : (variable : Option Var) (rest : List ℕ) → If (VarFits event) variable → list_all is_seen rest ≡ true → list_all is_seen (behind_values variable rest) ≡ true
  behind_seen None rest fits seen = seen
  behind_seen (Some variable) rest fits seen = seen_both (var_bytes variable) (58 ∷ rest) fits.inner seen

  -- what events are made of has none
  behind_size_seen : (onmatch : Option Action) → If (ActionFits event) onmatch → list_all is_seen (behind_size onmatch) ≡ true
  behind_size_seen None made = refl
  behind_size_seen (Some action) made = inner_seen (action_bytes action) made.inner

  -- the sort items' part has none
  sort_seen : (t : Told) → list_all is_seen (sort_part (t.word ∷ t.words) t.size t.onmatch) ≡ true
  sort_seen t =
      seen_both (listed (map word_text (map directed (t.word ∷ t.words)))) (58 ∷ size_part t.size t.onmatch) (sorts_inner t.word t.words t.words_fit)
      (seen_both (decimal t.size) (behind_size t.onmatch) (bare_inner (decimal t.size) t.size_fits.bare) (behind_size_seen t.onmatch t.onmatch_fits))

  -- a head has none
  pub body_seen : (t : Told) → list_all is_seen (body t) ≡ true
  body_seen t =
      seen_both (listed (map key_item_text (t.key ∷ t.keys))) (58 ∷ (codes "vals=hitcount" ++ (more_items (map word_text (besides_hitcount t.values)) ++ 58 ∷ behind_values t.variable (sort_part (t.word ∷ t.words) t.size t.onmatch))))
      (keys_inner t.key t.keys t.keys_fit)
      (seen_both (more_items (map word_text (besides_hitcount t.values))) (58 ∷ behind_values t.variable (sort_part (t.word ∷ t.words) t.size t.onmatch)) (values_inner event t.values t.values_fit)
      (behind_seen t.variable (sort_part (t.word ∷ t.words) t.size t.onmatch) t.variable_fits (sort_seen t)))
