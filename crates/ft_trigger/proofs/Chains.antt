-- Lists that grow item by item, as texts are read.
use Rattle.std.proofs.Common.{◌≡◌, ℕ, suc, true, List, [], ◌∷◌, ◌++◌, map, length, Some, Result, Ok, refl, sym, ap, ◌∙◌, append_assoc, append-nil}
use Rattle.std.proofs.lemmas.Bool.{and_from}
use Rattle.std.proofs.lemmas.List.Folds.{list_all-append}
use Rattle.std.specs.List.{list_all}
use Rattle.ft_hist.specs.declared.fault.TriggerFault.{TriggerFault}
use Rattle.ft_hist.specs.declared.fault.TriggerFault.TheVariants.{Syntax}
use Rattle.ft_text.specs.Items.{Piece, pieces, Word, word_of}
use Rattle.ft_head.specs.Draft.{given_or, items_from}
use Rattle.ft_hist.specs.Canonical.{more_items}
use Rattle.ft_trigger.proofs.Inversions.{then_parts, given_parts}
use Rattle.ft_text.proofs.Separators.{Free, is_bare, is_inner, bare_inner, pieces_first, pieces_last}

-- a list grows by others, one by one, as the step says
abbrev pub Chain : {A : Type 0} → (List A → A → Type 0) → List A → List A → Type 0
Chain step list [] = Unit {0}
Chain step list (a ∷ more) = step list a × Chain step (list ++ a ∷ []) more

-- what has been added to a list by its items
pub record Grown {A : Type 0} (step : List A → A → Type 0) (list result : List A) (count : ℕ) : Type 0 where
  pub added : List A
  pub is : result ≡ list ++ added
  pub chain : Chain step list added
  pub counted : length added ≡ count

-- an item in front of others
regrouped : {A : Type 0} (list : List A) (a : A) (more result : List A) → result ≡ (list ++ a ∷ []) ++ more → result ≡ list ++ a ∷ more
regrouped list a more result e = e ∙ append_assoc list (a ∷ []) more

-- one item more
counted_more : {A : Type 0} (a : A) (list : List A) (count : ℕ) → length list ≡ count → length (a ∷ list) ≡ suc count
counted_more a list count e = ap suc e

-- the texts of items can stand in a part
pub chain_inner : {A : Type 0} (step : List A → A → Type 0) (text : A → List ℕ) → ((list : List A) (a : A) → step list a → list_all is_bare (text a) ≡ true)
    → (more list : List A) → Chain step list more → list_all is_inner (more_items (map text more)) ≡ true
chain_inner step text bare [] list chain = refl
chain_inner step text bare (a ∷ more) list chain =
    list_all-append is_inner (text a) (more_items (map text more)) ∙ and_from _ _ (bare_inner (text a) (bare list a chain.0)) (chain_inner step text bare more (list ++ a ∷ []) chain.1)

module _ {A : Type 0} (add : List A → ℕ → Word → Result (List A) TriggerFault) (step : List A → A → Type 0) where
  -- an item that is added makes a step
  abbrev pub Steps : Type 0
  Steps = (list more : List A) (place : ℕ) (bytes : List ℕ) (word : Word) → word_of bytes ≡ Some word → add list place word ≡ Ok more → (a : A) × (more ≡ list ++ a ∷ []) × step list a

  -- items that are added make steps
  pub items_grow : Steps → (items : List Piece) (list result : List A) → items_from add list items ≡ Ok result → Grown step list result (length items)
  items_grow steps [] list result e = record { added = []; is = (let same : list ≡ result = cc in sym same ∙ sym (append-nil list)); chain = tt; counted = refl }
  items_grow steps (item ∷ items) list result e =
      let more = then_parts (given_or (Syntax item.place) (word_of item.bytes) (add list item.place)) (λ more. items_from add more items) result e in
      let word = given_parts (Syntax item.place) (word_of item.bytes) (add list item.place) more.0 more.1 in
      let one = steps list more.0 item.place item.bytes word.0 word.1 word.2 in
      let rest = items_grow steps items (list ++ one.0 ∷ []) result (ap (λ (l : List A). items_from add l items) (sym one.1) ∙ more.2) in
      record { added = one.0 ∷ rest.added; is = regrouped list one.0 rest.added result rest.is; chain = (one.2, rest.chain); counted = counted_more one.0 rest.added (length items) rest.counted }

  -- an item's text makes the item again
  pub record Again (text : List ℕ) (list : List A) (a : A) : Type 0 where
    pub free : Free 44 text
    pub word : Word
    pub reads : word_of text ≡ Some word
    pub adds : (place : ℕ) → add list place word ≡ Ok (list ++ a ∷ [])

  -- one item is read
  one_again : (text : List ℕ) (list : List A) (a : A) (place : ℕ) (items : List Piece) → Again text list a
      → items_from add list (record { place = place; bytes = text } ∷ items) ≡ items_from add (list ++ a ∷ []) items
  one_again text list a place items again = rw (again.reads, again.adds place) refl

  -- items are read
  pub items_again : (text : A → List ℕ) → ((list : List A) (a : A) → step list a → Again (text a) list a) → (more : List A) (list : List A) (a : A) (place : ℕ)
      → step list a → Chain step (list ++ a ∷ []) more → items_from add list (pieces 44 place (text a ++ more_items (map text more))) ≡ Ok (list ++ a ∷ more)
  items_again text agains [] list a place one chain =
      let again = agains list a one in
      ap (λ (t : List ℕ). items_from add list (pieces 44 place t)) (append-nil (text a)) ∙ ap (items_from add list) (pieces_last 44 place (text a) again.free)
      ∙ one_again (text a) list a place [] again
  items_again text agains (b ∷ more) list a place one chain =
      let again = agains list a one in
      let cut = pieces_first 44 place (text a) (text b ++ more_items (map text more)) again.free in
      ap (items_from add list) cut.1 ∙ one_again (text a) list a place (pieces 44 cut.0 (text b ++ more_items (map text more))) again
      ∙ items_again text agains more (list ++ a ∷ []) b cut.0 chain.0 chain.1 ∙ ap Ok (append_assoc list (a ∷ []) (b ∷ more))
