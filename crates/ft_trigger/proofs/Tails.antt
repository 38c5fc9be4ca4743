-- The tail of a canonical text is read as the filter that it was written for.
use Rattle.std.proofs.Common.{◌≡◌, ℕ, Bool, true, false, List, [], ◌∷◌, ◌++◌, length, Option, Some, None, Result, Ok, Err, refl, sym, ap, ◌∙◌, subst, codes, cond, one-add, ◌==◌}
use Rattle.std.proofs.Math.Dec.{eqb-suc-zero}
use Rattle.std.proofs.lemmas.List.{reverse-append, reverse-reverse}
use Rattle.std.specs.Prelude.{reverse}
use Rattle.std.specs.List.{prefix_len}
use Rattle.ft_fields.specs.declared.event.Name.{Name}
use Rattle.ft_filter.specs.declared.fault.FilterFault.{FilterFault}
use Rattle.ft_filter.specs.Answers.{filter_of}
use Rattle.ft_filter.specs.Canonical.{canonical as filter_text}
use Rattle.ft_filter.specs.FilterIs.{FilterIs}
use Rattle.ft_filter.specs.Tree.{Tree}
use Rattle.ft_text.specs.Tokens.{is_gap, skip}
use Rattle.ft_hist.specs.declared.fault.TriggerFault.TheVariants.{Syntax}
use Rattle.ft_hist.specs.Canonical.{if_text}
use Rattle.ft_head.specs.Draft.{given_or}
use Rattle.ft_trigger.specs.TriggerIs.{behind_if, filter_or_fault, tail_filter}
use Rattle.ft_trigger.proofs.Drafts.{If}
use Rattle.ft_trigger.proofs.Edges.{Opens, Closes, Edged, filter_edged}
use Rattle.ft_trigger.proofs.Inversions.{given_parts}
use Rattle.ft_text.proofs.Separators.{is_seen}

-- the grammar of filters relates one answer to a text
pub record OneFilter : Type 0 where
  pub some : (event : Name) (text : List ℕ) → FilterIs event text (filter_of event text)
  pub one : (event : Name) (text : List ℕ) (answer : Result Tree FilterFault) → FilterIs event text answer → answer ≡ filter_of event text

-- and relates a tree's text to it
pub record FilterLaws : Type 0 where
  pub answers : OneFilter
  pub again : (event : Name) (text : List ℕ) (tree : Tree) → FilterIs event text (Ok tree) → FilterIs event (filter_text tree) (Ok tree)

-- some text gives the tree
pub record TreeFits (event : Name) (tree : Tree) : Type 0 where
  pub text : List ℕ
  pub gives : filter_of event text ≡ Ok tree

-- ---- gaps

-- a text without the spaces and tabs at its ends
abbrev pub trimmed : List ℕ → List ℕ
trimmed text = reverse (skip (reverse (skip text)))

-- a space in front is passed
skip_gap : (text : List ℕ) → skip (32 ∷ text) ≡ skip text
skip_gap text = rw one-add refl

-- a text that no space and no tab begins
pub skip_none : (byte : ℕ) (text : List ℕ) → is_gap byte ≡ false → skip (byte ∷ text) ≡ byte ∷ text
skip_none byte text h = rw h refl

-- a text that no space and no tab ends
trimmed_end : (text : List ℕ) → Closes text → reverse (skip (reverse text)) ≡ text
trimmed_end text h =
    let back : reverse text ≡ h.byte ∷ reverse h.front = ap reverse h.is ∙ reverse-append h.front (h.byte ∷ []) in
    let kept : skip (reverse text) ≡ reverse text = ap skip back ∙ skip_none h.byte (reverse h.front) h.seen ∙ sym back in
    ap reverse kept ∙ reverse-reverse text

-- a filter's part begins with a gap
pub if_gap : (filter : Option Tree) → prefix_len is_seen (if_text filter) ≡ 0
if_gap None = refl
if_gap (Some tree) = refl

-- a filter's part without the gaps at its ends
if_trimmed : (text : List ℕ) → Edged text → trimmed (codes " if " ++ text) ≡ codes "if " ++ text
if_trimmed text h =
    let kept : skip (codes " if " ++ text) ≡ codes "if " ++ text = skip_gap (codes "if " ++ text) ∙ skip_none 105 (102 ∷ 32 ∷ text) refl in
    ap (λ (t : List ℕ). reverse (skip (reverse t))) kept
    ∙ trimmed_end (codes "if " ++ text) (record { front = codes "if " ++ h.closes.front; byte = h.closes.byte; is = ap (λ (t : List ℕ). codes "if " ++ t) h.closes.is; seen = h.closes.seen })

-- ---- filters

-- what is after `if`
behind_again : (text : List ℕ) → Opens text → behind_if (codes "if " ++ text) ≡ Some text
behind_again text h =
    let kept : skip text ≡ text = ap skip h.is ∙ skip_none h.byte h.rest h.seen ∙ sym h.is in
    ap Some (skip_gap text ∙ kept)

-- a filter after `if` is read
pub filter_step : (event : Name) (place : ℕ) (tail text : List ℕ) (tree : Tree) → (length tail == 0) ≡ false → behind_if tail ≡ Some text → filter_of event text ≡ Ok tree → tail_filter event place tail ≡ Ok (Some tree)
unfolding tail_filter
filter_step event place tail text tree some is gives = rw (some, is, gives) refl

-- no filter is read of nothing
pub filter_none : (event : Name) (place : ℕ) → tail_filter event place [] ≡ Ok None
unfolding tail_filter
filter_none event place = refl

module _ (laws : FilterLaws) where
  -- the tree's text gives it
  tree_again : (event : Name) (tree : Tree) → TreeFits event tree → (filter_of event (filter_text tree) ≡ Ok tree) × Edged (filter_text tree)
  tree_again event tree h =
      let reads : FilterIs event h.text (Ok tree) = subst (FilterIs event h.text) h.gives (laws.answers.some event h.text) in
      (sym (laws.answers.one event (filter_text tree) (Ok tree) (laws.again event h.text tree reads)), filter_edged event h.text tree reads)

  -- a filter's part is read
  pub filter_again : (event : Name) (place : ℕ) (filter : Option Tree) → If (TreeFits event) filter → tail_filter event place (trimmed (if_text filter)) ≡ Ok filter
  filter_again event place None h = filter_none event place
  filter_again event place (Some tree) h =
      let again = tree_again event tree h in
      ap (tail_filter event place) (if_trimmed (filter_text tree) again.1)
      ∙ filter_step event place (codes "if " ++ filter_text tree) (filter_text tree) tree (eqb-suc-zero (length (102 ∷ 32 ∷ filter_text tree))) (behind_again (filter_text tree) again.1.opens) again.0

-- ---- what is read can be read

-- a tree that is read can be read
tree_fits : (event : Name) (text : List ℕ) (filter : Option Tree) (answer : Result Tree FilterFault) → filter_of event text ≡ answer → filter_or_fault answer ≡ Ok filter → If (TreeFits event) filter
tree_fits event text filter (Err fault) is e = absurd cc
tree_fits event text filter (Ok tree) is e = let same : Some tree ≡ filter = cc in subst (If (TreeFits event)) same (record { text = text; gives = is })

-- so can a filter
pub filter_fits : (event : Name) (place : ℕ) (tail : List ℕ) (filter : Option Tree) → tail_filter event place tail ≡ Ok filter → If (TreeFits event) filter
unfolding tail_filter
filter_fits event place tail filter e = from (length tail == 0) e
  where
    from : (b : Bool) → cond b (Ok None) (given_or (Syntax place) (behind_if tail) (λ text. filter_or_fault (filter_of event text))) ≡ Ok filter → If (TreeFits event) filter
    from true e = let same : None ≡ filter = cc in subst (If (TreeFits event)) same tt
    from false e =
        let text = given_parts (Syntax place) (behind_if tail) (λ text. filter_or_fault (filter_of event text)) filter e in
        tree_fits event text.0 filter (filter_of event text.0) refl text.2
