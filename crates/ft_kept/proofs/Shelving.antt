-- Shelves that change in one part, and the shelves of which one changes.
use Rattle.std.proofs.Common.{◌≡◌, ℕ, MutBor, OnSome, refl, sym, ap, subst, ◌∙◌, None, Some, Option, unwrap_or, is_some, true≢false}
use Rattle.std.specs.Cmp.{nat_cmp_total}
use Rattle.std.specs.FinMap as map
use Rattle.std.specs.Option.{option_copied_mut}
use Rattle.std.proofs.lemmas.Map.Lookups.{exact_unsigned}
use Rattle.ft_maps.specs.Entries.{get-insert_same, get-insert_other}
use Rattle.ft_shelves.specs.Shelves.{ChangesShelf, Shelved, Shelves}

module _ (id : ℕ) (Change : Shelved → Shelved → Type 0) (old : Shelves) where
  -- a changed shelf is written back
  pub shelf_changes : (shelf after : Shelved) → map.get old id ≡ Some shelf → Change shelf after → ChangesShelf id Change old (map.insert old id after)
  shelf_changes shelf after was change = record {
    others = λ i apart. get-insert_other nat_cmp_total exact_unsigned old id after i apart;
    none = λ none. absurd (true≢false (sym (ap is_some was) ∙ ap is_some none));
    here = λ s is. (after, (get-insert_same nat_cmp_total old id after, subst (λ x. Change x after) (ap (λ (o : Option Shelved). unwrap_or o s) (sym was ∙ is)) change));
  }

  -- if there is no shelf, none changes
  pub none_changes : map.get old id ≡ None → ChangesShelf id Change old old
  none_changes none = record {
    others = λ i apart. refl;
    none = λ same. same;
    here = λ s is. absurd (true≢false (sym (ap is_some is) ∙ ap is_some none));
  }

-- ---- a shelf that is lent

-- one shelf was there and is written back, and the others stay
pub record IsPutBack (id : ℕ) (shelf after : Shelved) (old new : Shelves) : Type 0 where
  pub was : map.get old id ≡ Some shelf
  pub is : map.get new id ≡ Some after
  pub others : (i : ℕ) → (i ≡ id → ⊥) → map.get new i ≡ map.get old i

module _ (id : ℕ) (old : Shelves) (result : Option (MutBor Shelved)) (lent : MutBor Shelved) (is : result ≡ Some lent) (value : option_copied_mut result ≡ map.get old id) where
  -- it was there
  pub lent_was : map.get old id ≡ Some lent.now
  lent_was = sym value ∙ ap option_copied_mut is

  module _ (new : Shelves) (after : Shelved) (back : OnSome result (new ≡ map.insert old id after)) where
    -- and is written back
    pub lent_back : new ≡ map.insert old id after
    lent_back = subst (λ (r : Option (MutBor Shelved)). OnSome r (new ≡ map.insert old id after)) is back

    pub put_back : IsPutBack id lent.now after old new
    put_back = subst (IsPutBack id lent.now after old) (sym lent_back) (record {
      was = lent_was;
      is = get-insert_same nat_cmp_total old id after;
      others = get-insert_other nat_cmp_total exact_unsigned old id after;
    })

    -- so one shelf changes as it did
    pub lent_changes : (Change : Shelved → Shelved → Type 0) → Change lent.now after → ChangesShelf id Change old new
    lent_changes Change changed = subst (ChangesShelf id Change old) (sym lent_back) (shelf_changes id Change old lent.now after lent_was changed)
