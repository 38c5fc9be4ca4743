-- Rows that are put into a table and taken out, as contracts see them.
use Rattle.std.proofs.Common.{◌≡◌, ℕ, Bool, true, false, cond, List, refl, sym, ap, ◌∙◌, Option, Some, None, Vec, Global}
use Rattle.std.specs.Prelude.{option_map, is_some, ◌||◌}
use Rattle.std.proofs.lemmas.Bool.{true≢false}
use Rattle.std.specs.Ordering.{eq_by_cmp}
use Rattle.std.specs.FinMap as finite
use Rattle.std.specs.FinMap.{FinMap, get-remove, same_map}
use Rattle.ft_fields.specs.declared.key.Part.{Part}
use Rattle.ft_fields.specs.Parts.{key_cmp}
use Rattle.ft_fields.specs.Orders.{key_cmp_total}
use Rattle.ft_fields.specs.Ties.{key_same}
use Rattle.ft_maps.specs.Mapped.{map_by, get-map_by, map_by-insert}
use Rattle.ft_watch.specs.ChangedRows.{Texts}

-- the bytes of a text
abbrev pub bytes_in : Vec ℕ Global → List ℕ
bytes_in text = text.items

-- texts as contracts see them
abbrev pub bytes_by : FinMap key_cmp (Vec ℕ Global) → Texts
bytes_by texts = map_by bytes_in texts

pub bytes_by-insert : (texts : FinMap key_cmp (Vec ℕ Global)) (key : List Part) (text : Vec ℕ Global) → bytes_by (finite.insert texts key text) ≡ finite.insert (bytes_by texts) key text.items
bytes_by-insert texts key text = map_by-insert bytes_in key_cmp_total key_same texts key text

pub bytes_by-remove : (texts : FinMap key_cmp (Vec ℕ Global)) (key : List Part) → bytes_by (finite.remove texts key) ≡ finite.remove (bytes_by texts) key
bytes_by-remove texts key = same_map key_cmp_total key_same _ _ (λ q.
    get-map_by bytes_in key_cmp_total (finite.remove texts key) q ∙ ap (option_map bytes_in) (get-remove key_cmp_total texts key q)
    ∙ by (eq_by_cmp key_cmp q key) (finite.get texts q)
    ∙ sym (get-remove key_cmp_total (bytes_by texts) key q ∙ ap (cond (eq_by_cmp key_cmp q key) None) (get-map_by bytes_in key_cmp_total texts q)))
  where
    by : (b : Bool) (o : Option (Vec ℕ Global)) → option_map bytes_in (cond b None o) ≡ cond b None (option_map bytes_in o)
    by true o = refl
    by false o = refl

-- a key that is in neither of two tables has no row in either
pub both_absent : (keys : FinMap key_cmp (Unit {0})) (a b : FinMap key_cmp (Vec ℕ Global)) (before now : Texts) (key : List Part) → bytes_by a ≡ before → bytes_by b ≡ now
    → is_some (finite.get keys key) ≡ (is_some (finite.get a key) || is_some (finite.get b key)) → finite.get keys key ≡ None → finite.get now key ≡ finite.get before key
both_absent keys a b before now key is_before is_now either none =
    ap (λ (t : Texts). finite.get t key) (sym is_now) ∙ get-map_by bytes_in key_cmp_total b key
    ∙ by (finite.get a key) (finite.get b key) (sym either ∙ ap is_some none)
    ∙ sym (get-map_by bytes_in key_cmp_total a key) ∙ ap (λ (t : Texts). finite.get t key) is_before
  where
    by : (o p : Option (Vec ℕ Global)) → (is_some o || is_some p) ≡ false → option_map bytes_in p ≡ option_map bytes_in o
    by None None absent = refl
    by None (Some text) absent = absurd (true≢false absent)
    by (Some text) p absent = absurd (true≢false absent)
