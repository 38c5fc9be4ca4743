-- Keys among which one more is put, and those of a list that are put one by one.
use Rattle.std.proofs.Common.{◌≡◌, ◌<◌, ◌+◌, ℕ, suc, Bool, true, false, cond, List, ◌∷◌, length, drop, get_or, Some, refl, sym, ap, ◌∙◌, arith}
use Rattle.std.specs.Prelude.{◌||◌, is_some}
use Rattle.std.specs.Map.{keys_of}
use Rattle.std.specs.FinMap.Entries.{find, put, find-put, is_some-find}
use Rattle.std.proofs.Math.Seq.{drop-cons}
use Rattle.ft_fields.specs.declared.key.Part.{Part}
use Rattle.ft_fields.specs.Orders.{key_cmp_total}
use Rattle.ft_fields.specs.Parts.{key_cmp, same_key}
use Rattle.ft_hits.proofs.Flat.{same_is}
use Rattle.ft_changes.specs.Rivals.{is_of}

-- ---- one more key

-- entries without values have a key if its look-up finds something
pub found_of : (es : List (List Part × Unit {0})) (q : List Part) → is_some (find key_cmp q es) ≡ is_of (keys_of es) q
found_of es q = is_some-find key_cmp q es

-- a key that is put is among them, and so are the others
pub with_key : (es : List (List Part × Unit {0})) (key q : List Part) → is_of (keys_of (put key_cmp key tt es)) q ≡ (same_key q key || is_of (keys_of es) q)
with_key es key q =
    sym (found_of (put key_cmp key tt es) q)
    ∙ ap is_some (find-put key_cmp key_cmp_total q key tt es)
    ∙ by (same_key q key)
    ∙ ap (λ b. same_key q key || b) (found_of es q)
  where
    by : (b : Bool) → is_some (cond b (Some tt) (find key_cmp q es)) ≡ (b || is_some (find key_cmp q es))
    by true = refl
    by false = refl

-- if it was among them, they are the same
pub with_own : (keys : List (List Part)) (key q : List Part) → is_of keys key ≡ true → is_of keys q ≡ (same_key q key || is_of keys q)
with_own keys key q own = by (same_key q key) refl where
  by : (b : Bool) → same_key q key ≡ b → is_of keys q ≡ (b || is_of keys q)
  by true same = ap (is_of keys) (same_is q key same) ∙ own
  by false other = refl

-- ---- keys one by one

-- the next of some keys
pub next_key : (keys : List (List Part)) (i : ℕ) (key : List Part) → i < length keys → key ≡ get_or keys i key → drop i keys ≡ key ∷ drop (i + 1) keys
next_key keys i key within is = drop-cons keys i key within ∙ ap (λ (k : List Part). k ∷ drop (suc i) keys) (sym is) ∙ ap (λ (n : ℕ). key ∷ drop n keys) (one_more i)
  where
    one_more : (n : ℕ) → suc n ≡ n + 1
    one_more n = omega arith

-- one that is put is among those that were put, and no more among those that are left
pub key_moves : (old new keys : List (List Part)) (i : ℕ) (key : List Part) → i < length keys → key ≡ get_or keys i key → (q : List Part) → is_of new q ≡ (same_key q key || is_of old q)
    → (is_of new q || is_of (drop (i + 1) keys) q) ≡ (is_of old q || is_of (drop i keys) q)
key_moves old new keys i key within is q put =
    ap (λ b. b || is_of (drop (i + 1) keys) q) put
    ∙ by (same_key q key) (is_of old q) (is_of (drop (i + 1) keys) q)
    ∙ ap (λ (ks : List (List Part)). is_of old q || is_of ks q) (sym (next_key keys i key within is))
  where
    by : (a b c : Bool) → ((a || b) || c) ≡ (b || (a || c))
    by true true c = refl
    by true false c = refl
    by false b c = refl
