-- What is put key by key, if no key comes twice.
use Rattle.std.proofs.Common.{◌≡◌, ◌<◌, ◌≤◌, ◌+◌, ℕ, suc, Bool, true, false, cond, List, [], ◌∷◌, drop, get_or, length, refl, sym, ap, subst, ◌∙◌, arith, Option, inl, inr}
use Rattle.std.specs.Prelude.{◌||◌, nat_lt}
use Rattle.std.specs.List.{list_any}
use Rattle.std.specs.FinMap as map
use Rattle.std.proofs.lemmas.Bool.{ltb-false}
use Rattle.std.proofs.lemmas.List.{drop_all, drop_more, get_or_default, get_or-drop, length-drop}
use Rattle.ft_fields.specs.Orders.{key_cmp_total}
use Rattle.ft_fields.specs.Ties.{key_same}
use Rattle.ft_fields.specs.declared.key.Part.{Part}
use Rattle.ft_fields.specs.Parts.{same_key}
use Rattle.ft_groups.specs.Grouped.{Grouped, run_of, run_under}
use Rattle.ft_hist.specs.Hist.{Hist}
use Rattle.ft_shelves.specs.Joining.{AreGroupsOf}
use Rattle.ft_shelves.proofs.Decided.{itself, key_decided, untied}

-- whether a key is left of some, after the first so many of them have come
abbrev pub is_left : List (List Part) → ℕ → List Part → Bool
is_left keys n key = list_any (same_key key) (drop n keys)

not_any : (k : List Part) (ks : List (List Part)) → ((j : ℕ) (d : List Part) → j < length ks → k ≡ get_or ks j d → ⊥) → list_any (same_key k) ks ≡ false
not_any k [] apart = refl
not_any k (x ∷ ks) apart =
    ap (λ b. b || list_any (same_key k) ks) (untied key_cmp_total key_same k x (apart 0 x (omega arith)))
    ∙ not_any k ks (λ j d within. apart (suc j) d (omega arith))

-- all keys have what is listed of them, but those that are left have what they had
abbrev pub IsPut : {A V : Type 0} → List (List Part) → (base listed : List Part → A → Option V) → ℕ → (List Part → A → Option V) → Type 0
IsPut {A = A} keys base listed n look = (key : List Part) (a : A) → look key a ≡ cond (is_left keys n key) (base key a) (listed key a)

no_length : {X : Type 0} (xs : List X) → nat_lt 0 (length xs) ≡ false → xs ≡ []
no_length [] none = refl
no_length (x ∷ xs) none = let few : length (x ∷ xs) ≤ 0 = ltb-false 0 (length (x ∷ xs)) none in absurd (omega arith)

-- no key is left at last
pub none_left : (keys : List (List Part)) (n : ℕ) → length keys ≤ n → (key : List Part) → is_left keys n key ≡ false
none_left keys n all key = ap (list_any (same_key key)) (drop_all n keys all)

module _ (hist : Hist) (groups : Grouped) (of : AreGroupsOf hist groups) (keys : List (List Part)) (are : keys ≡ groups.keys) where
  -- keys that are not left at first have no events
  pub no_run : (key : List Part) → is_left keys 0 key ≡ false → run_of groups key ≡ []
  no_run key none =
      of.grouped.runs key
      ∙ no_length (run_under hist (map.entries of.events) key) (sym (of.grouped.all key) ∙ ap (list_any (same_key key)) (sym are) ∙ none)

  once : (i j : ℕ) (d : List Part) → i < j → j < length keys → get_or keys i d ≡ get_or keys j d → ⊥
  once = subst (λ (ks : List (List Part)). (i j : ℕ) (d : List Part) → i < j → j < length ks → get_or ks i d ≡ get_or ks j d → ⊥) (sym are) of.grouped.once

  module _ (n : ℕ) (k : List Part) (within : n < length keys) (is : k ≡ get_or keys n k) where
    split : drop n keys ≡ k ∷ drop (n + 1) keys
    split = drop_more keys n k within ∙ ap (λ (x : List Part). x ∷ drop (n + 1) keys) (sym is)

    -- the next key is left
    pub left_now : is_left keys n k ≡ true
    left_now = ap (list_any (same_key k)) split ∙ ap (λ b. b || is_left keys (n + 1) k) (itself key_cmp_total k)

    -- and then it isn't
    pub left_no_more : is_left keys (n + 1) k ≡ false
    left_no_more =
        not_any k (drop (n + 1) keys) (λ j d inside same.
        once n (n + 1 + j) d (omega arith) (omega (arith, inside, length-drop (n + 1) keys))
        (get_or_default keys n d k within ∙ sym is ∙ same ∙ get_or-drop (n + 1) keys j d))

    -- others are left as they were
    pub left_still : (key : List Part) → (key ≡ k → ⊥) → is_left keys n key ≡ is_left keys (n + 1) key
    left_still key apart = ap (list_any (same_key key)) split ∙ ap (λ b. b || is_left keys (n + 1) key) (untied key_cmp_total key_same key k apart)

  -- ---- what is put

  module _ {A V : Type 0} (base listed : List Part → A → Option V) where
    -- so it is at first, if other keys have what is listed of them
    pub put_none : ((key : List Part) (a : A) → is_left keys 0 key ≡ false → base key a ≡ listed key a) → IsPut keys base listed 0 base
    put_none same key a = elim (is_left keys 0 key) as (λ b. is_left keys 0 key ≡ b → base key a ≡ cond b (base key a) (listed key a)) [ true ↦ λ _. refl | false ↦ same key a ] refl

    -- and at last of all keys
    pub put_all : (n : ℕ) → length keys ≤ n → (look : List Part → A → Option V) → IsPut keys base listed n look → (key : List Part) (a : A) → look key a ≡ listed key a
    put_all n all look put key a = put key a ∙ ap (λ b. cond b (base key a) (listed key a)) (none_left keys n all key)

    module _ (n : ℕ) (k : List Part) (within : n < length keys) (is : k ≡ get_or keys n k) (look : List Part → A → Option V) (put : IsPut keys base listed n look) where
      -- the next key has what it had
      pub put_free : (a : A) → look k a ≡ base k a
      put_free a = put k a ∙ ap (λ b. cond b (base k a) (listed k a)) (left_now n k within is)

      -- and then what is listed of it
      pub put_more : (more : List Part → A → Option V) → ((a : A) → more k a ≡ listed k a) → ((key : List Part) (a : A) → (key ≡ k → ⊥) → more key a ≡ look key a) → IsPut keys base listed (n + 1) more
      put_more more here others key a = elim (key_decided key k) [
        | inl own ↦ subst (λ x. more x a ≡ cond (is_left keys (n + 1) x) (base x a) (listed x a)) (sym own)
            (here a ∙ sym (ap (λ b. cond b (base k a) (listed k a)) (left_no_more n k within is)))
        | inr apart ↦ others key a apart ∙ put key a ∙ ap (λ b. cond b (base key a) (listed key a)) (left_still n k within is key apart)
      ]
