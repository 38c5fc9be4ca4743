-- Where keys and runs stand, and what is grouped, as one more key and event come.
use Rattle.std.proofs.Common.{◌≡◌, ◌<◌, ◌++◌, ◌||◌, ℕ, suc, zero, Bool, true, cond, List, [], ◌∷◌, length, get_or, nat_lt, Option, Some, None, refl, sym, ap, subst, ◌∙◌, arith}
use Rattle.std.specs.Prelude.{Vec, ◌==◌, unwrap_or, option_map, slice_get, slice_set}
use Rattle.std.specs.Borrow.{Bor}
use Rattle.std.specs.Cmp.{eq_by_cmp_equiv}
use Rattle.std.specs.List.{list_any}
use Rattle.std.specs.Option.{option_map_or}
use Rattle.std.specs.declared.alloc.Global.{Global}
use Rattle.std.specs.FinMap as map
use Rattle.std.specs.FinMap.{FinMap, get-insert, get-empty}
use Rattle.std.proofs.Math.Bool.{or-false}
use Rattle.std.proofs.lemmas.Grind.{common_steps}
use Rattle.std.proofs.lemmas.List.{append-nil, map_push}
use Rattle.std.proofs.lemmas.List.Elements.{filter-append}
use Rattle.std.proofs.lemmas.List.Folds.{list_any-append}
use Rattle.std.proofs.lemmas.Option.{slice_get_within, slice_get-get_or, slice_get_past, slice_get_read}
use Rattle.ft_fields.specs.declared.pos.Pos.{Pos}
use Rattle.ft_fields.specs.Traced.{Traced}
use Rattle.ft_fields.specs.declared.key.Part.{Part}
use Rattle.ft_fields.specs.Parts.{key_cmp, same_key}
use Rattle.ft_fields.specs.Orders.{key_cmp_total}
use Rattle.ft_fields.specs.Ties.{key_same}
use Rattle.ft_hist.specs.Hist.{Hist}
use Rattle.ft_hist.specs.Hit.{hit}
use Rattle.ft_maps.specs.Mapped.{map_by, get-map_by}
use Rattle.ft_store.specs.Stored.{held}
use Rattle.ft_store.specs.declared.stored.Stored.{Stored}
use Rattle.ft_groups.specs.Grouped.{referenced_events, is_under, run_under, Grouped, run_of, AreGrouped}
use Rattle.ft_groups.specs.declared.runs.Runs.{Runs}
use Rattle.ft_groups.specs.inner.Adding.{Adds}
use Rattle.ft_groups.specs.inner.Runs.{nth_run, AreIndexed, AreByKey}

abbrev Run : Type 0
Run = Vec (Bor (Pos × Stored)) Global

abbrev Indices : Type 0
Indices = FinMap key_cmp ℕ

-- no two keys of a list are the same
abbrev AreUnlike : List (List Part) → Type 0
AreUnlike keys = (i j : ℕ) (d : List Part) → i < j → j < length keys → get_or keys i d ≡ get_or keys j d → ⊥

-- the events of a key, by its index
abbrev pub run_at : List Run → Option ℕ → List (Pos × Traced)
run_at runs index = unwrap_or (option_map (nth_run runs) index) []

-- ---- elements of lists

module _ {X : Type 0} where
  pub get_push : (xs : List X) (x : X) (i : ℕ) → slice_get (xs ++ x ∷ []) i ≡ cond (i == length xs) (Some x) (slice_get xs i)
  get_push [] x zero = grind arith
  get_push [] x (suc i) = grind arith
  get_push (y ∷ xs) x zero = grind arith
  get_push (y ∷ xs) x (suc i) = grind (arith, get_push xs x i)

  get_set : (xs : List X) (x : X) (i j : ℕ) → i < length xs → slice_get (slice_set xs i x) j ≡ cond (j == i) (Some x) (slice_get xs j)
  get_set [] x i j within = absurd (omega arith)
  get_set (y ∷ xs) x zero zero within = grind arith
  get_set (y ∷ xs) x zero (suc j) within = grind arith
  get_set (y ∷ xs) x (suc i) zero within = grind arith
  get_set (y ∷ xs) x (suc i) (suc j) within = grind (arith, get_set xs x i j)

any_at : (q key : List Part) (keys : List (List Part)) (index : ℕ) → slice_get keys index ≡ Some key → same_key q key ≡ true → list_any (same_key q) keys ≡ true
any_at q key [] index stands tie = grind arith
any_at q key (k ∷ keys) zero stands tie = grind arith
any_at q key (k ∷ keys) (suc index) stands tie = grind (arith, any_at q key keys index)

-- ---- runs

-- what is read of a run is what stands there
pub nth_read : (runs : List Run) (i : ℕ) (run : Run) → i < length runs → run ≡ get_or runs i run → nth_run runs i ≡ referenced_events run.items
nth_read runs i run within is = ap (λ (o : Option Run). option_map_or (λ run. referenced_events run.items) o []) (slice_get_read runs (length runs) i run refl within is)

-- the events of a key stand at its index
pub run_listed : (runs : List Run) (indices : Indices) (key : List Part) → unwrap_or (map.get (map_by (nth_run runs) indices) key) [] ≡ run_at runs (map.get indices key)
run_listed runs indices key = ap (λ o. unwrap_or o []) (get-map_by (nth_run runs) key_cmp_total indices key)

-- where a key stands, a run stands
pub run_stands : (runs : Runs) → AreByKey runs → (key : List Part) (index : ℕ) → slice_get runs.keys.items index ≡ Some key → index < length runs.runs.items
run_stands runs by_key key index stands = omega (arith, by_key.many, slice_get_within runs.keys.items index key stands)

-- ---- keys

-- if there are no keys, each stands where its index says
pub none_indexed : (keys : List (List Part)) (indices : Indices) → keys ≡ [] → indices ≡ map.empty → AreIndexed keys indices
none_indexed keys indices none empty = record {
  stands = λ key index at. grind (arith, get-empty {X = ℕ} key_cmp key, at);
  found = λ key index at. grind (arith, at);
}

module _ (keys : List (List Part)) (indices : Indices) (indexed : AreIndexed keys indices) where
  -- no key stands twice
  pub all_unlike : AreUnlike keys
  all_unlike i j d before within same = grind (arith, slice_get-get_or, indexed.found (get_or keys i d) i, indexed.found (get_or keys j d) j)

  -- ---- a key that stands there

  module _ (key : List Part) (index : ℕ) (stands : slice_get keys index ≡ Some key) (q : List Part) where
    -- it is noted already
    pub noted_there : list_any (same_key q) keys ≡ (list_any (same_key q) keys || same_key q key)
    noted_there = grind (arith, any_at q key keys index)

    -- an event comes only to its run
    pub run_put : (runs : List Run) → index < length runs → (was run : Run) (e : Bor (Pos × Stored)) → was ≡ get_or runs index was → run.items ≡ was.items ++ e ∷ []
        → run_at (slice_set runs index run) (map.get indices q) ≡ run_at runs (map.get indices q) ++ cond (same_key q key) ((e.now.0, held e.now.1) ∷ []) []
    run_put runs within was run e stood pushed =
        let put = ap referenced_events pushed ∙ map_push (λ (e : Bor (Pos × Stored)). (e.now.0, held e.now.1)) was.items e in
        let there = slice_get_read runs (length runs) index was refl within stood in
        elim (map.get indices q) as (λ o. map.get indices q ≡ o → run_at (slice_set runs index run) o ≡ run_at runs o ++ cond (same_key q key) ((e.now.0, held e.now.1) ∷ []) []) [
          | None ↦ λ at. grind (arith, at, key_same q key, indexed.found key index)
          | Some j ↦ λ at. grind (arith, at, put, there, key_same q key, indexed.found key index, indexed.stands q j, get_set runs run index j within, (eq_by_cmp_equiv key_cmp_total).refl q, append-nil {A = Pos × Traced})
        ] refl

  -- ---- a key that is new

  module _ (key : List Part) (none : map.get indices key ≡ None) where
    -- it stands after the others
    more_indexed : AreIndexed (keys ++ key ∷ []) (map.insert indices key (length keys))
    more_indexed = record {
      stands = λ q index at. grind (arith, at, get-insert key_cmp_total indices key (length keys) q, get_push keys key index, key_same q key, indexed.stands q index, slice_get_within keys index q);
      found = λ q index there. grind (arith, there, get-insert key_cmp_total indices key (length keys) q, get_push keys key index, key_same q key, indexed.found q index, (eq_by_cmp_equiv key_cmp_total).refl q);
    }

    pub indexed_then : (ks : List (List Part)) (is : Indices) → ks ≡ keys ++ key ∷ [] → is ≡ map.insert indices key (length keys) → AreIndexed ks is
    indexed_then ks is keys_are indices_are = subst (λ (s : List (List Part) × Indices). AreIndexed s.0 s.1) (λ i. (sym keys_are i, sym indices_are i)) more_indexed

    -- it is noted
    pub noted_more : (q : List Part) → list_any (same_key q) (keys ++ key ∷ []) ≡ (list_any (same_key q) keys || same_key q key)
    noted_more q = grind (arith, list_any-append)

    -- its run is empty
    pub run_more : (runs : List Run) → length runs ≡ length keys → (run : Run) → run.items ≡ [] → (q : List Part)
        → run_at (runs ++ run ∷ []) (map.get (map.insert indices key (length keys)) q) ≡ run_at runs (map.get indices q)
    run_more runs many run empty q =
        ap (run_at (runs ++ run ∷ [])) (get-insert key_cmp_total indices key (length keys) q)
        ∙ elim (map.get indices q) as (λ o. map.get indices q ≡ o → run_at (runs ++ run ∷ []) (cond (same_key q key) (Some (length keys)) o) ≡ run_at runs o) [
          | None ↦ λ at. grind (arith, at, key_same q key, get_push runs run, slice_get_past runs (length keys))
          | Some j ↦ λ at. grind (arith, at, key_same q key, get_push runs run, slice_get_past runs (length keys), slice_get_past runs j)
        ] refl

-- ---- groups

-- groups in which nothing stands are those of no events
pub none_grouped : (hist : Hist) (groups : Grouped) → groups.keys ≡ [] → ((key : List Part) → run_of groups key ≡ []) → AreUnlike groups.keys → AreGrouped hist [] groups
none_grouped hist groups none nothing unlike = record {
  runs = nothing;
  once = unlike;
  all = λ key. ap (λ (keys : List (List Part)). list_any (same_key key) keys) none;
}

-- an event that is no hit changes nothing
pub adds_none : (e : Pos × Traced) (groups : Grouped) → Adds None e groups groups
adds_none e groups = record { keys = λ q. sym (or-false (list_any (same_key q) groups.keys)); runs = λ q. sym (append-nil _) }

-- a run with an event more isn't empty, if one comes to it
not_empty : (es : List (Pos × Traced)) (e : Pos × Traced) (b : Bool) → (nat_lt 0 (length es) || b) ≡ nat_lt 0 (length (es ++ cond b (e ∷ []) []))
not_empty es e b = grind (arith, common_steps)

-- an event comes to its key, if it is a hit
pub adds_grouped : (hist : Hist) (es : List (Pos × Traced)) (e : Pos × Traced) (old new : Grouped) → Adds (hit hist e.1) e old new → AreUnlike new.keys
    → AreGrouped hist es old → AreGrouped hist (es ++ e ∷ []) new
adds_grouped hist es e old new adds unlike was =
    let more : (key : List Part) → run_under hist (es ++ e ∷ []) key ≡ run_under hist es key ++ cond (is_under hist key e.1) (e ∷ []) [] =
    λ key. filter-append (λ x. is_under hist key x.1) es (e ∷ []) in
    record {
      runs = λ key. adds.runs key ∙ ap (λ (run : List (Pos × Traced)). run ++ cond (is_under hist key e.1) (e ∷ []) []) (was.runs key) ∙ sym (more key);
      once = unlike;
      all = λ key.
          adds.keys key ∙ ap (λ b. b || is_under hist key e.1) (was.all key) ∙ not_empty (run_under hist es key) e (is_under hist key e.1)
          ∙ ap (λ (run : List (Pos × Traced)). nat_lt 0 (length run)) (sym (more key));
    }
