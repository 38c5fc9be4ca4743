-- The operations that the places of saves and reads make, and edits of both.
use Rattle.std.proofs.Common.{◌≡◌, ◌||◌, ℕ, ◌+◌, ◌<◌, ◌≤◌, Bool, true, false, cond, List, [], ◌∷◌, ◌++◌, length, drop, get_or, add-one, drop-cons, refl, sym, ap, ◌∙◌, arith, Some, None, Option}
use Rattle.std.specs.Prelude.{◌&&◌, is_some, if◌then◌else◌}
use Rattle.std.specs.List.{list_any}
use Rattle.std.specs.Map.{keys_of}
use Rattle.std.specs.declared.cmp.Ordering.{Ordering}
use Rattle.std.specs.declared.cmp.Ordering.TheVariants.{Less, Equal, Greater}
use Rattle.std.specs.Ordering.{eq_by_cmp, is_lt}
use Rattle.std.specs.FinMap as map
use Rattle.std.specs.FinMap.{find, put, get-from_entries, get-insert, get-remove, same_map}
use Rattle.std.specs.FinMap.Entries.{find-put}
use Rattle.std.proofs.lemmas.Bool.{and_parts}
use Rattle.std.proofs.lemmas.Grind.{common_steps}
use Rattle.ft_blocks.specs.Sorted.{AllAbove, Ascend, without}
use Rattle.ft_blocks.specs.Seen.{get-found, seen-without}
use Rattle.ft_pairs.specs.declared.at.At.{At}
use Rattle.ft_pairs.specs.declared.at.Op.{Op}
use Rattle.ft_pairs.specs.declared.at.Op.TheVariants.{Save, Read}
use Rattle.ft_pairs.specs.Order.{at_cmp, at_cmp_total, at_same}
use Rattle.ft_pairs.specs.ByKey.{KeyOps}
use Rattle.ft_pairs.specs.Edits.{same_at, if_read}
use Rattle.ft_pairs.specs.Runs.{with_reads}
use Rattle.ft_pairs.specs.inner.Sides.{as_ops, both, is_after, is_place}

-- ---- what stands at a place

-- the operation at a place where a save stands or not, and a read or not
abbrev pub op_at : Bool → Bool → Option Op
op_at save read = if read then Some Read else (if save then Some Save else None)

pub lt_is : (o : Ordering) → is_lt o ≡ true → o ≡ Less
lt_is Less _ = refl
lt_is Equal isnt = cc
lt_is Greater isnt = cc

read_come : (b save read : Bool) → op_at save (cond b true read) ≡ cond b (Some Read) (op_at save read)
read_come true save read = refl
read_come false save read = refl

save_come : (b save read : Bool) → op_at (cond b true save) (cond b false read) ≡ cond b (Some Save) (op_at save read)
save_come true save read = refl
save_come false save read = refl

none_left : (b save read : Bool) → op_at (cond b false save) (cond b false read) ≡ cond b None (op_at save read)
none_left true save read = refl
none_left false save read = refl

reads_stay : (save read : Bool) → op_at false read ≡ if_read (op_at save read)
reads_stay save true = refl
reads_stay true false = refl
reads_stay false false = refl

put_over : (save any : Bool) → op_at save any ≡ (if any then Some Read else op_at save false)
put_over save true = refl
put_over save false = refl

module _ {U : Type 0} where
  find-before : (op : Op) (es : List (At × U)) (more : List (At × Op)) (q : At) → find at_cmp q (as_ops op es ++ more) ≡ (if is_place es q then Some op else find at_cmp q more)
  find-before op [] more q = refl
  find-before op (e ∷ es) more q = by (eq_by_cmp at_cmp q e.0) (find-before op es more q)
    where
      by : (b : Bool) → find at_cmp q (as_ops op es ++ more) ≡ (if is_place es q then Some op else find at_cmp q more)
          → cond b (Some op) (find at_cmp q (as_ops op es ++ more)) ≡ (if is_some (cond b (Some e.1) (find at_cmp q es)) then Some op else find at_cmp q more)
      by true rest = refl
      by false rest = rest

  find-alone : (op : Op) (es : List (At × U)) (q : At) → find at_cmp q (as_ops op es) ≡ (if is_place es q then Some op else None)
  find-alone op [] q = refl
  find-alone op (e ∷ es) q = by (eq_by_cmp at_cmp q e.0) (find-alone op es q)
    where
      by : (b : Bool) → find at_cmp q (as_ops op es) ≡ (if is_place es q then Some op else None)
          → cond b (Some op) (find at_cmp q (as_ops op es)) ≡ (if is_some (cond b (Some e.1) (find at_cmp q es)) then Some op else None)
      by true rest = refl
      by false rest = rest

  pub get-both : (saves reads : List (At × U)) (q : At) → map.get (both saves reads) q ≡ op_at (is_place saves q) (is_place reads q)
  get-both saves reads q =
      get-from_entries at_cmp_total (as_ops Read reads ++ as_ops Save saves) q
      ∙ find-before Read reads (as_ops Save saves) q
      ∙ ap (λ o. if is_place reads q then Some Read else o) (find-alone Save saves q)

  -- operations are those of saves and reads if each place has what these have
  pub both_is : (saves reads : List (At × U)) (ops : KeyOps) → ((q : At) → op_at (is_place saves q) (is_place reads q) ≡ map.get ops q) → both saves reads ≡ ops
  both_is saves reads ops same = same_map at_cmp_total at_same _ _ (λ q. get-both saves reads q ∙ same q)

  -- ---- edits

  come : (b : Bool) (u : U) (o : Option U) → is_some (cond b (Some u) o) ≡ cond b true (is_some o)
  come true u o = refl
  come false u o = refl

  gone : (b : Bool) (o : Option U) → is_some (cond b None o) ≡ cond b false (is_some o)
  gone true o = refl
  gone false o = refl

  place-put : (at : At) (u : U) (es : List (At × U)) (q : At) → is_place (put at_cmp at u es) q ≡ cond (same_at q at) true (is_place es q)
  place-put at u es q = ap is_some (find-put at_cmp at_cmp_total q at u es) ∙ come (same_at q at) u (find at_cmp q es)

  place-without : (at : At) (es : List (At × U)) (q : At) → is_place (without at_cmp at es) q ≡ cond (same_at q at) false (is_place es q)
  place-without at es q =
      ap is_some (sym (get-found at_cmp_total (without at_cmp at es) q)
      ∙ ap (λ m. map.get m q) (seen-without at_cmp_total at_same es at)
      ∙ get-remove at_cmp_total (map.from_entries es) at q
      ∙ ap (cond (same_at q at) None) (get-found at_cmp_total es q))
      ∙ gone (same_at q at) (find at_cmp q es)

  -- a read comes
  pub both-read : (saves reads : List (At × U)) (at : At) (u : U) → both saves (put at_cmp at u reads) ≡ map.insert (both saves reads) at Read
  both-read saves reads at u = both_is saves (put at_cmp at u reads) _ (λ q.
      ap (op_at (is_place saves q)) (place-put at u reads q)
      ∙ read_come (same_at q at) (is_place saves q) (is_place reads q)
      ∙ sym (get-insert at_cmp_total (both saves reads) at Read q ∙ ap (cond (same_at q at) (Some Read)) (get-both saves reads q)))

  -- a save comes, in place of a read
  pub both-save : (saves reads : List (At × U)) (at : At) (u : U) → both (put at_cmp at u saves) (without at_cmp at reads) ≡ map.insert (both saves reads) at Save
  both-save saves reads at u = both_is (put at_cmp at u saves) (without at_cmp at reads) _ (λ q.
      (λ i. op_at (place-put at u saves q i) (place-without at reads q i))
      ∙ save_come (same_at q at) (is_place saves q) (is_place reads q)
      ∙ sym (get-insert at_cmp_total (both saves reads) at Save q ∙ ap (cond (same_at q at) (Some Save)) (get-both saves reads q)))

  -- what stands at a place goes
  pub both-without : (saves reads : List (At × U)) (at : At) → both (without at_cmp at saves) (without at_cmp at reads) ≡ map.remove (both saves reads) at
  both-without saves reads at = both_is (without at_cmp at saves) (without at_cmp at reads) _ (λ q.
      (λ i. op_at (place-without at saves q i) (place-without at reads q i))
      ∙ none_left (same_at q at) (is_place saves q) (is_place reads q)
      ∙ sym (get-remove at_cmp_total (both saves reads) at q ∙ ap (cond (same_at q at) None) (get-both saves reads q)))

  -- the saves go
  pub both-reads : (saves reads : List (At × U)) (q : At) → map.get (both [] reads) q ≡ if_read (map.get (both saves reads) q)
  both-reads saves reads q = get-both [] reads q ∙ reads_stay (is_place saves q) (is_place reads q) ∙ ap if_read (sym (get-both saves reads q))

  -- ---- runs

  place-keys : (es : List (At × U)) (q : At) → is_place es q ≡ list_any (same_at q) (keys_of es)
  place-keys [] q = refl
  place-keys (e ∷ es) q = by (same_at q e.0) (place-keys es q)
    where
      by : (b : Bool) → is_place es q ≡ list_any (same_at q) (keys_of es) → is_some (cond b (Some e.1) (find at_cmp q es)) ≡ (b || list_any (same_at q) (keys_of es))
      by true rest = refl
      by false rest = rest

  -- reads at places come, if there were no reads
  pub both-reads_come : (saves places : List (At × U)) (q : At) → map.get (both saves places) q ≡ with_reads (keys_of places) (map.get (both saves [])) q
  both-reads_come saves places q =
      get-both saves places q
      ∙ ap (op_at (is_place saves q)) (place-keys places q)
      ∙ put_over (is_place saves q) (list_any (same_at q) (keys_of places))
      ∙ ap (λ o. if list_any (same_at q) (keys_of places) then Some Read else o) (sym (get-both saves [] q))

-- ---- left to right

module _ {A : Type 0} where
  pub next_one : (run : List A) (i : ℕ) (d : A) → i < length run → drop i run ≡ get_or run i d ∷ drop (i + 1) run
  next_one run i d lt = rw (add-one, drop-cons run i d) refl

  pub none_after : (run : List A) (i : ℕ) → length run ≤ i → drop i run ≡ []
  none_after run i le = grind (arith, common_steps)

-- whether places rise, all after one
abbrev pub rises : Option At → List At → Bool
rises before [] = true
rises before (q ∷ qs) = is_after before q && rises (Some q) qs

module _ {U : Type 0} where
  above_all : (a b : At) (es : List (At × U)) → at_cmp a b ≡ Less → AllAbove at_cmp b es → AllAbove at_cmp a es
  above_all a b [] less all = tt
  above_all a b (e ∷ es) less all = (at_cmp_total.trans a b e.0 less all.0, above_all a b es less all.1)

  all_behind : (a : At) (es : List (At × U)) → rises (Some a) (keys_of es) ≡ true → AllAbove at_cmp a es
  all_behind a [] up = tt
  all_behind a (e ∷ es) up =
      let parts = and_parts (is_lt (at_cmp a e.0)) (rises (Some e.0) (keys_of es)) up in
      let less : at_cmp a e.0 ≡ Less = lt_is _ parts.0 in
      (less, above_all a e.0 es less (all_behind e.0 es parts.1))

  -- entries whose places rise ascend
  pub rises-ascend : (before : Option At) (es : List (At × U)) → rises before (keys_of es) ≡ true → Ascend at_cmp es
  rises-ascend before [] up = tt
  rises-ascend before (e ∷ es) up =
      let rest = (and_parts (is_after before e.0) (rises (Some e.0) (keys_of es)) up).1 in
      (all_behind e.0 es rest, rises-ascend (Some e.0) es rest)

  -- the places of operations are those that they were made of
  pub keys-ops : (op : Op) (es : List (At × U)) → keys_of (as_ops op es) ≡ keys_of es
  keys-ops op [] = refl
  keys-ops op (e ∷ es) = ap (λ ks. e.0 ∷ ks) (keys-ops op es)

  pub ops-push : (op : Op) (es : List (At × U)) (e : At × U) → as_ops op (es ++ e ∷ []) ≡ as_ops op es ++ (e.0, op) ∷ []
  ops-push op [] e = refl
  ops-push op (f ∷ es) e = ap (λ l. (f.0, op) ∷ l) (ops-push op es e)

  pub keys-push : (es : List (At × U)) (e : At × U) → keys_of (es ++ e ∷ []) ≡ keys_of es ++ e.0 ∷ []
  keys-push [] e = refl
  keys-push (f ∷ es) e = ap (λ l. f.0 ∷ l) (keys-push es e)
