-- Tables that are looked at one after the other.
use Rattle.std.proofs.Common.{◌≡◌, ℕ, ◌+◌, Bool, true, false, cond, List, [], ◌∷◌, ◌++◌, length, refl, sym, ap, ◌∙◌, Option, Some, None, append_assoc, append-nil, arith}
use Rattle.std.specs.Prelude.{is_some, option_map}
use Rattle.std.specs.List.{sum_by}
use Rattle.std.specs.Ordering.{nat_cmp, eq_by_cmp}
use Rattle.std.specs.Cmp.{nat_cmp_total}
use Rattle.std.specs.FinMap as finite
use Rattle.std.specs.FinMap.{find, get-empty, get-insert, get-entries, nat_cmp-IsAntisymmetric}
use Rattle.std.proofs.lemmas.List.Sums.{sum_by-cons}
use Rattle.ft_maps.specs.Entries.{same_from_tie}
use Rattle.ft_answers.specs.Base.{Base}
use Rattle.ft_watch.specs.ChangedRows.{Texts, texts_at, table_lines, changed_keys}
use Rattle.ft_watch.specs.inner.Told.{ChangedLines, TextsById, with_table, lines_since, count_since}

module _ (base : Base) where
  -- tables with the rows that these show now
  pub taken : TextsById → List (ℕ × Texts) → TextsById
  taken tables [] = tables
  taken tables (e ∷ es) = taken (finite.insert tables e.0 (texts_at base e.0)) es

  get-taken : (tables : TextsById) (es : List (ℕ × Texts)) (q : ℕ) → finite.get (taken tables es) q ≡ cond (is_some (find nat_cmp q es)) (Some (texts_at base q)) (finite.get tables q)
  unfolding taken
  get-taken tables [] q = refl
  get-taken tables (e ∷ es) q =
      get-taken (finite.insert tables e.0 (texts_at base e.0)) es q
      ∙ ap (cond (is_some (find nat_cmp q es)) (Some (texts_at base q))) (get-insert nat_cmp_total tables e.0 (texts_at base e.0) q)
      ∙ by (eq_by_cmp nat_cmp q e.0) (is_some (find nat_cmp q es)) refl refl
    where
      by : (b there : Bool) → eq_by_cmp nat_cmp q e.0 ≡ b → is_some (find nat_cmp q es) ≡ there
          → cond there (Some (texts_at base q)) (cond b (Some (texts_at base e.0)) (finite.get tables q)) ≡ cond (is_some (cond b (Some e.1) (find nat_cmp q es))) (Some (texts_at base q)) (finite.get tables q)
      by true true tie is = refl
      by true false tie is = ap (λ i. Some (texts_at base i)) (sym (same_from_tie nat_cmp-IsAntisymmetric q e.0 tie))
      by false there apart is = ap (λ t. cond t (Some (texts_at base q)) (finite.get tables q)) (sym is)

  -- all of them
  pub all_taken : (old : TextsById) (q : ℕ) → finite.get (taken finite.empty (finite.entries old)) q ≡ option_map (λ _. texts_at base q) (finite.get old q)
  all_taken old q =
      get-taken finite.empty (finite.entries old) q
      ∙ ap (λ o. cond (is_some o) (Some (texts_at base q)) (finite.get (finite.empty {X = Texts} {R = nat_cmp}) q)) (sym (get-entries old q))
      ∙ ap (cond (is_some (finite.get old q)) (Some (texts_at base q))) (get-empty nat_cmp q)
      ∙ by (finite.get old q)
    where
      by : (o : Option Texts) → cond (is_some o) (Some (texts_at base q)) None ≡ option_map (λ _. texts_at base q) o
      by None = refl
      by (Some texts) = refl

  -- what is told of tables, one after the other
  pub told_tables : List (ℕ × Texts) → ChangedLines → ChangedLines
  told_tables [] told = told
  told_tables (e ∷ es) told = told_tables es (with_table e.0 e.1 (texts_at base e.0) told)

  pub told_tables-is : (es : List (ℕ × Texts)) (told : ChangedLines) → told_tables es told ≡ record { lines = told.lines ++ lines_since es base; count = told.count + count_since es base }
  unfolding told_tables
  told_tables-is [] told =
      let lines = sym (append-nil told.lines) in
      let count : told.count ≡ told.count + 0 = omega arith in
      λ i. record { lines = lines i; count = count i }
  told_tables-is (e ∷ es) told =
      let lines = append_assoc told.lines (table_lines e.0 e.1 (texts_at base e.0)) (lines_since es base) in
      let one = length (changed_keys e.1 (texts_at base e.0)) in
      let sum : count_since (e ∷ es) base ≡ one + count_since es base = sum_by-cons (λ (t : ℕ × Texts). length (changed_keys t.1 (texts_at base t.0))) e es in
      let count : (told.count + one) + count_since es base ≡ told.count + count_since (e ∷ es) base = omega (arith, sum) in
      told_tables-is es (with_table e.0 e.1 (texts_at base e.0) told) ∙ (λ i. record { lines = lines i; count = count i })

module _ (base : Base) (id : ℕ) (texts : Texts) (es rest : List (ℕ × Texts)) (first : es ≡ (id, texts) ∷ rest) where
  -- one table more
  pub taken_more : (tables new all : TextsById) → new ≡ finite.insert tables id (texts_at base id) → taken base tables es ≡ all → taken base new rest ≡ all
  unfolding taken
  taken_more tables new all is so_far = ap (λ t. taken base t rest) is ∙ sym (ap (taken base tables) first) ∙ so_far

  pub told_more : (told new all : ChangedLines) → new ≡ with_table id texts (texts_at base id) told → told_tables base es told ≡ all → told_tables base rest new ≡ all
  unfolding told_tables
  told_more told new all is so_far = ap (told_tables base rest) is ∙ sym (ap (λ l. told_tables base l told) first) ∙ so_far

module _ (base : Base) (es : List (ℕ × Texts)) (none : es ≡ []) where
  -- none is left
  pub taken_at_last : (old tables : TextsById) → taken base tables es ≡ taken base finite.empty (finite.entries old) → (q : ℕ) → finite.get tables q ≡ option_map (λ _. texts_at base q) (finite.get old q)
  unfolding taken
  taken_at_last old tables so_far q = ap (λ (t : TextsById). finite.get t q) (sym (ap (taken base tables) none) ∙ so_far) ∙ all_taken base old q

  pub told_at_last : (old : List (ℕ × Texts)) (told start : ChangedLines) → told_tables base es told ≡ told_tables base old start → told ≡ record { lines = start.lines ++ lines_since old base; count = start.count + count_since old base }
  unfolding told_tables
  told_at_last old told start so_far = sym (ap (λ l. told_tables base l told) none) ∙ so_far ∙ told_tables-is base old start
