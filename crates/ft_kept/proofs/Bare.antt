-- What tells that nothing is kept of a trigger yet.
use Rattle.std.proofs.Common.{◌≡◌, ℕ, true, false, cond, List, [], ◌∷◌, refl, sym, ap, ◌∙◌, Some, None, Option, inl, inr, unwrap_or, nat_cmp}
use Rattle.std.specs.Ordering.{eq_by_cmp}
use Rattle.std.specs.Cmp.{nat_cmp_total}
use Rattle.std.specs.FinMap as map
use Rattle.std.specs.FinMap.{find}
use Rattle.std.proofs.lemmas.Map.Lookups.{exact_unsigned}
use Rattle.ft_fields.specs.declared.key.Part.{Part}
use Rattle.ft_pairs.specs.ByKey.{ops_of}
use Rattle.ft_pairs.specs.declared.at.At.{At}
use Rattle.ft_pairs.specs.declared.role.Role.TheVariants.{Saves, Reads}
use Rattle.ft_kept.specs.AtOnce.{IsBare}
use Rattle.ft_shelves.specs.Shelves.{Shelved, Shelves, role_on}
use Rattle.ft_shelves.proofs.Decided.{decided, none_not_some, tied}
use Rattle.ft_kept.proofs.Forms.{ops_by, role_at}

-- each other trigger that reads what a saver saves is among these shelves
abbrev pub OthersAmong : ℕ → ℕ → Shelves → List (ℕ × Shelved) → Type 0
OthersAmong id saver shelves left = (other : ℕ) (shelf : Shelved) → map.get shelves other ≡ Some shelf → shelf.role ≡ Reads saver → (other ≡ id → ⊥) → find nat_cmp other left ≡ Some shelf

module _ (id saver : ℕ) (shelves : Shelves) where
  -- the first of them isn't one
  pub fewer_among : (e : ℕ × Shelved) (rest : List (ℕ × Shelved)) → (e.1.role ≡ Reads saver → (e.0 ≡ id → ⊥) → ⊥) → OthersAmong id saver shelves (e ∷ rest) → OthersAmong id saver shelves rest
  fewer_among e rest own among other shelf is reads apart = elim (eq_by_cmp nat_cmp other e.0) as (λ b. eq_by_cmp nat_cmp other e.0 ≡ b → cond b (Some e.1) (find nat_cmp other rest) ≡ Some shelf → find nat_cmp other rest ≡ Some shelf) [
    | true ↦ λ tie here. absurd (own (ap (λ (o : Option Shelved). (unwrap_or o shelf).role) here ∙ reads) (λ same. apart (tied nat_cmp_total exact_unsigned other e.0 tie ∙ same)))
    | false ↦ λ _ later. later
  ] refl (among other shelf is reads apart)

  -- none of them is left
  pub none_among : OthersAmong id saver shelves [] → (other : ℕ) → role_on shelves other ≡ Reads saver → other ≡ id
  none_among among other reads = elim (decided nat_cmp_total exact_unsigned other id) [ inl own ↦ own | inr apart ↦ by (map.get shelves other) refl apart ]
    where
      by : (o : Option Shelved) → map.get shelves other ≡ o → (other ≡ id → ⊥) → other ≡ id
      by None is apart = absurd (cc (sym (role_at shelves other None is) ∙ reads))
      by (Some shelf) is apart = absurd (none_not_some None shelf refl (among other shelf is (sym (role_at shelves other (Some shelf) is) ∙ reads) apart))

module _ (shelves : Shelves) (id : ℕ) where
  -- nothing is kept if there is no shelf
  pub bare_none : map.get shelves id ≡ None → IsBare id shelves
  bare_none none = record {
    hits = λ shelf is. absurd (cc (sym none ∙ is));
    saves = λ saves. absurd (cc (sym (role_at shelves id None none) ∙ saves));
    alone = λ saver other reads. absurd (cc (sym (role_at shelves id None none) ∙ reads));
  }

  -- nor if a shelf has no hits, and has nothing of what its trigger does with a variable
  pub bare_shelf : (shelf : Shelved) → map.get shelves id ≡ Some shelf → shelf.table.hits ≡ map.empty
      → (shelf.role ≡ Saves → (key : List Part) (at : At) → ops_of shelf.ops key at ≡ None)
      → ((saver other : ℕ) → shelf.role ≡ Reads saver → role_on shelves other ≡ Reads saver → other ≡ id)
      → IsBare id shelves
  bare_shelf shelf is hits saves alone = record {
    hits = λ s at. ap (λ (o : Option Shelved). (unwrap_or o shelf).table.hits) (sym at ∙ is) ∙ hits;
    saves = λ saving key at. ops_by shelves id (Some shelf) is key at ∙ saves (sym (role_at shelves id (Some shelf) is) ∙ saving) key at;
    alone = λ saver other reads. alone saver other (sym (role_at shelves id (Some shelf) is) ∙ reads);
  }
