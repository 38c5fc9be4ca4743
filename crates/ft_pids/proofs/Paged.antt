-- What numbers tell that were filled up with 0.
use Rattle.std.specs.Prelude.{◌≡◌, ◌<◌, ◌≤◌, ◌⊎◌, ℕ, List, length, slice_index_or}
use Rattle.std.proofs.Common.{sym, arith, inl, inr, ◌∙◌}
use Rattle.std.proofs.lemmas.Bool.{cases_lt}
use Rattle.std.proofs.lemmas.List.{get_or_past}

-- where there was a number, it is the same; from there on, each is 0
pub filled : (old new : List ℕ) (len i : ℕ) → len ≡ length old → length new ≡ 512 → len < 512
    → (i < 512 → i < len → slice_index_or new i 0 ≡ slice_index_or old i 0)
    → (len ≤ i → i < 512 → slice_index_or new i 0 ≡ 0) → slice_index_or new i 0 ≡ slice_index_or old i 0
filled old new len i is all some below above = beside (cases_lt i len) (cases_lt i 512)
  where
    past : len ≤ i → slice_index_or old i 0 ≡ 0
    past long = get_or_past old i 0 (omega (arith, is, long))

    beside : (i < len) ⊎ (len ≤ i) → (i < 512) ⊎ (512 ≤ i) → slice_index_or new i 0 ≡ slice_index_or old i 0
    beside (inl within) rest = below (omega (arith, within, some)) within
    beside (inr long) (inl short) = above long short ∙ sym (past long)
    beside (inr long) (inr far) = get_or_past new i 0 (omega (arith, all, far)) ∙ sym (past long)
