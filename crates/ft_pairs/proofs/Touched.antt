-- Which operations may find another saving, if operations change.
use Rattle.std.proofs.Common.{◌≡◌, ◌⊎◌, Bool, true, false, cond, List, refl, sym, ap, subst, ◌∙◌, Some, None, Option, inl, inr, unwrap_or}
use Rattle.std.specs.Prelude.{is_some}
use Rattle.std.proofs.lemmas.Bool.{true≢false}
use Rattle.std.specs.declared.cmp.Ordering.{Ordering}
use Rattle.std.specs.declared.cmp.Ordering.TheVariants.{Less, Equal, Greater}
use Rattle.std.specs.Ordering.{is_lt, ordering_reverse}
use Rattle.std.specs.Cmp.{eq_by_cmp_equiv}
use Rattle.ft_fields.specs.declared.key.Part.{Part}
use Rattle.ft_fields.specs.Orders.{key_cmp_total}
use Rattle.ft_fields.specs.Ties.{key_same}
use Rattle.ft_fields.specs.Parts.{same_key}
use Rattle.ft_maps.specs.Entries.{same_from_tie}
use Rattle.ft_pairs.specs.declared.at.At.{At}
use Rattle.ft_pairs.specs.declared.at.Op.{Op}
use Rattle.ft_pairs.specs.declared.at.Op.TheVariants.{Save, Read}
use Rattle.ft_pairs.specs.Order.{at_cmp, at_cmp_total, at_same}
use Rattle.ft_pairs.specs.Source.{Ops, IsSource, is_read}
use Rattle.ft_pairs.specs.Next.{IsNext}
use Rattle.ft_pairs.specs.Edits.{KeepsSource, with_op, without_op, reads_alone, if_read, same_at}
use Rattle.ft_pairs.specs.ByKey.{OpsByKey, ChangesKey, ops_of}
use Rattle.ft_pairs.proofs.Local.{same_source, far_source, there_not_none}
use Rattle.ft_pairs.proofs.Nexts.{same_step}

not_less : (o : Ordering) → is_lt o ≡ false → o ≡ Less → ⊥
not_less o apart less = true≢false (sym (ap is_lt less) ∙ apart)

module _ (old new : Ops) (at : At) (elsewhere : (q : At) → (q ≡ at → ⊥) → new q ≡ old q) where
  -- in front of the place nothing changes, and at it what stands in front is as it was
  not_behind : (q : At) → is_lt (at_cmp at q) ≡ false → KeepsSource old new q
  not_behind q apart = same_source old new q (λ p before. elsewhere p (λ same. not_less (at_cmp at q) apart (subst (λ x. at_cmp x q ≡ Less) same before)))

  not_at : (q : At) → at_cmp at q ≡ Less → q ≡ at → ⊥
  not_at q less same = not_less (at_cmp q q) (itself q) (subst (λ x. at_cmp x q ≡ Less) (sym same) less)
    where
      tied : (o : Ordering) → ordering_reverse o ≡ o → is_lt o ≡ false
      tied Less turned = absurd (true≢false (sym (ap is_lt turned)))
      tied Equal turned = refl
      tied Greater turned = refl

      itself : (x : At) → is_lt (at_cmp x x) ≡ false
      itself x = tied (at_cmp x x) (sym (at_cmp_total.antisymm x x))

  module _ (q : At) (op : Op) (there : new q ≡ Some op) (behind : at_cmp at q ≡ Less) where
    -- after the place the next operation shields those after it
    is_behind_next : (next : At × Op) → IsNext new (Some at) (Some next) → Some next ≡ Some (q, op) ⊎ KeepsSource old new q
    is_behind_next next is = elim (at_cmp next.0 q) as (λ o. at_cmp next.0 q ≡ o → Some next ≡ Some (q, op) ⊎ KeepsSource old new q) [
      | Less ↦ λ less. inr (far_source old new q next.0 next.1 (sym (elsewhere next.0 (not_at next.0 is.behind)) ∙ is.there) is.there less
          (λ p after before. elsewhere p (not_at p (at_cmp_total.trans at next.0 p is.behind after))))
      | Equal ↦ λ tie. inl (same_step new next.0 q next.1 op (at_same next.0 q tie) is.there there)
      | Greater ↦ λ more. absurd (there_not_none new q op there (is.none q behind (at_cmp_total.antisymm q next.0 ∙ ap ordering_reverse more)))
    ] refl

    by_next : (next : Option (At × Op)) → IsNext new (Some at) next → next ≡ Some (q, op) ⊎ KeepsSource old new q
    by_next None none = absurd (there_not_none new q op there (none q behind))
    by_next (Some next) is = is_behind_next next is

  -- each operation finds what it found, except perhaps the next one after the place
  pub but_next : (next : Option (At × Op)) → IsNext new (Some at) next → (q : At) (op : Op) → new q ≡ Some op → next ≡ Some (q, op) ⊎ KeepsSource old new q
  but_next next is q op there = elim (at_cmp at q) as (λ o. at_cmp at q ≡ o → next ≡ Some (q, op) ⊎ KeepsSource old new q) [
    | Less ↦ λ less. by_next q op there less next is
    | Equal ↦ λ tie. inr (not_behind q (ap is_lt tie))
    | Greater ↦ λ more. inr (not_behind q (ap is_lt more))
  ] refl

same_ops : (old new : Ops) → ((q : At) → new q ≡ old q) → (at : At) → KeepsSource old new at
same_ops old new same at = same_source old new at (λ q _. same q)

pub own_source : (old new : OpsByKey) (key : List Part) → ((q : At) → ops_of new key q ≡ ops_of old key q) → (at : At) → KeepsSource (ops_of old key) (ops_of new key) at
own_source old new key same = same_ops (ops_of old key) (ops_of new key) same

-- an edit at one place leaves the others
abbrev pub IsAt : At → (Ops → Ops) → Type 0
IsAt at edit = (ops : Ops) (q : At) → (q ≡ at → ⊥) → edit ops q ≡ ops q

apart_at : (at q : At) → (q ≡ at → ⊥) → same_at q at ≡ false
apart_at at q apart = go (same_at q at) refl
  where
    go : (b : Bool) → same_at q at ≡ b → same_at q at ≡ false
    go true tie = absurd (apart (same_from_tie at_same q at tie))
    go false other = other

pub with_at : (at : At) (op : Op) → IsAt at (with_op at op)
with_at at op ops q apart = ap (λ b. cond b (Some op) (ops q)) (apart_at at q apart)

pub without_at : (at : At) → IsAt at (without_op at)
without_at at ops q apart = ap (λ b. cond b None (ops q)) (apart_at at q apart)

module _ (old new : OpsByKey) (key : List Part) (edit : Ops → Ops) (is : ChangesKey key edit old new) where
  -- the key's operations are edited
  pub edited : (q : At) → ops_of new key q ≡ edit (ops_of old key) q
  edited q = is key q ∙ ap (λ b. cond b (edit (ops_of old key) q) (ops_of old key q)) ((eq_by_cmp_equiv key_cmp_total).refl key)

  -- other keys keep theirs
  other_key : (k : List Part) → same_key k key ≡ false → (q : At) → KeepsSource (ops_of old k) (ops_of new k) q
  other_key k apart = own_source old new k (λ q. is k q ∙ ap (λ b. cond b (edit (ops_of old k) q) (ops_of old k q)) apart)

  -- what holds of the key's operations, or what each keeps
  pub of_one_key : (P : At → Op → Type 0) → ((q : At) (op : Op) → ops_of new key q ≡ Some op → P q op ⊎ KeepsSource (ops_of old key) (ops_of new key) q)
      → (k : List Part) (q : At) (op : Op) → ops_of new k q ≡ Some op → ((k ≡ key) × P q op) ⊎ KeepsSource (ops_of old k) (ops_of new k) q
  of_one_key P own k q op there = elim (same_key k key) as (λ b. same_key k key ≡ b → ((k ≡ key) × P q op) ⊎ KeepsSource (ops_of old k) (ops_of new k) q) [
    | true ↦ λ tie.
        let one : k ≡ key = same_from_tie key_same k key tie in
        elim (own q op (subst (λ (x : List Part). ops_of new x q ≡ Some op) one there)) [
          | inl holds ↦ inl (one, holds)
          | inr keeps ↦ inr (subst (λ (x : List Part). KeepsSource (ops_of old x) (ops_of new x) q) (sym one) keeps)
        ]
    | false ↦ λ apart. inr (other_key k apart q)
  ] refl

  -- an edit at one place of one key
  pub but_next_of_key : (at : At) → IsAt at edit → (next : Option (At × Op)) → IsNext (ops_of new key) (Some at) next
      → (k : List Part) (q : At) (op : Op) → ops_of new k q ≡ Some op → ((k ≡ key) × (next ≡ Some (q, op))) ⊎ KeepsSource (ops_of old k) (ops_of new k) q
  but_next_of_key at one next first = of_one_key (λ q op. next ≡ Some (q, op))
      (but_next (ops_of old key) (ops_of new key) at (λ q apart. edited q ∙ one (ops_of old key) q apart) next first)

save_not_read : Save ≡ Read → ⊥
save_not_read e = true≢false (sym (ap is_read e))

-- what is left are reads
left_read : (o : Option Op) (op : Op) → if_read o ≡ Some op → op ≡ Read
left_read None op is = absurd (true≢false (sym (ap is_some is)))
left_read (Some Save) op is = absurd (true≢false (sym (ap is_some is)))
left_read (Some Read) op is = ap (λ o. unwrap_or o op) (sym is)

module _ (old new : OpsByKey) (key : List Part) (is : ChangesKey key reads_alone old new) where
  read_here : (q : At) (op : Op) → ops_of new key q ≡ Some op → op ≡ Read
  read_here q op there = left_read (ops_of old key q) op (sym (edited old new key reads_alone is q) ∙ there)

  pub but_reads : (k : List Part) (q : At) (op : Op) → ops_of new k q ≡ Some op → ((k ≡ key) × (op ≡ Read)) ⊎ KeepsSource (ops_of old k) (ops_of new k) q
  but_reads = of_one_key old new key reads_alone is (λ q op. op ≡ Read) (λ q op there. inl (read_here q op there))

  pub unset : (at : At) (found : Option At) → IsSource (ops_of new key) at found → found ≡ None
  unset at None h = refl
  unset at (Some saved) h = absurd (save_not_read (read_here saved Save h.there))
