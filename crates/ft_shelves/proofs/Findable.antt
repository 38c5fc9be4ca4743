-- Each reading finds something or nothing among operations that are listed, and among these with reads.
use Rattle.std.proofs.Common.{◌≡◌, ◌||◌, ℕ, Bool, true, false, cond, get_or, List, [], ◌∷◌, arith, refl, sym, ap, subst, ◌∙◌, Some, None, Option, inl, inr}
use Rattle.std.specs.Prelude.{◌⊎◌, ◌&&◌, not, option_and_then, option_map, unwrap_or}
use Rattle.std.specs.List.{list_any}
use Rattle.std.specs.Cmp.{IsTotalOrder, eq_by_cmp_equiv}
use Rattle.std.specs.FinMap as map
use Rattle.std.specs.FinMap.{IsAntisymmetric, find, get-empty, get-entries}
use Rattle.std.specs.Ordering.{is_lt}
use Rattle.std.specs.declared.cmp.Ordering.{Ordering}
use Rattle.std.specs.declared.cmp.Ordering.TheVariants.{Less}
use Rattle.std.proofs.Math.ListN.{get_or-map}
use Rattle.std.proofs.lemmas.List.{length-map}
use Rattle.ft_fields.specs.declared.key.Part.{Part}
use Rattle.ft_fields.specs.declared.pos.Pos.{Pos}
use Rattle.ft_groups.specs.Grouped.{Grouped, run_of}
use Rattle.ft_pairs.specs.ByKey.{KeyOps, OpsByKey, ops_of}
use Rattle.ft_pairs.specs.Edits.{same_at}
use Rattle.ft_pairs.specs.Order.{at_cmp, at_cmp_total, at_same}
use Rattle.ft_pairs.specs.Runs.{FindEach, with_reads}
use Rattle.ft_pairs.specs.Source.{IsLastBefore, IsSource, Ops}
use Rattle.ft_pairs.specs.declared.at.At.{At}
use Rattle.ft_pairs.specs.declared.at.Op.{Op}
use Rattle.ft_pairs.specs.declared.at.Op.TheVariants.{Save, Read}
use Rattle.ft_pairs.proofs.Alone.{one_source}
use Rattle.ft_pairs.proofs.Local.{same_source}
use Rattle.ft_shelves.specs.Joining.{read_from}
use Rattle.ft_shelves.specs.inner.Joining.{AreReadAt, act_at, reads_of_run}

-- ---- the last entry before a place

record Last {K X : Type 0} (R : K → K → Ordering) (f : K → Option X) (at : K) : Type 0 where
  place : K
  worth : X
  there : f place ≡ Some worth
  before : R place at ≡ Less
  none : (q : K) → R place q ≡ Less → R q at ≡ Less → f q ≡ None

-- nothing stands before a place, or something is the last
abbrev HasLast : {K X : Type 0} (R : K → K → Ordering) (f : K → Option X) (at : K) → Type 0
HasLast R f at = ((q : _) → R q at ≡ Less → f q ≡ None) ⊎ Last R f at

module _ {K X : Type 0} {R : K → K → Ordering} (total : IsTotalOrder R) (same : IsAntisymmetric R) (at : K) where
  last_listed : (es : List (K × X)) → HasLast R (λ q. find R q es) at
  last_listed [] = inl (λ q before. refl)
  last_listed (e ∷ es) = elim (last_listed es) [
    | inl none ↦ elim (is_lt (R e.0 at)) as (λ b. is_lt (R e.0 at) ≡ b → HasLast R (λ q. find R q (e ∷ es)) at) [
      | true ↦ λ front. inr (record {
        place = e.0;
        worth = e.1;
        there = grind (arith, (eq_by_cmp_equiv total).refl e.0);
        before = grind (arith, front);
        none = λ q after before. grind (arith, none q, total.antisymm q e.0, after, before);
      })
      | false ↦ λ behind. inl (λ q before. grind (arith, none q, same q e.0, behind, before))
    ] refl
    | inr h ↦ elim (is_lt (R e.0 at) && not (is_lt (R e.0 h.place))) as (λ b. (is_lt (R e.0 at) && not (is_lt (R e.0 h.place))) ≡ b → HasLast R (λ q. find R q (e ∷ es)) at) [
      | true ↦ λ later. inr (record {
        place = e.0;
        worth = e.1;
        there = grind (arith, (eq_by_cmp_equiv total).refl e.0);
        before = grind (arith, later);
        none = λ q after before. grind (arith, later, after, before, total.antisymm q e.0, h.none q, total.trans h.place e.0 q, total.antisymm e.0 h.place, same e.0 h.place);
      })
      | false ↦ λ earlier. inr (record {
        place = h.place;
        worth = h.worth;
        there = grind (arith, earlier, h.there, h.before, same h.place e.0, total.antisymm h.place e.0);
        before = h.before;
        none = λ q after before. grind (arith, earlier, after, before, h.none q, same q e.0, total.antisymm h.place e.0);
      })
    ] refl
  ]

-- ---- what a reading finds

-- the operations of a key with some reads, as a list
abbrev listed : OpsByKey → List Part → List At → List (At × Op)
listed ops key [] = map.entries (unwrap_or (map.get ops key) map.empty)
listed ops key (read ∷ reads) = (read, Read) ∷ listed ops key reads

listed_is : (ops : OpsByKey) (key : List Part) (reads : List At) (q : At) → with_reads reads (ops_of ops key) q ≡ find at_cmp q (listed ops key reads)
listed_is ops key [] q = by (map.get ops key)
  where
    by : (o : Option KeyOps) → option_and_then (λ (m : KeyOps). map.get m q) o ≡ find at_cmp q (map.entries (unwrap_or o map.empty))
    by None = sym (get-empty at_cmp q) ∙ get-entries map.empty q
    by (Some m) = get-entries m q
listed_is ops key (read ∷ reads) q = either (same_at q read) (list_any (same_at q) reads) (ops_of ops key q) ∙ ap (cond (same_at q read) (Some Read)) (listed_is ops key reads q)
  where
    either : (a b : Bool) (o : Option Op) → cond (a || b) (Some Read) o ≡ cond a (Some Read) (cond b (Some Read) o)
    either a b o = grind arith

-- what each reading finds is told
pub findable : (at : At) (ops : OpsByKey) (key : List Part) (reads : List At) → (found : Option At) × IsSource (with_reads reads (ops_of ops key)) at found
findable at ops key reads = subst (λ (ops : Ops). (found : Option At) × IsSource ops at found) (λ i q. sym (listed_is ops key reads q) i) (by (last_listed at_cmp_total at_same at (listed ops key reads)))
  where
    found : Ops
    found q = find at_cmp q (listed ops key reads)

    last : (h : Last at_cmp found at) (op : Op) → IsLastBefore found at h.place op → (o : Option At) × IsSource found at o
    last h Save is = (Some h.place, is)
    last h Read is = (None, inr (h.place, is))

    by : HasLast at_cmp found at → (o : Option At) × IsSource found at o
    by (inl none) = (None, inl none)
    by (inr h) = last h h.worth (record { there = h.there; before = h.before; none = h.none })

-- ---- what each read of a group finds

-- what a read of a key finds, with those of all events of the key
unfoldable pub find_in : ℕ → Grouped → OpsByKey → List Part → At → Option At
find_in id groups ops key at = (findable at ops key (reads_of_run id (run_of groups key))).0

-- what each reading of groups finds
abbrev pub sources_in : ℕ → Grouped → OpsByKey → List Part → Pos → Option At
sources_in id groups ops key pos = find_in id groups ops key (record { pos = pos; trigger = id })

module _ (id : ℕ) (groups : Grouped) (was is : OpsByKey) (key : List Part) (put : (at : At) → ops_of is key at ≡ with_reads (reads_of_run id (run_of groups key)) (ops_of was key) at) where
  -- if the reads of a key stand, each finds that
  pub finds_in : (at : At) → IsSource (ops_of is key) at (find_in id groups was key at)
  unfolding find_in
  finds_in at =
      let found = findable at was key (reads_of_run id (run_of groups key)) in
      same_source (with_reads (reads_of_run id (run_of groups key)) (ops_of was key)) (ops_of is key) at (λ q _. put q) found.0 found.1

  module _ (found : List (Option At)) (h : FindEach (ops_of is key) (reads_of_run id (run_of groups key)) found) where
    -- and so each event read
    pub are_read : AreReadAt (Some found) (read_from (sources_in id groups was) key) (run_of groups key)
    are_read i d within =
        let reads = reads_of_run id (run_of groups key) in
        let at = get_or reads i (act_at id d) in
        ap (λ at. option_map (λ (saved : At). Some saved.pos) (find_in id groups was key at)) (sym (get_or-map (act_at id) (run_of groups key) i d))
        ∙ ap (option_map (λ (saved : At). Some saved.pos)) (one_source (ops_of is key) at (find_in id groups was key at) (get_or found i None) (finds_in at) (h.each i (act_at id d) (omega (arith, within, length-map (run_of groups key) (act_at id)))))
