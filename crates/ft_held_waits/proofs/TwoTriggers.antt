-- Two triggers that match wakings with switches, and no third.
use Rattle.std.proofs.Common.{◌≡◌, ℕ, Bool, true, false, cond, List, [], ◌∷◌, refl, sym, ap, ◌∙◌, inl, inr, Some, None, Option}
use Rattle.std.specs.Prelude.{◌⊎◌, option_map, unwrap_or}
use Rattle.std.specs.List as list
use Rattle.std.specs.List.Sorted.{IsStrictlySortedBy}
use Rattle.std.specs.Option.{option_map_or}
use Rattle.std.specs.declared.cmp.Ordering.{Ordering}
use Rattle.std.specs.declared.cmp.Ordering.TheVariants.{Less, Equal, Greater}
use Rattle.std.specs.Ordering.{nat_cmp, eq_by_cmp, ordering_reverse}
use Rattle.std.specs.Cmp.{nat_cmp_total, eq_by_cmp_equiv}
use Rattle.std.specs.FinMap as map
use Rattle.std.specs.FinMap.{find, get-from_entries, nat_cmp-IsAntisymmetric, same_map}
use Rattle.std.proofs.lemmas.Bool.{true≢false}
use Rattle.std.proofs.lemmas.Slice.Eq.{bytes_eq-Decides}
use Rattle.ft_hist.specs.Hist.{Hist}
use Rattle.ft_maps.specs.Entries.{entries-from_entries, same_from_tie}
use Rattle.ft_pairs.specs.declared.role.Role.{Role}
use Rattle.ft_pairs.specs.declared.role.Role.TheVariants.{Plain, Saves, Reads}
use Rattle.ft_base.specs.Base.{Triggers}
use Rattle.ft_base.specs.Roles.{saver_of, saves_name, role_of, role_at}
use Rattle.ft_held_waits.specs.Latencies.{saver_of_wakings, reader_of_switches, both, AreLatencyTriggers}

abbrev is_reading : Role → Bool
is_reading Plain = false
is_reading Saves = false
is_reading (Reads source) = true

module _ (name own : List ℕ) (saving reading : Hist) (saver reader : ℕ) (apart : saver ≡ reader → ⊥) where
  abbrev saving_hist : Hist
  saving_hist = saver_of_wakings name saving

  abbrev reading_hist : Hist
  reading_hist = reader_of_switches own name reading

  abbrev triggers : Triggers
  triggers = both (saver, saving_hist) (reader, reading_hist)

  -- ---- the two triggers, in the order of their ids

  abbrev saver_first : List (ℕ × Hist)
  saver_first = (saver, saving_hist) ∷ (reader, reading_hist) ∷ []

  abbrev reader_first : List (ℕ × Hist)
  reader_first = (reader, reading_hist) ∷ (saver, saving_hist) ∷ []

  abbrev AreBoth : List (ℕ × Hist) → Type 0
  AreBoth ts = (ts ≡ saver_first) ⊎ (ts ≡ reader_first)

  apart-tie : eq_by_cmp nat_cmp reader saver ≡ false
  apart-tie = from (eq_by_cmp nat_cmp reader saver) refl
    where
      from : (b : Bool) → eq_by_cmp nat_cmp reader saver ≡ b → b ≡ false
      from true tie = absurd (apart (sym (same_from_tie nat_cmp-IsAntisymmetric reader saver tie)))
      from false tie = refl

  get-saver : map.get triggers saver ≡ Some saving_hist
  get-saver = get-from_entries nat_cmp_total saver_first saver
      ∙ ap (λ b. cond b (Some saving_hist) (find nat_cmp saver ((reader, reading_hist) ∷ []))) ((eq_by_cmp_equiv nat_cmp_total).refl saver)

  get-reader : map.get triggers reader ≡ Some reading_hist
  get-reader = get-from_entries nat_cmp_total saver_first reader
      ∙ ap (λ b. cond b (Some saving_hist) (find nat_cmp reader ((reader, reading_hist) ∷ []))) apart-tie
      ∙ ap (λ b. cond b (Some reading_hist) None) ((eq_by_cmp_equiv nat_cmp_total).refl reader)

  sorted_two : (a b : ℕ × Hist) → nat_cmp a.0 b.0 ≡ Less → map.entries (map.from_entries {R = nat_cmp} (a ∷ b ∷ [])) ≡ a ∷ b ∷ []
  unfolding IsStrictlySortedBy
  sorted_two a b less = entries-from_entries nat_cmp_total (a ∷ b ∷ []) ((less, tt), (tt, tt))

  -- the two stand in either order in the list that the map is made of
  swapped : map.from_entries {R = nat_cmp} saver_first ≡ map.from_entries {R = nat_cmp} reader_first
  swapped = same_map nat_cmp_total nat_cmp-IsAntisymmetric _ _ (λ q.
      get-from_entries nat_cmp_total saver_first q
      ∙ from q (eq_by_cmp nat_cmp q saver) (eq_by_cmp nat_cmp q reader) refl refl
      ∙ sym (get-from_entries nat_cmp_total reader_first q))
    where
      from : (q : ℕ) (b c : Bool) → eq_by_cmp nat_cmp q saver ≡ b → eq_by_cmp nat_cmp q reader ≡ c
          → cond b (Some saving_hist) (cond c (Some reading_hist) None) ≡ cond c (Some reading_hist) (cond b (Some saving_hist) None)
      from q true true one other = absurd (apart (sym (same_from_tie nat_cmp-IsAntisymmetric q saver one) ∙ same_from_tie nat_cmp-IsAntisymmetric q reader other))
      from q true false one other = refl
      from q false true one other = refl
      from q false false one other = refl

  entries-both : AreBoth (map.entries triggers)
  entries-both = from (nat_cmp saver reader) refl
    where
      from : (o : Ordering) → nat_cmp saver reader ≡ o → AreBoth (map.entries triggers)
      from Less less = inl (sorted_two (saver, saving_hist) (reader, reading_hist) less)
      from Equal tie = absurd (apart (nat_cmp-IsAntisymmetric saver reader tie))
      from Greater greater = inr (ap (λ (m : Triggers). map.entries m) swapped ∙ sorted_two (reader, reading_hist) (saver, saving_hist) (nat_cmp_total.antisymm reader saver ∙ ap ordering_reverse greater))

  saver-is : saver_of triggers name ≡ Some saver
  unfolding saver_of
  saver-is = from (map.entries triggers) entries-both
    where
      named : saves_name name saving_hist.variable ≡ true
      named = (bytes_eq-Decides name name).1 refl

      from : (ts : List (ℕ × Hist)) → AreBoth ts → option_map (λ attached. attached.0) (list.find (λ attached. saves_name name attached.1.variable) ts) ≡ Some saver
      from ts (inl is) = ap (λ (xs : List (ℕ × Hist)). option_map (λ attached. attached.0) (list.find (λ attached. saves_name name attached.1.variable) xs)) is
          ∙ ap (λ b. option_map (λ (attached : ℕ × Hist). attached.0) (cond b (Some (saver, saving_hist)) None)) named
      from ts (inr is) = ap (λ (xs : List (ℕ × Hist)). option_map (λ attached. attached.0) (list.find (λ attached. saves_name name attached.1.variable) xs)) is
          ∙ ap (λ b. option_map (λ (attached : ℕ × Hist). attached.0) (cond b (Some (saver, saving_hist)) None)) named

  reader-role : role_at triggers reader ≡ Reads saver
  unfolding role_at
  reader-role = ap (λ (o : Option Hist). option_map_or (λ hist. role_of triggers hist.variable) o Plain) get-reader ∙ ap (λ (o : Option ℕ). Reads (unwrap_or o 0)) saver-is

  only-reader : (id : ℕ) → role_at triggers id ≡ Reads saver → id ≡ reader
  unfolding role_at
  only-reader id reads = from (eq_by_cmp nat_cmp id saver) (eq_by_cmp nat_cmp id reader) refl
      (ap (λ (o : Option Hist). option_map_or (λ hist. role_of triggers hist.variable) o Plain) (sym (get-from_entries nat_cmp_total saver_first id)) ∙ reads)
    where
      from : (b c : Bool) → eq_by_cmp nat_cmp id reader ≡ c → option_map_or (λ hist. role_of triggers hist.variable) (cond b (Some saving_hist) (cond c (Some reading_hist) None)) Plain ≡ Reads saver → id ≡ reader
      from true c other is = absurd (true≢false (sym (ap is_reading is)))
      from false true other is = same_from_tie nat_cmp-IsAntisymmetric id reader other
      from false false other is = absurd (true≢false (sym (ap is_reading is)))

  are-latency : AreLatencyTriggers triggers saver reader
  are-latency = record {
    name = name;
    own = own;
    saving = saving;
    reading = reading;
    saves = get-saver;
    reads = get-reader;
    source = reader-role;
    only = only-reader;
  }

pub two-are-latency : (name own : List ℕ) (saving reading : Hist) (saver reader : ℕ) → (saver ≡ reader → ⊥)
    → AreLatencyTriggers (both (saver, saver_of_wakings name saving) (reader, reader_of_switches own name reading)) saver reader
two-are-latency = are-latency
