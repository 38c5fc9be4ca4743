-- Replaying acts gives what is told of each trigger and each variable, as far as it has come.
use Rattle.std.proofs.Common.{◌≡◌, ℕ, Bool, true, false, cond, List, [], ◌∷◌, ◌++◌, map as list_map, refl, sym, ap, subst, ◌∙◌, Some, None, Option}
use Rattle.std.specs.Prelude.{fold, filter, option_map, if◌then◌else◌}
use Rattle.std.specs.Option.{option_map_or}
use Rattle.std.specs.List.{AllByRecursion}
use Rattle.std.specs.List.Sorted.{IsStrictlySortedBy}
use Rattle.std.specs.declared.cmp.Ordering.{Ordering}
use Rattle.std.specs.declared.cmp.Ordering.TheVariants.{Less}
use Rattle.std.specs.Ordering.{nat_cmp, eq_by_cmp, is_lt, ordering_reverse}
use Rattle.std.specs.Cmp.{nat_cmp_total, eq_by_cmp_equiv, tied_itself}
use Rattle.std.specs.FinMap as map
use Rattle.std.specs.FinMap.{FinMap, get-insert, get-remove, get-empty, nat_cmp-IsAntisymmetric, IsAntisymmetric}
use Rattle.std.proofs.lemmas.List.{append-nil, append_assoc}
use Rattle.std.proofs.lemmas.List.Sums.{fold-append}
use Rattle.ft_fields.specs.declared.pos.Pos.{Pos}
use Rattle.ft_maps.specs.Entries.{same_from_tie}
use Rattle.ft_pairs.specs.declared.at.At.{At}
use Rattle.ft_pairs.specs.Order.{at_cmp, at_cmp_total}
use Rattle.ft_pairs.specs.declared.role.Role.{Role}
use Rattle.ft_pairs.specs.declared.role.Role.TheVariants.{Plain, Saves, Reads}
use Rattle.ft_pairs.specs.declared.role.Variable.{Variable}
use Rattle.ft_replay.specs.Replay.{Tallies, State, act_as, act}
use Rattle.ft_replay.specs.Tally.{Tally, RowGrowth, empty_tally, has_place}
use Rattle.ft_pairs.specs.Variables.{variable_cmp, variable_cmp_total, variable_same}
use Rattle.ft_replay.proofs.Acts.{Act, is_before, run, tell_act, told_plain, admits, left_as, left, left_before, read_by, told}
use Rattle.ft_replay.proofs.Rooms.{has_place-is}

-- where the acts stand
abbrev pub places : List Act → List At
places acts = list_map (λ a. a.at) acts

-- ---- the acts before one

all_at : (P : At → Type 0) (front : List Act) (a : Act) (rest : List Act) → AllByRecursion P (places (front ++ a ∷ rest)) → P a.at
all_at P [] a rest h = h.0
all_at P (d ∷ front) a rest h = all_at P front a rest h.1

pub none_before : (at : At) (acts : List Act) → AllByRecursion (λ y. at_cmp at y ≡ Less) (places acts) → filter (is_before at) acts ≡ []
none_before at [] h = refl
none_before at (a ∷ acts) h =
    ap (λ o. cond (is_lt o) (a ∷ filter (is_before at) acts) (filter (is_before at) acts)) (at_cmp_total.antisymm a.at at ∙ ap ordering_reverse h.0)
    ∙ none_before at acts h.1

before-is : (front : List Act) (a : Act) (rest : List Act) → IsStrictlySortedBy at_cmp (places (front ++ a ∷ rest)) → filter (is_before a.at) (front ++ a ∷ rest) ≡ front
unfolding IsStrictlySortedBy
before-is [] a rest h =
    ap (λ o. cond (is_lt o) (a ∷ filter (is_before a.at) rest) (filter (is_before a.at) rest)) (tied_itself at_cmp_total a.at)
    ∙ none_before a.at rest h.0
before-is (d ∷ front) a rest h =
    ap (λ o. cond (is_lt o) (d ∷ filter (is_before a.at) (front ++ a ∷ rest)) (filter (is_before a.at) (front ++ a ∷ rest))) (all_at (λ y. at_cmp d.at y ≡ Less) front a rest h.0)
    ∙ ap (λ (xs : List Act). d ∷ xs) (before-is front a rest h.1)

-- ---- one act

module _ (size : ℕ → ℕ) (role : ℕ → Role) (growth : Act → RowGrowth) where
  abbrev tell_of : Act → Option Pos → Tally → Tally
  tell_of = tell_act size growth

  act-is : (state : State) (a : Act) (t : Tally) → map.get state.tallies a.at.trigger ≡ Some t
      → act (size a.at.trigger) (role a.at.trigger) (growth a) state a.at a.key ≡ act_as (size a.at.trigger) (growth a) (role a.at.trigger) state a.at a.key t
  unfolding act
  act-is state a t has = rw has refl

  module _ (acts : List Act) where
    abbrev tells : ℕ → Tally → Act → Tally
    tells = told size role growth acts

    abbrev leaves : Variable → Option Pos → Act → Option Pos
    leaves = left size role growth acts

    abbrev reads : Role → Act → Option (Option Pos)
    reads = read_by size role growth acts

    own_told : (r : Role) (a : Act) (t : Tally) → role a.at.trigger ≡ r → tells a.at.trigger t a ≡ option_map_or (λ saved. tell_of a saved t) (reads r a) t
    unfolding told
    own_told r a t is =
        ap (λ b. cond b (option_map_or (λ saved. tell_of a saved t) (reads (role a.at.trigger) a) t) t) ((eq_by_cmp_equiv nat_cmp_total).refl a.at.trigger)
        ∙ ap (λ r. option_map_or (λ saved. tell_of a saved t) (reads r a) t) is

    other_told : (id : ℕ) (a : Act) (t : Tally) → eq_by_cmp nat_cmp id a.at.trigger ≡ false → tells id t a ≡ t
    unfolding told
    other_told id a t other = ap (λ b. cond b (option_map_or (λ saved. tell_of a saved t) (reads (role a.at.trigger) a) t) t) other

    saver_told : (id : ℕ) → role id ≡ Saves → (t : Tally) (a : Act) → tells id t a ≡ told_plain size growth id t a
    saver_told id is t a = elim (eq_by_cmp nat_cmp id a.at.trigger) as (λ b. eq_by_cmp nat_cmp id a.at.trigger ≡ b → tells id t a ≡ cond b (tell_of a None t) t) [
      | true ↦ λ tie. let same : id ≡ a.at.trigger = same_from_tie nat_cmp-IsAntisymmetric id a.at.trigger tie in
          ap (λ i. tells i t a) same ∙ own_told Saves a t (ap role (sym same) ∙ is)
      | false ↦ λ other. other_told id a t other
    ] refl

    pub savers_told : (id : ℕ) → role id ≡ Saves → (t : Tally) (xs : List Act) → fold (tells id) t xs ≡ fold (told_plain size growth id) t xs
    savers_told id is t [] = refl
    savers_told id is t (x ∷ xs) = savers_told id is (tells id t x) xs ∙ ap (λ (u : Tally). fold (told_plain size growth id) u xs) (saver_told id is t x)

    -- a saver's hit finds room exactly if its key is admitted
    admits-is : (front : List Act) (a : Act) (rest : List Act) → acts ≡ front ++ a ∷ rest → role a.at.trigger ≡ Saves
        → has_place (size a.at.trigger) (fold (tells a.at.trigger) empty_tally front).table a.key ≡ admits size role growth acts a.at.trigger a.key
    unfolding admits
    admits-is front a rest whole is =
        let before : Tally = fold (told_plain size growth a.at.trigger) empty_tally front in
        ap (λ (t : Tally). has_place (size a.at.trigger) t.table a.key) (savers_told a.at.trigger is empty_tally front)
        ∙ has_place-is size growth a before rest
        ∙ ap (λ b. map.contains_key (fold (told_plain size growth a.at.trigger) (cond b (tell_of a None before) before) rest).table a.key) (sym ((eq_by_cmp_equiv nat_cmp_total).refl a.at.trigger))
        ∙ ap (λ (t : Tally). map.contains_key t.table a.key) (sym (fold-append (told_plain size growth a.at.trigger) empty_tally front (a ∷ rest)))
        ∙ ap (λ (xs : List Act). map.contains_key (fold (told_plain size growth a.at.trigger) empty_tally xs).table a.key) (sym whole)

    -- ---- what holds after some acts

    abbrev pub TalliesHold : Tallies → List Act → Tallies → Type 0
    TalliesHold start front tallies = (q : ℕ) → map.get tallies q ≡ option_map (λ (t : Tally). fold (tells q) t front) (map.get start q)

    abbrev pub VariablesHold : List Act → FinMap variable_cmp Pos → Type 0
    VariablesHold front variables = (v : Variable) → map.get variables v ≡ fold (leaves v) None front

    more_tallies : (start : Tallies) (front : List Act) (a : Act) (old new : Tallies) → map.get start a.at.trigger ≡ Some empty_tally → TalliesHold start front old
        → ((q : ℕ) → map.get new q ≡ cond (eq_by_cmp nat_cmp q a.at.trigger) (Some (tells a.at.trigger (fold (tells a.at.trigger) empty_tally front) a)) (map.get old q))
        → TalliesHold start (front ++ a ∷ []) new
    more_tallies start front a old new there hold is q = is q ∙ elim (eq_by_cmp nat_cmp q a.at.trigger) as (λ b. eq_by_cmp nat_cmp q a.at.trigger ≡ b
        → cond b (Some (tells a.at.trigger (fold (tells a.at.trigger) empty_tally front) a)) (map.get old q) ≡ option_map (λ (t : Tally). fold (tells q) t (front ++ a ∷ [])) (map.get start q)) [
          | true ↦ λ tie. let same : q ≡ a.at.trigger = same_from_tie nat_cmp-IsAntisymmetric q a.at.trigger tie in
              ap Some (sym (fold-append (tells a.at.trigger) empty_tally front (a ∷ [])))
              ∙ ap (option_map (λ (t : Tally). fold (tells a.at.trigger) t (front ++ a ∷ []))) (sym there)
              ∙ ap (λ i. option_map (λ (t : Tally). fold (tells i) t (front ++ a ∷ [])) (map.get start i)) (sym same)
          | false ↦ λ other. hold q ∙ ap (λ (f : Tally → Tally). option_map f (map.get start q)) (λ i t.
              sym (fold-append (tells q) t front (a ∷ []) ∙ other_told q a (fold (tells q) t front) other) i)
        ] refl

    more_variables : (front : List Act) (a : Act) (old new : FinMap variable_cmp Pos) → VariablesHold front old → ((v : Variable) → map.get new v ≡ leaves v (map.get old v) a)
        → VariablesHold (front ++ a ∷ []) new
    more_variables front a old new hold is v = is v ∙ ap (λ o. leaves v o a) (hold v) ∙ sym (fold-append (leaves v) None front (a ∷ []))

    option_same : {X : Type 0} (o : Option X) → o ≡ option_map (λ (x : X). x) o
    option_same None = refl
    option_same (Some x) = refl

    cond_same : {X : Type 0} (b : Bool) (x : X) → cond b x x ≡ x
    cond_same true x = refl
    cond_same false x = refl

    set_variables : (variables : FinMap variable_cmp Pos) (x : Variable) (pos : Pos) (v : Variable) (b : Bool)
        → map.get (if b then map.insert variables x pos else variables) v ≡ cond (eq_by_cmp variable_cmp v x) (cond b (Some pos) (map.get variables v)) (map.get variables v)
    set_variables variables x pos v true = get-insert variable_cmp_total variables x pos v
    set_variables variables x pos v false = sym (cond_same (eq_by_cmp variable_cmp v x) (map.get variables v))

    -- what is there already, written once more
    same_at : {K X : Type 0} (R : K → K → Ordering) → IsAntisymmetric R → (m : FinMap R X) (k : K) (o : Option X) → map.get m k ≡ o → (q : K) → map.get m q ≡ cond (eq_by_cmp R q k) o (map.get m q)
    same_at R same m k o is q = elim (eq_by_cmp R q k) as (λ b. eq_by_cmp R q k ≡ b → map.get m q ≡ cond b o (map.get m q)) [
      | true ↦ λ tie. ap (map.get m) (same_from_tie same q k tie) ∙ is
      | false ↦ λ _. refl
    ] refl

    module _ (start : Tallies) (sorted : IsStrictlySortedBy at_cmp (places acts)) where
      module _ (front : List Act) (a : Act) (rest : List Act) (state : State) (whole : acts ≡ front ++ a ∷ rest) (there : map.get start a.at.trigger ≡ Some empty_tally)
          (tallies : TalliesHold start front state.tallies) (variables : VariablesHold front state.variables) where
        abbrev mine : Tally
        mine = fold (tells a.at.trigger) empty_tally front

        own : map.get state.tallies a.at.trigger ≡ Some mine
        own = tallies a.at.trigger ∙ ap (option_map (λ (t : Tally). fold (tells a.at.trigger) t front)) there

        found-is : (v : Variable) → left_before size role growth acts v a.at ≡ map.get state.variables v
        unfolding left_before
        found-is v =
            ap (fold (leaves v) None) (ap (filter (is_before a.at)) whole ∙ before-is front a rest (subst (λ (xs : List Act). IsStrictlySortedBy at_cmp (places xs)) whole sorted))
            ∙ sym (variables v)

        abbrev Next : State → Type 0
        Next s = TalliesHold start (front ++ a ∷ []) s.tallies × VariablesHold (front ++ a ∷ []) s.variables

        -- the tallies after a hit
        hit_tallies : (r : Role) → role a.at.trigger ≡ r → (saved : Option Pos) → reads r a ≡ Some saved → TalliesHold start (front ++ a ∷ []) (map.insert state.tallies a.at.trigger (tell_of a saved mine))
        hit_tallies r is saved hit = more_tallies start front a state.tallies _ there tallies (λ q.
            get-insert nat_cmp_total state.tallies a.at.trigger (tell_of a saved mine) q
            ∙ ap (λ (t : Tally). cond (eq_by_cmp nat_cmp q a.at.trigger) (Some t) (map.get state.tallies q)) (sym (own_told r a mine is ∙ ap (λ o. option_map_or (λ saved. tell_of a saved mine) o mine) hit)))

        -- the variable of a reader
        abbrev read : ℕ → Variable
        read saver = record { saver = saver; key = a.key }

        next_as : (r : Role) → role a.at.trigger ≡ r → Next (act_as (size a.at.trigger) (growth a) r state a.at a.key mine)
        next_as Plain is = (
          hit_tallies Plain is None refl,
          more_variables front a state.variables state.variables variables (λ v. ap (λ r. left_as size role growth acts r v (map.get state.variables v) a) (sym is)),
        )
        next_as Saves is = (
          hit_tallies Saves is None refl,
          more_variables front a state.variables _ variables (λ v.
              set_variables state.variables (read a.at.trigger) a.at.pos v (has_place (size a.at.trigger) mine.table a.key)
              ∙ ap (λ b. cond (eq_by_cmp variable_cmp v (read a.at.trigger)) (cond b (Some a.at.pos) (map.get state.variables v)) (map.get state.variables v)) (admits-is front a rest whole is)
              ∙ ap (λ r. left_as size role growth acts r v (map.get state.variables v) a) (sym is)),
        )
        next_as (Reads saver) is = elim (map.get state.variables (read saver)) as (λ o. map.get state.variables (read saver) ≡ o → Next (option_map_or (λ saved. record {
          tallies = map.insert state.tallies a.at.trigger (tell_of a (Some saved) mine);
          variables = map.remove state.variables (read saver);
        }) o state)) [
          | None ↦ λ none. (
            more_tallies start front a state.tallies state.tallies there tallies (same_at nat_cmp nat_cmp-IsAntisymmetric state.tallies a.at.trigger _ (own ∙ ap Some (sym (
                own_told (Reads saver) a mine is ∙ ap (λ o. option_map_or (λ saved. tell_of a saved mine) (option_map (λ saved. Some saved) o) mine) (found-is (read saver) ∙ none))))),
            more_variables front a state.variables state.variables variables (λ v.
                same_at variable_cmp variable_same state.variables (read saver) None none v ∙ ap (λ r. left_as size role growth acts r v (map.get state.variables v) a) (sym is)),
          )
          | Some saved ↦ λ some. (
            hit_tallies (Reads saver) is (Some saved) (ap (option_map (λ saved. Some saved)) (found-is (read saver) ∙ some)),
            more_variables front a state.variables _ variables (λ v.
                get-remove variable_cmp_total state.variables (read saver) v ∙ ap (λ r. left_as size role growth acts r v (map.get state.variables v) a) (sym is)),
          )
        ] refl

        next : Next (act (size a.at.trigger) (role a.at.trigger) (growth a) state a.at a.key)
        next = subst Next (sym (act-is state a mine own)) (next_as (role a.at.trigger) refl)

      abbrev Holds : List Act → State → Type 0
      Holds front state = TalliesHold start front state.tallies × VariablesHold front state.variables

      behind : (front mid rest : List Act) (state : State) → acts ≡ front ++ (mid ++ rest) → AllByRecursion (λ (a : Act). map.get start a.at.trigger ≡ Some empty_tally) mid
          → TalliesHold start front state.tallies → VariablesHold front state.variables → Holds (front ++ mid) (run size role growth state mid)
      behind front [] rest state whole there tallies variables = subst (λ (xs : List Act). Holds xs state) (sym (append-nil front)) (tallies, variables)
      behind front (a ∷ mid) rest state whole there tallies variables =
          let one : Next front a (mid ++ rest) state whole there.0 tallies variables (act (size a.at.trigger) (role a.at.trigger) (growth a) state a.at a.key) =
          next front a (mid ++ rest) state whole there.0 tallies variables
          in
          subst (λ (xs : List Act). Holds xs (run size role growth state (a ∷ mid))) (append_assoc front (a ∷ []) mid)
          (behind (front ++ a ∷ []) mid rest (act (size a.at.trigger) (role a.at.trigger) (growth a) state a.at a.key) (whole ∙ sym (append_assoc front (a ∷ []) (mid ++ rest))) there.1 one.0 one.1)

      -- each trigger's tally and each variable after a front of the acts
      pub all_told : (front rest : List Act) → acts ≡ front ++ rest → AllByRecursion (λ (a : Act). map.get start a.at.trigger ≡ Some empty_tally) front
          → TalliesHold start front (run size role growth (record { tallies = start; variables = map.empty }) front).tallies
          × VariablesHold front (run size role growth (record { tallies = start; variables = map.empty }) front).variables
      all_told front rest whole there = behind [] front rest (record { tallies = start; variables = map.empty }) whole there (λ q. option_same (map.get start q)) (λ v. get-empty variable_cmp v)
