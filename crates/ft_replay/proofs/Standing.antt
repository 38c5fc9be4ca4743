-- What one event at one attached trigger leaves of the facts that hold along a replay.
use Rattle.std.proofs.Common.{◌≡◌, ℕ, Bool, true, false, cond, List, refl, sym, ap, subst, ◌∙◌, Some, None, Option}
use Rattle.std.specs.Prelude.{ℤ, IsSome, unwrap_or}
use Rattle.std.specs.declared.cmp.Ordering.TheVariants.{Less}
use Rattle.std.specs.Ordering.{nat_cmp, eq_by_cmp, ordering_then}
use Rattle.std.specs.Cmp.{nat_cmp_total}
use Rattle.std.specs.FinMap as map
use Rattle.std.specs.FinMap.{get-insert, get-empty, nat_cmp-IsAntisymmetric}
use Rattle.ft_fields.specs.Traced.{Traced}
use Rattle.ft_fields.specs.declared.pos.Pos.{Pos}
use Rattle.ft_hist.specs.Fitting.{KeyFits}
use Rattle.ft_hist.specs.Hist.{Hist}
use Rattle.ft_hist.specs.Hit.{hit}
use Rattle.ft_fields.specs.declared.key.Part.{Part}
use Rattle.ft_fields.specs.Parts.{key_cmp}
use Rattle.ft_maps.specs.Entries.{same_from_tie}
use Rattle.ft_pairs.specs.Order.{at_cmp, at_cmp_total}
use Rattle.ft_pairs.specs.declared.at.At.{At}
use Rattle.ft_table.specs.Growth.{ComesLast}
use Rattle.ft_table.specs.Hits.{Hits}
use Rattle.ft_table.specs.Marks.{mark_cmp, mark_cmp_total, mark_same}
use Rattle.ft_hits.specs.declared.mark.Mark.{Mark}
use Rattle.ft_table.specs.Spots.{traced}
use Rattle.ft_base.specs.Base.{Triggers}
use Rattle.ft_table.specs.Values.{values_at}
use Rattle.ft_replay.specs.Counters.{Counting, Counters, Suits, HasCounter, HaveCounters}
use Rattle.ft_replay.specs.inner.Replaying.{Saved, counter_with, after_hit, after_act, IsFree, StandBefore, AllBefore}
use Rattle.ft_pairs.specs.declared.role.Role.{Role}
use Rattle.ft_pairs.specs.declared.role.Role.TheVariants.{Plain, Saves, Reads}
use Rattle.ft_replay.proofs.Counting.{after_act-no_hit, after_act-no_counter, after_act-hit}
use Rattle.ft_replay.proofs.Earlier.{act_of, never_before, place_before}

-- ---- one by one

-- what holds of each mark that has a hit holds with one more, if it holds of that one's
pub each_hit : (P : Mark → Type 0) (hits : Hits) (mark : Mark) (v : List ℤ) → ((m : Mark) → IsSome (map.get hits m) → P m) → P mark → (m : Mark) → IsSome (map.get (map.insert hits mark v) m) → P m
each_hit P hits mark v all own m there =
    elim (eq_by_cmp mark_cmp m mark) as (λ b. eq_by_cmp mark_cmp m mark ≡ b → P m) [
      | true ↦ λ at. subst P (sym (same_from_tie mark_same m mark at)) own
      | false ↦ λ apart. all m (subst IsSome (get-insert mark_cmp_total hits mark v m ∙ ap (λ b. cond b (Some v) (map.get hits m)) apart) there)
    ] refl

-- what holds of each counter holds with another one put in, if it holds of that one
pub each_counter : (P : ℕ → Counting → Type 0) (counters : Counters) (id : ℕ) (new : Counting) → ((q : ℕ) (s : Counting) → map.get counters q ≡ Some s → P q s) → P id new
    → (q : ℕ) (s : Counting) → map.get (map.insert counters id new) q ≡ Some s → P q s
each_counter P counters id new all own q s there =
    elim (eq_by_cmp nat_cmp q id) as (λ b. eq_by_cmp nat_cmp q id ≡ b → P q s) [
      | true ↦ λ at.
          let is : new ≡ s = ap (λ (o : Option Counting). unwrap_or o new) (sym (get-insert nat_cmp_total counters id new q ∙ ap (λ b. cond b (Some new) (map.get counters q)) at) ∙ there) in
          subst (P q) is (subst (λ i. P i new) (sym (same_from_tie nat_cmp-IsAntisymmetric q id at)) own)
      | false ↦ λ apart. all q s (sym (get-insert nat_cmp_total counters id new q ∙ ap (λ b. cond b (Some new) (map.get counters q)) apart) ∙ there)
    ] refl

-- a hit leaves its trigger's counter, or one with a hit more
pub hit_or_not : (P : Counting → Type 0) (values : Option Pos → List ℤ) (role : Role) (at : At) (key : List Part) (counter : Counting) (saved : Saved)
    → P counter → ((read : Option Pos) → P (counter_with (record { spot = traced at.pos; key = key }) read (values read) counter)) → P (after_hit values role at key (counter, saved)).0
hit_or_not P values Plain at key counter saved none one = one None
hit_or_not P values Saves at key counter saved none one = one None
hit_or_not P values (Reads saver) at key counter saved none one =
    elim (map.get saved (record { saver = saver; key = key })) as (λ o. map.get saved (record { saver = saver; key = key }) ≡ o → P (after_hit values (Reads saver) at key (counter, saved)).0) [
      | None ↦ λ is. rw is none
      | Some place ↦ λ is. rw is (one (Some place))
    ] refl

-- ---- the hits stand before what comes

module _ (at : At) (counters : Counters) (before : AllBefore at counters) where
  not_there : (hits : Hits) (mark : Mark) → ((m : Mark) → IsSome (map.get hits m) → m ≡ mark → ⊥) → map.get hits mark ≡ None
  not_there hits mark none = elim (map.get hits mark) as (λ o. map.get hits mark ≡ o → o ≡ None) [
    | None ↦ λ is. refl
    | Some v ↦ λ is. absurd (none mark (subst IsSome (sym is) refl) refl)
  ] refl

  -- no hit stands where the trigger acts
  pub free_before : IsFree at counters
  free_before counter key there =
      not_there counter.table.hits (record { spot = traced at.pos; key = key }) (λ m is same.
      never_before at_cmp_total at (subst (λ (q : Mark). at_cmp (act_of q.spot.pos at.trigger) at ≡ Less) same (before at.trigger counter there m is)))

  -- a hit there comes last
  pub comes_last : (counter : Counting) (key : List Part) → map.get counters at.trigger ≡ Some counter → ComesLast counter.table (record { spot = traced at.pos; key = key })
  comes_last counter key there = record {
    absent = free_before counter key there;
    last = λ q is. ap (λ o. ordering_then (ordering_then o (nat_cmp q.spot.maker 0)) (key_cmp q.key key)) (place_before q.spot.pos at.pos at.trigger (before at.trigger counter there q is));
  }

  -- all hits stand before a later act
  pub before_later : (next : At) → at_cmp at next ≡ Less → AllBefore next counters
  before_later next less id counter there m is = at_cmp_total.trans (act_of m.spot.pos id) at next (before id counter there m is) less

  -- and still after an event at the trigger
  pub after_act-before : (hist : Hist) (event : Traced) (saved : Saved) (next : At) → at_cmp at next ≡ Less → AllBefore next (after_act hist event at (counters, saved)).0
  after_act-before hist event saved next less =
      elim (hit hist event) as (λ h. hit hist event ≡ h → AllBefore next (after_act hist event at (counters, saved)).0) [
        | None ↦ λ none. subst (λ (p : Counters × Saved). AllBefore next p.0) (sym (after_act-no_hit hist event at counters saved none)) (before_later next less)
        | Some key ↦ λ is. elim (map.get counters at.trigger) as (λ o. map.get counters at.trigger ≡ o → AllBefore next (after_act hist event at (counters, saved)).0) [
          | None ↦ λ none. subst (λ (p : Counters × Saved). AllBefore next p.0) (sym (after_act-no_counter hist event at counters saved key is none)) (before_later next less)
          | Some counter ↦ λ there.
              let old : StandBefore next at.trigger counter = before_later next less at.trigger counter there in
              let new : StandBefore next at.trigger (after_hit (values_at hist at.pos event) counter.role at key (counter, saved)).0 =
              hit_or_not (StandBefore next at.trigger) (values_at hist at.pos event) counter.role at key counter saved old (λ read.
              each_hit (λ m. at_cmp (act_of m.spot.pos at.trigger) next ≡ Less) counter.table.hits (record { spot = traced at.pos; key = key }) (values_at hist at.pos event read) old less) in
              subst (λ (p : Counters × Saved). AllBefore next p.0) (sym (after_act-hit hist event at counters saved key counter is there))
              (each_counter (StandBefore next) counters at.trigger _ (before_later next less) new)
        ] refl
      ] refl

-- ---- each trigger keeps its counter

module _ (fits : (hist : Hist) (event : Traced) (parts : List Part) → hit hist event ≡ Some parts → KeyFits hist.keys parts) (triggers : Triggers) (counters : Counters) (complete : HaveCounters triggers counters) where
  suits_after : (hist : Hist) (event : Traced) (at : At) (saved : Saved) (key : List Part) (counter : Counting) → hit hist event ≡ Some key → Suits triggers hist counter
      → Suits triggers hist (after_hit (values_at hist at.pos event) counter.role at key (counter, saved)).0
  suits_after hist event at saved key counter is suits =
      hit_or_not (Suits triggers hist) (values_at hist at.pos event) counter.role at key counter saved suits (λ read. record {
        role = suits.role;
        size = suits.size;
        fit = each_hit (λ m. KeyFits hist.keys m.key) counter.table.hits (record { spot = traced at.pos; key = key }) (values_at hist at.pos event read) suits.fit (fits hist event key is);
      })

  -- a trigger has its counter as another one takes that of its own
  with_own : (id : ℕ) (hist : Hist) (new : Counting) → map.get triggers id ≡ Some hist → Suits triggers hist new → HaveCounters triggers (map.insert counters id new)
  with_own id hist new attached suits q h is =
      elim (eq_by_cmp nat_cmp q id) as (λ b. eq_by_cmp nat_cmp q id ≡ b → HasCounter triggers (map.insert counters id new) q h) [
        | true ↦ λ at.
            let same : hist ≡ h = ap (λ (o : Option Hist). unwrap_or o hist) (sym attached ∙ sym (ap (map.get triggers) (same_from_tie nat_cmp-IsAntisymmetric q id at)) ∙ is) in
            record {
              counter = new;
              there = get-insert nat_cmp_total counters id new q ∙ ap (λ b. cond b (Some new) (map.get counters q)) at;
              suits = subst (λ (x : Hist). Suits triggers x new) same suits;
            }
        | false ↦ λ apart.
            let has : HasCounter triggers counters q h = complete q h is in
            record {
              counter = has.counter;
              there = get-insert nat_cmp_total counters id new q ∙ ap (λ b. cond b (Some new) (map.get counters q)) apart ∙ has.there;
              suits = has.suits;
            }
      ] refl

  pub after_act-complete : (hist : Hist) (event : Traced) (at : At) (saved : Saved) → map.get triggers at.trigger ≡ Some hist → HaveCounters triggers (after_act hist event at (counters, saved)).0
  after_act-complete hist event at saved attached =
      let has : HasCounter triggers counters at.trigger hist = complete at.trigger hist attached in
      elim (hit hist event) as (λ h. hit hist event ≡ h → HaveCounters triggers (after_act hist event at (counters, saved)).0) [
        | None ↦ λ none. subst (λ (p : Counters × Saved). HaveCounters triggers p.0) (sym (after_act-no_hit hist event at counters saved none)) complete
        | Some key ↦ λ is.
            subst (λ (p : Counters × Saved). HaveCounters triggers p.0) (sym (after_act-hit hist event at counters saved key has.counter is has.there))
            (with_own at.trigger hist _ attached (suits_after hist event at saved key has.counter is has.suits))
      ] refl

-- ---- at the start

-- an empty table has no hits
pub none_before : (at : At) (counter : Counting) (id : ℕ) → counter.table.hits ≡ map.empty → StandBefore at id counter
none_before at counter id empty m is =
    let none : ◌≡◌ {A = Bool} false true = subst IsSome (ap (λ (hits : Hits). map.get hits m) empty ∙ get-empty mark_cmp m) is in cc
