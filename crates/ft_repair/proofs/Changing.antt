-- The events of a list come to what is kept, or go from it, one by one, at all triggers or at one.
use Rattle.std.proofs.Common.{◌≡◌, ℕ, Bool, true, false, cond, List, [], ◌∷◌, refl, sym, ap, subst, ◌∙◌, Option, Some, None, is_some}
use Rattle.std.specs.Prelude.{◌&&◌, if◌then◌else◌, option_and_then}
use Rattle.std.specs.List.{IsDistinct, AllByRecursion}
use Rattle.std.specs.FinMap as map
use Rattle.std.proofs.lemmas.Map.Keys.{IsDistinct-head, IsDistinct-tail}
use Rattle.ft_kept.specs.Views.{AreViewsOf, set, with_some, act_by_id, act_under}
use Rattle.ft_kept.proofs.Views.{attached_act, views_as}
use Rattle.ft_shelves.proofs.Decided.{itself}
use Rattle.ft_pairs.specs.Edits.{same_at}
use Rattle.ft_base.specs.Base.{Triggers}
use Rattle.ft_fields.specs.Places.{pos_cmp, pos_cmp_total, pos_same}
use Rattle.ft_fields.specs.Traced.{Traced}
use Rattle.ft_fields.specs.declared.key.Part.{Part}
use Rattle.ft_fields.specs.declared.pos.Pos.{Pos}
use Rattle.ft_hist.specs.Hist.{Hist}
use Rattle.ft_kept.specs.Acts.{Acts}
use Rattle.ft_kept.specs.Input.{AreViews, input_of}
use Rattle.ft_kept.specs.Repairs.{IsHeldAt}
use Rattle.ft_kept.specs.Shelves.{FormsStay, Shelves}
use Rattle.ft_kept.specs.Signs.{event_after, event_before}
use Rattle.ft_lanes.specs.Held.{Lanes}
use Rattle.ft_maps.specs.Entries.{same_from_tie}
use Rattle.ft_pairs.specs.declared.at.At.{At}
use Rattle.ft_repair.specs.KeptFor.{AreKeptFor}
use Rattle.ft_repair.specs.inner.Joining.{is_one}
use Rattle.ft_shelves.specs.declared.sign.Sign.{Sign}
use Rattle.std.proofs.lemmas.Bool.{eq-eqb, eqb-true}
use Rattle.std.specs.Cmp.{tied_then, unsigned_tied}
use Rattle.std.specs.FinMap.{find}
use Rattle.std.specs.Map.{keys_of}
use Rattle.std.specs.Ordering.{eq_by_cmp, nat_cmp}
use Rattle.ft_repair.proofs.KeptFor.{changed_for, input_is, views_of}

-- an input on the way: at some places the first one, elsewhere the last one
abbrev pub between : Acts → Acts → (At → Bool) → Acts
between first last left at = if left at then first at else last at

-- the places of these triggers at the events that are left
abbrev pub left_of : (ℕ → Bool) → List (Pos × Traced) → At → Bool
left_of mine rest at = mine at.trigger && is_some (find pos_cmp at.pos rest)

pub none_left : (o : Option Traced) → is_some o ≡ false → o ≡ None
none_left None none = refl
none_left (Some event) none = let both : ◌≡◌ {A = Bool} true false = none in absurd cc

none_at : (q : Pos) (es : List (Pos × Traced)) → AllByRecursion (λ k. eq_by_cmp pos_cmp q k ≡ false) (keys_of es) → find pos_cmp q es ≡ None
none_at q [] apart = refl
none_at q (e ∷ es) apart = ap (λ (b : Bool). cond b (Some e.1) (find pos_cmp q es)) apart.0 ∙ none_at q es apart.1

module _ (triggers : Triggers) (lanes : Lanes) (mine : ℕ → Bool) (sign : Sign) (first last : Acts) where
  -- an event is held, has still to come or go in the first input, and has come or gone in the last
  pub record Changes (e : Pos × Traced) : Type 0 where
    pub held : IsHeldAt lanes e.0 e.1
    pub before : (id : ℕ) → mine id ≡ true → first (record { pos = e.0; trigger = id }) ≡ act_by_id triggers id (event_before sign e.1)
    pub after : (id : ℕ) → mine id ≡ true → last (record { pos = e.0; trigger = id }) ≡ act_by_id triggers id (event_after sign e.1)

  -- some of these events are left
  pub record IsChanging (rest : List (Pos × Traced)) (shelves : Shelves) : Type 0 where
    pub kept : AreKeptFor triggers lanes (between first last (left_of mine rest)) shelves
    pub changes : AllByRecursion Changes rest
    pub apart : IsDistinct (eq_by_cmp pos_cmp) (keys_of rest)

module _ {triggers : Triggers} {lanes : Lanes} {mine : ℕ → Bool} {sign : Sign} {first last : Acts} where
  -- at first all are left
  pub changing_all : (es : List (Pos × Traced)) (shelves : Shelves) → AreKeptFor triggers lanes first shelves → ((at : At) → left_of mine es at ≡ false → first at ≡ last at)
      → AllByRecursion (Changes triggers lanes mine sign first last) es → IsDistinct (eq_by_cmp pos_cmp) (keys_of es) → IsChanging triggers lanes mine sign first last es shelves
  changing_all es shelves kept same changes apart = record {
    kept = subst (λ (input : Acts). AreKeptFor triggers lanes input shelves) (λ i at. starts at i) kept;
    changes = changes;
    apart = apart;
  }
    where
      starts : (at : At) → first at ≡ between first last (left_of mine es) at
      starts at = elim (left_of mine es at) as (λ (b : Bool). left_of mine es at ≡ b → first at ≡ cond b (first at) (last at)) [
        | true ↦ λ _. refl
        | false ↦ λ out. same at out
      ] refl

  -- the first of those that are left
  pub next_of : {es rest : List (Pos × Traced)} {e : Pos × Traced} {shelves : Shelves} → es ≡ e ∷ rest → IsChanging triggers lanes mine sign first last es shelves → IsChanging triggers lanes mine sign first last (e ∷ rest) shelves
  next_of {shelves = shelves} more = subst (λ (es : List (Pos × Traced)). IsChanging triggers lanes mine sign first last es shelves) more

  module _ {e : Pos × Traced} {rest : List (Pos × Traced)} {old : Shelves} (is : IsChanging triggers lanes mine sign first last (e ∷ rest) old) where
    abbrev now : Acts
    now = between first last (left_of mine (e ∷ rest))

    abbrev later : Acts
    later = between first last (left_of mine rest)

    tells : input_of triggers lanes old ≡ now
    tells = input_is triggers lanes now old is.kept

    -- the next one can come or go
    pub next_views : AreViews triggers lanes old
    next_views = views_of triggers lanes now old is.kept

    pub next_held : IsHeldAt lanes e.0 e.1
    next_held = is.changes.0.held

    pub next_before : (id : ℕ) → mine id ≡ true → input_of triggers lanes old (record { pos = e.0; trigger = id }) ≡ act_by_id triggers id (event_before sign e.1)
    next_before id own =
        let at : At = record { pos = e.0; trigger = id } in
        ap (λ (input : Acts). input at) tells
        ∙ ap (λ (b : Bool). cond (b && is_some (find pos_cmp e.0 (e ∷ rest))) (first at) (last at)) own
        ∙ ap (λ (b : Bool). cond (is_some (cond b (Some e.1) (find pos_cmp e.0 rest))) (first at) (last at)) (itself pos_cmp_total e.0)
        ∙ is.changes.0.before id own

    nothing_behind : (q : Pos) → q ≡ e.0 → find pos_cmp q rest ≡ None
    nothing_behind q same = ap (λ (p : Pos). find pos_cmp p rest) same ∙ none_at e.0 rest (IsDistinct-head (eq_by_cmp pos_cmp) e.0 (keys_of rest) is.apart)

    -- with it changed the others are left
    changed_at : (q : At) → with_some triggers now e.0 (event_after sign e.1) mine q ≡ later q
    changed_at q = by (eq_by_cmp pos_cmp q.pos e.0) (mine q.trigger) refl refl
      where
        some : Bool → Option (List Part × Traced)
        some b = cond b (first q) (last q)

        by : (tie own : Bool) → eq_by_cmp pos_cmp q.pos e.0 ≡ tie → mine q.trigger ≡ own
            → cond tie (cond own (act_by_id triggers q.trigger (event_after sign e.1)) (some (own && is_some (cond tie (Some e.1) (find pos_cmp q.pos rest))))) (some (own && is_some (cond tie (Some e.1) (find pos_cmp q.pos rest))))
            ≡ some (own && is_some (find pos_cmp q.pos rest))
        by true true tie own =
            let same : q.pos ≡ e.0 = same_from_tie pos_same q.pos e.0 tie in
            sym (ap (λ (o : Option Traced). some (is_some o)) (nothing_behind q.pos same)
            ∙ ap (λ (p : Pos). last (record { pos = p; trigger = q.trigger })) same
            ∙ is.changes.0.after q.trigger own)
        by true false tie other = refl
        by false true apart own = refl
        by false false apart other = refl

    pub changing_fewer : (new : Shelves) → FormsStay old new → AreViewsOf triggers lanes (with_some triggers (input_of triggers lanes old) e.0 (event_after sign e.1) mine) new → IsChanging triggers lanes mine sign first last rest new
    changing_fewer new forms views = record {
      kept = changed_for triggers lanes later old new is.kept.each forms
          (views_as triggers lanes _ later new (ap (λ (input : Acts). with_some triggers input e.0 (event_after sign e.1) mine) tells ∙ (λ i q. changed_at q i)) views);
      changes = is.changes.1;
      apart = IsDistinct-tail (eq_by_cmp pos_cmp) e.0 (keys_of rest) is.apart;
    }

  -- at last none is left
  pub changing_none : {es : List (Pos × Traced)} {shelves : Shelves} → es ≡ [] → IsChanging triggers lanes mine sign first last es shelves → AreKeptFor triggers lanes last shelves
  changing_none {shelves = shelves} none is =
      subst (λ (input : Acts). AreKeptFor triggers lanes input shelves) (λ i at. ends at (mine at.trigger) i)
      (subst (λ (es : List (Pos × Traced)). IsChanging triggers lanes mine sign first last es shelves) none is).kept
    where
      ends : (at : At) (own : Bool) → cond (own && false) (first at) (last at) ≡ last at
      ends at true = refl
      ends at false = refl

-- ---- at one trigger

module _ (triggers : Triggers) (id : ℕ) (hist : Hist) (attached : map.get triggers id ≡ Some hist) where
  -- setting its act is changing the event only at it
  set_alone : (input : Acts) (pos : Pos) (event : Option Traced) → set input (record { pos = pos; trigger = id }) (option_and_then (act_under hist) event) ≡ with_some triggers input pos event (is_one id)
  set_alone input pos event i q = (ap (λ (b : Bool). cond b (option_and_then (act_under hist) event) (input q)) same ∙ by (eq_by_cmp pos_cmp q.pos pos) (is_one id q.trigger) refl) i
    where
      same : same_at q (record { pos = pos; trigger = id }) ≡ (eq_by_cmp pos_cmp q.pos pos && is_one id q.trigger)
      same = sym (tied_then (pos_cmp q.pos pos) (nat_cmp q.trigger id)) ∙ ap (λ (b : Bool). eq_by_cmp pos_cmp q.pos pos && b) (unsigned_tied q.trigger id)

      by : (tie own : Bool) → is_one id q.trigger ≡ own → cond (tie && own) (option_and_then (act_under hist) event) (input q) ≡ cond tie (cond own (act_by_id triggers q.trigger event) (input q)) (input q)
      by true true own = sym (ap (λ (k : ℕ). act_by_id triggers k event) (eqb-true q.trigger id own) ∙ attached_act triggers id hist attached event)
      by true false other = refl
      by false own is = refl

module _ {triggers : Triggers} (id : ℕ) {hist : Hist} (attached : map.get triggers id ≡ Some hist)
    {lanes : Lanes} {sign : Sign} {first last : Acts} {e : Pos × Traced} {rest : List (Pos × Traced)} {old : Shelves} (is : IsChanging triggers lanes (is_one id) sign first last (e ∷ rest) old) where
  pub its_before : input_of triggers lanes old (record { pos = e.0; trigger = id }) ≡ option_and_then (act_under hist) (event_before sign e.1)
  its_before = next_before is id (eq-eqb id id refl) ∙ attached_act triggers id hist attached (event_before sign e.1)

  pub its_fewer : (new : Shelves) → FormsStay old new → AreViewsOf triggers lanes (set (input_of triggers lanes old) (record { pos = e.0; trigger = id }) (option_and_then (act_under hist) (event_after sign e.1))) new
      → IsChanging triggers lanes (is_one id) sign first last rest new
  its_fewer new forms views =
      changing_fewer is new forms (views_as triggers lanes _ _ new (set_alone triggers id hist attached (input_of triggers lanes old) e.0 (event_after sign e.1)) views)
