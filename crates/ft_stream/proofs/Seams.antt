-- A part that is joined: the waits that it told before, and those that are told now.
use Rattle.std.specs.Prelude.{◌≡◌, ◌+◌, ◌&&◌, ◌||◌, ℕ, Bool, true, false, List, [], ◌∷◌, ◌++◌, length, take, drop, map as list_map, Option, Some, None, option_map, is_some}
use Rattle.std.specs.List.{count_by}
use Rattle.std.proofs.Common.{refl, sym, ap, ◌∙◌, append_assoc, append-nil, subst, cond, arith}
use Rattle.std.proofs.lemmas.List.{take_all, drop_all}
use Rattle.std.proofs.lemmas.List.Elements.{filter-append}
use Rattle.std.proofs.lemmas.List.Sums.{sum_by-cons, sum_by-append}
use Rattle.ft_fields.specs.declared.pos.Pos.{Pos}
use Rattle.ft_dispatch.specs.Acts.{Act}
use Rattle.ft_dispatch.specs.Joining.{place_behind, dispatch_behind, joined_behind, firsts, others, AreOfTasks}
use Rattle.ft_dispatch.specs.declared.dispatch.Dispatch.{Dispatch}
use Rattle.ft_waits.specs.Joining.{behind_text, JoinsTexts}
use Rattle.ft_waits.specs.Streams.{HasRead, counts_kept}
use Rattle.ft_waits.specs.declared.stream.Waits.{Waits}
use Rattle.ft_stream.specs.Joining.{waits_behind, JoinsTold}
use Rattle.ft_stream.specs.Telling.{ends_wait, waits_of, HasTold, HoldsBack}
use Rattle.ft_stream.specs.declared.apart.Part.{Part}
use Rattle.ft_stream.specs.declared.phase.Phase.TheVariants as phases
use Rattle.ft_stream.proofs.Stamps.{wait-behind}

-- ---- waits behind other events

kept-step : (move : Pos → Pos) (ends : Bool) (one : Dispatch) (behind waits : List Dispatch) → behind ≡ list_map (dispatch_behind move) waits
    → cond ends (dispatch_behind move one ∷ behind) behind ≡ list_map (dispatch_behind move) (cond ends (one ∷ waits) waits)
kept-step move true one behind waits is = ap (λ (ds : List Dispatch). dispatch_behind move one ∷ ds) is
kept-step move false one behind waits is = is

module _ (counts : List ℕ) where
  abbrev move : Pos → Pos
  move = place_behind counts

  waits-behind : (told : List Dispatch) → waits_of (list_map (dispatch_behind move) told) ≡ list_map (dispatch_behind move) (waits_of told)
  waits-behind [] = refl
  waits-behind (one ∷ told) =
      ap (λ b. cond b (dispatch_behind move one ∷ waits_of (list_map (dispatch_behind move) told)) (waits_of (list_map (dispatch_behind move) told))) (wait-behind counts one.since)
      ∙ kept-step move (ends_wait one) one (waits_of (list_map (dispatch_behind move) told)) (waits_of told) (waits-behind told)

-- ---- how many waits there are of a kind

module _ (passes : Dispatch → Bool) where
  abbrev waits_and : Dispatch → Bool
  waits_and one = ends_wait one && passes one

  count-step : (ends : Bool) (one : Dispatch) (waits : List Dispatch) (n : ℕ) → count_by passes waits ≡ n → count_by passes (cond ends (one ∷ waits) waits) ≡ cond (ends && passes one) 1 0 + n
  count-step true one waits n is = sum_by-cons (λ (d : Dispatch). cond (passes d) 1 0) one waits ∙ ap (λ (m : ℕ). cond (passes one) 1 0 + m) is
  count-step false one waits n is = omega (arith, is)

  count-waits : (told : List Dispatch) → count_by passes (waits_of told) ≡ count_by waits_and told
  count-waits [] = refl
  count-waits (one ∷ told) =
      count-step (ends_wait one) one (waits_of told) (count_by waits_and told) (count-waits told)
      ∙ sym (sum_by-cons (λ (d : Dispatch). cond (waits_and d) 1 0) one told)

  count-both : (first second : List Dispatch) → count_by passes (waits_of (first ++ second)) ≡ count_by waits_and first + count_by waits_and second
  count-both first second = count-waits (first ++ second) ∙ sum_by-append (λ (d : Dispatch). cond (waits_and d) 1 0) first second

  counts-together : (late behind waits before : List Dispatch) → count_by waits_and (firsts behind) + count_by waits_and (others behind) ≡ count_by waits_and behind
      → waits ≡ waits_of (late ++ firsts behind) → before ≡ waits_of (others behind)
      → count_by passes waits + count_by passes before ≡ count_by passes (waits_of (late ++ behind))
  counts-together late behind waits before all now were =
      let now_count = ap (count_by passes) now ∙ count-both late (firsts behind) in
      let were_count = ap (count_by passes) were ∙ count-waits (others behind) in
      let both = count-both late behind in
      omega (arith, now_count, were_count, both, all)

-- ---- both texts

-- what stands in a vector that was written as a slice
pub written : (old new : List Dispatch) (len : ℕ) → length old ≡ len → length new ≡ length old → take len (new ++ drop (length new) old) ≡ new
written old new len is same =
    ap (λ (ds : List Dispatch). take len (new ++ ds)) (drop_all (length new) old (omega (arith, same)))
    ∙ ap (take len) (append-nil new) ∙ take_all len new (omega (arith, is, same))

-- the laws of first dispatches
abbrev pub TasksLaw : Type 0
TasksLaw = (told : List Dispatch) → AreOfTasks told (firsts told)

abbrev pub FirstsLaw : Type 0
FirstsLaw = (move : Pos → Pos) (before : List (Pos × Act)) (told : List Dispatch) → firsts (joined_behind move before told) ≡ joined_behind move before (firsts told)

abbrev pub OthersLaw : Type 0
OthersLaw = (move : Pos → Pos) (before : List (Pos × Act)) (told : List Dispatch) → others (joined_behind move before told) ≡ list_map (dispatch_behind move) (others told)

abbrev pub AllLaw : Type 0
AllLaw = (passes : Dispatch → Bool) (told : List Dispatch) → count_by passes (firsts told) + count_by passes (others told) ≡ count_by passes told

pub joins-told : (old new : Waits) (part : Part) (cleared late ones waits : List Dispatch) → cleared ≡ [] → JoinsTexts old part.waits cleared part.firsts.ones.items new late ones → new.failed ≡ None → waits ≡ waits_of (late ++ ones)
    → TasksLaw → FirstsLaw → OthersLaw → AllLaw → JoinsTold (phases.Running old) (phases.Part part) (phases.Running new) waits
joins-told old new part cleared late ones waits none joins well is tasks moves_firsts moves_others all choice text own told apart was here =
    let had : HasTold choice old text told = was.1 in
    let back : HoldsBack choice part own apart = here.1 in
    let read : HasRead choice old text (had.dispatches ++ cleared) = subst (λ (ds : List Dispatch). HasRead choice old text ds) (sym (append-nil had.dispatches) ∙ ap (λ (ds : List Dispatch). had.dispatches ++ ds) (sym none)) had.has_read in
    let of : AreOfTasks back.dispatches part.firsts.ones.items = subst (λ (ds : List Dispatch). AreOfTasks back.dispatches ds) (sym back.held.ones) (tasks back.dispatches) in
    let joined = joins choice text own had.dispatches back.dispatches read back.has_read of in
    let behind : List Dispatch = behind_text (counts_kept old) choice text back.dispatches in
    let now : waits ≡ waits_of (late ++ firsts behind) =
    is ∙ ap (λ (ds : List Dispatch). waits_of (late ++ ds)) (joined.1 ∙ ap (behind_text (counts_kept old) choice text) back.held.ones ∙ sym (moves_firsts (place_behind (counts_kept old)) _ back.dispatches)) in
    let before : waits_behind (counts_kept old) apart ≡ waits_of (others behind) =
    ap (list_map (dispatch_behind (place_behind (counts_kept old)))) back.are_waits ∙ sym (waits-behind (counts_kept old) (others back.dispatches))
    ∙ ap waits_of (sym (moves_others (place_behind (counts_kept old)) _ back.dispatches)) in
    record {
      late = late;
      behind = behind;
      reads = (
        refl,
        record {
          dispatches = (had.dispatches ++ late) ++ behind;
          has_read = joined.0;
          well = well;
          are_waits = ap (λ (ds : List Dispatch). ds ++ waits_of (late ++ behind)) had.are_waits ∙ sym (filter-append ends_wait had.dispatches (late ++ behind)) ∙ ap waits_of (sym (append_assoc had.dispatches late behind));
        },
      );
      now = now;
      before = before;
      together = λ passes. counts-together passes late behind waits (waits_behind (counts_kept old) apart) (all (waits_and passes) behind) now before;
    }
