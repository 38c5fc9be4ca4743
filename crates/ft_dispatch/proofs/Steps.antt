-- A loop that completes dispatches by what is known of their tasks, and forgets that.
use Rattle.std.specs.Prelude.{◌≡◌, ◌+◌, ◌<◌, ◌≤◌, ℕ, suc, ℤ, Bool, true, false, ◌||◌, List, [], ◌∷◌, ◌++◌, length, reverse, take, drop}
use Rattle.std.specs.Ordering.{int_eq}
use Rattle.std.proofs.Common.{refl, sym, ap, ◌∙◌, append_assoc, cond, get_or, set, arith}
use Rattle.std.proofs.lemmas.List.{append-nil, reverse-append, length-reverse, length-take-le, take_more, take_all, drop_more, drop_all, get_or-append-add}
use Rattle.std.proofs.Math.Seq.{set-append_seam}
use Rattle.ft_dispatch.specs.Joining.{has_one, completed_by, completed, all_completed, joined, left_over}
use Rattle.ft_dispatch.specs.Telling.{unknown, known}
use Rattle.ft_dispatch.specs.declared.dispatch.Dispatch.{Dispatch}
use Rattle.ft_dispatch.specs.declared.dispatch.Since.{Since}
use Rattle.ft_dispatch.specs.declared.tasks.Known.{Known}
use Rattle.ft_dispatch.proofs.Behind.{over-unknown}

-- so many first dispatches are completed and the others stand, and what was known of the tasks of the first is forgotten
pub record LeftOver (tasks : Known) (told : List Dispatch) (n : ℕ) (now : Known) (behind : List Dispatch) : Type 0 where
  pub done : behind ≡ joined (known tasks) (take n told) ++ drop n told
  pub knows : (pid : ℤ) → known now pid ≡ left_over (known tasks) (take n told) pid

pub none-left-over : (tasks : Known) (told : List Dispatch) → LeftOver tasks told 0 tasks told
unfolding all_completed
none-left-over tasks told = record { done = refl; knows = λ pid. refl }

length-completed : (before : ℤ → Since) (told : List Dispatch) → length (all_completed before told) ≡ length told
unfolding all_completed
length-completed before [] = refl
length-completed before (one ∷ earlier) = ap suc (length-completed before earlier)

-- a dispatch is completed by what is left over of its task
completed-left : (has : Bool) (before : Since) (one : Dispatch) → completed_by (cond has unknown before) one ≡ cond has one (completed_by before one)
completed-left true before one = ap (λ (s : Since). record { pid = one.pid; prio = one.prio; name = one.name; place = one.place; since = s }) (over-unknown one.since)
completed-left false before one = refl

forgotten : (a b : Bool) (before : Since) → cond a unknown (cond b unknown before) ≡ cond (a || b) unknown before
forgotten true b before = refl
forgotten false b before = refl

pub left-over-more : (tasks : Known) (told : List Dispatch) (i : ℕ) (now next : Known) (behind : List Dispatch) (one new : Dispatch)
    → LeftOver tasks told i now behind → i < length told → one ≡ get_or behind i one
    → new ≡ completed_by (known now one.pid) one → ((pid : ℤ) → known next pid ≡ cond (int_eq one.pid pid) unknown (known now pid))
    → LeftOver tasks told (i + 1) next (set behind i new)
unfolding all_completed
left-over-more tasks told i now next behind one new inv within is completes forgets =
    let K = known tasks in
    let own = get_or told i one in
    let rest = drop (i + 1) told in
    let earlier = reverse (take i told) in
    let before = joined K (take i told) in
    let all : length before ≡ i = length-reverse (all_completed K earlier) ∙ length-completed K earlier ∙ length-reverse (take i told) ∙ length-take-le i told (omega (arith, within)) in
    let here : behind ≡ before ++ own ∷ rest = inv.done ∙ ap (λ (ds : List Dispatch). before ++ ds) (drop_more told i one within) in
    let same : one ≡ own = is ∙ ap (λ (ds : List Dispatch). get_or ds i one) here
    ∙ ap (λ (n : ℕ). get_or (before ++ own ∷ rest) n one) (omega (arith, all)) ∙ get_or-append-add before (own ∷ rest) 0 one in
    let more : reverse (take (i + 1) told) ≡ own ∷ earlier = ap reverse (take_more told i one within) ∙ reverse-append (take i told) (own ∷ []) in
    let complete : new ≡ completed K earlier own = completes ∙ ap (λ (d : Dispatch). completed_by (known now d.pid) d) same
    ∙ ap (λ s. completed_by s own) (inv.knows own.pid) ∙ completed-left (has_one own.pid earlier) (K own.pid) own in
    record {
      done = ap (λ (ds : List Dispatch). set ds i new) here
          ∙ ap (λ (n : ℕ). set (before ++ own ∷ rest) n new) (sym all)
          ∙ set-append_seam before own rest new
          ∙ ap (λ (d : Dispatch). before ++ d ∷ rest) complete
          ∙ sym (append_assoc before (completed K earlier own ∷ []) rest)
          ∙ ap (λ (ds : List Dispatch). ds ++ rest) (sym (reverse-append (completed K earlier own ∷ []) (all_completed K earlier)))
          ∙ ap (λ (ds : List Dispatch). reverse (all_completed K ds) ++ rest) (sym more);
      knows = λ pid. forgets pid ∙ ap (λ (d : Dispatch). cond (int_eq d.pid pid) unknown (known now pid)) same
          ∙ ap (λ s. cond (int_eq own.pid pid) unknown s) (inv.knows pid)
          ∙ forgotten (int_eq own.pid pid) (has_one pid earlier) (K pid)
          ∙ ap (λ (ds : List Dispatch). cond (has_one pid ds) unknown (K pid)) (sym more);
    }

pub all-left-over : (tasks : Known) (told : List Dispatch) (n : ℕ) (now : Known) (behind : List Dispatch) → LeftOver tasks told n now behind → length told ≤ n
    → (behind ≡ joined (known tasks) told) × ((pid : ℤ) → known now pid ≡ left_over (known tasks) told pid)
all-left-over tasks told n now behind inv past =
    let all = take_all n told past in (
      inv.done ∙ ap (λ (ds : List Dispatch). joined (known tasks) (take n told) ++ ds) (drop_all n told past) ∙ append-nil (joined (known tasks) (take n told)) ∙ ap (joined (known tasks)) all,
      λ pid. inv.knows pid ∙ ap (λ (ds : List Dispatch). left_over (known tasks) ds pid) all,
    )
