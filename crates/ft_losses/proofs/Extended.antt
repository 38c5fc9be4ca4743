-- A stretch that is extended by the one before it reaches as far as those on its CPU up to it.
use Rattle.std.specs.Prelude.{◌≡◌, ℕ, ◌+◌, ◌<◌, ◌≤◌, ◌==◌, ◌&&◌, ◌||◌, max, Bool, true, false, List, length, take, Option, Some, None}
use Rattle.std.specs.List.{list_any}
use Rattle.std.specs.Option.{option_eq}
use Rattle.std.specs.Ordering.{is_lt}
use Rattle.std.specs.Cmp.{IsTotalOrder, on_total, then_total}
use Rattle.std.specs.Cmp.Lexicographic.{options_total}
use Rattle.std.proofs.Common.{refl, sym, ap, subst, ◌∙◌, arith, inl, inr, get_or, ltb, set}
use Rattle.std.proofs.lemmas.Bool.{false_from_ne_true, cases_lt, cases_eq, cases_Bool, cond-true, cond-false, lt-ltb, le-ltb, and_left}
use Rattle.std.proofs.lemmas.Cmp.{nat_cmp_total}
use Rattle.std.proofs.lemmas.Grind.{get_or-set_at}
use Rattle.std.proofs.lemmas.List.{get_or-take, length-take, get_or_default, get_or-set_other}
use Rattle.std.proofs.lemmas.List.Folds.{list_any_more, list_any_none}
use Rattle.std.proofs.lemmas.List.Sorted.{sorted_far, ranks_by}
use Rattle.ft_losses.specs.Doubt.{ends_after}
use Rattle.ft_losses.specs.inner.Stretches.{start_cmp, AreInOrder, is_on, later_end, extended, Reaches}
use Rattle.ft_losses.specs.declared.stretches.Start.{Start}
use Rattle.ft_losses.specs.declared.stretches.Stretch.{Stretch}
use Rattle.ft_losses.proofs.Starts.{rank, option-self, same-option, other-option, NotBefore, not_before-from}

-- ---- beginnings in order

pub start_cmp_total : IsTotalOrder start_cmp
start_cmp_total = then_total (on_total (λ s. s.cpu) (options_total nat_cmp_total)) (on_total (λ s. s.after) (options_total nat_cmp_total))

-- of two stretches in order, the second doesn't come before the first
pub risen : (xs : List Stretch) → AreInOrder xs → (i j : ℕ) (d : Stretch) → i ≤ j → j < length xs → NotBefore (get_or xs j d).start (get_or xs i d).start
risen xs up i j d le within =
    not_before-from (get_or xs j d).start (get_or xs i d).start
    (sorted_far (λ (x y : Stretch). is_lt (start_cmp x.start y.start)) (ranks_by start_cmp_total (λ (one : Stretch). one.start)) xs up i j d le within)

-- nor has it a lower CPU
pub cpus-rise : (xs : List Stretch) → AreInOrder xs → (i j : ℕ) (d : Stretch) → i ≤ j → j < length xs → rank (get_or xs i d).start.cpu ≤ rank (get_or xs j d).start.cpu
cpus-rise xs up i j d le within = no_less (get_or xs j d).start (get_or xs i d).start (risen xs up i j d le within)
  where
    no_less : (a b : Start) → NotBefore a b → rank b.cpu ≤ rank a.cpu
    no_less a b h = elim h [ inl less ↦ omega arith | inr same ↦ omega arith ]

-- ---- ends

-- the later end is after what one of the two is after
pub ends_after-later : (first second : Option ℕ) (stamp : ℕ) → ends_after (later_end first second) stamp ≡ (ends_after first stamp || ends_after second stamp)
ends_after-later None second stamp = refl
ends_after-later (Some end) None stamp = or_true (ends_after (Some end) stamp)
  where
    or_true : (b : Bool) → true ≡ (b || true)
    or_true true = refl
    or_true false = refl
ends_after-later (Some end) (Some other) stamp = elim (cases_lt stamp end) [
  | inl first ↦ lt-ltb stamp (max end other) (omega arith) ∙ ap (λ b. b || ltb stamp other) (sym (lt-ltb stamp end first))
  | inr late ↦ elim (cases_lt stamp other) [
    | inl second ↦ lt-ltb stamp (max end other) (omega arith) ∙ sym (lt-ltb stamp other second) ∙ ap (λ b. b || ltb stamp other) (sym (le-ltb stamp end late))
    | inr last ↦ le-ltb stamp (max end other) (omega arith) ∙ sym (le-ltb stamp other last) ∙ ap (λ b. b || ltb stamp other) (sym (le-ltb stamp end late))
  ]
]

-- ---- one stretch more

-- a stretch on a CPU that ends after a stamp
abbrev pub goes_on : Option ℕ → ℕ → Stretch → Bool
goes_on cpu stamp one = is_on cpu one && ends_after one.before stamp

-- its own end counts
pub own-end : (own : Stretch) (stamp : ℕ) → goes_on own.start.cpu stamp own ≡ ends_after own.before stamp
own-end own stamp = ap (λ b. b && ends_after own.before stamp) (option-self own.start.cpu)

-- all up to it: those before it, or its own
pub up-to : (xs : List Stretch) (i : ℕ) (d : Stretch) (stamp : ℕ) → i + 1 < length xs →
    list_any (goes_on (get_or xs (i + 1) d).start.cpu stamp) (take (i + 1 + 1) xs)
    ≡ (list_any (goes_on (get_or xs (i + 1) d).start.cpu stamp) (take (i + 1) xs) || ends_after (get_or xs (i + 1) d).before stamp)
up-to xs i d stamp within =
    list_any_more (goes_on (get_or xs (i + 1) d).start.cpu stamp) xs (i + 1) d within
    ∙ ap (λ b. list_any (goes_on (get_or xs (i + 1) d).start.cpu stamp) (take (i + 1) xs) || b) (own-end (get_or xs (i + 1) d) stamp)

-- one that lies before another on the same CPU has none of other CPUs between them
lies_between : (xs : List Stretch) → AreInOrder xs → (cpu : Option ℕ) (k i j : ℕ) (d e : Stretch) → k ≤ i → i ≤ j → j < length xs → (get_or xs k e).start.cpu ≡ cpu → (get_or xs j d).start.cpu ≡ cpu → rank (get_or xs i d).start.cpu ≡ rank cpu
lies_between xs up cpu k i j d e low high within first last =
    let same : get_or xs k e ≡ get_or xs k d = get_or_default xs k e d (omega arith) in
    let from : rank (get_or xs k d).start.cpu ≡ rank cpu = ap (λ (s : Stretch). rank s.start.cpu) (sym same) ∙ ap rank first in
    let to : rank (get_or xs j d).start.cpu ≡ rank cpu = ap rank last in
    let below = cpus-rise xs up k i d low (omega arith) in
    let above = cpus-rise xs up i j d high within in
    omega (arith, from, to, below, above)

-- none before it is on its CPU, if the last one isn't
pub none-on : (xs : List Stretch) → AreInOrder xs → (i : ℕ) (d : Stretch) (stamp : ℕ) → i + 1 < length xs → is_on (get_or xs (i + 1) d).start.cpu (get_or xs i d) ≡ false →
    list_any (goes_on (get_or xs (i + 1) d).start.cpu stamp) (take (i + 1) xs) ≡ false
none-on xs up i d stamp within apart =
    let own : Stretch = get_or xs (i + 1) d in
    list_any_none (goes_on own.start.cpu stamp) (take (i + 1) xs) (λ k e lt.
    let below : k < i + 1 = omega (arith, length-take (i + 1) xs, lt) in
    let one : Stretch = get_or xs k e in
    let here : is_on own.start.cpu one ≡ false = false_from_ne_true (is_on own.start.cpu one) (λ hit. other-option (get_or xs i d).start.cpu own.start.cpu apart (lies_between xs up own.start.cpu k i (i + 1) d e (omega arith) (omega arith) within (same-option one.start.cpu own.start.cpu hit) refl)) in
    subst (λ (s : Stretch). goes_on own.start.cpu stamp s ≡ false) (sym (get_or-take (i + 1) xs k e below)) (and_left (is_on own.start.cpu one) (ends_after one.before stamp) here))

-- a stretch that is extended by the row before it reaches as far as all up to it
pub reach-more : (xs : List Stretch) → AreInOrder xs → (i : ℕ) (d last : Stretch) → i + 1 < length xs → Reaches (take (i + 1) xs) (get_or xs i d) last → Reaches (take (i + 1 + 1) xs) (get_or xs (i + 1) d) (extended (get_or xs (i + 1) d) last)
reach-more xs up i d last within reach =
    let own : Stretch = get_or xs (i + 1) d in
    let all = up-to xs i d in
    elim (cases_Bool (is_on own.start.cpu last)) [
      | inl here ↦
          let cpu : last.start.cpu ≡ own.start.cpu = same-option last.start.cpu own.start.cpu here in
          let is : extended own last ≡ record { start = own.start; before = later_end last.before own.before } = cond-true (is_on own.start.cpu last) _ _ here in
          subst (Reaches (take (i + 1 + 1) xs) own) (sym is) (record {
            start = refl;
            before = λ stamp.
                ends_after-later last.before own.before stamp
                ∙ ap (λ b. b || ends_after own.before stamp) (reach.before stamp ∙ ap (λ (c : Option ℕ). list_any (goes_on c stamp) (take (i + 1) xs)) cpu)
                ∙ sym (all stamp within);
          })
      | inr away ↦
          let apart : is_on own.start.cpu (get_or xs i d) ≡ false = ap (λ (s : Start). option_eq ◌==◌ s.cpu own.start.cpu) (sym reach.start) ∙ away in
          subst (Reaches (take (i + 1 + 1) xs) own) (sym (cond-false (is_on own.start.cpu last) _ _ away)) (record {
            start = refl;
            before = λ stamp. sym (all stamp within ∙ ap (λ b. b || ends_after own.before stamp) (none-on xs up i d stamp within apart));
          })
    ]

-- so many of the rows reach as far as those up to them
abbrev pub ReachTo : List Stretch → List Stretch → ℕ → Type 0
ReachTo xs ys at = (k : ℕ) (d : Stretch) → k < at → k < length xs → Reaches (take (k + 1) xs) (get_or xs k d) (get_or ys k d)

-- and one row more
pub reach-next : (xs ys : List Stretch) (i at : ℕ) (y : Stretch) → AreInOrder xs → i + 1 ≡ at → at < length xs → length ys ≡ length xs → ReachTo xs ys at → ((d : Stretch) → y ≡ extended (get_or xs at d) (get_or ys i d)) → ReachTo xs (set ys at y) (at + 1)
reach-next xs ys i at y up next within size done is k d low inside = elim (cases_eq k at) [
  | inl same ↦
      let here : Reaches (take (i + 1 + 1) xs) (get_or xs (i + 1) d) (extended (get_or xs (i + 1) d) (get_or ys i d)) = reach-more xs up i d (get_or ys i d) (omega arith) (done i d (omega arith) (omega arith)) in
      let there : Reaches (take (at + 1) xs) (get_or xs at d) (extended (get_or xs at d) (get_or ys i d)) = subst (λ (n : ℕ). Reaches (take (n + 1) xs) (get_or xs n d) (extended (get_or xs n d) (get_or ys i d))) next here in
      let put : extended (get_or xs at d) (get_or ys i d) ≡ get_or (set ys at y) at d = sym (is d) ∙ sym (get_or-set_at ys at at y d refl (omega arith)) in
      subst (λ (n : ℕ). Reaches (take (n + 1) xs) (get_or xs n d) (get_or (set ys at y) n d)) (sym same) (subst (Reaches (take (at + 1) xs) (get_or xs at d)) put there)
  | inr other ↦ subst (Reaches (take (k + 1) xs) (get_or xs k d)) (sym (get_or-set_other ys at k y d other)) (done k d (omega arith) inside)
]
