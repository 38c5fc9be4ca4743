use Rattle.std.proofs.Common.{◌≡◌, ℕ, ◌≤◌, List, [], ◌++◌, Option, None, Some, Ok, IfSome, length, take, sym, ap, subst, ◌∙◌, arith, rules}
use Rattle.std.specs.Io.KnownBytes.{Keeps, Consumes, IsAtEnd}
use Rattle.std.specs.Io.BufRead.{DropsConsumable}
use Rattle.std.proofs.BufReadLemmas.{Consumes_shown}
use Rattle.std.proofs.lemmas.List.{take_all}
use Rattle.ft_desk.specs.declared.pieces.Taken.{Taken}
use Rattle.ft_desk.specs.declared.pieces.Taken.TheVariants as takes
use Rattle.ft_desk.specs.inner.Asking.{TakesBytes, Shows}
use Rattle.ft_desk.specs.Steps.{TakingGives}
use Rattle.ft_desk.proofs.pieces.take_part.Goals as goal

-- no byte of the reader was shown
at_end : (left : Option (List ℕ)) (shown : List ℕ) → IfSome left (λ bytes. length shown ≡ 0 → bytes ≡ []) → shown ≡ [] → IsAtEnd left
at_end None shown end none = tt
at_end (Some bytes) shown end none = end (ap length none)

-- none is consumed
kept_of : (left rest : Option (List ℕ)) (bytes : List ℕ) → Consumes left rest bytes → bytes ≡ [] → Keeps left rest
kept_of None rest bytes consumed none = tt
kept_of (Some xs) None bytes consumed none = absurd consumed
kept_of (Some xs) (Some ys) bytes consumed none = sym (consumed ∙ ap (λ front. front ++ ys) none)

-- what is consumed of the bytes that are shown
taking_gives : (took : Taken) (left held rest : Option (List ℕ)) (consumable : Option ℕ) (before after shown : List ℕ) (amount : ℕ)
    → Shows left held consumable shown → amount ≤ length shown → TakesBytes took (take amount shown) shown before after → DropsConsumable held rest consumable amount
    → TakingGives (Ok took) left rest before after
taking_gives takes.Part left held rest consumable before after shown amount shows within takes drops =
    let moved = Consumes_shown _ _ _ _ shown amount within shows.front shows.end shows.kept shows.within drops in
    (take amount shown, moved.0, takes.0, takes.1)
taking_gives takes.Line left held rest consumable before after shown amount shows within takes drops =
    let moved = Consumes_shown _ _ _ _ shown amount within shows.front shows.end shows.kept shows.within drops in
    (takes.0, subst (Consumes left rest) takes.1 moved.0, takes.2)
taking_gives takes.End left held rest consumable before after shown amount shows within takes drops =
    let moved = Consumes_shown _ _ _ _ shown amount within shows.front shows.end shows.kept shows.within drops in
    let end = at_end left shown shows.end takes.0 in
    (kept_of left rest (take amount shown) moved.0 (ap (take amount) takes.0 ∙ take_all amount [] (omega arith)), end, takes.1)

pub returns-clause-gives : goal.returns-clause-gives
returns-clause-gives g c =
    let gives = c.in-Ok-Ok.ensures.gives in
    let part = rw c.in-Ok-Ok.field-0-is at gives.2 in
    taking_gives c.in-Ok-Ok.part.taken _ _ _ _ _ _ gives.0 c.in-Ok-Ok.part.amount gives.1 part.0 part.1 c.consume.ensures.bytes

pub returns-in-Err-clause-gives : goal.returns-in-Err-clause-gives
returns-in-Err-clause-gives g c = search rules

pub returns-in-Err-clause-failed : goal.returns-in-Err-clause-failed
returns-in-Err-clause-failed g c = search rules
