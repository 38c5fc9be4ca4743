use Rattle.std.proofs.Common.{◌≡◌, ℕ, ◌-◌, List, ◌++◌, length, take, drop, sym, ap, ◌∙◌, append_assoc, take-append-drop, arith}
use Rattle.std.proofs.lemmas.List.{take_rest}
use Rattle.std.proofs.KnownBytes.{Appends-trans}
use Rattle.ft_desk.proofs.sending.send.Goals as goal

-- the first bytes of the rest are sent too
sent_more : (text sent rest : List ℕ) (n : ℕ) → text ≡ sent ++ rest → text ≡ (sent ++ take n rest) ++ take (length rest - n) (drop n rest)
sent_more text sent rest n whole =
    whole ∙ ap (λ l. sent ++ l) (sym (take-append-drop n rest)) ∙ sym (append_assoc sent (take n rest) (drop n rest)) ∙ ap (λ l. (sent ++ take n rest) ++ l) (sym (take_rest rest n))

pub loop-rest-preserved : goal.loop-rest-preserved
loop-rest-preserved g c =
    let so_far = c.loop-rest.invariant in
    let taken = c.in_ok-taken.taken in
    record {
      sent = so_far.sent ++ take taken c.loop-rest.rest.now;
      written = Appends-trans _ _ _ _ _ so_far.written c.in_ok-taken.ensures.ok;
      whole = sent_more _ _ _ taken so_far.whole;
      well = omega (arith, c.in_ok-taken.ensures.written.1, so_far.well);
      flushed = c.in_ok-taken.ensures.flushed ∙ so_far.flushed;
      same = c.in_ok-taken.ensures.same ∙ so_far.same;
    }
