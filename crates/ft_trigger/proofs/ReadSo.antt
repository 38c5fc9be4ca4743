-- What stands after a trigger that some text gives.
use Rattle.std.proofs.Common.{◌≡◌, ◌-◌, ℕ, true, not, List, [], length, drop, take, Ok, codes, ◌==◌}
use Rattle.std.proofs.lemmas.Bool.{not-false}
use Rattle.std.specs.List.{starts_with}
use Rattle.ft_fields.specs.declared.event.Name.{Name}
use Rattle.ft_hist.specs.Hist.{Hist}
use Rattle.ft_hist.specs.declared.fault.TriggerFault.TheVariants.{Syntax}
use Rattle.ft_head.specs.Draft.{Draft, empty_draft, ◌>>=◌, parts_from}
use Rattle.ft_trigger.specs.TriggerIs.{head_len, behind_head, trigger_tail, finished, trigger_of}
use Rattle.ft_text.specs.Items.{pieces}
use Rattle.ft_trigger.proofs.Inversions.{then_parts, unless_parts}

-- what was read of its head, and how it was made of that
pub record Read (event : Name) (text : List ℕ) (hist : Hist) : Type 0 where
  pub begins : starts_with ◌==◌ (take (head_len text) text) (codes "hist:") ≡ true
  pub draft : Draft
  pub parts : parts_from event empty_draft (pieces 58 5 (drop 5 (take (head_len text) text))) ≡ Ok draft
  pub ends : finished event (head_len text) (length text - length (behind_head text)) (trigger_tail text) draft ≡ Ok hist

-- a trigger that some text gives was read so
pub read_so : (event : Name) (text : List ℕ) (hist : Hist) → trigger_of event text ≡ Ok hist → Read event text hist
unfolding trigger_of
read_so event text hist e =
    let read = parts_from event empty_draft (pieces 58 5 (drop 5 (take (head_len text) text))) in
    let next = finished event (head_len text) (length text - length (behind_head text)) (trigger_tail text) in
    let begins = unless_parts (not (starts_with ◌==◌ (take (head_len text) text) (codes "hist:"))) (Syntax 0) [] (read >>= next) hist e in
    let draft = then_parts read next hist begins.1 in
    record { begins = not-false (starts_with ◌==◌ (take (head_len text) text) (codes "hist:")) begins.0; draft = draft.0; parts = draft.1; ends = draft.2 }
