use Rattle.std.proofs.Common.{◌≡◌, ℕ, ◌+◌, ◌-◌, min, List, ◌++◌, Result, Ok, Err, OnOk, length, take, sym, ap, ◌∙◌, arith}
use Rattle.std.specs.Prelude.{is_ok, if◌then◌else◌}
use Rattle.std.proofs.lemmas.List.{take_min}
use Rattle.std.proofs.Math.Seq.{take-append-add}
use Rattle.ft_script.specs.Script.{line_limit}
use Rattle.ft_desk.proofs.pieces.add_part.Goals as goal

-- as much of the part as there is room for makes the most bytes of both
kept_front : (piece part : List ℕ) (room most : ℕ) → length piece + room ≡ most → piece ++ take (min room (length part)) part ≡ take most (piece ++ part)
kept_front piece part room most full =
    ap (λ l. piece ++ l) (take_min room part) ∙ sym (take-append-add piece part room) ∙ ap (λ n. take n (piece ++ part)) full

-- what an accepted call leaves
at_ok : {T E : Type 0} (result : Result T E) (new grown old kept : List ℕ) → new ≡ (if is_ok result then grown else old) → grown ≡ kept → OnOk result (new ≡ kept)
at_ok (Ok x) new grown old kept is same = is ∙ same
at_ok (Err e) new grown old kept is same = tt

pub returns : goal.returns
returns c =
    let piece = c.args.piece.now.items in
    let part = c.args.part.now in
    let full : length piece + ((line_limit + 1) - c.len-room.result) ≡ line_limit + 1 = omega arith in
    at_ok _ _ _ _ _ c.extend_from_slice.ensures.items (ap (λ n. piece ++ take n part) c.min.ensures ∙ kept_front piece part _ (line_limit + 1) full)
