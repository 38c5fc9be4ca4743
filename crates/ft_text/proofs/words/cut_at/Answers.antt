use Rattle.std.proofs.Common.{◌≡◌, ◌+◌, ◌-◌, length, drop, take, Some, arith, sym, ap, ◌∙◌}
use Rattle.std.proofs.lemmas.List.{take_all, length-drop}
use Rattle.ft_text.proofs.Quotes.{cut_at-some}
use Rattle.ft_text.proofs.words.cut_at.Goals as goal

pub returns : goal.returns
returns c =
    let n = c.front_len-len.result in
    let text = c.args.text.now in
    let left = length-drop (n + 1) text in
    let whole : take (length text - (n + 1)) (drop (n + 1) text) ≡ drop (n + 1) text = take_all (length text - (n + 1)) (drop (n + 1) text) (omega arith) in
    ap (λ rest. Some (take n text, rest)) whole ∙ sym (cut_at-some c.args.mark text n c.front_len-len.ensures.value c.front_len-len.ensures.within c.if-len-text.false)
