use Rattle.std.proofs.Common.{◌≡◌, ◌+◌, ◌++◌, [], sym, ap, subst, ◌∙◌, take, drop, Vec, Global, ℕ, List}
use Rattle.std.specs.List.{flat_map}
use Rattle.std.proofs.lemmas.List.{take_all}
use Rattle.std.proofs.lemmas.Result.{err_from_is_err_and}
use Rattle.ft_waits.specs.Choice.{all_events}
use Rattle.ft_waits.specs.Reading.{history, FailsAt}
use Rattle.ft_waits.specs.Streams.{HasRead, AreDispatches}
use Rattle.ft_waits.proofs.Joined.{flat-more, flat-split}
use Rattle.ft_waits.proofs.whole.waits_in.Goals as goal

abbrev bytes_of : List (Vec ℕ Global) → List ℕ
bytes_of pieces = flat_map (λ (piece : Vec ℕ Global). piece.items) pieces

pub loop-piece-preserved : goal.loop-piece-preserved
loop-piece-preserved c =
    let i = c.loop-piece.piece-index in
    let xs = c.args.pieces.now in
    let text = bytes_of (take i xs) in
    let more : bytes_of (take (i + 1) xs) ≡ text ++ c.deref.result.now = flat-more (λ (piece : Vec ℕ Global). piece.items) xs i c.piece-item.result c.loop-piece-test.true c.piece-item.is ∙ ap (λ b. text ++ b) (sym c.deref.ensures.value) in
    subst (λ (t : List ℕ). HasRead (all_events c.args.bad_lines) c.feed.new.self t c.feed.new.out.items) (sym more) (c.in_ok-feed.ensures.reads (all_events c.args.bad_lines) text [] c.loop-piece.invariant)

pub returns-in_err-feed-clause-fails : goal.returns-in_err-feed-clause-fails
returns-in_err-feed-clause-fails c =
    let p = err_from_is_err_and c.from_residual.result c.from_residual.ensures.1 in
    let i = c.loop-piece.piece-index in
    let xs = c.args.pieces.now in
    let text = bytes_of (take i xs) in
    let more : bytes_of (take (i + 1) xs) ≡ text ++ c.deref.result.now = flat-more (λ (piece : Vec ℕ Global). piece.items) xs i c.piece-item.result c.loop-piece-test.true c.piece-item.is ∙ ap (λ b. text ++ b) (sym c.deref.ensures.value) in
    let whole : (text ++ c.deref.result.now) ++ bytes_of (drop (i + 1) xs) ≡ bytes_of xs = ap (λ (t : List ℕ). t ++ bytes_of (drop (i + 1) xs)) (sym more) ∙ flat-split (λ (piece : Vec ℕ Global). piece.items) xs (i + 1) in
    rw (p.1, p.2) (subst (λ (t : List ℕ). FailsAt c.args.bad_lines (history t) c.in_err-feed.field-0.0) whole (c.in_err-feed.ensures.fails (all_events c.args.bad_lines) text [] c.loop-piece.invariant (bytes_of (drop (i + 1) xs))))

pub returns-clause-reads : goal.returns-clause-reads
returns-clause-reads c =
    let i = c.loop-piece.piece-index in
    let xs = c.args.pieces.now in
    let all : take i xs ≡ xs = take_all i xs c.loop-piece-test.false in
    subst (λ (ps : List (Vec ℕ Global)). AreDispatches (all_events c.args.bad_lines) (bytes_of ps) c.finish.new.out.items c.in_ok-text.text) all
    (c.in_ok-text.ensures.reads (all_events c.args.bad_lines) (bytes_of (take i xs)) [] c.loop-piece.invariant)

pub returns-in_err-text-clause-fails : goal.returns-in_err-text-clause-fails
returns-in_err-text-clause-fails c =
    let p = err_from_is_err_and c.from_residual-in_err-text.result c.from_residual-in_err-text.ensures.1 in
    let i = c.loop-piece.piece-index in
    let xs = c.args.pieces.now in
    let all : take i xs ≡ xs = take_all i xs c.loop-piece-test.false in
    rw (p.1, p.2) (subst (λ (ps : List (Vec ℕ Global)). FailsAt c.args.bad_lines (history (bytes_of ps)) c.in_err-text.field-0.0) all
    (c.in_err-text.ensures.fails (all_events c.args.bad_lines) (bytes_of (take i xs)) [] c.loop-piece.invariant))
