-- A text and the text after it.
use Rattle.std.specs.Prelude.{◌≡◌, ℕ, List, [], ◌++◌, reverse, Option, None}
use Rattle.std.proofs.Common.{sym, ap, subst, ◌∙◌, append_assoc}
use Rattle.std.proofs.lemmas.List.{reverse-append}
use Rattle.ft_text.specs.Lines.{lines_of}
use Rattle.ft_dispatch.specs.Joining.{AreOfTasks}
use Rattle.ft_dispatch.specs.declared.dispatch.Dispatch.{Dispatch}
use Rattle.ft_waits.specs.Choice.{Choice}
use Rattle.ft_waits.specs.Joining.{CanJoin, behind_text}
use Rattle.ft_waits.specs.Reading.{events_of, history_so_far}
use Rattle.ft_waits.specs.Streams.{HasRead, HasReadBy, counts_kept}
use Rattle.ft_waits.specs.declared.fault.WaitsFault.{WaitsFault}
use Rattle.ft_waits.specs.declared.left_out.Without.{Without}
use Rattle.ft_waits.specs.declared.stream.Waits.{Waits}
use Rattle.ft_waits.specs.inner.Lines.{JoinsReadings}
use Rattle.ft_waits.specs.inner.Seams.{told_behind}
use Rattle.ft_waits.specs.inner.Streams.{Cuts, Reads, choice_of}
use Rattle.ft_waits.proofs.SoFar.{ended-cut}
use Rattle.ft_waits.proofs.Streaming.{read-well, none-kept}

-- the lines of both
cuts-both : (text own : List ℕ) (lines more : List (List ℕ)) (rest : List ℕ) → Cuts text lines [] → Cuts own more rest → Cuts (text ++ own) (more ++ lines) rest
cuts-both text own lines more rest cuts cuts_own = λ later.
    ap lines_of (append_assoc text own later) ∙ cuts (own ++ later)
    ∙ ap (λ (ls : List (List ℕ)). reverse lines ++ ls) (cuts_own later)
    ∙ sym (append_assoc (reverse lines) (reverse more) (lines_of (rest ++ later)))
    ∙ ap (λ (ls : List (List ℕ)). ls ++ lines_of (rest ++ later)) (sym (reverse-append more lines))

pub texts-joined : (old part new : Waits) (out out_now ones ones_now : List Dispatch) → CanJoin old part → JoinsReadings old.reading part.reading out ones new.reading out_now ones_now
    → new.unended.items ≡ part.unended.items → new.failed ≡ None
    → (choice : Choice) (text own : List ℕ) (told apart : List Dispatch) → HasRead choice old text (told ++ out) → HasRead choice part own apart → AreOfTasks apart ones
    → HasRead choice new (text ++ own) ((told ++ out_now) ++ behind_text (counts_kept old) choice text apart) × (ones_now ≡ behind_text (counts_kept old) choice text ones)
texts-joined old part new out out_now ones ones_now can joins unended well choice text own told apart read read_own of =
    let reads = read-well choice old text (told ++ out) can.well read in
    let reads_own = read-well choice part own apart can.well_part read_own in
    let none : reads.rest ≡ [] = none-kept reads.rest old.unended.items reads.kept can.ended in
    let ended : reads.lines ≡ history_so_far text = ended-cut text reads.lines reads.rest reads.cuts reads.unbroken in
    let without : Choice → List Without = λ c. c.without in
    let joined = joins reads.lines reads_own.lines told apart reads.reads reads_own.reads (reads.by_choice ∙ sym reads_own.by_choice) can.fit of in
    let behind : (ds : List Dispatch) → told_behind (counts_kept old) (choice_of old.reading).without (events_of reads.lines) ds ≡ behind_text (counts_kept old) choice text ds = λ ds.
    ap (λ (c : Choice). told_behind (counts_kept old) c.without (events_of reads.lines) ds) reads.by_choice
    ∙ ap (λ (ls : List (List ℕ)). told_behind (counts_kept old) choice.without (events_of ls) ds) ended in
    let both : Reads choice new.reading new.unended.items (text ++ own) ((told ++ out_now) ++ told_behind (counts_kept old) (choice_of old.reading).without (events_of reads.lines) apart) = record {
      by_choice = joined.2 ∙ reads.by_choice;
      lines = reads_own.lines ++ reads.lines;
      rest = reads_own.rest;
      cuts = cuts-both text own reads.lines reads_own.lines reads_own.rest (subst (Cuts text reads.lines) none reads.cuts) reads_own.cuts;
      unbroken = reads_own.unbroken;
      kept = unended ∙ reads_own.kept;
      reads = joined.0;
    } in (
      subst (λ (o : Option WaitsFault). HasReadBy o choice new (text ++ own) ((told ++ out_now) ++ behind_text (counts_kept old) choice text apart)) (sym well)
          (subst (λ (ds : List Dispatch). Reads choice new.reading new.unended.items (text ++ own) ((told ++ out_now) ++ ds)) (behind apart) both),
      joined.1 ∙ behind ones,
    )
