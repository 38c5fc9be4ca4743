-- What was read so far, and events that are left out of a text of which nothing was read.
use Rattle.std.specs.Prelude.{◌≡◌, ◌==◌, ◌+◌, ℕ, Bool, true, false, List, [], ◌∷◌, ◌++◌, length, reverse, take, map, Vec, Option, Some, None, is_some, option_map, IsPermutation, if◌then◌else◌}
use Rattle.std.specs.List.{list_any}
use Rattle.std.specs.declared.alloc.Global.{Global}
use Rattle.std.proofs.Common.{refl, sym, ap, subst, ◌∙◌, arith}
use Rattle.std.proofs.lemmas.List.{append-nil, map-append, length-append, length-reverse, nil_from_length, reverse-append, reverse-reverse}
use Rattle.std.proofs.lemmas.List.Sorted.{length_permutation}
use Rattle.ft_text.specs.Lines.{lines_of, onto_first, ended_lines, onto_ended}
use Rattle.ft_dispatch.specs.Acts.{Act}
use Rattle.ft_dispatch.specs.Telling.{entries_of}
use Rattle.ft_dispatch.specs.declared.dispatch.Dispatch.{Dispatch}
use Rattle.ft_fields.specs.declared.pos.Pos.{Pos}
use Rattle.ft_losses.specs.Telling.{Keeps}
use Rattle.ft_summary.specs.Telling.{Tells as Sums}
use Rattle.ft_summary.specs.declared.summary.Summary.{Summary}
use Rattle.ft_losses.specs.declared.losses.Losses.{Losses}
use Rattle.ft_waits.specs.Choice.{Choice, and_sums, and_without}
use Rattle.ft_waits.specs.LeftOut.{left_out_of}
use Rattle.ft_waits.specs.Reading.{acts_of, events_of, history_so_far, last_stamp, latest, lines_read, refused, CountsEvents}
use Rattle.ft_waits.specs.Streams.{HasRead, HasReadBy, counts_kept, last_kept}
use Rattle.ft_waits.specs.declared.fault.LinesRead.{LinesRead}
use Rattle.ft_waits.specs.declared.fault.WaitsFault.{WaitsFault}
use Rattle.ft_waits.specs.declared.fault.BadLines.{BadLines}
use Rattle.ft_waits.specs.declared.kept.KeptActs.{KeptActs}
use Rattle.ft_waits.specs.declared.left_out.LeftOut.{LeftOut}
use Rattle.ft_waits.specs.declared.left_out.Without.{Without}
use Rattle.ft_waits.specs.declared.reading.Reading.{Reading}
use Rattle.ft_waits.specs.declared.ran.Ran.{Ran}
use Rattle.ft_waits.specs.declared.starts.Start.{Start}
use Rattle.ft_waits.specs.declared.stream.Waits.{Waits}
use Rattle.ft_waits.specs.inner.Known.{left_out_by, Orders}
use Rattle.ft_waits.specs.inner.Running.{RunsTasks}
use Rattle.ft_waits.specs.inner.Streams.{Cuts, Reads, ReadsLines}
use Rattle.ft_waits.proofs.Cutting.{lines_of-line}
use Rattle.ft_waits.proofs.ReadingLines.{last-known}
use Rattle.ft_waits.proofs.Streaming.{read-well, none-kept}

-- ---- what was read so far

-- a text with one more line break has one line more than have ended
one-ends : (text : List ℕ) → (last : List ℕ) × (lines_of (text ++ 10 ∷ []) ≡ ended_lines text ++ last ∷ [])
one-ends [] = ([], refl)
one-ends (b ∷ text) = from (b == 10) (one-ends text)
  where
    first : (ended : List (List ℕ)) (last : List ℕ) → (r : List ℕ) × (onto_first b (ended ++ last ∷ []) ≡ onto_ended b ended ++ r ∷ [])
    first [] last = (b ∷ last, refl)
    first (line ∷ ended) last = (last, refl)

    from : (t : Bool) → (last : List ℕ) × (lines_of (text ++ 10 ∷ []) ≡ ended_lines text ++ last ∷ [])
        → (last : List ℕ) × ((if t then [] ∷ lines_of (text ++ 10 ∷ []) else onto_first b (lines_of (text ++ 10 ∷ []))) ≡ (if t then [] ∷ ended_lines text else onto_ended b (ended_lines text)) ++ last ∷ [])
    from true rest = (rest.0, ap (λ (ls : List (List ℕ)). [] ∷ ls) rest.1)
    from false rest = let one = first (ended_lines text) rest.0 in (one.0, ap (onto_first b) rest.1 ∙ one.1)

behind-first : List (List ℕ) → List (List ℕ)
behind-first [] = []
behind-first (line ∷ lines) = lines

-- the lines that were cut off are those that have ended
pub ended-cut : (text : List ℕ) (lines : List (List ℕ)) (rest : List ℕ) → Cuts text lines rest → list_any (λ b. b == 10) rest ≡ false → lines ≡ history_so_far text
unfolding behind-first
ended-cut text lines rest cuts plain =
    let one = one-ends text in
    let cut : reverse lines ++ rest ∷ [] ≡ ended_lines text ++ one.0 ∷ [] = ap (λ (ls : List (List ℕ)). reverse lines ++ ls) (sym (lines_of-line rest [] plain)) ∙ sym (cuts (10 ∷ [])) ∙ one.1 in
    let front : reverse (reverse lines ++ rest ∷ []) ≡ rest ∷ lines = reverse-append (reverse lines) (rest ∷ []) ∙ ap (λ (ls : List (List ℕ)). rest ∷ ls) (reverse-reverse lines) in
    ap behind-first (sym front ∙ ap reverse cut ∙ reverse-append (ended_lines text) (one.0 ∷ []))

pub counts-so-far : (choice : Choice) (waits : Waits) (text : List ℕ) (told : List Dispatch) → waits.failed ≡ None → HasRead choice waits text told → CountsEvents (counts_kept waits) (events_of (history_so_far text))
counts-so-far choice waits text told well read =
    let reads = read-well choice waits text told well read in
    subst (λ (lines : List (List ℕ)). CountsEvents (counts_kept waits) (events_of lines)) (ended-cut text reads.lines reads.rest reads.cuts reads.unbroken) reads.reads.state.counts

pub last-so-far : (choice : Choice) (waits : Waits) (text : List ℕ) (told : List Dispatch) → waits.failed ≡ None → HasRead choice waits text told → last_kept waits ≡ last_stamp (events_of (history_so_far text))
last-so-far choice waits text told well read =
    let reads = read-well choice waits text told well read in
    let events = events_of reads.lines in
    let state = waits.reading.state in
    ap (λ (stamp : ℕ). option_map (λ (s : ℕ). stamp) state.first) reads.reads.state.last
    ∙ ap (λ (first : Option ℕ). option_map (λ (s : ℕ). latest events) first) reads.reads.state.first
    ∙ last-known events
    ∙ ap (λ (lines : List (List ℕ)). last_stamp (events_of lines)) (ended-cut text reads.lines reads.rest reads.cuts reads.unbroken)

-- ---- a text of which nothing was read

some-line : (b : ℕ) (lines : List (List ℕ)) → length (onto_first b lines) ≡ 0 → ⊥
some-line b [] none = omega (arith, none)
some-line b (line ∷ lines) none = omega (arith, none)

one-of-two : (t : Bool) (b : ℕ) (lines : List (List ℕ)) → length (if t then [] ∷ lines else onto_first b lines) ≡ 0 → ⊥
one-of-two true b lines none = omega (arith, none)
one-of-two false b lines none = some-line b lines none

no-lines : (text : List ℕ) → length (lines_of text) ≡ 0 → text ≡ []
no-lines [] none = refl
no-lines (b ∷ text) none = absurd (one-of-two (b == 10) b (lines_of text) none)

-- if no line has ended and none has begun
pub nothing-read : (choice : Choice) (waits : Waits) (text : List ℕ) (told : List Dispatch) → Reads choice waits.reading waits.unended.items text told → waits.reading.read.lines ≡ 0 → waits.unended.items ≡ [] → text ≡ []
unfolding lines_read
nothing-read choice waits text told reads none empty =
    let count : length reads.lines ≡ 0 = sym (ap (λ (r : LinesRead). r.lines) reads.reads.read) ∙ none in
    let lines : reads.lines ≡ [] = nil_from_length reads.lines count in
    let rest : reads.rest ≡ [] = none-kept reads.rest waits.unended.items reads.kept empty in
    let cut : lines_of (text ++ []) ≡ [] = reads.cuts [] ∙ ap (λ (ls : List (List ℕ)). reverse ls ++ lines_of (reads.rest ++ [])) lines ∙ ap (λ (r : List ℕ). lines_of (r ++ [])) rest in
    no-lines text (ap length (ap lines_of (sym (append-nil text)) ∙ cut))

-- else some of it was read
pub cut-nothing : (lines : List (List ℕ)) (rest : List ℕ) → Cuts [] lines rest → (length lines ≡ 0) × (rest ≡ [])
cut-nothing lines rest cuts =
    let sizes : 0 ≡ length (reverse lines) + length (lines_of (rest ++ [])) = ap length (cuts []) ∙ length-append (reverse lines) (lines_of (rest ++ [])) in
    let same : length (reverse lines) ≡ length lines = length-reverse lines in
    let front : length lines ≡ 0 = omega (arith, sizes, same) in
    let behind : length (lines_of (rest ++ [])) ≡ 0 = omega (arith, sizes, same) in
    (front, sym (append-nil rest) ∙ no-lines (rest ++ []) behind)

pub some-read : (choice : Choice) (waits : Waits) (text : List ℕ) (told : List Dispatch) → Reads choice waits.reading waits.unended.items text told → text ≡ [] → (waits.reading.read.lines ≡ 0) × (waits.unended.items ≡ [])
unfolding lines_read
some-read choice waits text told reads none =
    let cut = cut-nothing reads.lines reads.rest (subst (λ (t : List ℕ). Cuts t reads.lines reads.rest) none reads.cuts) in
    (ap (λ (r : LinesRead). r.lines) reads.reads.read ∙ cut.0, reads.kept ∙ ap (take 4097) cut.1)

-- ---- events that are left out of it

-- a reading with other counts
pub record CountsAnew (old new : Reading) : Type 0 where
  pub bad_lines : new.bad_lines ≡ old.bad_lines
  pub read : new.read ≡ old.read
  pub losses : new.losses ≡ old.losses
  pub lines : new.state.lines ≡ old.state.lines
  pub first : new.state.first ≡ old.state.first
  pub latest : new.state.latest ≡ old.state.latest
  pub acts : new.state.acts ≡ old.state.acts
  pub running : new.state.running ≡ old.state.running
  pub missing : new.state.missing ≡ old.state.missing
  pub starts : new.state.starts ≡ old.state.starts
  pub sums : new.state.sums ≡ old.state.sums

-- one more is left out
added-lines : (old new : Reading) (without : Without) (told : List Dispatch) → CountsAnew old new → new.state.left_out.items ≡ old.state.left_out.items ++ left_out_of [] without ∷ [] → ReadsLines old [] told → ReadsLines new [] told
unfolding events_of acts_of refused
added-lines old new without told same is reads =
    let counts = old.state.left_out.items in
    let one = left_out_of [] without in
    let by : left_out_by (counts ++ one ∷ []) ≡ left_out_by counts ++ without ∷ [] = map-append (λ (c : LeftOut). c.without) counts (one ∷ []) in
    record {
      unrefused = refl;
      read = same.read ∙ reads.read;
      notes = reads.notes;
      noted = reads.noted;
      losses = subst (λ (losses : Losses). Keeps losses reads.notes) (sym same.losses) reads.losses;
      misses = record {
        runs = subst (λ (running : Vec (Option Ran) Global). RunsTasks running.items reads.notes) (sym same.running) reads.misses.runs;
        missing = same.missing ∙ reads.misses.missing;
        starts = ap (λ (starts : Vec Start Global). starts.items) same.starts ∙ reads.misses.starts;
      };
      state = record {
        counts = subst (λ (lines : Vec ℕ Global). CountsEvents lines.items []) (sym same.lines) reads.state.counts;
        first = same.first ∙ reads.state.first;
        last = same.latest ∙ reads.state.last;
        left_out = is ∙ ap (λ (cs : List LeftOut). cs ++ one ∷ []) reads.state.left_out
            ∙ sym (ap (λ (cs : List LeftOut). map (left_out_of []) (left_out_by cs)) is ∙ ap (map (left_out_of [])) by ∙ map-append (left_out_of []) (left_out_by counts) (without ∷ []));
        orders =
            subst (λ (kept : KeptActs). Orders kept new.state.sums new.state.latest [] [] told) (sym same.acts)
            (subst (λ (sums : Option Summary). Orders old.state.acts sums new.state.latest [] [] told) (sym same.sums)
            (subst (λ (latest : ℕ). Orders old.state.acts old.state.sums latest [] [] told) (sym same.latest) reads.state.orders));
      };
    }

pub added : (choice : Choice) (waits : Waits) (new : Reading) (without : Without) (text : List ℕ) (told : List Dispatch)
    → CountsAnew waits.reading new → waits.reading.read.lines ≡ 0 → new.state.left_out.items ≡ waits.reading.state.left_out.items ++ left_out_of [] without ∷ []
    → Reads choice waits.reading waits.unended.items text told → Reads (and_without choice without) new waits.unended.items text told
unfolding lines_read
added choice waits new without text told same none is reads =
    let lines : reads.lines ≡ [] = nil_from_length reads.lines (sym (ap (λ (r : LinesRead). r.lines) reads.reads.read) ∙ none) in
    let by = ap left_out_by is ∙ map-append (λ (c : LeftOut). c.without) waits.reading.state.left_out.items (left_out_of [] without ∷ []) in
    record {
      by_choice = ap (λ (bad_lines : BadLines). record { bad_lines = bad_lines; without = left_out_by new.state.left_out.items; sums = is_some new.state.sums }) same.bad_lines
          ∙ ap (λ (all : List Without). record { bad_lines = waits.reading.bad_lines; without = all; sums = is_some new.state.sums }) by
          ∙ ap (λ (sums : Option Summary). record { bad_lines = waits.reading.bad_lines; without = left_out_by waits.reading.state.left_out.items ++ without ∷ []; sums = is_some sums }) same.sums
          ∙ ap (λ (by : Choice). and_without by without) reads.by_choice;
      lines = reads.lines;
      rest = reads.rest;
      cuts = reads.cuts;
      unbroken = reads.unbroken;
      kept = reads.kept;
      reads = subst (λ (ls : List (List ℕ)). ReadsLines new ls told) (sym lines)
          (added-lines waits.reading new without told same is (subst (λ (ls : List (List ℕ)). ReadsLines waits.reading ls told) lines reads.reads));
    }

-- ---- what its acts sum up to

-- a reading with other sums
pub record SumsAnew (old new : Reading) : Type 0 where
  pub bad_lines : new.bad_lines ≡ old.bad_lines
  pub read : new.read ≡ old.read
  pub losses : new.losses ≡ old.losses
  pub lines : new.state.lines ≡ old.state.lines
  pub first : new.state.first ≡ old.state.first
  pub latest : new.state.latest ≡ old.state.latest
  pub acts : new.state.acts ≡ old.state.acts
  pub running : new.state.running ≡ old.state.running
  pub missing : new.state.missing ≡ old.state.missing
  pub starts : new.state.starts ≡ old.state.starts
  pub left_out : new.state.left_out ≡ old.state.left_out

-- no act was taken
nothing-done : (done held : List (Pos × Act)) → IsPermutation [] (done ++ held) → done ≡ []
nothing-done done held all =
    let size : length (done ++ held) ≡ 0 = length_permutation [] (done ++ held) all in
    let parts = length-append done held in
    nil_from_length done (omega (arith, size, parts))

orders-summed : (kept : KeptActs) (sums : Option Summary) (summary : Summary) (latest : ℕ) (told : List Dispatch) → Sums summary [] → Orders kept sums latest [] [] told → Orders kept (Some summary) latest [] [] told
orders-summed kept sums summary latest told tells orders = record {
  done = orders.done;
  sorted = orders.sorted;
  earlier = orders.earlier;
  now = orders.now;
  all = orders.all;
  distinct = orders.distinct;
  tells = orders.tells;
  shows = orders.shows;
  sums = subst (λ (done : List (Pos × Act)). Sums summary (reverse done)) (sym (nothing-done orders.done (entries_of kept.held.items) orders.all)) tells;
}

summed-lines : (old new : Reading) (summary : Summary) (told : List Dispatch) → SumsAnew old new → new.state.sums ≡ Some summary → Sums summary [] → ReadsLines old [] told → ReadsLines new [] told
unfolding events_of acts_of refused
summed-lines old new summary told same is tells reads = record {
  unrefused = refl;
  read = same.read ∙ reads.read;
  notes = reads.notes;
  noted = reads.noted;
  losses = subst (λ (losses : Losses). Keeps losses reads.notes) (sym same.losses) reads.losses;
  misses = record {
    runs = subst (λ (running : Vec (Option Ran) Global). RunsTasks running.items reads.notes) (sym same.running) reads.misses.runs;
    missing = same.missing ∙ reads.misses.missing;
    starts = ap (λ (starts : Vec Start Global). starts.items) same.starts ∙ reads.misses.starts;
  };
  state = record {
    counts = subst (λ (lines : Vec ℕ Global). CountsEvents lines.items []) (sym same.lines) reads.state.counts;
    first = same.first ∙ reads.state.first;
    last = same.latest ∙ reads.state.last;
    left_out = subst (λ (counts : Vec LeftOut Global). counts.items ≡ map (left_out_of []) (left_out_by counts.items)) (sym same.left_out) reads.state.left_out;
    orders =
        subst (λ (kept : KeptActs). Orders kept new.state.sums new.state.latest [] [] told) (sym same.acts)
        (subst (λ (sums : Option Summary). Orders old.state.acts sums new.state.latest [] [] told) (sym is)
        (subst (λ (latest : ℕ). Orders old.state.acts (Some summary) latest [] [] told) (sym same.latest)
        (orders-summed old.state.acts old.state.sums summary old.state.latest told tells reads.state.orders)));
  };
}

pub summed : (choice : Choice) (waits : Waits) (new : Reading) (summary : Summary) (text : List ℕ) (told : List Dispatch)
    → SumsAnew waits.reading new → waits.reading.read.lines ≡ 0 → new.state.sums ≡ Some summary → Sums summary []
    → Reads choice waits.reading waits.unended.items text told → Reads (and_sums choice) new waits.unended.items text told
unfolding lines_read
summed choice waits new summary text told same none is tells reads =
    let lines : reads.lines ≡ [] = nil_from_length reads.lines (sym (ap (λ (r : LinesRead). r.lines) reads.reads.read) ∙ none) in
    record {
      by_choice = ap (λ (bad_lines : BadLines). record { bad_lines = bad_lines; without = left_out_by new.state.left_out.items; sums = is_some new.state.sums }) same.bad_lines
          ∙ ap (λ (counts : Vec LeftOut Global). record { bad_lines = waits.reading.bad_lines; without = left_out_by counts.items; sums = is_some new.state.sums }) same.left_out
          ∙ ap (λ (sums : Option Summary). record { bad_lines = waits.reading.bad_lines; without = left_out_by waits.reading.state.left_out.items; sums = is_some sums }) is
          ∙ ap and_sums reads.by_choice;
      lines = reads.lines;
      rest = reads.rest;
      cuts = reads.cuts;
      unbroken = reads.unbroken;
      kept = reads.kept;
      reads = subst (λ (ls : List (List ℕ)). ReadsLines new ls told) (sym lines)
          (summed-lines waits.reading new summary told same is tells (subst (λ (ls : List (List ℕ)). ReadsLines waits.reading ls told) lines reads.reads));
    }

pub well-read : (choice : Choice) (waits : Waits) (text : List ℕ) (told : List Dispatch) → waits.failed ≡ None → Reads choice waits.reading waits.unended.items text told → HasRead choice waits text told
well-read choice waits text told well reads = subst (λ (failed : Option WaitsFault). HasReadBy failed choice waits text told) (sym well) reads
