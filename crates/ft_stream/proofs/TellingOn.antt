-- What a part of a text tells comes behind what was told before.
use Rattle.std.specs.Prelude.{◌≡◌, ℕ, List, [], ◌++◌, None}
use Rattle.std.proofs.Common.{refl, sym, ap, ◌∙◌, subst, append-nil}
use Rattle.std.proofs.lemmas.List.Elements.{filter-append}
use Rattle.ft_dispatch.specs.declared.dispatch.Dispatch.{Dispatch}
use Rattle.ft_dispatch.specs.Holding.{Holds}
use Rattle.ft_dispatch.specs.Joining.{other_ones, others}
use Rattle.ft_waits.specs.Choice.{Choice}
use Rattle.ft_waits.specs.Streams.{HasRead, AreDispatches}
use Rattle.ft_waits.specs.declared.stream.Waits.{Waits}
use Rattle.ft_stream.specs.Telling.{ends_wait, waits_of, HasTold, HoldsBack, AreWaits}
use Rattle.ft_stream.specs.inner.Parts.{ReadsApart}
use Rattle.ft_stream.specs.declared.apart.Part.{Part}
use Rattle.ft_stream.specs.declared.phase.Finished.{Finished}

-- nothing more is told by a list that was cleared
pub by_cleared : (choice : Choice) (waits : Waits) (text : List ℕ) (told cleared : List Dispatch) → cleared ≡ [] → HasRead choice waits text told → HasRead choice waits text (told ++ cleared)
by_cleared choice waits text told cleared none read = subst (λ (ds : List Dispatch). HasRead choice waits text ds) (sym (append-nil told) ∙ ap (λ ds. told ++ ds) (sym none)) read

-- the waits of what was told before and of what is told now
both_waits : (before told out waits : List Dispatch) → before ≡ waits_of told → waits ≡ waits_of out → before ++ waits ≡ waits_of (told ++ out)
both_waits before told out waits were are = ap (λ ws. ws ++ waits) were ∙ ap (λ ws. waits_of told ++ ws) are ∙ sym (filter-append ends_wait told out)

-- a piece was read, and told these dispatches, of which the waits are kept
pub tells_on : (choice : Choice) (old new : Waits) (text more : List ℕ) (before out waits : List Dispatch) → waits ≡ waits_of out → (had : HasTold choice old text before) → HasRead choice new more (had.dispatches ++ out) → new.failed ≡ None → HasTold choice new more (before ++ waits)
tells_on choice old new text more before out waits are had read well = record { dispatches = had.dispatches ++ out; has_read = read; well = well; are_waits = both_waits before had.dispatches out waits had.are_waits are }

-- the same of the end
pub tells_end : (choice : Choice) (old : Waits) (text : List ℕ) (before out waits : List Dispatch) (finished : Finished) → waits ≡ waits_of out → (had : HasTold choice old text before) → AreDispatches choice text (had.dispatches ++ out) finished.read → finished.doubts ≡ finished.read.losses.holes.items → AreWaits choice text (before ++ waits) finished
tells_end choice old text before out waits finished are had answer doubts = record {
  are_waits = both_waits before had.dispatches out waits had.are_waits are ∙ ap waits_of answer.dispatches;
  answer = subst (λ (ds : List Dispatch). AreDispatches choice text ds finished.read) answer.dispatches answer;
  doubts = doubts;
}

-- a part of which nothing is read
pub none_held : (choice : Choice) (part : Part) → HasRead choice part.waits [] [] → part.waits.failed ≡ None → Holds part.firsts [] → HoldsBack choice part [] []
unfolding other_ones
none_held choice part read well holds = record { dispatches = []; has_read = read; well = well; held = holds; are_waits = refl }

-- a piece of a part was read, and told these dispatches, of which the first ones are held back and the waits of the others are kept
pub holds_on : (choice : Choice) (old new : Part) (text more : List ℕ) (before given waits : List Dispatch) → waits ≡ waits_of given → (had : HoldsBack choice old text before) → ReadsApart choice new more (others had.dispatches) given → HoldsBack choice new more (before ++ waits)
holds_on choice old new text more before given waits are had reads = record {
  dispatches = reads.dispatches;
  has_read = reads.has_read;
  well = reads.well;
  held = reads.held;
  are_waits = both_waits before (others had.dispatches) given waits had.are_waits are ∙ ap waits_of reads.gave;
}
