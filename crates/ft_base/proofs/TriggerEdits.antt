-- Giving a trigger another filter and removing one keep a base reachable.
use Rattle.std.proofs.Common.{◌≡◌, ℕ, ◌+◌, ◌≤◌, true, true≢false, cond, List, refl, sym, ap, subst, ◌∙◌, Option, Some, None, is_some, ⊎_elim, arith}
use Rattle.std.specs.Cmp.{nat_cmp_total}
use Rattle.std.specs.Cmp.Lexicographic.{same_text}
use Rattle.std.specs.Option.{option_map_or}
use Rattle.std.specs.FinMap as map
use Rattle.std.specs.FinMap.{len-insert, nat_cmp-IsAntisymmetric}
use Rattle.std.proofs.lemmas.Bool.{cases_eq}
use Rattle.std.proofs.lemmas.Slice.Eq.{bytes_eq-Decides}
use Rattle.ft_filter.specs.Tree.{Tree}
use Rattle.ft_hist.specs.declared.label.Var.{Var}
use Rattle.ft_hist.specs.declared.label.Var.TheVariants as vars
use Rattle.ft_hist.specs.Hist.{Hist, with_filter}
use Rattle.ft_hist.specs.Hit.{same_name}
use Rattle.ft_hist.specs.declared.onmatch.Onmatch.{Onmatch}
use Rattle.ft_hist.specs.Matching.{keys_match}
use Rattle.ft_maps.specs.Entries.{get-insert_same, get-insert_other, get-remove_other}
use Rattle.ft_base.specs.Base.{Triggers, Base}
use Rattle.ft_base.specs.Roles.{saves_name, reads_name, reader_of}
use Rattle.ft_base.specs.After.{reader_on}
use Rattle.ft_base.specs.Reachable.{HasOneSaver, HasSavers, IsReachable}
use Rattle.ft_base.proofs.Reachable.{same-Some}
use Rattle.ft_base.proofs.Savers.{reads-none, saver-saves}
use Rattle.ft_base.proofs.OneSaver.{one_saver}
use Rattle.ft_base.proofs.LaneEdits.{found-before, len-removed}

-- ---- triggers that are as before, or fewer, except for their filters

-- at an id stands a trigger with the event, the keys, the variable and the onmatch part of this one
record HasLike (triggers : Triggers) (id : ℕ) (hist : Hist) : Type 0 where
  like : Hist
  attached : map.get triggers id ≡ Some like
  variable : like.variable ≡ hist.variable
  keys : like.keys ≡ hist.keys
  event : like.event ≡ hist.event
  onmatch : like.onmatch ≡ hist.onmatch

same-HasLike : (triggers : Triggers) (id : ℕ) (hist : Hist) → map.get triggers id ≡ Some hist → HasLike triggers id hist
same-HasLike triggers id hist attached = record { like = hist; attached = attached; variable = refl; keys = refl; event = refl; onmatch = refl }

-- the new triggers were attached before, and the savers of what they read stay
record AreLeft (old new : Triggers) : Type 0 where
  before : (id : ℕ) (hist : Hist) → map.get new id ≡ Some hist → HasLike old id hist
  after : (reader : ℕ) (hist : Hist) (own source : List ℕ) → map.get new reader ≡ Some hist → hist.variable ≡ Some (vars.Reads own source)
      → (id : ℕ) (saver : Hist) → map.get old id ≡ Some saver → saves_name source saver.variable ≡ true → HasLike new id saver

module _ (old new : Triggers) (left : AreLeft old new) where
  left-HasOneSaver : HasOneSaver old → HasOneSaver new
  left-HasOneSaver one i j a b name found-i found-j saves-i saves-j =
      let x = left.before i a found-i in
      let y = left.before j b found-j in
      one i j x.like y.like name x.attached y.attached (ap (saves_name name) x.variable ∙ saves-i) (ap (saves_name name) y.variable ∙ saves-j)

  left-HasSavers : HasOneSaver old → HasSavers old → HasSavers new
  left-HasSavers one savers id hist own source found reads =
      let was = left.before id hist found in
      let saved = savers id was.like own source was.attached (was.variable ∙ reads) in
      let saves = saver-saves old source saved.id saved.saver saved.attached saved.named in
      let now = left.after id hist own source found reads saved.id saved.saver saved.attached saves in
      record {
        id = saved.id;
        saver = now.like;
        named = one_saver new (left-HasOneSaver one) source saved.id now.like now.attached (ap (saves_name source) now.variable ∙ saves);
        attached = now.attached;
        matching = (λ i. keys_match (sym was.keys i) (now.keys i)) ∙ saved.matching;
        at = (λ i. option_map_or (λ (part : Onmatch). same_name part.event (now.event i)) (sym was.onmatch i) true) ∙ saved.at;
      }

left-IsReachable : (base : Base) (new : Triggers) → IsReachable base → AreLeft base.triggers new → map.len new ≤ map.len base.triggers → IsReachable (record base { triggers = new })
left-IsReachable base new is left few = record {
  cpus = is.cpus;
  numbers = is.numbers;
  lines = is.lines;
  ids = λ id hist found. let was = left.before id hist found in is.ids id was.like was.attached;
  next_id = is.next_id;
  few_events = is.few_events;
  few_triggers = omega (arith, few, is.few_triggers);
  one_saver = left-HasOneSaver base.triggers new left is.one_saver;
  savers = left-HasSavers base.triggers new left is.one_saver is.savers;
}

-- ---- another filter

module _ (triggers : Triggers) (id : ℕ) (hist : Hist) (filter : Option Tree) (attached : map.get triggers id ≡ Some hist) where
  abbrev refiltered : Triggers
  refiltered = map.insert triggers id (with_filter hist filter)

  refilter-here : (other : Hist) → map.get refiltered id ≡ Some other → HasLike triggers id other
  refilter-here other found =
      let same : with_filter hist filter ≡ other = same-Some _ other (sym (get-insert_same nat_cmp_total triggers id _) ∙ found) in
      record { like = hist; attached = attached; variable = ap (λ (h : Hist). h.variable) same; keys = ap (λ (h : Hist). h.keys) same; event = ap (λ (h : Hist). h.event) same; onmatch = ap (λ (h : Hist). h.onmatch) same }

  refilter-before : (q : ℕ) (other : Hist) → map.get refiltered q ≡ Some other → HasLike triggers q other
  refilter-before q other found =
      ⊎_elim
      (λ s. subst (λ k. HasLike triggers k other) (sym s) (refilter-here other (ap (map.get refiltered) (sym s) ∙ found)))
      (λ ne. same-HasLike triggers q other (sym (get-insert_other nat_cmp_total nat_cmp-IsAntisymmetric triggers id _ q ne) ∙ found))
      (cases_eq q id)

  refilter-after : (q : ℕ) (other : Hist) → map.get triggers q ≡ Some other → HasLike refiltered q other
  refilter-after q other found =
      ⊎_elim
      (λ s.
      let same : hist ≡ other = same-Some hist other (sym attached ∙ ap (map.get triggers) (sym s) ∙ found) in
      let here : map.get refiltered q ≡ Some (with_filter hist filter) = ap (map.get refiltered) s ∙ get-insert_same nat_cmp_total triggers id _ in
      record { like = with_filter hist filter; attached = here; variable = ap (λ (h : Hist). h.variable) same; keys = ap (λ (h : Hist). h.keys) same; event = ap (λ (h : Hist). h.event) same; onmatch = ap (λ (h : Hist). h.onmatch) same })
      (λ ne. same-HasLike refiltered q other (get-insert_other nat_cmp_total nat_cmp-IsAntisymmetric triggers id _ q ne ∙ found))
      (cases_eq q id)

  refilter-AreLeft : AreLeft triggers refiltered
  refilter-AreLeft = record { before = refilter-before; after = λ reader other own source found reads q saver stood saves. refilter-after q saver stood }

  refilter-len : map.len refiltered ≡ map.len triggers
  refilter-len = len-insert nat_cmp_total triggers id _ ∙ ap (λ o. cond (is_some o) (map.len triggers) (map.len triggers + 1)) attached

pub refilter-IsReachable : (base : Base) (id : ℕ) (hist : Hist) (filter : Option Tree) → IsReachable base → map.get base.triggers id ≡ Some hist → IsReachable (record base { triggers = map.insert base.triggers id (with_filter hist filter) })
refilter-IsReachable base id hist filter is attached =
    left-IsReachable base (map.insert base.triggers id (with_filter hist filter)) is (refilter-AreLeft base.triggers id hist filter attached) (omega (arith, refilter-len base.triggers id hist filter attached))

-- ---- one less

-- if nobody reads what a trigger saves, nobody reads a name that it saves
reader-none : (triggers : Triggers) (variable : Option Var) (name : List ℕ) → reader_on triggers variable ≡ None → saves_name name variable ≡ true → reader_of triggers name ≡ None
reader-none triggers None name none saves = cc
reader-none triggers (Some (vars.Reads own source)) name none saves = cc
reader-none triggers (Some (vars.Saves label)) name none saves = ap (reader_of triggers) (sym (same_text label name (sym saves))) ∙ none

module _ (triggers : Triggers) (id : ℕ) (hist : Hist) (attached : map.get triggers id ≡ Some hist) (unread : reader_on triggers hist.variable ≡ None) where
  -- no trigger reads what it saves
  not-read : (reader : ℕ) (other : Hist) (own source : List ℕ) → map.get triggers reader ≡ Some other → other.variable ≡ Some (vars.Reads own source) → saves_name source hist.variable ≡ true → ⊥
  not-read reader other own source found reads saves =
      let none = reads-none triggers source reader other (reader-none triggers hist.variable source unread saves) found in
      let same : reads_name source other.variable ≡ true = ap (reads_name source) reads ∙ (bytes_eq-Decides source source).1 refl in
      true≢false (sym same ∙ none)

  removed-AreLeft : AreLeft triggers (map.remove triggers id)
  removed-AreLeft = record {
    before = λ q other found. same-HasLike triggers q other (found-before triggers id q other found);
    after = λ reader other own source found reads q saver stood saves.
        ⊎_elim
        (λ s.
        let same : hist ≡ saver = same-Some hist saver (sym attached ∙ ap (map.get triggers) (sym s) ∙ stood) in
        absurd (not-read reader other own source (found-before triggers id reader other found) reads (ap (λ (h : Hist). saves_name source h.variable) same ∙ saves)))
        (λ ne. same-HasLike (map.remove triggers id) q saver (get-remove_other nat_cmp_total nat_cmp-IsAntisymmetric triggers id q ne ∙ stood))
        (cases_eq q id);
  }

pub remove-IsReachable : (base : Base) (id : ℕ) (hist : Hist) → IsReachable base → map.get base.triggers id ≡ Some hist → reader_on base.triggers hist.variable ≡ None → IsReachable (record base { triggers = map.remove base.triggers id })
remove-IsReachable base id hist is attached unread =
    left-IsReachable base (map.remove base.triggers id) is (removed-AreLeft base.triggers id hist attached unread) (len-removed base.triggers id)
