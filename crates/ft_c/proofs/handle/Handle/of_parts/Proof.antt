-- `of_parts` moves the pointer, and what the parts own goes with it.
use Rattle.std.proofs.Common.{List, [], ◌∷◌, ◌++◌, refl, sym, subst}
use Rattle.std.proofs.raw_atomic.Walks.{proved_at}
use mir.Val.{Val}
use base.Logic.{SProp, ent, emp, id⊢}
use base.Fml.{ftrue, fsep}
use prog.Wp.{WpFn}
use types.Kit.{‵, raw, ◌⊛◌, ◌$◌, ◌∵◌, !, qed, keep, drop, split, join, fsplit, fjoin, suffices, use1, done}
use types.Part.{agg, sub, whole}
use types.Run.{enter, of_opd, and_then, no_more, returns, stop, fld}
use types.ByLocal.{alloc_all, pass_all, free_all, look_at, get, get_in, sets}
use contract.Running.{tables}
use denote.Exit.{yes}
use denote.Signature.{plain}
use denote.RawPtr.{block_ptr}
use denote.Steps.{nothing}
use denote.Triple.Walked.{says, Stays, stay_dropped, walk_of, ends_at, Goes-dropped}
use Rattle.std.specs.Prelude.{Some}
use Rattle.std.proofs.BoxSteps.Form.{D, B, word as box_word, box_typed}
use Rattle.std.proofs.BoxSteps.Steps.{box_out}
use Rattle.ft_c.specs.Owned.{handle_owns}
use Rattle.ft_c.proofs.HandleSteps.{E, Parts, word, handle_in}
use Rattle.ft_c.specs.contracts.handle.Handle.of_parts.{ended, clauses}
use Rattle.ft_c.specs.contracts.handle.Handle.of_parts.Key.{name as #self}
use Rattle.ft_c.proofs.handle.Handle.of_parts.Statement.{statement}
use Rattle.ft_c.proofs.handle.Handle.of_parts.Code as code

abbrev stayed : Stays ended.signature.params ended.kept
stayed = (stay_dropped (plain (λ _. Parts)) yes, tt)

pub of_parts_spec : {M : Type 1} → statement M
of_parts_spec 𝓤 𝓛 𝓜 𝓡 wired =
    let H = 𝓛.H in let 𝓣 = tables 𝓤 H 𝓜 𝓡 𝓡.env in let c = clauses 𝓛 𝓜.mem 𝓡.returns in
    proved_at 𝓛 ended stayed c 𝓜 𝓡 (Goes-dropped 𝓛 0 (plain (λ _. Parts)) yes (λ κs x f. refl), tt) #self code.function (code.unfolded 𝓤 H 𝓜 𝓡 wired) (λ z are.
    let Post : Val → SProp 𝓤 = (walk_of 𝓛 ended stayed c).post z in let Run : List Val → SProp 𝓤 = λ us. WpFn 𝓤 H 𝓣.C 𝓣.Λ code.function us Post in
    let d : D E = record { ptr = z.0.3.0.ptr; alloc = z.0.3.0.alloc; value = z.0.3.0.value } in
    qed 𝓛 ((‵ ftrue ⊛ ‵ (fsep ((B E).own_val d z.0.4.0) ftrue)) ∷ raw (emp 𝓤) ∷ []) ∵ split ! $ drop ! $ fsplit ! $
    box_out E ! d z.0.4.0 (λ b o hv e ws fa. fjoin ! $ keep ! (0 ∷ []) $ use1 𝓛 (‵ (handle_owns (block_ptr b o) (Some d.value))) (id⊢ 𝓤 _) $
    suffices ! (Run (box_word E hv b o ∷ [])) (subst (λ (us : List Val). ent 𝓤 (Run (box_word E hv b o ∷ [])) (Run us)) (sym (λ i. ws i ++ [])) (id⊢ 𝓤 (Run (box_word E hv b o ∷ [])))) $
    enter ! 𝓣.C 𝓣.Λ code.function (box_word E hv b o ∷ []) Post $ alloc_all ! (λ l. pass_all ! refl (box_typed E hv b o fa, tt) $
    sets ! (of_opd ! (get_in ! (fld ! refl (stop !)) (sub ! 0 refl (whole !)))) refl (tt, tt) $ sets ! (of_opd ! (get ! refl)) refl (tt, tt) $
    sets ! (agg ! (and_then ! (get ! refl) (no_more !))) refl (tt, (tt, tt)) $
    returns ! (look_at ! 0 refl) $ free_all ! refl $ handle_in ! (block_ptr b o) (Some d.value) $
    suffices ! _ (ends_at 𝓛 ended stayed c z (word (block_ptr b o)) (record { at = block_ptr b o; held = Some d.value }) (tt, tt) (tt, tt)) $ says ! refl $
    nothing ! $ nothing ! $ fjoin ! $ join ! $ nothing ! $ join ! $ done !)))
