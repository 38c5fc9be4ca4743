-- `into_parts` tests the pointer, and what the handle owns goes on.
use Rattle.std.proofs.Common.{List, [], ◌∷◌, ◌++◌, refl, sym, ap, ◌∙◌, subst, lit<}
use Rattle.std.proofs.raw_atomic.Walks.{proved_at}
use mir.Val.{Val, vcons, vnil}
use base.Logic.{SProp, ent, emp, id⊢}
use base.Fml.{ftrue, fsep}
use prog.Wp.{WpFn}
use types.Kit.{‵, raw, ◌⊛◌, at_ret, ◌$◌, ◌∵◌, !, qed, move, keep, drop, split, join, fsplit, fsplit3, fjoin, suffices, use0, use1, done}
use types.Part.{agg, sub, whole}
use types.Match.{live}
use types.Run.{enter, of_opd, lit, bin, first, branches, exec, and_then, no_more, returns, stop, fld}
use types.ByLocal.{alloc_all, pass_all, free_all, look_at, get, get_in, sets, sets_last, env}
use contract.Running.{tables}
use denote.Exit.{yes}
use denote.RattleType.{RattleType}
use denote.Signature.{plain, type_at}
use denote.Param.{layout}
use denote.RawPtr.{Ptr, block_ptr, null_ptr, tests_null}
use denote.Steps.{nothing}
use denote.Triple.Walked.{says, Stays, stay_dropped, walk_of, ends_at, Goes-dropped}
use Rattle.std.specs.Prelude.{None, Some}
use Rattle.std.specs.contracts.alloc.Global as global
use Rattle.std.proofs.alloc.Calls.{handle_tells}
use Rattle.std.proofs.alloc.Shapes.{after}
use Rattle.std.proofs.cell.Inside.{Good}
use Rattle.std.proofs.option.Made.{Some-of, none_of}
use Rattle.std.proofs.ResultValues.{and_tt}
use Rattle.std.proofs.BoxSteps.Form.{D, word as box_word, box_typed}
use Rattle.std.proofs.BoxSteps.Steps.{box_in}
use Rattle.ft_c.proofs.HandleSteps.{E, Parts, word, handle_out, by_held}
use Rattle.ft_c.specs.contracts.handle.Handle as handle
use Rattle.ft_c.specs.contracts.handle.Handle.into_parts.{ended, clauses}
use Rattle.ft_c.specs.contracts.handle.Handle.into_parts.Key.{name as #self}
use Rattle.ft_c.proofs.handle.Handle.into_parts.Statement.{statement}
use Rattle.ft_c.proofs.handle.Handle.into_parts.Code as code

abbrev stayed : Stays ended.signature.params ended.kept
stayed = (stay_dropped (plain (λ _. handle.the_row)) yes, (stay_dropped (plain (λ _. global.the_row)) yes, tt))

pub into_parts_spec : {M : Type 1} → statement M
into_parts_spec 𝓤 𝓛 𝓜 𝓡 wired =
    let H = 𝓛.H in let 𝓣 = tables 𝓤 H 𝓜 𝓡 𝓡.env in let c = clauses 𝓛 𝓜.mem 𝓡.returns in
    proved_at 𝓛 ended stayed c 𝓜 𝓡 (Goes-dropped 𝓛 0 (plain (λ _. handle.the_row)) yes (λ κs x f. refl), (Goes-dropped 𝓛 0 (plain (λ _. global.the_row)) yes (λ κs x f. refl), tt)) #self code.function (code.unfolded 𝓤 H 𝓜 𝓡 wired) (λ z are.
    let Post : Val → SProp 𝓤 = (walk_of 𝓛 ended stayed c).post z in let Run : List Val → SProp 𝓤 = λ us. WpFn 𝓤 H 𝓣.C 𝓣.Λ code.function us Post in let Out : RattleType = type_at ended.signature.result tt in
    let h = z.0.3.0 in let a = z.0.3.1.0 in
    qed 𝓛 ((‵ ftrue ⊛ ‵ (fsep (handle.the_row.own_val h z.0.4.0) (fsep (global.the_row.own_val a z.0.4.1.0) ftrue))) ∷ raw (emp 𝓤) ∷ []) ∵ split ! $ drop ! $ fsplit3 ! $
    handle_out ! h z.0.4.0 (λ eh. move ! (1 ∷ []) $ handle_tells E.al ! a z.0.4.1.0 (λ hv ea fa. keep ! (1 ∷ 0 ∷ []) $ by_held ! h.at h.held
    -- [the allocator]
    (λ is_none at_null. let us : List Val = word null_ptr ∷ hv ∷ [] in
    suffices ! (Run us) (subst (λ (ws : List Val). ent 𝓤 (Run us) (Run ws)) (sym (λ i. (eh ∙ ap (λ (p : Ptr). word p ∷ []) at_null) i ++ (ea i ++ []))) (id⊢ 𝓤 (Run us))) $
    enter ! 𝓣.C 𝓣.Λ code.function us Post $ alloc_all ! (λ l. pass_all ! refl ((tt, (record { fits = lit< tt }, tt)), (fa, tt)) $
    sets ! (of_opd ! (get_in ! (fld ! refl (stop !)) (sub ! 0 refl (whole !)))) refl (tt, record { fits = lit< tt }) $
    sets ! (bin ! (get ! refl) (lit ! tt) tt) refl (tt, tt) $ first ! $ branches ! (get ! refl)
    (λ _. sets_last ! (agg ! (and_then ! (lit ! tt) (no_more !))) refl (tt, (record { fits = lit< tt }, tt)) $
    exec ! 𝓣.C 𝓣.Λ (env (code.function).locals l) (after 3 (code.function).body) (at_ret (env (code.function).locals l) Post) $
    sets ! (of_opd ! (get ! refl)) refl (tt, (record { fits = lit< tt }, tt)) $
    returns ! (look_at ! 0 refl) $ free_all ! refl $ keep ! [] $ use0 𝓛 (‵ (Out.own_val None (live 0 vnil ∷ []))) (none_of 𝓛 Parts) $
    suffices ! _ (ends_at 𝓛 ended stayed c z (live 0 vnil) None (tt, (tt, tt)) (tt, (tt, tt))) $ says ! is_none $
    nothing ! $ nothing ! $ fjoin ! $ nothing ! $ fjoin ! $ join ! $ nothing ! $ join ! $ done !) (λ wrong. absurd wrong)))
    -- [the box; the allocator]
    (λ b o x is_some at_block test. let us : List Val = word (block_ptr b o) ∷ hv ∷ [] in let made : Val = box_word E hv b o in let typed = box_typed E hv b o fa in
    let d : D E = record { ptr = block_ptr b o; alloc = a; value = x } in let out : Parts.Denot = record { ptr = block_ptr b o; alloc = a; value = x } in let some : Val = live 1 (vcons made vnil) in
    let good : Good (layout Out) some = (and_tt _ typed.0, (record { fits = lit< tt }, (typed.1, tt))) in
    suffices ! (Run us) (subst (λ (ws : List Val). ent 𝓤 (Run us) (Run ws)) (sym (λ i. (eh ∙ ap (λ (p : Ptr). word p ∷ []) at_block) i ++ (ea i ++ []))) (id⊢ 𝓤 (Run us))) $
    enter ! 𝓣.C 𝓣.Λ code.function us Post $ alloc_all ! (λ l. pass_all ! refl ((tt, (tt, tt)), (fa, tt)) $
    sets ! (of_opd ! (get_in ! (fld ! refl (stop !)) (sub ! 0 refl (whole !)))) refl (tt, tt) $
    sets ! (bin ! (get ! refl) (lit ! tt) (tests_null (block_ptr b o) test)) refl (tt, tt) $ first ! $ branches ! (get ! refl) (λ wrong. absurd wrong)
    (λ _. sets ! (of_opd ! (get ! refl)) refl (tt, tt) $ sets ! (agg ! (and_then ! (get ! refl) (and_then ! (get ! refl) (no_more !)))) refl typed $
    sets_last ! (agg ! (and_then ! (lit ! tt) (and_then ! (get ! refl) (no_more !)))) refl good $
    exec ! 𝓣.C 𝓣.Λ (env (code.function).locals l) (after 3 (code.function).body) (at_ret (env (code.function).locals l) Post) $
    sets ! (of_opd ! (get ! refl)) refl good $ returns ! (look_at ! 0 refl) $ free_all ! refl $ fsplit ! $ box_in E ! d b o x refl refl $
    use1 𝓛 (‵ (Out.own_val (Some out) (some ∷ []))) (Some-of 𝓛 Parts out made) $
    suffices ! _ (ends_at 𝓛 ended stayed c z some (Some out) (tt, (tt, tt)) (tt, (tt, tt))) $ says ! is_some $
    nothing ! $ nothing ! $ fjoin ! $ nothing ! $ fjoin ! $ join ! $ nothing ! $ join ! $ done !))))))
