-- What the proofs of a handle's functions share. Assumes `Logic`.
--     E                        a session in a box, at `Global`
--     word p                   the machine value of a handle at p
--     handle_out, handle_in    a handle by value is what it owns
--     by_held                  a handle is null and holds nothing, or leads to a block that may be tested for null
use Rattle.std.proofs.Common.{◌≡◌, ℕ, List, [], ◌∷◌, ◌++◌, refl, ap, ◌∙◌, subst}
use seplogic.Ra.Ura.{Ura}
use mir.Syntax.{impl, tnil, dnil}
use mir.Raw.{raw as bare}
use mir.Val.{Val, vstruct, vcons, vnil, of_list}
use base.Logic.{ent, never, fst∗, snd∗, via, guard_i}
use types.Logic.{Logic, sem}
use types.Kit.{Item, Goal, Seq, Step, step, ‵, given, ◌$◌, fsplit, fjoin, fpick, fpack, feq_i, feq_l, drop, use1, learn}
use contract.Monad.{fact, fact_use}
use denote.RattleType.{RattleType, Valss}
use denote.Builtin.{RawPtr}
use denote.Memory.{lone}
use denote.RawPtr.{Ptr, block_ptr, null_ptr, ptr_val, Testable, in_a_block}
use denote.Steps.{nothing}
use denote.Struct.Struct.{within}
use denote.Struct.Owning.{shape}
use Rattle.std.specs.Prelude.{Option, Some, None}
use Rattle.std.specs.Ptr.{points_to}
use Rattle.std.specs.contracts.alloc.Global as global
use Rattle.std.specs.contracts.impls.GlobalAllocator.TheImpl.{ghosts, dict}
use Rattle.std.proofs.alloc.Global.TheLaws as global_laws
use Rattle.std.proofs.BoxSteps.Form.{Bx}
use Rattle.std.proofs.GlobalToken.{dealloc_token-Testable}
use Rattle.ft_session.specs.contracts.Session as object
use Rattle.ft_session.proofs.Session.TheLaws as object_laws
use Rattle.ft_c.specs.contracts.parts.Parts as parts
use Rattle.ft_c.specs.Owned.{Held, heap, boxed, handle_owns}
use Rattle.ft_c.specs.contracts.handle.Handle as handle

abbrev pub E : Bx
E = record { row = object.the_row; laws = object_laws.the_row_laws; al = record { row = global.the_row; laws = global_laws.the_row_laws; g = ghosts; d = dict; drops = impl [] tnil dnil } }

abbrev pub Parts : RattleType
Parts = parts.the_row object.the_row global.the_row ghosts

abbrev pub word : Ptr → Val
word p = vstruct (vcons (ptr_val p) vnil)

module _ {M : Type 1} {𝓤 : Ura M} (𝓛 : Logic 𝓤) where
  testable : (p : Ptr) (x : Held) → ent 𝓤 (sem 𝓛 (boxed p x)) (fact 𝓤 (Testable p))
  testable p x = let τ = bare (lone object.the_row.mir) in
      via 𝓤 (sem 𝓛 (ghosts.dealloc_token heap τ p)) (snd∗ 𝓤 (sem 𝓛 (points_to object.the_row p x)) (sem 𝓛 (ghosts.dealloc_token heap τ p))) (dealloc_token-Testable 𝓛 heap τ p)

module _ {M : Type 1} {𝓤 : Ura M} {𝓛 : Logic 𝓤} {K : Type 0} {Γ : List (Item 𝓤)} {G : Goal 𝓤 𝓛.H} where
  pub handle_out : K → (h : handle.the_row.Denot) (us : List Val) → (us ≡ word h.at ∷ [] → Seq K 𝓛 (‵ (handle_owns h.at h.held) ∷ Γ) G) → Seq K 𝓛 (‵ (handle.the_row.own_val h us) ∷ Γ) G
  handle_out t h us k =
      fsplit t $ fpick t (λ vss. fsplit t $ feq_l t (λ ev. fsplit t $ feq_l t (λ ep. drop t $ k (ev ∙ ap (λ (ps : List Val). vstruct (of_list (ps ++ [])) ∷ []) ep))))

  pub handle_in : K → (p : Ptr) (held : Option Held) → Step K 𝓛 (‵ (handle.the_row.own_val (record { at = p; held = held }) (word p ∷ [])) ∷ Γ) G (‵ (handle_owns p held) ∷ Γ) G
  handle_in t p held = step (λ s.
      nothing t $ feq_i t (List Val) (ptr_val p ∷ []) (ptr_val p ∷ []) refl $ fjoin t $ feq_i t (List Val) (word p ∷ []) (word p ∷ []) refl $ fjoin t $
      fpack t (Valss (RawPtr ∷ [])) (within (shape handle.the_type) (p, tt) (word p ∷ [])) (ptr_val p ∷ [], tt) $ fjoin t $ s)

  pub by_held : K → (p : Ptr) (held : Option Held) → (held ≡ None → p ≡ null_ptr → Seq K 𝓛 Γ G)
      → ((b o : ℕ) (x : Held) → held ≡ Some x → p ≡ block_ptr b o → Testable (block_ptr b o) → Seq K 𝓛 (‵ (boxed (block_ptr b o) x) ∷ Γ) G) → Seq K 𝓛 (‵ (handle_owns p held) ∷ Γ) G
  by_held t p None none one = feq_l t (λ e. none refl e)
  by_held t p (Some x) none one =
      use1 𝓛 (given (Testable p) (‵ (boxed p x))) (fact_use 𝓤 _ (testable 𝓛 p x) (guard_i 𝓤 (Testable p) (sem 𝓛 (boxed p x)))) $ learn t (λ test.
      in_a_block t p (λ q. boxed q x) (fst∗ 𝓤 (never 𝓤) (sem 𝓛 (ghosts.dealloc_token heap (bare (lone object.the_row.mir)) null_ptr))) (λ b o e. one b o x refl e (subst Testable e test)))
