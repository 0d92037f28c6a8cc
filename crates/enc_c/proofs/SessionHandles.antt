-- The machine value of a `SessionHandle`, one pointer, and what it owns. Assumes `Logic`.
use Rattle.std.proofs.Common.{◌≡◌, ℕ, List, [], ◌∷◌, ◌++◌, refl, subst}
use seplogic.Ra.Ura.{Ura}
use mir.Raw.{raw as bare}
use mir.Val.{Val, vstruct, vcons, vnil, of_list}
use base.Logic.{ent, guard, never, fst∗, snd∗, via, guard_i}
use base.Fml.{Fml}
use types.Logic.{Logic, sem}
use types.Kit.{Item, Goal, Seq, Step, step, ‵, ◌$◌, drop, use1, given, learn, fsplit, fjoin, fpick, fpack, feq_i, feq_l}
use contract.Monad.{fact_use}
use denote.RattleType.{RattleType, Valss}
use denote.Builtin.{RawPtr}
use denote.Memory.{lone}
use denote.RawPtr.{Ptr, block_ptr, null_ptr, ptr_val, in_a_block, Testable, lies_at}
use denote.Steps.{nothing}
use denote.Struct.Struct.{within}
use denote.Struct.Owning.{shape}
use base.Fraction.{full_share}
use Rattle.std.specs.Prelude.{Option, Some, None}
use Rattle.std.specs.Global.{Global}
use Rattle.std.specs.Box.Ownership.{box_owns}
use Rattle.std.specs.contracts.impls.GlobalAllocator.TheImpl.{ghosts}
use Rattle.std.proofs.GlobalToken.{dealloc_token-Testable}
use Rattle.enc_c.specs.SessionHandle.{owns_session}
use Rattle.enc_c.specs.contracts.session_handle.SessionHandle as handle
use Rattle.enc_session.specs.contracts.recording.Recording as held

abbrev pub R : RattleType
R = held.the_row

abbrev pub single : Val → Val
single v = vstruct (vcons v vnil)

abbrev pub boxed : Global → Ptr → R.Denot → Fml
boxed a = box_owns (ghosts.dealloc_token a) R

abbrev pub Handle : RattleType
Handle = handle.the_row

-- a pointer whose block `Global` may free may be compared with null
tested : {M : Type 1} {𝓤 : Ura M} (𝓛 : Logic 𝓤) (a : Global) (p : Ptr) (x : R.Denot)
    → ent 𝓤 (sem 𝓛 (boxed a p x)) (guard 𝓤 (Testable p) (sem 𝓛 (boxed a p x)))
tested {𝓤 = 𝓤} 𝓛 a p x =
    fact_use 𝓤 (Testable p) (via 𝓤 _ (snd∗ 𝓤 (sem 𝓛 (lies_at R full_share p x)) (sem 𝓛 (ghosts.dealloc_token a (bare (lone R.mir)) p)))
    (dealloc_token-Testable 𝓛 a (bare (lone R.mir)) p)) (guard_i 𝓤 (Testable p) (sem 𝓛 (boxed a p x)))

module _ {M : Type 1} {𝓤 : Ura M} {𝓛 : Logic 𝓤} {K : Type 0} {Γ : List (Item 𝓤)} {G : Goal 𝓤 𝓛.H} where
  -- a handle by value is what it owns, and its pointer
  pub handle_out : K → (d : Handle.Denot) (vs : List Val)
      → (vs ≡ single (ptr_val d.at) ∷ [] → Seq K 𝓛 (‵ (owns_session d.at d.held) ∷ Γ) G) → Seq K 𝓛 (‵ (Handle.own_val d vs) ∷ Γ) G
  handle_out t d vs k =
      fsplit t $ fpick t (λ vss. fsplit t $ feq_l t (λ ev. fsplit t $ feq_l t (λ ep. drop t $
      k (subst (λ (ps : List Val). vs ≡ vstruct (of_list (ps ++ [])) ∷ []) ep ev))))

  pub handle_in : K → (at : Ptr) (held : Option R.Denot)
      → Step K 𝓛 (‵ (Handle.own_val (record { at = at; held = held }) (single (ptr_val at) ∷ [])) ∷ Γ) G (‵ (owns_session at held) ∷ Γ) G
  handle_in t at held = step (λ s. let w = single (ptr_val at) in
      nothing t $ feq_i t (List Val) (ptr_val at ∷ []) (ptr_val at ∷ []) refl $ fjoin t $ feq_i t (List Val) (w ∷ []) (w ∷ []) refl $ fjoin t $
      fpack t (Valss (RawPtr ∷ [])) (within (shape handle.the_type) (at, tt) (w ∷ [])) (ptr_val at ∷ [], tt) $ fjoin t $ s)

  -- it is closed at null, and else the box of a value
  pub either_held : K → (p : Ptr) (held : Option R.Denot)
      → (p ≡ null_ptr → held ≡ None → Seq K 𝓛 Γ G)
      → ((a : Global) (b o : ℕ) (x : R.Denot) → p ≡ block_ptr b o → held ≡ Some x → Testable (block_ptr b o) → Seq K 𝓛 (‵ (boxed a (block_ptr b o) x) ∷ Γ) G)
      → Seq K 𝓛 (‵ (owns_session p held) ∷ Γ) G
  either_held t p None none some = feq_l t (λ e. none e refl)
  either_held t p (Some x) none some =
      fpick t (λ a. use1 𝓛 (given (Testable p) (‵ (boxed a p x))) (tested 𝓛 a p x) $ learn t (λ ok.
      in_a_block t p (λ q. boxed a q x) (fst∗ 𝓤 (never 𝓤) (sem 𝓛 (ghosts.dealloc_token a (bare (lone R.mir)) null_ptr))) (λ b o e.
      some a b o x e refl (subst Testable e ok))))
