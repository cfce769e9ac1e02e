-- How `SharedKeys` lie in a machine value: a struct of the one pointer. Assumes `Logic`.
use Rattle.std.proofs.Common.{◌≡◌, ℕ, List, [], ◌∷◌, ◌++◌, refl, subst}
use Rattle.std.specs.Prelude.{Option, Some, None}
use seplogic.Ra.Ura.{Ura}
use mir.Val.{Val, vptr, vstruct, vcons, vnil, of_list}
use mir.Syntax.{Ty, impl, tnil, dnil}
use base.Fml.{Fml, ftrue}
use types.Logic.{Logic, sem}
use types.Kit.{Item, Goal, Seq, Step, step, ‵, ◌$◌, drop, fsplit, fjoin, fpick, fpack, rewrite, feq_i, feq_l}
use denote.RattleType.{RattleType, Valss}
use denote.Builtin.{RawPtr}
use denote.RawPtr.{Ptr, block_ptr, null_ptr, ptr_val, in_a_block}
use denote.Steps.{nothing}
use denote.Struct.Struct.{within}
use denote.Struct.Owning.{shape}
use base.Logic.{never, fst∗}
use mir.Raw.{raw as bare}
use denote.Memory.{lone}
use Rattle.core.proofs.alloc.Calls.{Al}
use Rattle.std.specs.Box.Ownership.{box_owns}
use Rattle.std.specs.contracts.alloc.Global as heap
use Rattle.std.proofs.alloc.Global.TheLaws as heap_laws
use Rattle.std.specs.contracts.impls.GlobalAllocator.TheImpl.{ghosts}
use Rattle.ready_keysets.specs.contracts.ready.ReadyKeyset as inner
use Rattle.ready_keysets.specs.declared.ready.ReadyKeyset.{ReadyKeyset}
use Rattle.tinkey_c.specs.Shared.{lies_whole, IsOpen}
use Rattle.tinkey_c.specs.contracts.shared.SharedKeys as shared

-- what lets the block go
abbrev pub chunk : Ty → Ptr → Fml
chunk = ghosts.dealloc_token (record { memory = record { seal = tt } })

abbrev pub R : RattleType
R = inner.the_row

abbrev pub Z : RattleType
Z = heap.the_row

abbrev pub Held : RattleType
Held = shared.the_row

-- what is live is some value
pub value_of : {A : Type 0} (o : Option A) → IsOpen o → (x : A) × (o ≡ Some x)
value_of None h = absurd h
value_of (Some x) h = (x, refl)

abbrev pub alone : Val → Val
alone v = vstruct (vcons v vnil)

abbrev pub al : Al
al = record { row = Z; laws = heap_laws.the_row_laws; g = ghosts; d = impl [] tnil dnil; drops = impl [] tnil dnil }

module _ {M : Type 1} {𝓤 : Ura M} {𝓛 : Logic 𝓤} {K : Type 0} {Γ : List (Item 𝓤)} {G : Goal 𝓤 𝓛.H} where
  -- keys are made of a box and its memory
  pub keys_in : K → (b o : ℕ) (x : ReadyKeyset)
      → Step K 𝓛 (‵ (Held.own_val (record { at = block_ptr b o; held = Some x }) (alone (vptr b o) ∷ [])) ∷ Γ) G (‵ (box_owns chunk R (block_ptr b o) x) ∷ Γ) G
  keys_in t b o x = step (λ s. let v : Val = alone (vptr b o) in
      nothing t $ feq_i t (List Val) (vptr b o ∷ []) (vptr b o ∷ []) refl $ fjoin t $ feq_i t (List Val) (v ∷ []) (v ∷ []) refl $ fjoin t $
      fpack t (Valss (RawPtr ∷ [])) (within (shape shared.the_type) (block_ptr b o, tt) (v ∷ [])) (vptr b o ∷ [], tt) $ fjoin t $ s)

  -- no keys, at the pointer null
  pub no_keys_in : K
      → Step K 𝓛 (‵ (Held.own_val (record { at = null_ptr; held = None }) (alone (ptr_val null_ptr) ∷ [])) ∷ Γ) G (‵ ftrue ∷ Γ) G
  no_keys_in t = step (λ s. let v : Val = alone (ptr_val null_ptr) in
      nothing t $ feq_i t (List Val) (ptr_val null_ptr ∷ []) (ptr_val null_ptr ∷ []) refl $ fjoin t $ feq_i t (List Val) (v ∷ []) (v ∷ []) refl $ fjoin t $
      fpack t (Valss (RawPtr ∷ [])) (within (shape shared.the_type) (null_ptr, tt) (v ∷ [])) (ptr_val null_ptr ∷ [], tt) $ fjoin t $ s)

  -- keys that are there are taken apart
  pub keys_out : K → (d : Held.Denot) (x : ReadyKeyset) → d.held ≡ Some x → (vs : List Val)
      → ((b o : ℕ) → d.at ≡ block_ptr b o → vs ≡ alone (vptr b o) ∷ [] → Seq K 𝓛 (‵ (box_owns chunk R (block_ptr b o) x) ∷ Γ) G)
      → Seq K 𝓛 (‵ (Held.own_val d vs) ∷ Γ) G
  keys_out t d x eh vs k =
      fsplit t $ fpick t (λ vss. fsplit t $ feq_l t (λ ev. fsplit t $ feq_l t (λ ep. drop t $
      rewrite t 0 (λ (o : Option ReadyKeyset). ‵ (lies_whole chunk R d.at o)) eh refl $
      in_a_block t d.at (λ p. box_owns chunk R p x) (fst∗ 𝓤 (never 𝓤) (sem 𝓛 (chunk (bare (lone R.mir)) null_ptr))) (λ b o e. k b o e
      (subst (λ (p : Ptr). vs ≡ vstruct (of_list (ptr_val p ∷ [])) ∷ []) e
      (subst (λ (ps : List Val). vs ≡ vstruct (of_list (ps ++ [])) ∷ []) ep ev))))))
