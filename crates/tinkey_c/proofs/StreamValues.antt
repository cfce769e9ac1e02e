-- How a `SharedStream` lies in a machine value: a struct of the one pointer. Assumes `Logic`.
use Rattle.std.proofs.Common.{◌≡◌, ℕ, List, [], ◌∷◌, ◌++◌, refl, subst}
use Rattle.std.specs.Prelude.{Option, Some, None}
use seplogic.Ra.Ura.{Ura}
use mir.Val.{Val, vptr, vstruct, of_list}
use base.Fml.{ftrue}
use types.Logic.{Logic, sem}
use types.Kit.{Item, Goal, Seq, Step, step, ‵, ◌$◌, drop, fsplit, fjoin, fpick, fpack, rewrite, feq_i, feq_l}
use denote.RattleType.{RattleType, Valss}
use denote.Builtin.{RawPtr}
use denote.RawPtr.{Ptr, block_ptr, null_ptr, ptr_val, in_a_block}
use denote.Steps.{nothing}
use denote.Struct.Struct.{within}
use denote.Struct.Owning.{shape}
use base.Logic.{never, fst∗}
use mir.Raw.{raw as bare}
use denote.Memory.{lone}
use Rattle.std.specs.Box.Ownership.{box_owns}
use Rattle.ready_keysets.specs.contracts.objects.StreamObject as inner
use Rattle.ready_keysets.specs.declared.objects.StreamObject.{StreamObject}
use Rattle.tinkey_c.specs.Shared.{lies_whole}
use Rattle.tinkey_c.proofs.KeyValues.{alone, chunk}
use Rattle.tinkey_c.specs.contracts.shared_stream.SharedStream as shared

abbrev pub R : RattleType
R = inner.the_row

abbrev pub Held : RattleType
Held = shared.the_row

module _ {M : Type 1} {𝓤 : Ura M} {𝓛 : Logic 𝓤} {K : Type 0} {Γ : List (Item 𝓤)} {G : Goal 𝓤 𝓛.H} where
  -- a stream is made of a box and its memory
  pub stream_in : K → (b o : ℕ) (x : StreamObject)
      → Step K 𝓛 (‵ (Held.own_val (record { at = block_ptr b o; held = Some x }) (alone (vptr b o) ∷ [])) ∷ Γ) G (‵ (box_owns chunk R (block_ptr b o) x) ∷ Γ) G
  stream_in t b o x = step (λ s. let v : Val = alone (vptr b o) in
      nothing t $ feq_i t (List Val) (vptr b o ∷ []) (vptr b o ∷ []) refl $ fjoin t $ feq_i t (List Val) (v ∷ []) (v ∷ []) refl $ fjoin t $
      fpack t (Valss (RawPtr ∷ [])) (within (shape shared.the_type) (block_ptr b o, tt) (v ∷ [])) (vptr b o ∷ [], tt) $ fjoin t $ s)

  -- none, at the pointer null
  pub no_stream_in : K
      → Step K 𝓛 (‵ (Held.own_val (record { at = null_ptr; held = None }) (alone (ptr_val null_ptr) ∷ [])) ∷ Γ) G (‵ ftrue ∷ Γ) G
  no_stream_in t = step (λ s. let v : Val = alone (ptr_val null_ptr) in
      nothing t $ feq_i t (List Val) (ptr_val null_ptr ∷ []) (ptr_val null_ptr ∷ []) refl $ fjoin t $ feq_i t (List Val) (v ∷ []) (v ∷ []) refl $ fjoin t $
      fpack t (Valss (RawPtr ∷ [])) (within (shape shared.the_type) (null_ptr, tt) (v ∷ [])) (ptr_val null_ptr ∷ [], tt) $ fjoin t $ s)

  -- one that is there is taken apart
  pub stream_out : K → (d : Held.Denot) (x : StreamObject) → d.held ≡ Some x → (vs : List Val)
      → ((b o : ℕ) → d.at ≡ block_ptr b o → vs ≡ alone (vptr b o) ∷ [] → Seq K 𝓛 (‵ (box_owns chunk R (block_ptr b o) x) ∷ Γ) G)
      → Seq K 𝓛 (‵ (Held.own_val d vs) ∷ Γ) G
  stream_out t d x eh vs k =
      fsplit t $ fpick t (λ vss. fsplit t $ feq_l t (λ ev. fsplit t $ feq_l t (λ ep. drop t $
      rewrite t 0 (λ (o : Option StreamObject). ‵ (lies_whole chunk R d.at o)) eh refl $
      in_a_block t d.at (λ p. box_owns chunk R p x) (fst∗ 𝓤 (never 𝓤) (sem 𝓛 (chunk (bare (lone R.mir)) null_ptr))) (λ b o e. k b o e
      (subst (λ (p : Ptr). vs ≡ vstruct (of_list (ptr_val p ∷ [])) ∷ []) e
      (subst (λ (ps : List Val). vs ≡ vstruct (of_list (ps ++ [])) ∷ []) ep ev))))))
