-- What the two proofs by hand of the log share: how a struct of no fields is made.
pub use Rattle.std.proofs.Common.{List, [], ◌∷◌, refl}
pub use Rattle.std.proofs.raw_atomic.Walks.{proved}
pub use types.Kit.{‵, raw, ◌⊛◌, ◌$◌, ◌∵◌, !, qed, done, move, keep, split, fjoin, suffices}
pub use types.Part.{agg}
pub use types.Run.{enter, no_more, returns}
pub use types.ByLocal.{alloc_all, pass_all, free_all, look_at, sets}
pub use denote.RattleType.{RattleType, owns}
pub use denote.Signature.{types_at}
pub use denote.Steps.{nothing}
pub use denote.Triple.Entry.{alive}
pub use denote.Triple.Walked.{Stays, walk_of, says, ends_at}
use seplogic.Ra.Ura.{Ura}
use mir.Val.{Val, vstruct, vnil}
use types.Logic.{Logic}
use types.Kit.{Goal, Item, Step, step, fpack, feq_i}
use denote.RattleType.{Valss}
use denote.Struct.Struct.{Struct, within}

-- the machine's value of a struct of no fields
abbrev pub no_fields : Val
no_fields = vstruct vnil

-- such a struct by its fields alone
abbrev pub Empty : RattleType
Empty = Struct (record { name = []; args = []; types = []; fields = [] })

module _ {M : Type 1} {𝓤 : Ura M} {𝓛 : Logic 𝓤} {K : Type 0} {Γ : List (Item 𝓤)} {G : Goal 𝓤 𝓛.H} where
  pub empty_made : K → Step K 𝓛 (‵ (Empty.own_val tt (no_fields ∷ [])) ∷ Γ) G Γ G
  empty_made t = step (λ s.
      nothing t $ feq_i t (List Val) (no_fields ∷ []) (no_fields ∷ []) refl $ fjoin t $
      fpack t (Valss []) (within (record { name = []; args = []; types = []; fields = [] }) tt (no_fields ∷ [])) tt $ s)
