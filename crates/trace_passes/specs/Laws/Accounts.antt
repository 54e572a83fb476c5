-- How records bring an account on.
use Rattle.std.proofs.Common.{◌≡◌, ℕ, ◌+◌, ◌≤◌, List, [], ◌∷◌, ◌++◌, length, refl, sym, ap, ◌∙◌, subst}
use Rattle.std.proofs.Common.{Option, None, Some, Result, Ok, Err, append_assoc, arith}
use Rattle.std.proofs.Math.Nat.{add-zero}
use Rattle.std.proofs.lemmas.List.{append-nil, length-append}
use Rattle.std.proofs.lemmas.List.Elements.{filter_map-append}
use Rattle.std.specs.List.{cons_option, filter_map}
use Rattle.std.specs.Prelude.{OnOk}
use Rattle.base.specs.Touch.{Touch}
use Rattle.trace_format.specs.Laws.Touches.{room-next}
use Rattle.trace_format.specs.Reading.{counted_after}
use Rattle.trace_format.specs.Rules.{last_position, touch_in, touches_in}
use Rattle.trace_format.specs.declared.record.TraceRecord.{TraceRecord}
use Rattle.trace_format.specs.declared.record.TraceRecord.TheVariants as records
use Rattle.objects.specs.Objects.{Objects}
use Rattle.trace_passes.specs.Accounts.{Account, BeginsAt, CameBy}
use Rattle.trace_passes.specs.Laws.Noting.{objects_next}
use Rattle.trace_passes.specs.Lives.{objects_after, objects_noted}
use Rattle.trace_passes.specs.Rooms.{GivenNext, HasRoom}

pub no_touch : (x : TraceRecord) → ((a : Touch) (pc : Option ℕ) → x ≡ records.Touch a pc → ⊥)
    → touch_in x ≡ None
no_touch (records.Touch a pc) other = absurd (other a pc refl)
no_touch (records.Alloc addr size sites) other = refl
no_touch (records.Free addr) other = refl
no_touch (records.Symbol kind addr size name) other = refl
no_touch (records.End e) other = refl

module _ {V X S : Type 0} (k : Account V X S) where
  -- no record came yet
  pub came-none : (v : V) → CameBy k v v []
  came-none v = record {
    stands = λ t. subst (λ (u : List X). k.StandsFor u v) (sym (append-nil t));
    position = sym (add-zero (k.position v));
    setting = refl;
  }

  -- some records came, and then others
  pub came-on : (begun old new : V) (xs ys : List TraceRecord) → CameBy k begun old xs
      → CameBy k old new ys → CameBy k begun new (xs ++ ys)
  came-on begun old new xs ys first later = record {
    stands = λ t stood.
        subst (λ (u : List X). k.StandsFor u new)
        (append_assoc t (filter_map k.listed xs) (filter_map k.listed ys)
        ∙ ap (λ (u : List X). t ++ u) (sym (filter_map-append k.listed xs ys)))
        (later.stands (t ++ filter_map k.listed xs) (first.stands t stood));
    position = omega (
      arith,
      first.position,
      later.position,
      ap length (filter_map-append touch_in xs ys),
      length-append (touches_in xs) (touches_in ys),
    );
    setting = later.setting ∙ first.setting;
  }

  pub came-next : (old new : V) (x : TraceRecord) → CameBy k old new (x ∷ [])
      → GivenNext (CameBy k) old new x
  came-next old new x one begun xs so_far = came-on begun old new xs (x ∷ []) so_far one

  -- an access came, where a call ended well
  pub touch-next : {T E : Type 0} (r : Result T E) (old new : V) (x : TraceRecord) (a : Touch)
      (pc : Option ℕ) (s : X) → x ≡ records.Touch a pc → k.listed (records.Touch a pc) ≡ Some s
      → ((t : List X) → k.StandsFor t old → OnOk r (k.StandsFor (t ++ s ∷ []) new))
      → OnOk r ((k.position new ≡ k.position old + 1) × (k.setting new ≡ k.setting old))
      → OnOk r (GivenNext (CameBy k) old new x)
  touch-next (Err e) old new x a pc s is lists stands moved = tt
  touch-next (Ok v) old new x a pc s is lists stands moved =
      subst (λ y. GivenNext (CameBy k) old new y) (sym is)
      (came-next old new (records.Touch a pc) (record {
        stands = λ t stood. subst (λ (o : Option X). k.StandsFor (t ++ cons_option o []) new)
            (sym lists) (stands t stood);
        position = moved.0;
        setting = moved.1;
      }))

  -- what is no access leaves it as it was
  module _ (quiet : (x : TraceRecord) → touch_in x ≡ None → k.listed x ≡ None) where
    pub came-quiet : (v : V) (x : TraceRecord) → touch_in x ≡ None → CameBy k v v (x ∷ [])
    came-quiet v x none = record {
      stands = λ t stood. subst (λ (o : Option X). k.StandsFor (t ++ cons_option o []) v)
          (sym (quiet x none)) ((came-none v).stands t stood);
      position = (came-none v).position
          ∙ ap (λ (o : Option Touch). k.position v + length (cons_option o [])) (sym none);
      setting = refl;
    }

    pub other-next : (v : V) (x : TraceRecord)
        → ((a : Touch) (pc : Option ℕ) → x ≡ records.Touch a pc → ⊥)
        → GivenNext (CameBy k) v v x
    other-next v x other = came-next v v x (came-quiet v x (no_touch x other))

  -- where there is room for one record more, the position behind it is allowed
  pub room-for_one : (now : V) (x : TraceRecord) → HasRoom (BeginsAt k) (CameBy k) now (x ∷ [])
      → counted_after (k.position now) x ≤ last_position
  room-for_one now x r =
      room-next (k.position r.begun) (k.position now) r.seen x r.given_so_far.position r.first
      r.begins_there r.room

  -- the objects beside it, with one record more
  pub objects-beside : (objects : V → Objects) (begun old new : V) (xs : List TraceRecord)
      (x : TraceRecord) → CameBy k begun old xs
      → objects old ≡ objects_after (objects begun) (k.position begun) xs
      → objects new ≡ objects_noted (objects old) x (k.position old)
      → objects new ≡ objects_after (objects begun) (k.position begun) (xs ++ x ∷ [])
  objects-beside objects begun old new xs x came so_far noted =
      noted ∙ ap (λ (o : Objects). objects_noted o x (k.position old)) so_far
      ∙ ap (objects_noted (objects_after (objects begun) (k.position begun) xs) x) came.position
      ∙ objects_next (objects begun) (k.position begun) xs x
