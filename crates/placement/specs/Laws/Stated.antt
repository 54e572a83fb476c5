-- What is reported for an object that a name means, or why nothing is.
use Rattle.std.proofs.Common.{◌≡◌, ℕ, List, Option, None, Some, Ok, Err, false, true, refl, ap, ◌∙◌}
use Rattle.std.specs.Option.{option_map_or}
use Rattle.trace_format.specs.Rules.{touches_in}
use Rattle.trace_format.specs.declared.record.TraceRecord.{TraceRecord}
use Rattle.placement.specs.Plans.{has_room}
use Rattle.placement.specs.Sought.{is_too_large, object_of}
use Rattle.placement.specs.Texts.{place_of_records, place_text, placed}
use Rattle.placement.specs.Words.{owned_of}
use Rattle.placement.specs.declared.extent.Extent.{Extent}
use Rattle.placement.specs.declared.refusal.PlaceRefusal.TheVariants.{NoObject, NoRoom, TooLarge}

pub stated-none : (n : ℕ) (name : List ℕ) (at : Option ℕ) (items : List TraceRecord)
    → object_of name at items ≡ None → place_of_records n name at items ≡ Err NoObject
stated-none n name at items none =
    ap (λ (o : Option Extent). option_map_or (placed n name (touches_in items)) o (Err NoObject))
    none

stated-one : (n : ℕ) (name : List ℕ) (at : Option ℕ) (items : List TraceRecord) (e : Extent)
    → object_of name at items ≡ Some e
    → place_of_records n name at items ≡ placed n name (touches_in items) e
stated-one n name at items e one =
    ap (λ (o : Option Extent). option_map_or (placed n name (touches_in items)) o (Err NoObject))
    one

pub stated-large : (n : ℕ) (name : List ℕ) (at : Option ℕ) (items : List TraceRecord) (e : Extent)
    → object_of name at items ≡ Some e → is_too_large e ≡ true
    → place_of_records n name at items ≡ Err TooLarge
stated-large n name at items e one large = stated-one n name at items e one ∙ rw large refl

pub stated-no_room : (n : ℕ) (name : List ℕ) (at : Option ℕ) (items : List TraceRecord) (e : Extent)
    → object_of name at items ≡ Some e → is_too_large e ≡ false
    → has_room n (owned_of e (touches_in items)) ≡ false
    → place_of_records n name at items ≡ Err NoRoom
stated-no_room n name at items e one small full =
    stated-one n name at items e one ∙ rw (small, full) refl

pub stated-placed : (n : ℕ) (name : List ℕ) (at : Option ℕ) (items : List TraceRecord) (e : Extent)
    → object_of name at items ≡ Some e → is_too_large e ≡ false
    → has_room n (owned_of e (touches_in items)) ≡ true
    → place_of_records n name at items ≡ Ok (place_text n name e (touches_in items))
stated-placed n name at items e one small room =
    stated-one n name at items e one ∙ rw (small, room) refl
