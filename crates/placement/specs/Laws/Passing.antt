-- One record more of a pass.
use Rattle.std.proofs.Common.{◌≡◌, ℕ, suc, ltb, ◌||◌, ◌&&◌, Bool, true, List, [], ◌∷◌, ◌++◌}
use Rattle.std.proofs.Common.{Option, None, Some, length, refl, sym, ap, ◌∙◌, subst, arith, append_assoc}
use Rattle.std.proofs.lemmas.Bool.Decides.{nat_tests}
use Rattle.std.proofs.lemmas.List.{append-nil}
use Rattle.std.proofs.lemmas.List.Elements.{filter_map-append}
use Rattle.std.specs.List.{cons_option}
use Rattle.std.specs.Option.{option_or}
use Rattle.std.specs.Prelude.{if◌then◌else◌, is_some, option_and_then, option_to_list}
use Rattle.std.specs.Prelude.{slice_get}
use Rattle.base.specs.Touch.{Touch}
use Rattle.sharing_rules.specs.Laws.Lists.{cons_option-nil}
use Rattle.trace_format.specs.Laws.Touches.{touches-push}
use Rattle.trace_format.specs.Rules.{touch_in, touches_in}
use Rattle.trace_format.specs.declared.record.TraceRecord.{TraceRecord}
use Rattle.trace_passes.specs.Rooms.{GivenNext}
use Rattle.placement.specs.Passing.{HasOwned, HasSought, Seeks, blocks_meant}
use Rattle.placement.specs.Sought.{block_made_at, blocks_made_at, object_of, symbol_named}
use Rattle.placement.specs.Sought.{symbols_named, the_only, with_bytes}
use Rattle.placement.specs.Words.{Owned, owned_of}
use Rattle.placement.specs.declared.extent.Extent.{Extent}
use Rattle.placement.specs.declared.finder.Finder.{Finder}

-- a list with one more or none behind
first-push : (xs : List Extent) (o : Option Extent)
    → slice_get (xs ++ option_to_list o) 0 ≡ option_or (slice_get xs 0) o
first-push [] None = refl
first-push [] (Some x) = refl
first-push (e ∷ xs) o = refl

more : (n : ℕ) → ltb 1 (suc (suc n)) ≡ true
more n = grind (arith, nat_tests)

several-push : (xs : List Extent) (o : Option Extent)
    → ltb 1 (length (xs ++ option_to_list o))
    ≡ (ltb 1 (length xs) || (is_some (slice_get xs 0) && is_some o))
several-push [] None = refl
several-push [] (Some x) = refl
several-push (e ∷ []) None = refl
several-push (e ∷ []) (Some x) = refl
several-push (e ∷ (f ∷ xs)) o =
    more (length (xs ++ option_to_list o)) ∙ sym (ap (λ (b : Bool). b || is_some o)
    (more (length xs)))

pub symbols-push : (name : List ℕ) (xs : List TraceRecord) (x : TraceRecord)
    → symbols_named name (xs ++ x ∷ []) ≡ symbols_named name xs ++ option_to_list
    (symbol_named name x)
symbols-push name xs x =
    filter_map-append (symbol_named name) xs (x ∷ [])
    ∙ ap (λ (es : List Extent). symbols_named name xs ++ es) (cons_option-nil (symbol_named name x))

pub blocks-push : (at : Option ℕ) (xs : List TraceRecord) (x : TraceRecord)
    → blocks_meant at (xs ++ x ∷ []) ≡ blocks_meant at xs ++ option_to_list
    (option_and_then (λ a. block_made_at a x) at)
blocks-push None xs x = refl
blocks-push (Some a) xs x =
    filter_map-append (block_made_at a) xs (x ∷ [])
    ∙ ap (λ (es : List Extent). blocks_made_at a xs ++ es) (cons_option-nil (block_made_at a x))

-- what one record makes of a finder
pub record IsNoted (old new : Finder) (x : TraceRecord) : Type 0 where
  pub name : new.name ≡ old.name
  pub at : new.at ≡ old.at
  pub symbol : new.symbol ≡ option_or old.symbol (symbol_named old.name.items x)
  pub block : new.block ≡ option_or old.block (option_and_then (λ a. block_made_at a x) old.at)
  pub several : new.several ≡ (old.several || (is_some old.block
      && is_some (option_and_then (λ a. block_made_at a x) old.at)))

pub seeks-push : (name : List ℕ) (at : Option ℕ) (old new : Finder) (seen : List TraceRecord)
    (x : TraceRecord) → IsNoted old new x → Seeks name at old seen
    → Seeks name at new (seen ++ x ∷ [])
seeks-push name at old new seen x noted was =
    let o : Option Extent = option_and_then (λ a. block_made_at a x) at in
    let block : option_and_then (λ a. block_made_at a x) old.at ≡ o =
    ap (option_and_then (λ a. block_made_at a x)) was.placed in
    record {
      named = ap (λ v. v.items) noted.name ∙ was.named;
      placed = noted.at ∙ was.placed;
      symbol = noted.symbol
          ∙ ap (λ (n : List ℕ). option_or old.symbol (symbol_named n x)) was.named
          ∙ ap (λ (s : Option Extent). option_or s (symbol_named name x)) was.symbol
          ∙ sym (first-push (symbols_named name seen) (symbol_named name x))
          ∙ ap (λ (es : List Extent). slice_get es 0) (sym (symbols-push name seen x));
      block = noted.block
          ∙ ap (option_or old.block) block
          ∙ ap (λ (s : Option Extent). option_or s o) was.block
          ∙ sym (first-push (blocks_meant at seen) o)
          ∙ ap (λ (es : List Extent). slice_get es 0) (sym (blocks-push at seen x));
      several = noted.several
          ∙ ap (λ (p : Option Extent). old.several || (is_some old.block && is_some p)) block
          ∙ ap (λ (b : Bool). b || (is_some old.block && is_some o)) was.several
          ∙ ap (λ (s : Option Extent). ltb 1 (length (blocks_meant at seen))
          || (is_some s && is_some o)) was.block
          ∙ sym (several-push (blocks_meant at seen) o)
          ∙ ap (λ (es : List Extent). ltb 1 (length es)) (sym (blocks-push at seen x));
    }

pub seeks-next : (old new : Finder) (x : TraceRecord) → IsNoted old new x → GivenNext HasSought old new x
seeks-next old new x noted begun items so_far = record {
  sought = λ name at seen was.
      subst (Seeks name at new) (append_assoc seen items (x ∷ []))
      (seeks-push name at old new (seen ++ items) x noted (so_far.sought name at seen was));
}

-- what was seen of the blocks is the one that stands alone
lone : (xs : List Extent)
    → (if ltb 1 (length xs) then None else option_and_then with_bytes (slice_get xs 0))
    ≡ option_and_then with_bytes (the_only xs)
lone [] = refl
lone (e ∷ []) = refl
lone (e ∷ (f ∷ xs)) = rw (more (length xs)) refl

meant : (at : Option ℕ) (items : List TraceRecord)
    → option_and_then with_bytes (the_only (blocks_meant at items))
    ≡ option_and_then (λ a. option_and_then with_bytes (the_only (blocks_made_at a items))) at
meant None items = refl
meant (Some a) items = refl

pub object-found : (name : List ℕ) (at : Option ℕ) (f : Finder) (items : List TraceRecord)
    → Seeks name at f items
    → option_or f.symbol (if f.several then None else option_and_then with_bytes f.block)
    ≡ object_of name at items
object-found name at f items is =
    ap (λ (s : Option Extent). option_or s (if f.several then None
    else option_and_then with_bytes f.block)) is.symbol
    ∙ ap (λ (b : Bool). option_or (slice_get (symbols_named name items) 0) (if b then None
    else option_and_then with_bytes f.block)) is.several
    ∙ ap (λ (o : Option Extent). option_or (slice_get (symbols_named name items) 0)
    (if ltb 1 (length (blocks_meant at items)) then None else option_and_then with_bytes o)) is.block
    ∙ ap (option_or (slice_get (symbols_named name items) 0))
    (lone (blocks_meant at items) ∙ meant at items)

-- ---- the owners

pub owns-next : (old new : Owned) (x : TraceRecord) → ((t : List Touch)
    → old ≡ owned_of old.extent t → new ≡ owned_of old.extent (t ++ touches_in (x ∷ [])))
    → GivenNext HasOwned old new x
owns-next old new x noted begun items so_far = record {
  owned = λ t was.
      let is = so_far.owned t was in
      let same = ap (λ (o : Owned). o.extent) is in
      noted (t ++ touches_in items)
      (is ∙ ap (λ e. owned_of e (t ++ touches_in items)) (sym same))
      ∙ ap (λ e. owned_of e ((t ++ touches_in items) ++ touches_in (x ∷ []))) same
      ∙ ap (owned_of begun.extent) (append_assoc t (touches_in items) (touches_in (x ∷ []))
      ∙ ap (λ u. t ++ u) (sym (touches-push items x)));
}

-- a record that is no access
pub owned-quiet : (o : Owned) (x : TraceRecord) → touch_in x ≡ None → GivenNext HasOwned o o x
owned-quiet o x none =
    owns-next o o x (λ t was. was ∙ ap (owned_of o.extent) (sym (append-nil t))
    ∙ ap (λ (u : Option Touch). owned_of o.extent (t ++ cons_option u [])) (sym none))
