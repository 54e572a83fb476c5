-- The objects of a list of records, with one record more.
use Rattle.std.proofs.Common.{◌≡◌, ℕ, List, [], ◌∷◌, ◌++◌, map, refl, sym, ap, ◌∙◌, append_assoc}
use Rattle.std.proofs.Common.{Option, Some, None}
use Rattle.std.proofs.lemmas.List.{append-nil}
use Rattle.std.proofs.lemmas.List.Elements.{filter_map-append}
use Rattle.objects.specs.declared.block.Block.{Block}
use Rattle.objects.specs.Laws.Symbols.{symbols_of-behind}
use Rattle.objects.specs.Objects.{Objects}
use Rattle.objects.specs.Symbols.{Symbol, kept_symbol, symbols_of}
use Rattle.trace_format.specs.declared.record.TraceRecord.{TraceRecord}
use Rattle.trace_format.specs.declared.record.TraceRecord.TheVariants as records
use Rattle.trace_passes.specs.Laws.Lives.{blocks_behind-push, ended, none_ended, position_after}
use Rattle.trace_passes.specs.Lives.{lived, made_by, objects_after, objects_noted, symbol_in}
use Rattle.trace_passes.specs.Lives.{symbols_in}

pub same_objects : (a b : Objects) → a.symbols ≡ b.symbols → a.blocks ≡ b.blocks → a ≡ b
same_objects a b symbols blocks =
    ap (λ s. record { symbols = s; blocks = a.blocks }) symbols
    ∙ ap (λ bs. record { symbols = b.symbols; blocks = bs }) blocks

-- one record more at a position, over any blocks
pub blocks_noted : (before : Objects) (q : ℕ) (x : TraceRecord)
    → map (ended q x) before.blocks ++ made_by q x [] ≡ (objects_noted before x q).blocks
blocks_noted before q (records.Touch a pc) = append-nil _
    ∙ none_ended q (records.Touch a pc) (λ addr. refl) before.blocks
blocks_noted before q (records.Alloc addr size sites) = refl
blocks_noted before q (records.Free addr) = append-nil _
blocks_noted before q (records.Symbol kind addr size name) =
    append-nil _ ∙ none_ended q (records.Symbol kind addr size name) (λ addr. refl) before.blocks
blocks_noted before q (records.End e) = append-nil _
    ∙ none_ended q (records.End e) (λ addr. refl) before.blocks

symbols_noted : (o : Objects) (list : List Symbol) (x : TraceRecord) (q : ℕ)
    → o.symbols ≡ symbols_of list
    → (objects_noted o x q).symbols ≡ symbols_of (list ++ symbols_in (x ∷ []))
symbols_noted o list (records.Touch a pc) q is = is ∙ ap symbols_of (sym (append-nil list))
symbols_noted o list (records.Alloc addr size sites) q is = is
    ∙ ap symbols_of (sym (append-nil list))
symbols_noted o list (records.Free addr) q is = is ∙ ap symbols_of (sym (append-nil list))
symbols_noted o list (records.Symbol kind addr size name) q is =
    let one : List Symbol = kept_symbol kind addr size name ∷ [] in
    ap (λ ss. symbols_of (ss ++ one)) is ∙ symbols_of-behind list one
symbols_noted o list (records.End e) q is = is ∙ ap symbols_of (sym (append-nil list))

pub objects_next : (before : Objects) (p : ℕ) (xs : List TraceRecord) (x : TraceRecord)
    → objects_noted (objects_after before p xs) x (position_after p xs)
    ≡ objects_after before p (xs ++ x ∷ [])
objects_next before p xs x =
    let now : Objects = objects_after before p xs in
    let q : ℕ = position_after p xs in
    same_objects (objects_noted now x q) (objects_after before p (xs ++ x ∷ []))
    (symbols_noted now (before.symbols ++ symbols_in xs) x q refl
    ∙ ap symbols_of (append_assoc before.symbols (symbols_in xs) (symbols_in (x ∷ []))
    ∙ ap (λ ss. before.symbols ++ ss) (sym (filter_map-append symbol_in xs (x ∷ [])))))
    (sym (blocks_noted now q x) ∙ sym (blocks_behind-push before.blocks p xs x))

-- where no record is left, each block stays as it is
as_it_is : (p : ℕ) (b : Block) (died : Option ℕ) → lived p [] (record b { died = died })
    ≡ record b { died = died }
as_it_is p b None = refl
as_it_is p b (Some d) = refl

pub none_left : (p : ℕ) (bs : List Block) → map (lived p []) bs ≡ bs
none_left p [] = refl
none_left p (b ∷ bs) = ap (λ c. c ∷ map (lived p []) bs) (as_it_is p b b.died)
    ∙ ap (λ cs. b ∷ cs) (none_left p bs)
