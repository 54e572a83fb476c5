-- The summary from its parts, and that of a file's own image and symbols.
use Rattle.std.proofs.Common.{◌≡◌, ◌∙◌, ap, ap₂, ℕ, ◌-◌, ◌*◌, List, ◌++◌, codes}
use Rattle.std.specs.List.{flat_map}
use Rattle.objects.specs.declared.symbol.SymbolKind.TheVariants.{Object, Function}
use Rattle.objects.specs.Symbols.{Symbol}
use Rattle.program_files.specs.declared.image.Image.{Image}
use Rattle.program_files.specs.declared.image.Space.{Space}
use Rattle.program_files.specs.Fields.{entry_of}
use Rattle.program_files.specs.PlacedImages.{IsImageOf}
use Rattle.program_files.specs.Images.{heap_start_of}
use Rattle.program_files.specs.Programs.{segments_of}
use Rattle.program_files.specs.Symbols.{symbols_of}
use Rattle.program_files.specs.NotedSymbols.{count_of, noted}
use Rattle.program_files.specs.Summaries.{address, count_text, placed_text, range_text}
use Rattle.program_files.specs.Summaries.{segment_text, stacks_of, summary_text}
use Rattle.program_files.proofs.TextPieces.{summary_pieces}

-- the parts, one after another
abbrev pub joined : List ℕ → List ℕ → List ℕ → List ℕ → List ℕ → List ℕ
joined entry segments counts heap stacks =
    codes "entry " ++ (entry
    ++ (codes "\n" ++ (segments ++ (counts ++ (heap ++ (stacks ++ codes "end\n"))))))

pub summary_joined : (file : List ℕ) (heap_start heap_end top : ℕ) (symbols : List Symbol)
    (entry segments counts heap stacks : List ℕ)
    → entry ≡ address (entry_of file) → segments ≡ flat_map segment_text (segments_of file)
    → counts ≡ count_text (codes "objects ") (count_of Object symbols)
    ++ count_text (codes "functions ") (count_of Function symbols)
    → heap ≡ range_text (codes "heap ") heap_start heap_end → stacks
    ≡ range_text (codes "stacks ") heap_end top
    → joined entry segments counts heap stacks ≡ summary_text file heap_start heap_end top symbols
summary_joined file heap_start heap_end top symbols entry segments counts heap stacks entry_is
    segments_are counts_are heap_is stacks_are =
    let e = address (entry_of file) in
    let s = flat_map segment_text (segments_of file) in
    let objects = count_text (codes "objects ") (count_of Object symbols) in
    let functions = count_text (codes "functions ") (count_of Function symbols) in
    let h = range_text (codes "heap ") heap_start heap_end in
    ap₂ (λ x y. joined x y counts heap stacks) entry_is segments_are
    ∙ ap₂ (λ x y. joined e s x y stacks) counts_are heap_is
    ∙ ap (joined e s (objects ++ functions) h) stacks_are ∙ summary_pieces e s objects functions h
    (range_text (codes "stacks ") heap_end top)

pub placed : (space : Space) (file : List ℕ) (image : Image) (symbols : List Symbol)
    → IsImageOf file space image
    → symbols ≡ noted (symbols_of file)
    → summary_text file image.heap_start image.heap_end image.top symbols ≡ placed_text space file
placed space file image symbols is noted_is =
    ap₂ (λ start end. summary_text file start end image.top symbols) is.heap_start
    (is.heap_end ∙ ap (λ top. top - space.harts * space.stack) is.top)
    ∙ ap₂ (λ top ss. summary_text file (heap_start_of (segments_of file)) (stacks_of space file) top
    ss) is.top noted_is
