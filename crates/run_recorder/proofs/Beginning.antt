-- Files that are begun, one after another.
use Rattle.std.proofs.Common.{◌≡◌, ◌≢◌, ℕ, ◌<◌, ◌≤◌, zero, suc, List, [], ◌∷◌, ◌++◌, length, get_or}
use Rattle.std.proofs.Common.{take, refl, sym, ap, ◌∙◌, subst, arith}
use Rattle.std.proofs.lemmas.List.{append-nil, length-take-le}
use Rattle.shelf.specs.Shelf.{Outside}
use Rattle.shelf.specs.declared.shelf.ShelfError.{ShelfError}
use Rattle.shelf.specs.Files.{Output as AnOutput, AreCut, GoOn}
use Rattle.shelf.specs.OneFile.{Waiting}
use Rattle.shelf.specs.OnTheirWay.{IsNew, AreApart, IsOutputs, names_of as waiting_names}
use Rattle.shelf.specs.Laws.Files.{AreCut-longer, output_names, sunk_names}
use Rattle.run_recorder.specs.declared.run_file.Content.{Content}
use Rattle.run_recorder.specs.declared.run_file.Content.TheVariants.{Trace}
use Rattle.run_recorder.specs.declared.run_file.RunFile.{RunFile}
use Rattle.run_recorder.specs.Recorded.{names_of, outputs_of}
use Rattle.run_recorder.proofs.Putting.{on_their_way-count}

-- what stands past the end of the files
abbrev pub no_file : RunFile
no_file = record { name = record { ref_ptr = (0, 0); now = [] }; content = Trace }

-- the file at a place
abbrev pub file_at : List RunFile → ℕ → RunFile
file_at files i = get_or files i no_file

pub at_place : (files : List RunFile) (i : ℕ) → i < length files → get_or files i (file_at files i)
    ≡ file_at files i
at_place [] i below = absurd (omega arith)
at_place (f ∷ files) zero below = refl
at_place (f ∷ files) (suc i) below = at_place files i (omega arith)

-- a file with the bytes of its content
abbrev pub file_with : (Content → List ℕ) → RunFile → AnOutput
file_with bytes f = record { name = f.name.now; bytes = bytes f.content }

module _ (bytes : Content → List ℕ) where
  taken_more : (files : List RunFile) (i : ℕ) (f : RunFile) → i < length files
      → get_or files i f ≡ f
      → outputs_of (take i files) bytes ++ file_with bytes f ∷ []
      ≡ outputs_of (take (suc i) files) bytes
  taken_more [] i f below is = absurd (omega arith)
  taken_more (x ∷ files) zero f below is =
      ap (λ (y : RunFile). let l : List AnOutput = file_with bytes y ∷ [] in l) (sym is)
  taken_more (x ∷ files) (suc i) f below is =
      ap (λ (l : List AnOutput). file_with bytes x ∷ l) (taken_more files i f (omega arith) is)

  taken_all : (files : List RunFile)
      → outputs_of (take (length files) files) bytes ≡ outputs_of files bytes
  taken_all [] = refl
  taken_all (f ∷ files) = ap (λ (l : List AnOutput). file_with bytes f ∷ l) (taken_all files)

  taken_on : (files : List RunFile) (i : ℕ)
      → GoOn (outputs_of (take i files) bytes) (outputs_of files bytes)
  taken_on [] zero = tt
  taken_on [] (suc i) = tt
  taken_on (f ∷ files) zero = tt
  taken_on (f ∷ files) (suc i) =
      (refl, ([], sym (append-nil (bytes f.content))), taken_on files i)

named : (files : List RunFile) (bytes : Content → List ℕ) → output_names (outputs_of files bytes)
    ≡ names_of files
named [] bytes = refl
named (f ∷ files) bytes = ap (λ (l : List (List ℕ)). f.name.now ∷ l) (named files bytes)

other_at : (name : List ℕ) (files : List RunFile) (i : ℕ) (f : RunFile) → i < length files
    → get_or files i f ≡ f
    → IsNew name (names_of files) → f.name.now ≢ name
other_at name [] i f below is new = absurd (omega arith)
other_at name (x ∷ files) zero f below is new = subst (λ (y : RunFile). y.name.now ≢ name) is new.0
other_at name (x ∷ files) (suc i) f below is new = other_at name files i f (omega arith) is new.1

new_behind : (files : List RunFile) (i : ℕ) (f : RunFile) → i < length files → get_or files i f ≡ f
    → AreApart (names_of files)
    → IsNew f.name.now (names_of (take i files))
new_behind [] i f below is apart = absurd (omega arith)
new_behind (x ∷ files) zero f below is apart = tt
new_behind (x ∷ files) (suc i) f below is apart =
    let other : f.name.now ≢ x.name.now = other_at x.name.now files i f (omega arith) is apart.0 in
    (λ e. other (sym e), new_behind files i f (omega arith) is apart.1)

-- the first so many files are begun
abbrev pub BegunTo : (Content → List ℕ) → List RunFile → ℕ → List Waiting → Outside → Outside
    → Type 0
BegunTo bytes files i waiting old new =
    IsOutputs waiting (outputs_of (take i files) bytes) old new

module _ (bytes : Content → List ℕ) (files : List RunFile) where
  -- the next file comes behind them, and has a name of its own
  pub next_place : (i : ℕ) (waiting : List Waiting) (old new : Outside) → i < length files
      → BegunTo bytes files i waiting old new → length waiting ≡ i
  next_place i waiting old new below to =
      on_their_way-count (take i files) bytes waiting old new to
      ∙ length-take-le i files (omega (arith, below))

  pub next_new : (i : ℕ) (f : RunFile) (waiting : List Waiting) (old new : Outside)
      → i < length files → get_or files i f ≡ f → AreApart (names_of files)
      → BegunTo bytes files i waiting old new → IsNew f.name.now (waiting_names waiting)
  next_new i f waiting old new below is apart to =
      let names : names_of (take i files) ≡ waiting_names waiting =
      sym (named (take i files) bytes)
      ∙ sunk_names waiting (outputs_of (take i files) bytes) new to.sunk in
      subst (λ (l : List (List ℕ)). IsNew f.name.now l) names (new_behind files i f below is apart)

  pub begun_more : (i : ℕ) (f : RunFile) (now later : List Waiting) (old mid new : Outside)
      → i < length files → get_or files i f ≡ f → BegunTo bytes files i now old mid
      → ((outputs : List AnOutput) (before : Outside) → IsOutputs now outputs before mid
      → IsOutputs later (outputs ++ file_with bytes f ∷ []) before new)
      → BegunTo bytes files (suc i) later old new
  begun_more i f now later old mid new below is to begin =
      subst (λ (l : List AnOutput). IsOutputs later l old new) (taken_more bytes files i f below is)
      (begin (outputs_of (take i files) bytes) old to)

  pub begun_cut : (i : ℕ) (f : RunFile) (now : List Waiting) (old mid new : Outside)
      (e : ShelfError) → i < length files → get_or files i f ≡ f
      → BegunTo bytes files i now old mid
      → ((outputs : List AnOutput) (before : Outside) → IsOutputs now outputs before mid
      → AreCut (outputs ++ file_with bytes f ∷ []) before new e)
      → AreCut (outputs_of files bytes) old new e
  begun_cut i f now old mid new e below is to cut =
      AreCut-longer (outputs_of (take (suc i) files) bytes) (outputs_of files bytes) old new e
      (taken_on bytes files (suc i))
      (subst (λ (l : List AnOutput). AreCut l old new e) (taken_more bytes files i f below is)
      (cut (outputs_of (take i files) bytes) old to))

  pub begun_all : (i : ℕ) (waiting : List Waiting) (old new : Outside) → length files ≤ i
      → i ≤ length files → BegunTo bytes files i waiting old new
      → IsOutputs waiting (outputs_of files bytes) old new
  begun_all i waiting old new above below to =
      let same : i ≡ length files = omega arith in
      subst (λ (l : List AnOutput). IsOutputs waiting l old new)
      (ap (λ (n : ℕ). outputs_of (take n files) bytes) same ∙ taken_all bytes files) to
