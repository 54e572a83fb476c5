-- A file that is read from its front on, read after read: which files agree with that.
use Rattle.std.proofs.Common.{◌≡◌, ◌+◌, ◌<◌, ℕ, List, [], ◌∷◌, ◌++◌, length, take, drop}
use Rattle.std.proofs.Common.{refl, sym, ap, subst, ◌∙◌, arith, append_assoc, length-take, length-drop}
use Rattle.std.proofs.Math.Seq.{drop-append_seam, take-add, take-append_seam, take-length}
use Rattle.std.proofs.lemmas.List.{length-append, take-append-drop, take_all}
use Rattle.shelf.specs.Agreeing.{Agrees, HasReadFront, HasShown}
use Rattle.shelf.specs.Fetch.{IsFront}
use Rattle.shelf.specs.Shelf.{Given, read_of}

-- ---- a front and the piece that follows it

behind : (file bytes : List ℕ) → IsFront file bytes → bytes ++ drop (length bytes) file ≡ file
behind file bytes front = ap (λ (xs : List ℕ). xs ++ drop (length bytes) file) front.same
    ∙ take-append-drop (length bytes) file

front_of : (file bytes rest : List ℕ) → file ≡ bytes ++ rest → IsFront file bytes
front_of file bytes rest is =
    let size = ap length is ∙ length-append bytes rest in
    record {
      within = omega (arith, size);
      same = sym (ap (take (length bytes)) is ∙ take-append_seam bytes rest);
    }

longer : (name file bytes more : List ℕ) (room : ℕ) → IsFront file bytes
    → Agrees file (read_of name (length bytes) room more) → IsFront file (bytes ++ more)
longer name file bytes more room front agrees =
    let size = length-append bytes more in
    let taken : take (length (bytes ++ more)) file ≡ take (length bytes + length more) file =
    ap (λ k. take k file) size in
    record {
      within = omega (
        arith,
        front.within,
        size,
        ap length agrees.bytes,
        length-take (length more) (drop (length bytes) file),
        length-drop (length bytes) file,
      );
      same = cc (front.same, agrees.bytes, take-add (length bytes) (length more) file, taken);
    }

shorter : (file bytes more : List ℕ) → IsFront file (bytes ++ more) → IsFront file bytes
shorter file bytes more front =
    let rest = drop (length (bytes ++ more)) file in
    front_of file bytes (more ++ rest)
    (sym (behind file (bytes ++ more) front) ∙ append_assoc bytes more rest)

piece_of : (name file bytes more : List ℕ) (room : ℕ) → 0 < length more
    → IsFront file (bytes ++ more) → Agrees file (read_of name (length bytes) room more)
piece_of name file bytes more room some front =
    let rest = drop (length (bytes ++ more)) file in
    let is : file ≡ bytes ++ (more ++ rest) =
    sym (behind file (bytes ++ more) front) ∙ append_assoc bytes more rest in
    let dropped : drop (length bytes) file ≡ more ++ rest =
    ap (drop (length bytes)) is ∙ drop-append_seam bytes (more ++ rest) in
    record {
      bytes = sym (ap (take (length more)) dropped ∙ take-append_seam more rest);
      ends = λ none room. absurd (omega (arith, some, none));
    }

-- ---- read after read

-- nothing was read yet
pub front_none : (name : List ℕ) (now : List Given) → HasReadFront name [] now now
front_none name now = record {
  reads = [];
  since = refl;
  named = tt;
  files = λ file. (λ any. record { within = omega arith; same = refl }, λ any. tt);
}

-- one read more, behind the bytes so far
pub front_next : (name bytes more : List ℕ) (room : ℕ) (before old new : List Given)
    → 0 < length more → new ≡ read_of name (length bytes) room more ∷ old
    → HasReadFront name bytes before old → HasReadFront name (bytes ++ more) before new
front_next name bytes more room before old new some is front =
    let read = read_of name (length bytes) room more in
    record {
      reads = read ∷ front.reads;
      since = is ∙ ap (λ (l : List Given). read ∷ l) front.since;
      named = (refl, front.named);
      files = λ file. (
        λ both. longer name file bytes more room ((front.files file).0 both.1) both.0,
        λ begins. (
          piece_of name file bytes more room some begins,
          (front.files file).1 (shorter file bytes more begins),
        ),
      );
    }

-- a read more that gave none: the bytes so far are all
pub front_ends : (name bytes : List ℕ) (room : ℕ) (before old new : List Given)
    → 0 < room → new ≡ read_of name (length bytes) room [] ∷ old
    → HasReadFront name bytes before old → HasShown name (λ file. bytes ≡ file) before new
front_ends name bytes room before old new some is front =
    let read = read_of name (length bytes) room [] in
    let own : IsFront bytes bytes = record { within = omega arith; same = sym (take-length bytes) } in
    record {
      reads = read ∷ front.reads;
      since = is ∙ ap (λ (l : List Given). read ∷ l) front.since;
      named = (refl, front.named);
      file = bytes;
      agrees = (
        record { bytes = refl; ends = λ none room. omega arith },
        (front.files bytes).1 own,
      );
      each = λ file both.
          let begins = (front.files file).0 both.1 in
          begins.same ∙ take_all (length bytes) file (both.0.ends refl some);
    }

-- what holds of these bytes, whatever comes behind them, was shown of the name's file
pub front_shows : (name bytes : List ℕ) (P : List ℕ → Type 0) (before now : List Given)
    → ((more : List ℕ) → P (bytes ++ more)) → HasReadFront name bytes before now
    → HasShown name P before now
front_shows name bytes P before now holds front =
    record {
      reads = front.reads;
      since = front.since;
      named = front.named;
      file = bytes;
      agrees = (front.files bytes).1
          (record { within = omega arith; same = sym (take-length bytes) });
      each = λ file agrees. subst P (behind file bytes ((front.files file).0 agrees))
          (holds (drop (length bytes) file));
    }

-- what follows of each file was shown too
pub shown_then : (name : List ℕ) (P Q : List ℕ → Type 0) (before now : List Given)
    → ((file : List ℕ) → P file → Q file) → HasShown name P before now
    → HasShown name Q before now
shown_then name P Q before now f shown = record {
  reads = shown.reads;
  since = shown.since;
  named = shown.named;
  file = shown.file;
  agrees = shown.agrees;
  each = λ file agrees. f file (shown.each file agrees);
}
