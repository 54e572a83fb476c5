-- What a header states stays known, and is what the bytes have.
use Rattle.std.proofs.Common.{◌≡◌, ℕ, List, ◌++◌, Option, Some, None, IsSome, refl, sym, ap, subst}
use Rattle.std.proofs.Common.{◌∙◌}
use Rattle.trace_format.specs.declared.read_so_far.ReadSoFar.{ReadSoFar}
use Rattle.trace_format.specs.declared.record.TraceRecord.{TraceRecord}
use Rattle.trace_format.specs.Reading.{Reading, read_on}
use Rattle.trace_format.specs.Laws.Reading.{read_on-append, then_read}
use Rattle.trace_format.specs.ReaderStates.{KeepsHead, SameHead}
use Rattle.trace_format.specs.Laws.Pieces.{read_on-head, same_head}

pub same_back : (p q : Option ReadSoFar) → SameHead p q → SameHead q p
same_back p q same = record { version = sym same.version; header = sym same.header }

pub same_both : (p q r : Option ReadSoFar) → SameHead p q → SameHead q r → SameHead p r
same_both p q r first later = record {
  version = first.version ∙ later.version;
  header =
      first.header ∙ later.header;
}

-- a state with the same header as one that has a header has it too
pub stated_too : (p q : Option ReadSoFar) → SameHead p q → IsSome q → IsSome p
stated_too (Some p) q same some = refl
stated_too None None same some = some
stated_too None (Some q) same some = let version = same.version in cc

-- nothing is known that was not known before
pub as_before : (old new : Reading) (bytes : List ℕ) → new.progress ≡ old.progress
    → KeepsHead old bytes new
as_before old new bytes is =
    let same : SameHead new.progress old.progress =
    subst (λ (p : Option ReadSoFar). SameHead p old.progress) (sym is) (same_head old.progress) in
    record {
      stays = λ _. same;
      stated = λ some. same_both _ _ _ same
          (same_back _ _ (read_on-head old bytes
          (subst (λ (p : Option ReadSoFar). IsSome p) is some)));
    }

-- a state with the same progress keeps the header too
pub keeps_with : (old mid new : Reading) (bytes : List ℕ) → new.progress ≡ mid.progress
    → KeepsHead old bytes mid
    → KeepsHead old bytes new
keeps_with old mid new bytes is keeps =
    record {
      stays = λ some. subst (λ (p : Option ReadSoFar). SameHead p old.progress) (sym is)
          (keeps.stays some);
      stated = λ some.
          subst (λ (p : Option ReadSoFar). SameHead p (read_on old bytes).1.progress) (sym is)
          (keeps.stated (subst (λ (p : Option ReadSoFar). IsSome p) is some));
    }

-- a header that was known from a front of the bytes
pub keeps_longer : (old new : Reading) (piece front back : List ℕ) → piece ≡ front ++ back
    → KeepsHead old front new
    → KeepsHead old piece new
keeps_longer old new piece front back cut keeps =
    let whole : read_on old piece ≡ then_read (read_on old front) back = ap (read_on old) cut
    ∙ read_on-append old front back in
    let last : (read_on old piece).1.progress ≡ (read_on (read_on old front).1 back).1.progress =
    ap (λ (x : List TraceRecord × Reading). x.1.progress) whole in
    record {
      stays = keeps.stays;
      stated = λ some.
          let same = keeps.stated some in
          let on = read_on-head (read_on old front).1 back (stated_too _ _ (same_back _ _ same) some)
          in
          subst (λ (p : Option ReadSoFar). SameHead new.progress p) (sym last)
          (same_both _ _ _ same (same_back _ _ on));
    }
