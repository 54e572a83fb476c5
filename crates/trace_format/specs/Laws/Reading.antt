-- What follows from the definition of reading: pieces are read as their whole is, and a record is
-- read at once.
use Rattle.std.proofs.Common.{◌≡◌, ℕ, zero, suc, ◌+◌, ◌≤◌, ◌<◌, true, false, eqb, ltb, List, []}
use Rattle.std.proofs.Common.{◌∷◌, ◌++◌, length, get_or, take, drop, Option, Some, None, Ok, Err}
use Rattle.std.proofs.Common.{refl, sym, ap, ◌∙◌, append_assoc, arith}
use Rattle.std.proofs.lemmas.Bool.Decides.{nat_tests}
use Rattle.std.proofs.lemmas.List.{take_all, take-append-drop, length-take-le, append-nil}
use Rattle.std.proofs.Math.Seq.{take-suc}
use Rattle.trace_format.specs.declared.record.TraceEnd.{TraceEnd}
use Rattle.trace_format.specs.declared.fault.TraceFault.{TraceFault}
use Rattle.trace_format.specs.declared.fault.TraceFault.TheVariants as faults
use Rattle.trace_format.specs.declared.record.TraceRecord.{TraceRecord}
use Rattle.trace_format.specs.declared.read_so_far.ReadSoFar.{ReadSoFar}
use Rattle.trace_format.specs.Rules.{longest_trace}
use Rattle.trace_format.specs.Judging.{header_judged, record_judged}
use Rattle.trace_format.specs.Reading.{Reading, begin, place_reached, extent_at, header_read}
use Rattle.trace_format.specs.Reading.{record_read, part_at, byte_read, read_on, reading_of}

-- what was read before, and what more bytes say then
abbrev pub then_read : List TraceRecord × Reading → List ℕ → List TraceRecord × Reading
then_read now bytes = let later = read_on now.1 bytes in (now.0 ++ later.0, later.1)

pub read_on-append : (r : Reading) (xs ys : List ℕ)
    → read_on r (xs ++ ys) ≡ then_read (read_on r xs) ys
unfolding read_on
read_on-append r [] ys = refl
read_on-append r (x ∷ xs) ys =
    let now = byte_read r x in
    let rest = read_on-append now.1 xs ys in
    ap (λ (later : List TraceRecord × Reading). (now.0 ++ later.0, later.1)) rest
    ∙ ap (λ (items : List TraceRecord). (items, (read_on (read_on now.1 xs).1 ys).1)) (sym
    (append_assoc now.0 (read_on now.1 xs).0 (read_on (read_on now.1 xs).1 ys).0))

-- Two pieces one after the other are read as their whole.
pub read_on-pieces : (before piece : List ℕ)
    → reading_of (before ++ piece) ≡ then_read (reading_of before) piece
read_on-pieces before piece = read_on-append begin before piece

-- a reading at a fault
abbrev pub at_fault : Option ReadSoFar → List ℕ → Option TraceEnd → TraceFault → Reading
at_fault p xs e fault = record { progress = p; pending = xs; ending = e; fault = Some fault }

pub read_on-fault : (p : Option ReadSoFar) (xs : List ℕ) (e : Option TraceEnd) (fault : TraceFault)
    (bytes : List ℕ)
    → read_on (at_fault p xs e fault) bytes ≡ ([], at_fault p xs e fault)
unfolding read_on byte_read
read_on-fault p xs e fault [] = refl
read_on-fault p xs e fault (b ∷ bytes) = read_on-fault p xs e fault bytes

-- a reading with some bytes after its whole records
abbrev pub waiting : Option ReadSoFar → Option TraceEnd → List ℕ → Reading
waiting p e bytes = record { progress = p; pending = bytes; ending = e; fault = None }

part_at-pending : (p : Option ReadSoFar) (e : Option TraceEnd) (xs bytes : List ℕ)
    → part_at (waiting p e xs) p e bytes ≡ part_at (waiting p e []) p e bytes
part_at-pending None e xs bytes =
    elim (header_judged bytes) as (λ j. header_read (waiting None e xs) j ≡ header_read
    (waiting None e []) j) [ Ok p ↦ refl | Err fault ↦ refl ]
part_at-pending (Some p) None xs bytes =
    elim (record_judged p bytes) as (λ j. record_read (waiting (Some p) None xs) p (length bytes)
    j ≡ record_read (waiting (Some p) None []) p (length bytes) j) [
      | Ok item ↦ refl
      | Err
          fault ↦ refl
    ]
part_at-pending (Some p) (Some e) xs bytes = refl

-- A beginning of what is judged at once is not judged, and what is judged has all its bytes.
pub record FrontsWait (p : Option ReadSoFar) (e : Option TraceEnd) (bytes : List ℕ) : Type 0 where
  pub short : (k : ℕ) → 1 ≤ k → k ≤ length bytes → k < extent_at p e bytes
      → k < extent_at p e (take k bytes)
  pub whole : (k : ℕ) → 1 ≤ k → k ≤ length bytes → k ≡ extent_at p e bytes
      → extent_at p e (take k bytes) ≡ extent_at p e bytes

module _ (p : Option ReadSoFar) (e : Option TraceEnd) (ys : List ℕ) (fronts : FrontsWait p e ys)
  where
    one_waits : (xs : List ℕ) (b : ℕ) → place_reached p + length xs < longest_trace
        → length (xs ++ b ∷ []) < extent_at p e (xs ++ b ∷ [])
        → byte_read (waiting p e xs) b ≡ ([], waiting p e (xs ++ b ∷ []))
    unfolding byte_read
    one_waits xs b low short =
        let inside : eqb (place_reached p + length xs) longest_trace ≡ false =
        grind (arith, nat_tests) in
        let few : ltb (length (xs ++ b ∷ [])) (extent_at p e (xs ++ b ∷ [])) ≡ true =
        grind (arith, nat_tests) in
        rw (inside, few) refl

    one_ends : (xs : List ℕ) (b : ℕ) → place_reached p + length xs < longest_trace
        → length (xs ++ b ∷ []) ≡ extent_at p e (xs ++ b ∷ [])
        → byte_read (waiting p e xs) b ≡ part_at (waiting p e []) p e (xs ++ b ∷ [])
    unfolding byte_read
    one_ends xs b low same =
        let inside : eqb (place_reached p + length xs) longest_trace ≡ false =
        grind (arith, nat_tests) in
        let enough : ltb (length (xs ++ b ∷ [])) (extent_at p e (xs ++ b ∷ [])) ≡ false =
        grind (arith, nat_tests) in
        rw (inside, enough) (part_at-pending p e xs (xs ++ b ∷ []))

    read_one : (r : Reading) (b : ℕ)
        → read_on r (b ∷ []) ≡ ((byte_read r b).0 ++ [], (byte_read r b).1)
    unfolding read_on
    read_one r b = refl

    fronts_wait : (k : ℕ) → k ≤ length ys → k < extent_at p e ys → place_reached p + k ≤ longest_trace
        → read_on (waiting p e []) (take k ys) ≡ ([], waiting p e (take k ys))
    unfolding read_on
    fronts_wait zero le lt low = refl
    fronts_wait (suc k) le lt low =
        let before = fronts_wait k (omega arith) (omega arith) (omega arith) in
        let b = get_or ys k 0 in
        let longer : take (suc k) ys ≡ take k ys ++ b ∷ [] = take-suc ys k 0 (omega arith) in
        let size : length (take k ys) ≡ k = length-take-le k ys (omega arith) in
        let more : length (take (suc k) ys) ≡ suc k = length-take-le (suc k) ys le in
        let short : suc k < extent_at p e (take (suc k) ys) =
        fronts.short (suc k) (omega arith) le lt in
        let one : byte_read (waiting p e (take k ys)) b ≡ ([], waiting p e (take k ys ++ b ∷ [])) =
        one_waits (take k ys) b (omega arith) (omega
        (arith, ap length longer, ap (extent_at p e) longer)) in
        rw longer (read_on-append (waiting p e []) (take k ys) (b ∷ []) ∙ rw
        (before, read_one (waiting p e (take k ys)) b, one) refl)

    -- fewer bytes than are judged wait
    pub all_wait : length ys < extent_at p e ys → place_reached p + length ys ≤ longest_trace
        → read_on (waiting p e []) ys ≡ ([], waiting p e ys)
    all_wait lt low =
        let all : take (length ys) ys ≡ ys = take_all (length ys) ys (omega arith) in
        rw all at (fronts_wait (length ys) (omega arith) lt low)

    ends_at : (k : ℕ) → suc k ≡ extent_at p e ys → suc k ≤ length ys
        → place_reached p + suc k ≤ longest_trace
        → read_on (waiting p e []) (take (suc k) ys) ≡ part_at (waiting p e []) p e (take (suc k)
        ys)
    ends_at k is le low =
        let before = fronts_wait k (omega arith) (omega arith) (omega arith) in
        let b = get_or ys k 0 in
        let longer : take (suc k) ys ≡ take k ys ++ b ∷ [] = take-suc ys k 0 (omega arith) in
        let size : length (take k ys) ≡ k = length-take-le k ys (omega arith) in
        let more : length (take (suc k) ys) ≡ suc k = length-take-le (suc k) ys le in
        let whole : extent_at p e (take (suc k) ys) ≡ extent_at p e ys =
        fronts.whole (suc k) (omega arith) le is in
        let one : byte_read (waiting p e (take k ys)) b ≡ part_at (waiting p e []) p e
        (take k ys ++
        b ∷ []) =
        one_ends (take k ys) b (omega arith) (omega
        (arith, ap length longer, ap (extent_at p e) longer)) in
        rw longer (read_on-append (waiting p e []) (take k ys) (b ∷ []) ∙ rw
        (before, read_one (waiting p e (take k ys)) b, one) (ap
        (λ (items : List TraceRecord).
        (items, (part_at (waiting p e []) p e (take k ys ++ b ∷ [])).1)) (append-nil
        _)))

    -- what is judged at once is read at once, and then what is behind it
    pub part_then : (n : ℕ) → n ≡ extent_at p e ys → 1 ≤ n → n ≤ length ys
        → place_reached p + n ≤ longest_trace
        → read_on (waiting p e []) ys ≡ then_read (part_at (waiting p e []) p e (take n ys))
        (drop n
        ys)
    part_then zero is some le low = absurd (omega arith)
    part_then (suc k) is some le low =
        let joined : take (suc k) ys ++ drop (suc k) ys ≡ ys = take-append-drop (suc k) ys in
        let cut = read_on-append (waiting p e []) (take (suc k) ys) (drop (suc k) ys) in
        ap (read_on (waiting p e [])) (sym joined) ∙ cut
        ∙ ap (λ now. then_read now (drop (suc k) ys)) (ends_at k is le low)

-- no byte has the place at which a trace is too long
pub read_on-too_long : (p : Option ReadSoFar) (e : Option TraceEnd) (xs : List ℕ) (b : ℕ) (bytes :
    List ℕ)
    → place_reached p + length xs ≡ longest_trace
    → read_on (waiting p e xs) (b ∷ bytes) ≡ ([], at_fault p [] e faults.TooLong)
unfolding read_on byte_read
read_on-too_long p e xs b bytes is =
    let there : eqb (place_reached p + length xs) longest_trace ≡ true = grind (arith, nat_tests) in
    rw there (read_on-fault p [] e faults.TooLong bytes)
