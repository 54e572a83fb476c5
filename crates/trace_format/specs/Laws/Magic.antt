-- What the first 8 bytes say of the version: it is known once they are there, and more bytes leave
-- it as it is.
use Rattle.std.proofs.Common.{◌≡◌, ℕ, ◌+◌, ◌≤◌, ◌<◌, true, cond, ◌&&◌, eqb, ltb, leb}
use Rattle.std.proofs.Common.{List, [], ◌∷◌, ◌++◌, length, take, drop, Option, Some, None, Result}
use Rattle.std.proofs.Common.{Ok, Err, inl, inr, refl, sym, ap, subst, ◌∙◌, append_assoc, arith}
use Rattle.std.proofs.lemmas.Bool.Decides.{Decides-eqb, nat_tests}
use Rattle.std.proofs.lemmas.List.{append-nil, length-append, take-append-le}
use Rattle.std.proofs.lemmas.Option.{same_Some, none-some}
use Rattle.std.proofs.lemmas.Slice.Eq.{starts_is}
use Rattle.std.specs.Cmp.Lexicographic.{pointwise}
use Rattle.std.specs.List.{starts_with}
use Rattle.std.specs.Int.{w16, w64}
use Rattle.base.specs.Fields.{number_at}
use Rattle.trace_format.specs.declared.record.TraceEnd.{TraceEnd}
use Rattle.trace_format.specs.declared.fault.TraceFault.{TraceFault}
use Rattle.trace_format.specs.declared.fault.TraceFault.TheVariants as faults
use Rattle.trace_format.specs.declared.record.TraceRecord.{TraceRecord}
use Rattle.trace_format.specs.declared.record.Version.{Version}
use Rattle.trace_format.specs.declared.record.Version.TheVariants.{One, Two, Three, Four}
use Rattle.trace_format.specs.declared.read_so_far.ReadSoFar.{ReadSoFar}
use Rattle.trace_format.specs.Judging.{begun, fields_judged, header_judged, highest_first, is_near}
use Rattle.trace_format.specs.Judging.{is_unused, record_judged, version_at}
use Rattle.trace_format.specs.Laws.Counts.{by_test}
use Rattle.trace_format.specs.Laws.Reading.{waiting}
use Rattle.trace_format.specs.Laws.Records.{chosen, granted, not_refused, same_Ok}
use Rattle.trace_format.specs.Reading.{Reading, begin, byte_read, extent_at, header_read, magic_at}
use Rattle.trace_format.specs.Reading.{magic_in, part_at, read_on, reading_of, record_read}
use Rattle.trace_format.specs.Reading.{with_fault}
use Rattle.trace_format.specs.Rules.{longest_trace}
use Rattle.trace_format.specs.Spelling.{magic_of}

-- ---- the magic is in the first 8 bytes

version_of_front : List ℕ → Option Version
version_of_front front =
    cond (pointwise eqb (magic_of One) front) (Some One)
    (cond (pointwise eqb (magic_of Two) front) (Some Two)
    (cond (pointwise eqb (magic_of Three) front) (Some Three)
    (cond (pointwise eqb (magic_of Four) front) (Some Four)
    None)))

by_front : (bytes : List ℕ) → version_at bytes ≡ version_of_front (take 8 bytes)
unfolding version_of_front
by_front bytes = refl

-- What 8 bytes say of the version, all that begins so says.
pub version_stays : (bytes more : List ℕ) → 8 ≤ length bytes
    → version_at (bytes ++ more) ≡ version_at bytes
version_stays bytes more long =
    by_front (bytes ++ more) ∙ ap version_of_front (take-append-le 8 bytes more long)
    ∙ sym (by_front bytes)

-- bytes begin with the text of the version that is found
IsHead : List ℕ → Version → Type 0
IsHead bytes v = bytes ≡ magic_of v ++ drop 8 bytes

one_tried : (bytes : List ℕ) (k v : Version) (rest : Option Version)
    → (starts_with eqb bytes (magic_of k) ≡ true → IsHead bytes k)
    → (rest ≡ Some v → IsHead bytes v)
    → cond (starts_with eqb bytes (magic_of k)) (Some k) rest ≡ Some v → IsHead bytes v
one_tried bytes k v rest is else e =
    elim (chosen (starts_with eqb bytes (magic_of k)) (Some k) rest (Some v) e) [
      | inl h ↦ subst (IsHead bytes) (same_Some k v h.1) (is h.0)
      | inr h ↦ else h.1
    ]

head_of : (bytes : List ℕ) (v : Version) → starts_with eqb bytes (magic_of v) ≡ true
    → IsHead bytes v
unfolding IsHead
head_of bytes One is = (starts_is Decides-eqb bytes (magic_of One)
    (starts_with eqb bytes (magic_of One)) refl).0 is
head_of bytes Two is = (starts_is Decides-eqb bytes (magic_of Two)
    (starts_with eqb bytes (magic_of Two)) refl).0 is
head_of bytes Three is = (starts_is Decides-eqb bytes (magic_of Three)
    (starts_with eqb bytes (magic_of Three)) refl).0 is
head_of bytes Four is = (starts_is Decides-eqb bytes (magic_of Four)
    (starts_with eqb bytes (magic_of Four)) refl).0 is

-- Bytes in which a version is found begin with its magic.
pub version_found : (bytes : List ℕ) (v : Version) → version_at bytes ≡ Some v → bytes
    ≡ magic_of v ++ drop 8 bytes
unfolding IsHead
version_found bytes v =
    one_tried bytes One v _ (head_of bytes One)
    (one_tried bytes Two v _ (head_of bytes Two)
    (one_tried bytes Three v _ (head_of bytes Three)
    (one_tried bytes Four v _ (head_of bytes Four) (λ none. absurd (none-some v none)))))

eight : (v : Version) → length (magic_of v) ≡ 8
eight One = refl
eight Two = refl
eight Three = refl
eight Four = refl

-- What begins with a magic has its version, whatever is behind it.
pub version_kept : (bytes more : List ℕ) (v : Version) → version_at bytes ≡ Some v
    → version_at (bytes ++ more) ≡ Some v
version_kept bytes more v e =
    let size = ap length (version_found bytes v e) in
    let parts = length-append (magic_of v) (drop 8 bytes) in
    version_stays bytes more (omega (arith, size, parts, eight v)) ∙ e

-- ---- a reading knows the magic of its bytes

-- An accepted header has the version of the bytes. Until then they wait, and no fault comes before
-- 20 of them are there.
abbrev KnowsMagic : Option ReadSoFar → Option TraceFault → List ℕ → List ℕ → Type 0
KnowsMagic (Some p) f pending bytes = (20 ≤ length bytes) × (version_at bytes ≡ Some p.version)
KnowsMagic None None pending bytes = (pending ≡ bytes) × (length bytes < 20)
KnowsMagic None (Some fault) pending bytes = 20 ≤ length bytes

abbrev KnowsIn : Reading → List ℕ → Type 0
KnowsIn r bytes = KnowsMagic r.progress r.fault r.pending bytes

fields_version : (v : Option Version) (first harts near : ℕ) (p : ReadSoFar)
    → fields_judged v first harts near ≡ Ok p → v ≡ Some p.version
fields_version None first harts near p e = absurd cc
fields_version (Some v) first harts near p e =
    let a = not_refused (ltb (highest_first v) first) _ _ p e in
    let b = granted ((leb 1 harts && leb harts 256) && is_unused v near) _ _ p a.1 in
    let c = granted (is_near v near) _ _ p b.1 in
    ap (λ (q : ReadSoFar). Some q.version)
    (same_Ok (begun v (record { first = first; harts = harts; near = near })) p c.1)

header_version : (bytes : List ℕ) (p : ReadSoFar) → header_judged bytes ≡ Ok p
    → version_at bytes ≡ Some p.version
unfolding header_judged
header_version bytes p e = fields_version (version_at bytes) (number_at w64 8 bytes)
    (number_at w16 16 bytes) (number_at w16 18 bytes) p e

after_header : (e : Option TraceEnd) (pending more bytes : List ℕ) (j : Result ReadSoFar TraceFault)
    → header_judged more ≡ j → more ≡ bytes → 20 ≤ length bytes
    → KnowsIn (header_read (waiting None e pending) j).1 bytes
after_header e pending more bytes (Err fault) known is long = long
after_header e pending more bytes (Ok p) known is long =
    (long, ap version_at (sym is) ∙ header_version more p known)

after_record : (p : ReadSoFar) (pending bytes : List ℕ) (size : ℕ)
    (j : Result TraceRecord TraceFault) → KnowsMagic (Some p) None pending bytes
    → KnowsIn (record_read (waiting (Some p) None pending) p size j).1 bytes
after_record p pending bytes size (Err fault) knows = knows
after_record p pending bytes size (Ok item) knows = knows

after_part : (p : ReadSoFar) (e : Option TraceEnd) (pending more bytes : List ℕ)
    → KnowsMagic (Some p) None pending bytes
    → KnowsIn (part_at (waiting (Some p) e pending) (Some p) e more).1 bytes
after_part p None pending more bytes knows =
    after_record p pending bytes (length more) (record_judged p more) knows
after_part p (Some e) pending more bytes knows = knows

still_known : (p : ReadSoFar) (f : Option TraceFault) (pending bytes : List ℕ) (b : ℕ)
    → KnowsMagic (Some p) f pending bytes → KnowsMagic (Some p) f pending (bytes ++ b ∷ [])
still_known p f pending bytes b knows =
    let longer = length-append bytes (b ∷ []) in
    (omega (arith, longer, knows.0), version_stays bytes (b ∷ []) (omega (arith, knows.0)) ∙ knows.1)

after_byte : (f : Option TraceFault) (p : Option ReadSoFar) (e : Option TraceEnd)
    (pending bytes : List ℕ) (b : ℕ) → KnowsMagic p f pending bytes
    → KnowsIn (byte_read (record { progress = p; pending = pending; ending = e; fault = f }) b).1
    (bytes ++ b ∷ [])
unfolding byte_read
after_byte (Some fault) (Some p) e pending bytes b knows =
    still_known p (Some fault) pending bytes b knows
after_byte (Some fault) None e pending bytes b knows =
    omega (arith, knows, length-append bytes (b ∷ []))
after_byte None (Some p) e pending bytes b knows =
    let r = waiting (Some p) e pending in
    let more = pending ++ b ∷ [] in
    let P : List TraceRecord × Reading → Type 0 = λ now. KnowsIn now.1 (bytes ++ b ∷ []) in
    let still = still_known p None pending bytes b knows in
    by_test P (eqb (p.place + length pending) longest_trace) ([], with_fault r faults.TooLong) _
    (λ last. still)
    (λ room. by_test P (ltb (length more) (extent_at (Some p) e more))
    ([], record r { pending = more })
    (part_at r (Some p) e more) (λ short. still)
    (λ long. after_part p e pending more (bytes ++ b ∷ []) still))
after_byte None None e pending bytes b knows =
    let r = waiting None e pending in
    let more = pending ++ b ∷ [] in
    let same : more ≡ bytes ++ b ∷ [] = ap (λ (xs : List ℕ). xs ++ b ∷ []) knows.0 in
    let size : length pending ≡ length bytes = ap length knows.0 in
    let longer : length more ≡ length bytes + 1 = ap length same ∙ length-append bytes (b ∷ []) in
    let all : length (bytes ++ b ∷ []) ≡ length bytes + 1 = length-append bytes (b ∷ []) in
    let P : List TraceRecord × Reading → Type 0 = λ now. KnowsIn now.1 (bytes ++ b ∷ []) in
    by_test P (eqb (0 + length pending) longest_trace) ([], with_fault r faults.TooLong) _
    (λ last. absurd (grind (arith, nat_tests, knows.1)))
    (λ room. by_test P (ltb (length more) 20) ([], record r { pending = more })
    (header_read r (header_judged more))
    (λ short. (same, grind (arith, nat_tests)))
    (λ long. after_header e pending more (bytes ++ b ∷ []) (header_judged more) refl same
    (grind (arith, nat_tests))))

knows_on : (more : List ℕ) (r : Reading) (bytes : List ℕ) → KnowsIn r bytes
    → KnowsIn (read_on r more).1 (bytes ++ more)
unfolding read_on
knows_on [] r bytes knows = subst (KnowsIn r) (sym (append-nil bytes)) knows
knows_on (b ∷ more) r bytes knows =
    let now = (byte_read r b).1 in
    subst (KnowsIn (read_on now more).1) (append_assoc bytes (b ∷ []) more)
    (knows_on more now (bytes ++ b ∷ [])
    (after_byte r.fault r.progress r.ending r.pending bytes b knows))

knows_all : (bytes : List ℕ) → KnowsIn (reading_of bytes).1 bytes
knows_all bytes = knows_on bytes begin [] (refl, omega arith)

-- ---- what follows

magic_known : (p : Option ReadSoFar) (f : Option TraceFault) (pending bytes : List ℕ)
    → KnowsMagic p f pending bytes → f ≡ None → magic_at p pending ≡ version_at bytes
magic_known (Some p) f pending bytes knows clean = sym knows.1
magic_known None None pending bytes knows clean = ap version_at knows.0
magic_known None (Some fault) pending bytes knows clean = absurd cc

-- A reading without a fault knows the magic of its bytes.
pub magic_of_bytes : (bytes : List ℕ) → (reading_of bytes).1.fault ≡ None
    → magic_in (reading_of bytes).1 ≡ version_at bytes
magic_of_bytes bytes clean =
    let r = (reading_of bytes).1 in
    magic_known r.progress r.fault r.pending bytes (knows_all bytes) clean

-- what an accepted header states of the bytes
pub record HasVersion (bytes : List ℕ) (p : ReadSoFar) : Type 0 where
  pub long : 20 ≤ length bytes
  pub version : version_at bytes ≡ Some p.version

version_in : (q : Option ReadSoFar) (f : Option TraceFault) (pending bytes : List ℕ) (p : ReadSoFar)
    → KnowsMagic q f pending bytes → q ≡ Some p → HasVersion bytes p
version_in None f pending bytes p knows known = absurd cc
version_in (Some q) f pending bytes p knows known =
    let same : q ≡ p = cc in
    subst (HasVersion bytes) same (record { long = knows.0; version = knows.1 })

pub has_version : (bytes : List ℕ) (p : ReadSoFar) → (reading_of bytes).1.progress ≡ Some p
    → HasVersion bytes p
has_version bytes p known =
    let r = (reading_of bytes).1 in
    version_in r.progress r.fault r.pending bytes p (knows_all bytes) known

long_in : (p : Option ReadSoFar) (f : Option TraceFault) (pending bytes : List ℕ) (fault : TraceFault)
    → KnowsMagic p f pending bytes → f ≡ Some fault → 20 ≤ length bytes
long_in (Some p) f pending bytes fault knows known = knows.0
long_in None None pending bytes fault knows known = absurd cc
long_in None (Some g) pending bytes fault knows known = knows

-- No fault comes before 20 bytes are there.
pub fault_is_late : (bytes : List ℕ) (fault : TraceFault) → (reading_of bytes).1.fault ≡ Some fault
    → 20 ≤ length bytes
fault_is_late bytes fault known =
    let r = (reading_of bytes).1 in
    long_in r.progress r.fault r.pending bytes fault (knows_all bytes) known
