-- What is judged good is good, and the bytes are its spelling: the end and the header.
use Rattle.std.proofs.Common.{◌≡◌, ℕ, ◌%◌, ◌^◌, ◌<◌, inl, inr, Bool, true, false, cond, ◌&&◌, eqb}
use Rattle.std.proofs.Common.{eqb-true, ltb, leb, List, [], ◌∷◌, ◌++◌, drop, ◌≤◌}
use Rattle.std.proofs.Common.{length, get_or, Option, Some, None, Ok, refl, sym, ap, subst}
use Rattle.std.proofs.Common.{◌∙◌, arith}
use Rattle.std.specs.Prelude.{find}
use Rattle.std.proofs.lemmas.Bool.{and_parts, leb-true}
use Rattle.std.proofs.lemmas.Bool.Decides.{nat_tests}
use Rattle.std.proofs.lemmas.Option.{same_Some, none-some}
use Rattle.std.proofs.lemmas.List.{drop_more, drop_all}
use Rattle.std.specs.Int.{w16, w32, w64, to_le_bytes}
use Rattle.base.specs.Levels.{is_from_to}
use Rattle.base.specs.declared.ending.Cause.{Cause}
use Rattle.base.specs.declared.ending.Cause.TheVariants.{Illegal, Breakpoint, FetchMisaligned}
use Rattle.base.specs.declared.ending.Cause.TheVariants.{FetchOutside, LoadMisaligned}
use Rattle.base.specs.declared.ending.Cause.TheVariants.{LoadOutside, StoreMisaligned, StoreOutside}
use Rattle.base.specs.declared.ending.Outcome.{Outcome}
use Rattle.base.specs.declared.ending.Outcome.TheVariants.{Exit, Budget, Deadlock, Trap, Part}
use Rattle.trace_format.specs.declared.record.Version.{Version}
use Rattle.trace_format.specs.declared.record.Version.TheVariants.{One, Two, Three, Four}
use Rattle.trace_format.specs.declared.record.Header.{Header}
use Rattle.trace_format.specs.declared.tag.Tag.TheVariants as tags
use Rattle.trace_format.specs.declared.read_so_far.ReadSoFar.{ReadSoFar}
use Rattle.trace_format.specs.Spelling.{cause_number, magic_of, outcome_fields, spell_ending}
use Rattle.trace_format.specs.Spelling.{spell_header, spell_outcome, spell_whole}
use Rattle.trace_format.specs.Tags.{number_of}
use Rattle.trace_format.specs.Rules.{FitsFields, HasRegions, IsAllowedEnd, IsGoodEnding}
use Rattle.trace_format.specs.Rules.{IsGoodHeader}
use Rattle.trace_format.specs.Judging.{begun, cause_of, end_extent, end_with, fields_judged}
use Rattle.trace_format.specs.Judging.{header_judged, highest_first, is_near, is_unused, is_whole}
use Rattle.trace_format.specs.Judging.{whole_at}
use Rattle.trace_format.specs.Judging.{outcome_judged, plain_judged}
use Rattle.base.specs.Fields.{number_at}
use Rattle.trace_format.specs.Judging.{plain_outcome_of, plain_with, trap_for, trap_judged}
use Rattle.trace_format.specs.Judging.{version_at}
use Rattle.trace_format.specs.Laws.Bytes.{IsBytes, below_32, below_64, from_part, last_part, part}
use Rattle.trace_format.specs.Laws.Bytes.{spelled_16, spelled_32, spelled_64}
use Rattle.trace_format.specs.Laws.Ends.{end_long, whole_found}
use Rattle.trace_format.specs.Laws.Headers.{first_low, regions_found}
use Rattle.trace_format.specs.Laws.Magic.{version_found}
use Rattle.trace_format.proofs.FoundRecords.{chosen, granted, passed, same_Ok}

find_passes : {A : Type 0} (p : A → Bool) (xs : List A) (x : A) → find p xs ≡ Some x → p x ≡ true
find_passes {A = A} p [] x e = absurd (none-some x e)
find_passes {A = A} p (y ∷ ys) x e =
    elim (chosen (p y) (Some y) (find p ys) (Some x) e) [
      | inl h ↦ subst (λ (z : A). p z ≡ true) (same_Some y x h.1) h.0
      | inr h ↦ find_passes p ys x h.1
    ]

cause_found : (n : ℕ) (c : Cause) → cause_of n ≡ Some c → cause_number c ≡ n
cause_found n c e =
    eqb-true (cause_number c) n (find_passes (λ x. eqb (cause_number x) n)
    (Illegal ∷ Breakpoint ∷ FetchMisaligned ∷ FetchOutside ∷ LoadMisaligned ∷ LoadOutside
    ∷ StoreMisaligned ∷ StoreOutside ∷ []) c e)

-- what the fields of an end say of its outcome
record Says (harts steps which cause hart value : ℕ) (o : Outcome) : Type 0 where
  allowed : IsAllowedEnd steps o
  fits : FitsFields harts o
  spelled : spell_outcome o ≡ outcome_fields which cause hart value

trap_found : (harts steps place which cause hart value : ℕ) (o : Outcome) → which ≡ 3
    → value < 2 ^ 32 → (why : Option Cause)
    → cause_of cause ≡ why
    → trap_for why harts place hart value ≡ Ok o → Says harts steps which cause hart value o
trap_found harts steps place which cause hart value o is small None known e = absurd cc
trap_found harts steps place which cause hart value o is small (Some why) known e =
    let first = passed (leb harts hart) _ _ o e in
    let second = granted (eqb (value % 4) 0) _ _ o first.1 in
    let inside : leb harts hart ≡ false = first.0 in
    let below : hart < harts = grind (arith, nat_tests) in
    let named = cause_found cause why known in
    let spelled : spell_outcome (Trap hart value why) ≡ outcome_fields which cause hart value =
    ap (λ (n : ℕ). outcome_fields 3 n hart value) named
    ∙ ap (λ (n : ℕ). outcome_fields n cause hart value) (sym is) in
    subst (λ (x : Outcome). Says harts steps which cause hart value x)
    (same_Ok (Trap hart value why) o second.1)
    (record { allowed = eqb-true (value % 4) 0 second.0; fits = (below, small); spelled = spelled })

-- an outcome of no value
idle : (harts steps which cause hart value n : ℕ) (o x : Outcome) → which ≡ n → cause ≡ 0 → hart ≡ 0
    → value ≡ 0 → Some o ≡ Some x
    → IsAllowedEnd steps o
    → FitsFields harts o → spell_outcome o ≡ outcome_fields n 0 0 0
    → Says harts steps which cause hart value x
idle harts steps which cause hart value n o x is no_cause no_hart no_value same allowed fits
    spelled =
    subst (λ (y : Outcome). Says harts steps which cause hart value y) (same_Some o x same)
    (record {
      allowed = allowed;
      fits = fits;
      spelled = spelled ∙ (λ i.
          outcome_fields (sym is i) (sym no_cause i) (sym no_hart i) (sym no_value i));
    })

plain_says : (harts steps which cause hart value : ℕ) (o : Outcome) → value < 2 ^ 32 → cause ≡ 0
    → hart ≡ 0
    → (ltb 0 which && ltb 0 value) ≡ false
    → (eqb which 4 && ltb 0 steps) ≡ false → plain_outcome_of which value ≡ Some o
    → Says harts steps which cause hart value o
plain_says harts steps which cause hart value o small no_cause no_hart no_value no_steps e =
    let four : Option Outcome = cond (eqb which 4) (Some Part) None in
    let two : Option Outcome = cond (eqb which 2) (Some Deadlock) four in
    let one : Option Outcome = cond (eqb which 1) (Some Budget) two in
    elim (chosen (eqb which 0) (Some (Exit value)) one (Some o) e) [
      | inl h ↦
          let zero : which ≡ 0 = eqb-true which 0 h.0 in
          subst (λ (x : Outcome). Says harts steps which cause hart value x)
          (same_Some (Exit value) o h.1)
          (record {
            allowed = tt;
            fits = small;
            spelled = λ i. outcome_fields (sym zero i)
                (sym no_cause i) (sym no_hart i) value;
          })
      | inr h0 ↦ elim (chosen (eqb which 1) (Some Budget) two (Some o) h0.1) [
        | inl h ↦
            let at : which ≡ 1 = eqb-true which 1 h.0 in
            idle harts steps which cause hart value 1 Budget o at no_cause no_hart
            (grind (arith, nat_tests)) h.1 tt tt refl
        | inr h1 ↦ elim (chosen (eqb which 2) (Some Deadlock) four (Some o) h1.1) [
          | inl h ↦
              let at : which ≡ 2 = eqb-true which 2 h.0 in
              idle harts steps which cause hart value 2 Deadlock o at no_cause no_hart
              (grind (arith, nat_tests)) h.1 tt tt refl
          | inr h2 ↦ elim (chosen (eqb which 4) (Some Part) None (Some o) h2.1) [
            | inl h ↦
                let at : which ≡ 4 = eqb-true which 4 h.0 in
                let none : steps ≡ 0 = grind (arith, nat_tests) in
                idle harts steps which cause hart value 4 Part o at no_cause no_hart
                (grind (arith, nat_tests)) h.1 none tt refl
            | inr h ↦ absurd (none-some o h.1)
          ]
        ]
      ]
    ]

plain_found : (harts steps place which cause hart value : ℕ) (o : Outcome) → value < 2 ^ 32
    → (plain : Option Outcome)
    → plain_outcome_of which value ≡ plain
    → plain_with plain place which cause hart value steps ≡ Ok o
    → Says harts steps which cause hart value o
plain_found harts steps place which cause hart value o small None known e = absurd cc
plain_found harts steps place which cause hart value o small (Some x) known e =
    let first = passed (ltb 0 cause) _ _ o e in
    let second = passed (ltb 0 hart) _ _ o first.1 in
    let third = passed (ltb 0 which && ltb 0 value) _ _ o second.1 in
    let fourth = passed (eqb which 4 && ltb 0 steps) _ _ o third.1 in
    let c : ltb 0 cause ≡ false = first.0 in
    let h : ltb 0 hart ≡ false = second.0 in
    let no_cause : cause ≡ 0 = grind (arith, nat_tests) in
    let no_hart : hart ≡ 0 = grind (arith, nat_tests) in
    subst (λ (y : Outcome). Says harts steps which cause hart value y) (same_Ok x o fourth.1)
    (plain_says harts steps which cause hart value x small no_cause no_hart third.0 fourth.0 known)

outcome_found : (harts place : ℕ) (bytes : List ℕ) (o : Outcome) → IsBytes bytes
    → outcome_judged harts place bytes ≡ Ok o
    → Says harts (number_at w64 9 bytes) (get_or bytes 1 0) (get_or bytes 2 0)
    (number_at w16 3 bytes) (number_at w32 5 bytes) o
unfolding outcome_judged trap_judged plain_judged
outcome_found harts place bytes o is e =
    let which = get_or bytes 1 0 in
    let cause = get_or bytes 2 0 in
    let hart = number_at w16 3 bytes in
    let value = number_at w32 5 bytes in
    let steps = number_at w64 9 bytes in
    elim (chosen (eqb which 3) (trap_judged harts place cause hart value)
    (plain_judged place which cause hart value steps) (Ok o) e) [
      | inl h ↦ trap_found harts steps place which cause hart value o (eqb-true which 3 h.0)
          (below_32 bytes 5 is) (cause_of cause) refl h.1
      | inr h ↦ plain_found harts steps place which cause hart value o (below_32 bytes 5 is)
          (plain_outcome_of which value) refl h.1
    ]

-- what an end has behind the fields that all versions have
rest_found : (v : Version) (bytes : List ℕ) (o : Outcome) → length bytes ≡ end_extent v
    → IsBytes bytes → spell_whole v (end_with v bytes o) ≡ drop 25 bytes
rest_found One bytes o len is = sym (drop_all 25 bytes (omega arith))
rest_found Two bytes o len is = sym (drop_all 25 bytes (omega arith))
rest_found Three bytes o len is = sym (drop_all 25 bytes (omega arith))
rest_found Four bytes o len is = spelled_64 bytes 25 is (omega arith)
    ∙ sym (last_part bytes 25 8 (omega arith))

pub ending_found : (v : Version) (harts place : ℕ) (bytes : List ℕ) (o : Outcome)
    → length bytes ≡ end_extent v
    → IsBytes bytes
    → number_of tags.End ≡ get_or bytes 0 0
    → outcome_judged harts place bytes ≡ Ok o
    → is_whole (number_at w64 17 bytes) (whole_at v bytes) ≡ true
    → IsGoodEnding v harts (end_with v bytes o)
    × (bytes ≡ spell_ending v (end_with v bytes o))
unfolding spell_ending
ending_found v harts place bytes o len is tag found fits =
    let says = outcome_found harts place bytes o is found in
    let long : 25 ≤ length bytes = omega (arith, len, end_long v) in
    let which = get_or bytes 1 0 in
    let cause = get_or bytes 2 0 in
    let joined : ℕ → List ℕ → List ℕ → List ℕ → List ℕ → List ℕ
    → List ℕ = λ t h v s a z. t ∷ which ∷ cause ∷ (h ++ (v ++ (s ++ (a ++ z)))) in
    let parts : bytes ≡ joined (get_or bytes 0 0) (part bytes 3 2) (part bytes 5 4) (part bytes 9 8)
    (part bytes 17 8) (drop 25 bytes) =
    drop_more bytes 0 0 (omega arith) ∙ ap (λ (xs : List ℕ). get_or bytes 0 0 ∷ xs)
    (drop_more bytes 1 0 (omega arith)
    ∙ ap (λ (xs : List ℕ). which ∷ xs) (drop_more bytes 2 0 (omega arith)
    ∙ ap (λ (xs : List ℕ). cause ∷ xs)
    (from_part bytes 3 2 5 refl ∙ ap (λ (xs : List ℕ). part bytes 3 2 ++ xs)
    (from_part bytes 5 4 9 refl
    ∙ ap (λ (xs : List ℕ). part bytes 5 4 ++ xs)
    (from_part bytes 9 8 17 refl ∙ ap (λ (xs : List ℕ). part bytes 9 8 ++ xs)
    (from_part bytes 17 8 25 refl)))))) in
    let s1 = spelled_16 bytes 3 is (omega arith) in
    let s2 = spelled_32 bytes 5 is (omega arith) in
    let s3 = spelled_64 bytes 9 is (omega arith) in
    let s4 = spelled_64 bytes 17 is (omega arith) in
    let s5 = rest_found v bytes o len is in
    let spelled : spell_ending v (end_with v bytes o) ≡ joined (get_or bytes 0 0) (part bytes 3 2)
    (part bytes 5 4) (part bytes 9 8)
    (part bytes 17 8) (drop 25 bytes) =
    ap (λ (xs : List ℕ). (6 ∷ (xs ++ (to_le_bytes w64 (number_at w64 9 bytes) ++ to_le_bytes w64
    (number_at w64 17 bytes)))) ++ spell_whole v (end_with v bytes o)) says.spelled
    ∙ (λ i. joined (tag i) (s1 i) (s2 i) (s3 i) (s4 i) (s5 i)) in
    let good : IsGoodEnding v harts (end_with v bytes o) =
    record {
      allowed = says.allowed;
      outcome = says.fits;
      steps = below_64 bytes 9 is;
      accesses =
          below_64 bytes 17 is;
      whole = whole_found v bytes (number_at w64 17 bytes) fits;
    } in
    (good, parts ∙ sym spelled)

-- ---- the header

-- what 20 bytes that are accepted begin
pub record BeginsWith (bytes : List ℕ) (p : ReadSoFar) : Type 0 where
  pub good : IsGoodHeader p.header
  pub regions : HasRegions p.version p.header
  pub fresh : p ≡ begun p.version p.header
  pub spelled : bytes ≡ spell_header p.version p.header

fields_found : (bytes : List ℕ) (p : ReadSoFar) → length bytes ≡ 20 → IsBytes bytes
    → (v : Option Version) → version_at bytes ≡ v
    → fields_judged v (number_at w64 8 bytes) (number_at w16 16 bytes) (number_at w16 18 bytes)
    ≡ Ok p → BeginsWith bytes p
unfolding spell_header
fields_found bytes p len is None known e = absurd cc
fields_found bytes p len is (Some v) known e =
    let first = number_at w64 8 bytes in
    let harts = number_at w16 16 bytes in
    let last = number_at w16 18 bytes in
    let made : Header = record { first = first; harts = harts; near = last } in
    let one = passed (ltb (highest_first v) first) _ _ p e in
    let other = granted (is_from_to 1 256 harts && is_unused v last) _ _ p one.1 in
    let sized = granted (is_near v last) _ _ p other.1 in
    let both = and_parts (is_from_to 1 256 harts) (is_unused v last) other.0 in
    let range = and_parts (leb 1 harts) (leb harts 256) both.0 in
    let good : IsGoodHeader made = record {
      position = first_low v first one.0;
      some = leb-true 1 harts range.0;
      few = leb-true harts 256 range.1;
    } in
    let joined : List ℕ → List ℕ → List ℕ → List ℕ = λ f n z. magic_of v ++ (f ++ (n ++ z)) in
    let parts : bytes ≡ joined (part bytes 8 8) (part bytes 16 2) (part bytes 18 2) =
    version_found bytes v known ∙ ap (λ (xs : List ℕ). magic_of v ++ xs)
    (from_part bytes 8 8 16 refl
    ∙ ap (λ (xs : List ℕ). part bytes 8 8 ++ xs) (from_part bytes 16 2 18 refl
    ∙ ap (λ (xs : List ℕ). part bytes 16 2 ++ xs) (last_part bytes 18 2 (omega arith)))) in
    let s1 = spelled_64 bytes 8 is (omega arith) in
    let s2 = spelled_16 bytes 16 is (omega arith) in
    let s3 = spelled_16 bytes 18 is (omega arith) in
    let spelled : spell_header v made ≡ joined (part bytes 8 8) (part bytes 16 2)
    (part bytes 18 2) = λ i. joined (s1 i) (s2 i) (s3 i) in
    subst (λ (x : ReadSoFar). BeginsWith bytes x) (same_Ok (begun v made) p sized.1)
    (record {
      good = good;
      regions = regions_found v first harts last one.0 both.1 sized.0;
      fresh = refl;
      spelled = parts ∙ sym spelled;
    })

pub header_found : (bytes : List ℕ) (p : ReadSoFar) → length bytes ≡ 20 → IsBytes bytes
    → header_judged bytes ≡ Ok p → BeginsWith bytes p
unfolding header_judged
header_found bytes p len is e = fields_found bytes p len is (version_at bytes) refl e
