-- What is judged good is a good record, and the bytes are its spelling.
use Rattle.std.proofs.Common.{◌≡◌, ℕ, ◌+◌, ◌^◌, ◌≤◌, ◌<◌, true, eqb, eqb-true, ltb, List, length}
use Rattle.std.proofs.Common.{get_or, Option, Some, None, Result, Ok}
use Rattle.std.proofs.Common.{Err, refl, ap, ◌∙◌, subst, arith}
use Rattle.std.proofs.lemmas.Bool.Decides.{nat_tests}
use Rattle.std.specs.Int.{w32, w64}
use Rattle.base.specs.Touch.{Touch, is_access_size}
use Rattle.base.specs.declared.ending.Outcome.{Outcome}
use Rattle.trace_format.specs.declared.before.Before.{Before}
use Rattle.trace_format.specs.declared.fault.TraceFault.{TraceFault}
use Rattle.trace_format.specs.declared.record.Version.{Version}
use Rattle.trace_format.specs.declared.record.Version.TheVariants.{One, Two, Three, Four}
use Rattle.trace_format.specs.declared.record.TraceRecord.{TraceRecord}
use Rattle.trace_format.specs.declared.record.TraceRecord.TheVariants as records
use Rattle.trace_format.specs.declared.tag.Tag.{Tag}
use Rattle.trace_format.specs.declared.tag.Tag.TheVariants as tags
use Rattle.trace_format.specs.declared.read_so_far.ReadSoFar.{ReadSoFar}
use Rattle.trace_format.specs.Spelling.{spell_record, spell_short_touch, spell_touch}
use Rattle.trace_format.specs.Tags.{tag_of}
use Rattle.trace_format.specs.Rules.{IsGoodBefore, IsGoodPc, IsGoodRecord, last_position}
use Rattle.trace_format.specs.Found.{IsFound}
use Rattle.trace_format.specs.Judging.{alloc_at, end_counted, end_with, extent_if, extent_of}
use Rattle.base.specs.Fields.{number_at}
use Rattle.trace_format.specs.Judging.{outcome_judged, record_extent}
use Rattle.trace_format.specs.Judging.{record_judged, short_touch_judged, sited_touch_judged}
use Rattle.trace_format.specs.Judging.{symbol_judged, without_pc}
use Rattle.trace_format.specs.Judging.{symbol_kind_of, tagged_if, tagged_judged, touch_counted}
use Rattle.trace_format.specs.Judging.{is_whole, touch_judged, whole_at}
use Rattle.trace_format.specs.Laws.Bytes.{IsBytes}
use Rattle.trace_format.proofs.FoundRecords.{IsTagAt, ShortTouchIn, SitedTouchIn, TouchIn}
use Rattle.trace_format.proofs.FoundRecords.{alloc_found}
use Rattle.trace_format.proofs.FoundRecords.{free_found}
use Rattle.trace_format.proofs.FoundRecords.{granted, same_Ok, short_touch_found}
use Rattle.trace_format.proofs.FoundRecords.{sited_touch_found, symbol_found}
use Rattle.trace_format.proofs.FoundRecords.{tag_found, touch_found}
use Rattle.trace_format.proofs.FoundEnds.{ending_found}

-- an access and its pc in a version, good and spelled so
record IsIn (v : Version) (before : Before) (bytes : List ℕ) (a : Touch) (pc : Option ℕ)
    : Type 0 where
  good : IsGoodPc v pc
  spelled : bytes ≡ spell_touch v before a pc

touch_in_its : (v : Version) (before : Before) (bytes : List ℕ) (a : Touch) → TouchIn v
    → bytes ≡ spell_touch One before a None → IsIn v before bytes a None
touch_in_its One before bytes a fits is = record { good = refl; spelled = is }
touch_in_its Two before bytes a fits is = absurd fits
touch_in_its Three before bytes a fits is = absurd fits
touch_in_its Four before bytes a fits is = absurd fits

short_touch_in_its : (v : Version) (size : ℕ) (before : Before) (bytes : List ℕ) (a : Touch)
    → ShortTouchIn size v → bytes ≡ spell_short_touch before.last a → IsIn v before bytes a None
unfolding spell_touch
short_touch_in_its One size before bytes a fits is = absurd fits
short_touch_in_its Two size before bytes a fits is = record { good = refl; spelled = is }
short_touch_in_its Three size before bytes a fits is = absurd fits
short_touch_in_its Four size before bytes a fits is = absurd fits

sited_touch_in_its : (v : Version) (size : ℕ) (before : Before) (bytes : List ℕ) (a : Touch)
    (pc : ℕ) → SitedTouchIn size v → pc < 2 ^ 32
    → bytes ≡ spell_touch Three before a (Some pc) → IsIn v before bytes a (Some pc)
unfolding spell_touch
sited_touch_in_its One size before bytes a pc fits small is = absurd fits
sited_touch_in_its Two size before bytes a pc fits small is = absurd fits
sited_touch_in_its Three size before bytes a pc fits small is = record {
  good = small;
  spelled = is;
}
sited_touch_in_its Four size before bytes a pc fits small is = record {
  good = small;
  spelled = is;
}

short_touch_size : (v : Version) (size : ℕ) → ShortTouchIn size v → is_access_size size ≡ true
short_touch_size One size fits = absurd fits
short_touch_size Two size fits = fits
short_touch_size Three size fits = absurd fits
short_touch_size Four size fits = absurd fits

sited_touch_size : (v : Version) (size : ℕ) → SitedTouchIn size v → is_access_size size ≡ true
sited_touch_size One size fits = absurd fits
sited_touch_size Two size fits = absurd fits
sited_touch_size Three size fits = fits
sited_touch_size Four size fits = fits

-- what an access that is counted was
record WasTouch (p : ReadSoFar) (j : Result (Touch × Option ℕ) TraceFault) (item : TraceRecord)
    : Type 0 where
  sited : Touch × Option ℕ
  judged : j ≡ Ok sited
  is : records.Touch sited.0 sited.1 ≡ item
  there : p.header.first + p.counted < last_position

was_touch : (p : ReadSoFar) (j : Result (Touch × Option ℕ) TraceFault) (item : TraceRecord)
    → touch_counted p j ≡ Ok item → WasTouch p j item
was_touch p (Err fault) item e = absurd cc
was_touch p (Ok sited) item e =
    let g = granted (ltb (p.header.first + p.counted) last_position) _ _ item e in
    let low : ltb (p.header.first + p.counted) last_position ≡ true = g.0 in
    record {
      sited = sited;
      judged = refl;
      is = same_Ok (records.Touch sited.0 sited.1) item g.1;
      there = grind (arith, nat_tests);
    }

-- what an access without a pc was
record WasPlain (p : ReadSoFar) (j : Result Touch TraceFault) (item : TraceRecord) : Type 0 where
  touch : Touch
  judged : j ≡ Ok touch
  is : records.Touch touch None ≡ item
  there : p.header.first + p.counted < last_position

was_plain : (p : ReadSoFar) (j : Result Touch TraceFault) (item : TraceRecord)
    → touch_counted p (without_pc j) ≡ Ok item → WasPlain p j item
was_plain p (Err fault) item e = absurd cc
was_plain p (Ok a) item e =
    let w = was_touch p (Ok (a, None)) item e in
    let same : (a, None) ≡ w.sited = same_Ok (a, None) w.sited w.judged in
    record {
      touch = a;
      judged = refl;
      is = ap (λ (s : Touch × Option ℕ). records.Touch s.0 s.1) same ∙ w.is;
      there = w.there;
    }

-- what an end that is counted was
record WasEnd (p : ReadSoFar) (bytes : List ℕ) (j : Result Outcome TraceFault)
    (item : TraceRecord) : Type 0 where
  outcome : Outcome
  judged : j ≡ Ok outcome
  is : records.End (end_with p.version bytes outcome) ≡ item
  there : number_at w64 17 bytes ≡ p.counted
  fits : is_whole (number_at w64 17 bytes) (whole_at p.version bytes) ≡ true

was_end : (p : ReadSoFar) (bytes : List ℕ) (j : Result Outcome TraceFault) (item : TraceRecord)
    → end_counted p bytes j ≡ Ok item
    → WasEnd p bytes j item
was_end p bytes (Err fault) item e = absurd cc
was_end p bytes (Ok o) item e =
    let g = granted (eqb (number_at w64 17 bytes) p.counted) _ _ item e in
    let fits = granted (is_whole (number_at w64 17 bytes) (whole_at p.version bytes)) _ _ item g.1 in
    record {
      outcome = o;
      judged = refl;
      is = same_Ok (records.End (end_with p.version bytes o)) item fits.1;
      there = eqb-true (number_at w64 17 bytes) p.counted g.0;
      fits = fits.0;
    }

alloc_is : (p : ReadSoFar) (bytes : List ℕ)
    → IsGoodRecord p.version p.header.harts (alloc_at bytes)
    → bytes ≡ spell_record p.version p.before (alloc_at bytes)
    → IsFound p bytes (alloc_at bytes)
unfolding alloc_at
alloc_is p bytes good spelled = record { good = good; there = tt; spelled = spelled }

module _ (p : ReadSoFar) (bytes : List ℕ) (item : TraceRecord) (few : p.header.harts ≤ 256)
    (low : IsGoodBefore p.before) (is : IsBytes bytes)
  where
    tagged_found : (tag : Tag) → IsTagAt p.version (get_or bytes 0 0) tag → length bytes
        ≡ extent_of p.version tag bytes
        → tagged_judged p tag bytes ≡ Ok item
        → IsFound p bytes item
    unfolding symbol_judged
    tagged_found (tags.Touch kind) at len e =
        let w = was_plain p (touch_judged kind p.header.harts p.place bytes) item e in
        let f = touch_found kind p.header.harts p.place p.before bytes w.touch few len is at.number
        w.judged in
        let in_its = touch_in_its p.version p.before bytes w.touch at.fits f.1 in
        subst (IsFound p bytes) w.is (record {
          good = (f.0, in_its.good);
          there = w.there;
          spelled = in_its.spelled;
        })
    tagged_found (tags.ShortTouch kind size) at len e =
        let w = was_plain p
        (short_touch_judged kind size p.header.harts p.before.last p.place bytes) item e in
        let f = short_touch_found kind size p.header.harts p.before.last p.place bytes w.touch few
        low.last (short_touch_size p.version size at.fits) len is at.number w.judged in
        let in_its = short_touch_in_its p.version size p.before bytes w.touch at.fits f.1 in
        subst (IsFound p bytes) w.is (record {
          good = (f.0, in_its.good);
          there = w.there;
          spelled = in_its.spelled;
        })
    tagged_found (tags.SitedTouch kind size) at len e =
        let w = was_touch p (sited_touch_judged kind size p.header.harts p.before p.place bytes)
        item e in
        let f = sited_touch_found kind size p.header.harts p.before p.place bytes w.sited few low
        (sited_touch_size p.version size at.fits) len is at.number w.judged in
        let in_its = sited_touch_in_its p.version size p.before bytes f.touch f.pc at.fits f.small
        f.spelled in
        let same : records.Touch f.touch (Some f.pc) ≡ item =
        ap (λ (s : Touch × Option ℕ). records.Touch s.0 s.1) f.is ∙ w.is in
        subst (IsFound p bytes) same (record {
          good = (f.good, in_its.good);
          there = w.there;
          spelled = in_its.spelled;
        })
    tagged_found tags.Alloc at len e =
        let f = alloc_found p.header.harts p.version p.before bytes len is at.number in
        subst (IsFound p bytes) (same_Ok (alloc_at bytes) item e) (alloc_is p bytes f.0 f.1)
    tagged_found tags.Free at len e =
        let f = free_found p.header.harts bytes len is at.number in
        subst (IsFound p bytes) (same_Ok (records.Free (number_at w32 1 bytes)) item e)
        (record { good = f.0; there = tt; spelled = f.1 })
    tagged_found tags.Symbol at len e =
        let kind = symbol_kind_of (get_or bytes 1 0) in
        let f = symbol_found p.version p.header.harts p.before p.place bytes item len is at.number
        kind refl e p
        in
        record { good = f.0; there = f.2; spelled = f.1 }
    tagged_found tags.End at len e =
        let w = was_end p bytes (outcome_judged p.header.harts p.place bytes) item e in
        let f = ending_found p.version p.header.harts p.place bytes w.outcome len is at.number
        w.judged w.fits in
        subst (IsFound p bytes) w.is (record { good = f.0; there = w.there; spelled = f.1 })

    found_if : (tag : Option Tag) → tag_of p.version (get_or bytes 0 0) ≡ tag → length bytes
        ≡ extent_if p.version tag bytes
        → tagged_if p tag bytes ≡ Ok item
        → IsFound p bytes item
    found_if None known len e = absurd cc
    found_if (Some tag) known len e = tagged_found tag
        (tag_found p.version (get_or bytes 0 0) tag known) len e

    pub record_found : length bytes ≡ record_extent p.version bytes → record_judged p bytes
        ≡ Ok item → IsFound p bytes item
    unfolding record_extent record_judged
    record_found len e = found_if (tag_of p.version (get_or bytes 0 0)) refl len e
