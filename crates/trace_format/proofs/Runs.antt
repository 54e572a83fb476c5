-- Reading one access after the other.
use Rattle.std.proofs.Common.{◌≡◌, ℕ, ◌+◌, ◌≤◌, ◌<◌, List, [], ◌∷◌, ◌++◌, length, get_or, take}
use Rattle.std.proofs.Common.{drop, Option, Some, None, Ok, refl, sym, ap, subst}
use Rattle.std.proofs.Common.{◌∙◌}
use Rattle.std.proofs.Common.{append_assoc, arith}
use Rattle.std.specs.Prelude.{IfSome}
use Rattle.std.proofs.lemmas.List.{get_or-take, length-take-le}
use Rattle.base.specs.Touch.{Touch}
use Rattle.trace_format.specs.declared.read_so_far.ReadSoFar.{ReadSoFar}
use Rattle.trace_format.specs.declared.record.TraceRecord.{TraceRecord}
use Rattle.trace_format.specs.declared.record.TraceRecord.TheVariants as records
use Rattle.trace_format.specs.declared.tag.Tag.{Tag}
use Rattle.trace_format.specs.Judging.{extent_if, extent_of, record_extent, record_judged}
use Rattle.trace_format.specs.Judging.{tagged_if, tagged_judged}
use Rattle.trace_format.specs.Reading.{Reading, part_at, progress_after, read_on, record_read}
use Rattle.trace_format.specs.Laws.Reading.{then_read}
use Rattle.trace_format.specs.Rules.{longest_trace}
use Rattle.trace_format.specs.Tags.{tag_of}
use Rattle.trace_format.specs.ReaderStates.{HasAccess, ReadsBut, reading_at}
use Rattle.trace_format.proofs.ReadParts.{one_part, part_is_some}

extent_is : (p : ReadSoFar) (bytes : List ℕ) (tag : Tag) → tag_of p.version (get_or bytes 0 0)
    ≡ Some tag
    → record_extent p.version bytes ≡ extent_of p.version tag bytes
unfolding record_extent
extent_is p bytes tag is = ap (λ (t : Option Tag). extent_if p.version t bytes) is

judged_is : (p : ReadSoFar) (bytes : List ℕ) (tag : Tag) → tag_of p.version (get_or bytes 0 0)
    ≡ Some tag
    → record_judged p bytes ≡ tagged_judged p tag bytes
unfolding record_judged
judged_is p bytes tag is = ap (λ (t : Option Tag). tagged_if p t bytes) is

module _ (p : ReadSoFar) (bytes part : List ℕ) (tag : Tag) (n : ℕ)
    (tagged : tag_of p.version (get_or bytes 0 0) ≡ Some tag)
    (cut : part ≡ take n bytes) (is : n ≡ extent_of p.version tag bytes) (le : n ≤ length bytes) where
  extent : n ≡ record_extent p.version bytes
  extent = is ∙ sym (extent_is p bytes tag tagged)

  tagged_too : tag_of p.version (get_or part 0 0) ≡ Some tag
  tagged_too =
      let some : 0 < n = omega (arith, part_is_some (Some p) None bytes n extent) in
      ap (λ (xs : List ℕ). tag_of p.version (get_or xs 0 0)) cut
      ∙ ap (tag_of p.version) (get_or-take n bytes 0 0 some) ∙ tagged

  pub access_there : (a : Touch) (pc : Option ℕ) → tagged_judged p tag part ≡ Ok (records.Touch a pc)
      → HasAccess p bytes a pc n
  access_there a pc judged = record {
    extent = extent;
    there = le;
    judged = ap (record_judged p) (sym cut) ∙ judged_is p part tag tagged_too ∙ judged;
  }

  pub ahead_there : (a : Touch) (pc : Option ℕ) (m : ℕ)
      → (tagged_judged p tag part ≡ Ok (records.Touch a pc)) × (m ≡ n)
      → HasAccess p bytes a pc m
  ahead_there a pc m is =
      subst (λ (k : ℕ). HasAccess p bytes a pc k) (sym is.1) (access_there a pc is.0)

-- what holds of what there is
pub if_some : {A : Type 0} (r : Option A) (P Q : A → Type 0) → ((x : A) → P x → Q x)
    → IfSome r P → IfSome r Q
if_some None P Q f p = tt
if_some (Some x) P Q f p = f x p

-- an access more
pub access_is_read : (start : Reading) (bytes : List ℕ) (before : List TraceRecord)
    (p q : ReadSoFar) (rest behind : List ℕ)
    (items after : List TraceRecord) → ReadsBut start bytes (reading_at p) rest before items
    → (a : Touch) (pc : Option ℕ) (n : ℕ) → HasAccess p rest a pc n → p.place + n ≤ longest_trace
    → q ≡ progress_after p (records.Touch a pc) n → behind ≡ drop n rest → after
    ≡ items ++ records.Touch a pc ∷ []
    → ReadsBut start bytes (reading_at q) behind before after
access_is_read start bytes before p q rest behind items after to a pc n has low next cut added =
    let more : List TraceRecord = records.Touch a pc ∷ [] in
    let later : List TraceRecord × Reading = read_on (reading_at q) behind in
    let part : part_at (reading_at p) (Some p) None (take n rest) ≡ (more, reading_at q) =
    ap (record_read (reading_at p) p (length (take n rest))) has.judged
    ∙ ap (λ (m : ℕ). (more, reading_at (progress_after p (records.Touch a pc) m)))
    (length-take-le n rest has.there)
    ∙ ap (λ (r : ReadSoFar). (more, reading_at r)) (sym next) in
    let step : read_on (reading_at p) rest ≡ (more ++ later.0, later.1) = one_part
    (Some p) None None rest n refl has.extent has.there low
    ∙ ap (λ (now : List TraceRecord × Reading). then_read now (drop n rest)) part
    ∙ ap (λ (xs : List ℕ). then_read (more, reading_at q) xs) (sym cut) in
    record {
      since = to.since ++ more;
      records = added ∙ ap (λ (xs : List TraceRecord). xs ++ more) to.records
          ∙ append_assoc before to.since more;
      reading = to.reading ∙ ap (λ (r : List TraceRecord × Reading). (to.since ++ r.0, r.1)) step
          ∙ ap (λ (xs : List TraceRecord). (xs, later.1))
          (sym (append_assoc to.since more later.0));
    }
