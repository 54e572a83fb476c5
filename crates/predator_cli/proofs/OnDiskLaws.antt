-- What is said of a call says of contents that agree with all that was read.
use Rattle.std.proofs.Common.{◌≡◌, ℕ, Bool, Option, Some, None, if◌then◌else◌, subst, sym}
use Rattle.command_io.specs.Numbers.{number_of}
use Rattle.command_io.specs.Statuses.{Kind, done, kind_of, refusal}
use Rattle.command_io.specs.declared.status.Status.{Status}
use Rattle.command_line.specs.Words.{Demand}
use Rattle.disk_shelf.specs.Disk.{Seen, disk_outside, fresh_outside, held_by}
use Rattle.predator_cli.specs.Answer.{answer_of}
use Rattle.predator_cli.specs.Meets.{EndsAs, Meets, Prints}
use Rattle.predator_cli.specs.OnDisk.{AgreesWith, EndsWith, IsAnswered}
use Rattle.predator_cli.specs.Written.{StandsWhole, Writes}
use Rattle.shelf.specs.Files.{AreWhole}
use Rattle.shelf.specs.Shelf.{Adds, Files, Goes, Outside, Known}

-- what is known holds of these contents
passed_of : (P : Files → Type 0) (files : Files) (seen : Seen) → AgreesWith files seen
    → Known (held_by files seen.done) P
    → P files
passed_of P files seen agree stated =
    let so : Known (Some files) P =
    subst (λ (b : Bool). Known (if b then Some files else None) P) agree stated in
    so

module _ (asked : Option Demand) (files : Files) (seen : Seen) (s : Status) where
  abbrev now : Outside
  now = disk_outside files seen

  abbrev fresh : Outside
  fresh = fresh_outside files

  answered : Meets asked fresh now s → AgreesWith files seen → kind_of s ≡ done
      → IsAnswered asked files seen s
  answered meets agree kind =
      let at_done : Known now.held (λ fs. EndsAs asked fs fresh now done s) =
      subst (λ (k : Kind). Known now.held (λ fs. EndsAs asked fs fresh now k s)) kind meets.ends in
      let printed : Prints asked fresh now done s =
      subst (λ (k : Kind). Prints asked fresh now k s) kind meets.prints in
      let whole : StandsWhole asked now.held fresh.written now.written =
      subst (λ (k : Kind). Writes asked fresh now k) kind meets.writes in
      record {
        status = passed_of (λ fs. (answer_of asked fs).status ≡ s) files seen agree at_done;
        text = passed_of (λ fs. Adds fresh.printed now.printed (answer_of asked fs).text) files seen
            agree printed;
        outputs = passed_of (λ fs. Goes fresh.written now.written
            (AreWhole (answer_of asked fs).outputs)) files seen agree whole;
      }

  refused : Meets asked fresh now s → AgreesWith files seen → kind_of s ≡ refusal
      → (answer_of asked files).status ≡ s
  refused meets agree kind =
      let at_refusal : Known now.held (λ fs. EndsAs asked fs fresh now refusal s) =
      subst (λ (k : Kind). Known now.held (λ fs. EndsAs asked fs fresh now k s)) kind meets.ends in
      passed_of (λ fs. (answer_of asked fs).status ≡ s) files seen agree at_refusal

  -- how a call ends that began with nothing done
  pub ends_with : (old : Outside) (code : ℕ) → old ≡ fresh → code ≡ number_of s
      → Meets asked old now s → EndsWith asked files seen code
  ends_with old code is number call =
      let meets : Meets asked fresh now s =
      subst (λ (o : Outside). Meets asked o now s) is call in
      record {
        status = s;
        number = number;
        meets = meets;
        done = answered meets;
        refused = refused meets;
      }

-- what comes before a call and behind it, and does nothing to the files
pub meets_between : (asked : Option Demand) (files : Files) (a b c d : Seen) (s : Status) → b ≡ a
    → d ≡ c
    → Meets asked (disk_outside files b) (disk_outside files c) s
    → Meets asked (disk_outside files a) (disk_outside files d) s
meets_between asked files a b c d s first last meets =
    subst (λ (x : Seen). Meets asked (disk_outside files x) (disk_outside files d) s) first
    (subst (λ (x : Seen). Meets asked (disk_outside files b) (disk_outside files x) s) (sym last)
    meets)
