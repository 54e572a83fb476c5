-- How many bytes an end has, and how many accesses it says there were before the list was filtered.
use Rattle.std.proofs.Common.{◌≡◌, ℕ, ◌^◌, ◌≤◌, true, List, length, Option, Some, None, refl}
use Rattle.std.proofs.Common.{sym, ap, arith}
use Rattle.std.proofs.lemmas.Bool.{and_parts, leb-true}
use Rattle.std.proofs.lemmas.Bool.Decides.{nat_tests}
use Rattle.std.proofs.lemmas.Nat.{from_le_bytes-to_le_bytes_8}
use Rattle.base.specs.declared.ending.Outcome.{Outcome}
use Rattle.base.specs.declared.ending.Outcome.TheVariants.{Exit, Budget, Deadlock, Trap}
use Rattle.base.specs.declared.ending.Outcome.TheVariants.{Part}
use Rattle.trace_format.specs.declared.record.Version.{Version}
use Rattle.trace_format.specs.declared.record.Version.TheVariants.{One, Two, Three, Four}
use Rattle.trace_format.specs.Judging.{end_extent, is_whole, whole_at}
use Rattle.trace_format.specs.Rules.{IsGoodWhole}
use Rattle.trace_format.specs.Spelling.{spell_ending}

pub end_long : (v : Version) → 25 ≤ end_extent v
end_long One = omega arith
end_long Two = omega arith
end_long Three = omega arith
end_long Four = omega arith

pub ending_length : (v : Version) (o : Outcome) (steps accesses : ℕ) (whole : Option ℕ)
    → length (spell_ending v (record {
      outcome = o;
      steps = steps;
      accesses = accesses;
      whole = whole;
    })) ≡ end_extent v
unfolding spell_ending
ending_length One (Exit code) steps accesses whole = refl
ending_length One Budget steps accesses whole = refl
ending_length One Deadlock steps accesses whole = refl
ending_length One (Trap hart pc cause) steps accesses whole = refl
ending_length One Part steps accesses whole = refl
ending_length Two (Exit code) steps accesses whole = refl
ending_length Two Budget steps accesses whole = refl
ending_length Two Deadlock steps accesses whole = refl
ending_length Two (Trap hart pc cause) steps accesses whole = refl
ending_length Two Part steps accesses whole = refl
ending_length Three (Exit code) steps accesses whole = refl
ending_length Three Budget steps accesses whole = refl
ending_length Three Deadlock steps accesses whole = refl
ending_length Three (Trap hart pc cause) steps accesses whole = refl
ending_length Three Part steps accesses whole = refl
ending_length Four (Exit code) steps accesses whole = refl
ending_length Four Budget steps accesses whole = refl
ending_length Four Deadlock steps accesses whole = refl
ending_length Four (Trap hart pc cause) steps accesses whole = refl
ending_length Four Part steps accesses whole = refl

-- what is spelled of it in version 4 is read again
whole_four : (o : Outcome) (steps accesses whole : ℕ) → whole ≤ 2 ^ 40
    → whole_at Four (spell_ending Four (record {
      outcome = o;
      steps = steps;
      accesses = accesses;
      whole = Some whole;
    })) ≡ Some whole
unfolding spell_ending
whole_four (Exit code) steps accesses whole few =
    ap (λ (n : ℕ). Some n) (from_le_bytes-to_le_bytes_8 whole (omega arith))
whole_four Budget steps accesses whole few =
    ap (λ (n : ℕ). Some n) (from_le_bytes-to_le_bytes_8 whole (omega arith))
whole_four Deadlock steps accesses whole few =
    ap (λ (n : ℕ). Some n) (from_le_bytes-to_le_bytes_8 whole (omega arith))
whole_four (Trap hart pc cause) steps accesses whole few =
    ap (λ (n : ℕ). Some n) (from_le_bytes-to_le_bytes_8 whole (omega arith))
whole_four Part steps accesses whole few =
    ap (λ (n : ℕ). Some n) (from_le_bytes-to_le_bytes_8 whole (omega arith))

pub whole_of : (v : Version) (o : Outcome) (steps accesses : ℕ) (whole : Option ℕ)
    → IsGoodWhole v accesses whole
    → whole_at v (spell_ending v (record {
      outcome = o;
      steps = steps;
      accesses = accesses;
      whole = whole;
    })) ≡ whole
whole_of One o steps accesses whole good = sym good
whole_of Two o steps accesses whole good = sym good
whole_of Three o steps accesses whole good = sym good
whole_of Four o steps accesses (Some whole) good = whole_four o steps accesses whole good.1
whole_of Four o steps accesses None good = absurd good

pub whole_fits : (v : Version) (accesses : ℕ) (whole : Option ℕ) → IsGoodWhole v accesses whole
    → is_whole accesses whole ≡ true
whole_fits v accesses None good = refl
whole_fits Four accesses (Some whole) good = grind (arith, nat_tests, good.0, good.1)
whole_fits One accesses (Some whole) good = absurd cc
whole_fits Two accesses (Some whole) good = absurd cc
whole_fits Three accesses (Some whole) good = absurd cc

pub whole_found : (v : Version) (bytes : List ℕ) (accesses : ℕ)
    → is_whole accesses (whole_at v bytes) ≡ true → IsGoodWhole v accesses (whole_at v bytes)
whole_found One bytes accesses fits = refl
whole_found Two bytes accesses fits = refl
whole_found Three bytes accesses fits = refl
whole_found Four bytes accesses fits =
    let both = and_parts _ _ fits in (leb-true _ _ both.0, leb-true _ _ both.1)
