-- What an access is spelled against are numbers of 32 bits.
use Rattle.std.proofs.Common.{ℕ, ◌^◌, ◌<◌, inl, inr, length, Option, Some}
use Rattle.std.proofs.Common.{None, arith}
use Rattle.std.proofs.lemmas.Bool.{cases_lt}
use Rattle.std.proofs.lemmas.List.{get_or_past}
use Rattle.std.proofs.lemmas.List.Elements.{All-get_or, All-replicate, All-set}
use Rattle.trace_format.specs.declared.before.Before.{Before}
use Rattle.trace_format.specs.declared.record.Version.{Version}
use Rattle.trace_format.specs.declared.record.Version.TheVariants.{One, Two, Three, Four}
use Rattle.trace_format.specs.declared.record.TraceRecord.{TraceRecord}
use Rattle.trace_format.specs.declared.record.TraceRecord.TheVariants as records
use Rattle.trace_format.specs.Spelling.{before_after, no_pcs, nothing_before, pc_before}
use Rattle.trace_format.specs.Spelling.{pc_or_zero}
use Rattle.trace_format.specs.Rules.{IsGoodBefore, IsGoodPc, IsGoodRecord}

-- a pc, also of a hart that has none
pub pc_before_low : (before : Before) (hart : ℕ) → IsGoodBefore before
    → pc_before before hart < 2 ^ 32
pc_before_low before hart good =
    elim (cases_lt hart (length before.pcs)) [
      | inl lt ↦ All-get_or (λ pc. pc < 2 ^ 32) before.pcs hart 0 lt good.pcs
      | inr past ↦ rw (get_or_past before.pcs hart 0 past) (omega arith)
    ]

pub nothing_good : IsGoodBefore nothing_before
unfolding no_pcs
nothing_good = record {
  last = omega arith;
  pcs = All-replicate (λ pc. pc < 2 ^ 32) 256 0 (omega arith);
}

pub pc_low : (v : Version) (pc : Option ℕ) → IsGoodPc v pc → pc_or_zero pc < 2 ^ 32
pc_low One None good = omega arith
pc_low Two None good = omega arith
pc_low Three (Some pc) good = good
pc_low Four (Some pc) good = good
pc_low One (Some pc) good = absurd cc
pc_low Two (Some pc) good = absurd cc
pc_low Three None good = absurd good
pc_low Four None good = absurd good

-- behind a good record
pub after_good : (v : Version) (harts : ℕ) (before : Before) (item : TraceRecord)
    → IsGoodBefore before → IsGoodRecord v harts item → IsGoodBefore (before_after before item)
after_good v harts before (records.Touch a pc) low good = record {
  last = good.0.allowed.addr_in_range;
  pcs = All-set (λ pc. pc < 2 ^ 32) before.pcs a.hart (pc_or_zero pc) (pc_low v pc good.1) low.pcs;
}
after_good v harts before (records.Alloc addr size sites) low good = low
after_good v harts before (records.Free addr) low good = low
after_good v harts before (records.Symbol kind addr size name) low good = low
after_good v harts before (records.End e) low good = low
