-- What caches have seen of the records of a trace.
use Rattle.std.specs.Prelude.{ℕ, Bool, false, List}
use Rattle.base.specs.Touch.{Touch}
use Rattle.trace_format.specs.Rules.{touch_in, touches_in}
use Rattle.trace_format.specs.declared.record.TraceRecord.{TraceRecord}
use Rattle.trace_format.specs.declared.record.TraceRecord.TheVariants as records
use Rattle.trace_passes.specs.Accounts.{Account, BeginsAt, CameBy}
use Rattle.base.specs.Shapes.{CacheShape}
use Rattle.finite_cache.specs.CacheState.{CacheState, StandsFor, wants_memory}
use Rattle.finite_cache.specs.Texts.{caches_text}

-- how they account for the accesses of a trace: with a shape
abbrev pub cache_account : Account CacheState Touch CacheShape
cache_account = record {
  listed = touch_in;
  StandsFor = StandsFor;
  position = λ k. k.position;
  setting = λ k. k.shape;
}

-- from what was kept first, what is kept now came by these records
abbrev pub HasSeen : CacheState → CacheState → List TraceRecord → Type 0
HasSeen = CameBy cache_account

-- its first access has this position
abbrev pub begins_at : CacheState → ℕ → Type 0
begins_at = BeginsAt cache_account

-- whether a record may want memory: an access that may
abbrev pub record_wants_memory : CacheState → TraceRecord → Bool
record_wants_memory k (records.Touch a pc) = wants_memory k.shape k.parts a
record_wants_memory k _ = false

-- the text of caches of a shape that saw some records
unfoldable pub caches_of_records : CacheShape → List TraceRecord → List ℕ
caches_of_records k items = caches_text k (touches_in items)
