-- What is known of an object after records of a trace, by each pass over it.
use Rattle.std.specs.Prelude.{◌≡◌, ℕ, ◌⊎◌, nat_lt, List, [], ◌++◌, length, Option, slice_get}
use Rattle.std.specs.Option.{option_map_or}
use Rattle.base.specs.Touch.{Touch}
use Rattle.sharing_rules.specs.AccessLists.{AccessList}
use Rattle.trace_format.specs.Rules.{touch_in, touches_in}
use Rattle.trace_format.specs.declared.record.TraceRecord.{TraceRecord}
use Rattle.trace_format.specs.declared.record.TraceRecord.TheVariants as records
use Rattle.trace_passes.specs.Accounts.{Account, BeginsAt, CameBy}
use Rattle.layout_sweep.specs.Standing.{HasCounted}
use Rattle.layout_sweep.specs.Windows.{BeginsLine}
use Rattle.placement.specs.Plans.{Planned, moved, moved_list}
use Rattle.placement.specs.Recounts.{many_count}
use Rattle.placement.specs.Sought.{blocks_made_at, symbols_named}
use Rattle.placement.specs.Words.{Owned, owned_of}
use Rattle.placement.specs.declared.extent.Extent.{Extent}
use Rattle.placement.specs.declared.finder.Finder.{Finder}
use Rattle.placement.specs.declared.recount.Recount.{Recount}

-- the blocks of records that an address means, none where there is no address
abbrev pub blocks_meant : Option ℕ → List TraceRecord → List Extent
blocks_meant at items = option_map_or (λ a. blocks_made_at a items) at []

-- it seeks the object of a name, which may be an address, and has seen these records
pub record Seeks (name : List ℕ) (at : Option ℕ) (f : Finder) (seen : List TraceRecord) : Type 0
  where
    pub named : f.name.items ≡ name
    pub placed : f.at ≡ at
    -- the first object symbol of the name
    pub symbol : f.symbol ≡ slice_get (symbols_named name seen) 0
    -- the first block at the address, and whether there are more
    pub block : f.block ≡ slice_get (blocks_meant at seen) 0
    pub several : f.several ≡ nat_lt 1 (length (blocks_meant at seen))

-- whatever it sought, it has seen these records since
pub record HasSought (begun now : Finder) (items : List TraceRecord) : Type 0 where
  pub sought : (name : List ℕ) (at : Option ℕ) (seen : List TraceRecord) → Seeks name at begun seen
      → Seeks name at now (seen ++ items)

-- for each list whose owners they were, they are those of the list with the accesses of these records
pub record HasOwned (begun now : Owned) (items : List TraceRecord) : Type 0 where
  pub owned : (t : AccessList) → begun ≡ owned_of begun.extent t
      → now ≡ owned_of begun.extent (t ++ touches_in items)

-- it has counted a list where it is and where its plan moves it
pub record RecountsFor (t : AccessList) (r : Recount) : Type 0 where
  pub position : r.position ≡ length t
  pub before : HasCounted t r.before
  pub after : HasCounted (moved_list r.plan t) r.after
  pub many : r.many ≡ many_count r.size r.plan t

-- an access behind these that is the first write of its line, where it is or where it is moved:
-- only such a one may want memory
abbrev pub BeginsEither : ℕ → Planned → AccessList → Touch → Touch → Type 0
BeginsEither n p t a there = BeginsLine n t a ⊎ BeginsLine n (moved_list p t) there

-- the same of a record
abbrev pub WantsMemory : ℕ → Planned → AccessList → TraceRecord → Type 0
WantsMemory n p t (records.Touch a pc) = BeginsEither n p t a (moved p a)
WantsMemory n p t _ = ⊥

-- one that wants none, by a list that was counted
abbrev pub NeedsNone : Recount → TraceRecord → Type 0
NeedsNone r item = (t : AccessList) × RecountsFor t r × (WantsMemory r.size r.plan t item → ⊥)

-- how a recount accounts for the accesses of a trace: under lines of a size, as its plan moves them
abbrev pub recount_account : Account Recount Touch (ℕ × Planned)
recount_account = record {
  listed = touch_in;
  StandsFor = RecountsFor;
  position = λ r. r.position;
  setting = λ r. (r.size, r.plan);
}

-- from what it was first, it came to what it is by these records
abbrev pub HasRecounted : Recount → Recount → List TraceRecord → Type 0
HasRecounted = CameBy recount_account

-- its first access has this position
abbrev pub begins_at : Recount → ℕ → Type 0
begins_at = BeginsAt recount_account
