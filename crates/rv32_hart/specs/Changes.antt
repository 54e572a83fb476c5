-- What changes a memory, and what it leaves.
use Rattle.std.specs.Prelude.{◌≡◌, ℕ, ◌+◌, ◌-◌, ◌/◌, Bool, true, ◌&&◌, ◌||◌, List, length, nat_le}
use Rattle.std.specs.Prelude.{nat_lt, if◌then◌else◌, slice_index}
use Rattle.rv32_hart.specs.Bytes.{with_number}
use Rattle.rv32_hart.specs.Space.{Space, byte_at, page_at, size_of, is_among}
use Rattle.rv32_hart.specs.declared.page.Page.{Page}

-- memory after a store that is not refused
abbrev pub stored : Space → ℕ → ℕ → ℕ → Space
stored m a size value = record m { bytes = with_number m.bytes (a - m.base) size value }

-- the page of an address holds one of the len addresses from at on
abbrev pub touches : ℕ → ℕ → ℕ → Bool
touches at len a = nat_lt 0 len && nat_le (at / 4096) (a / 4096) && nat_le (a / 4096)
    ((at + len - 1) / 4096)

-- a mapped page, which keeps or gains rights
abbrev pub granted : Bool → Bool → Page → Page
granted w x p = record {
  mapped = true;
  writable = p.writable || w;
  executable = p.executable || x;
}

-- new is old with the pages of a range mapped
pub record Maps (old new : Space) (at len : ℕ) (w x : Bool) : Type 0 where
  pub base : new.base ≡ old.base
  pub bytes : new.bytes ≡ old.bytes
  pub pages : (a : ℕ) → page_at new a ≡ (if touches at len a then granted w x (page_at old a) else
      page_at old a)

-- new is old with a content from an address on
pub record Fills (old new : Space) (at : ℕ) (content : List ℕ) : Type 0 where
  pub base : new.base ≡ old.base
  pub size : size_of new ≡ size_of old
  pub pages : new.pages ≡ old.pages
  pub bytes : (a : ℕ) → byte_at new a ≡ (if is_among at (length content) a then slice_index content
      (a - at) else byte_at old a)
