-- Memory as a map from addresses to bytes and rights.
use Rattle.std.specs.Prelude.{◌≡◌, ℕ, zero, suc, ◌+◌, ◌-◌, ◌*◌, ◌/◌, ◌%◌, ◌<◌, ◌≤◌, Bool, false}
use Rattle.std.specs.Prelude.{◌&&◌, IsTrue, List, [], ◌∷◌, length, nat_lt, nat_le, if◌then◌else◌}
use Rattle.std.specs.Prelude.{slice_index, slice_index_or}
use Rattle.std.specs.List.{All}
use Rattle.rv32_hart.specs.declared.page.Page.{Page}

-- bytes from base on, and the rights of each page of 4096 of them
pub record Space : Type 0 where
  pub base : ℕ
  pub bytes : List ℕ
  pub pages : List Page

abbrev pub space : ℕ → List ℕ → List Page → Space
space base bytes pages = record { base = base; bytes = bytes; pages = pages }

-- a page that is not mapped
abbrev pub no_page : Page
no_page = record { mapped = false; writable = false; executable = false }

-- only a mapped page has rights
abbrev pub IsRightful : Page → Type 0
IsRightful p = (IsTrue p.writable → IsTrue p.mapped) × (IsTrue p.executable → IsTrue p.mapped)

-- what is true of each memory: whole pages below 0xfffff000
pub record IsSpace (m : Space) : Type 0 where
  pub aligned : m.base % 4096 ≡ 0
  pub whole : length m.bytes ≡ 4096 * length m.pages
  pub room : m.base + length m.bytes ≤ 0xfffff000
  pub rights : All IsRightful m.pages

-- how many bytes there are
abbrev pub size_of : Space → ℕ
size_of m = length m.bytes

-- the rights of an address's page
abbrev pub page_at : Space → ℕ → Page
page_at m a = if nat_lt a m.base then no_page else slice_index_or m.pages ((a - m.base) / 4096)
    no_page

-- the byte at an address
abbrev pub byte_at : Space → ℕ → ℕ
byte_at m a = if nat_lt a m.base then 0 else slice_index m.bytes (a - m.base)

-- the n bytes from an address on
abbrev pub bytes_at : Space → ℕ → ℕ → List ℕ
bytes_at m a zero = []
bytes_at m a (suc n) = byte_at m a ∷ bytes_at m (a + 1) n

-- the number that the n bytes from an address on make, the low byte first
abbrev pub number_at : Space → ℕ → ℕ → ℕ
number_at m a zero = 0
number_at m a (suc n) = byte_at m a + 256 * number_at m (a + 1) n

-- a memory of size bytes from base on, all zero, and no page mapped
pub record IsFresh (m : Space) (base size : ℕ) : Type 0 where
  pub place : m.base ≡ base
  pub extent : size_of m ≡ size
  pub bytes : (a : ℕ) → byte_at m a ≡ 0
  pub pages : (a : ℕ) → page_at m a ≡ no_page

-- the len addresses from at on lie in the memory
abbrev pub IsRange : Space → ℕ → ℕ → Type 0
IsRange m at len = (m.base ≤ at) × (at + len ≤ m.base + size_of m)

-- an address is one of the len from at on
abbrev pub is_among : ℕ → ℕ → ℕ → Bool
is_among at len a = nat_le at a && nat_lt a (at + len)

-- each of the len addresses from at on is in a mapped page
abbrev pub AllMapped : Space → ℕ → ℕ → Type 0
AllMapped m at len = (a : ℕ) → at ≤ a → a < at + len → IsTrue (page_at m a).mapped

-- one of them is in no mapped page
abbrev pub SomeUnmapped : Space → ℕ → ℕ → Type 0
SomeUnmapped m at len = (a : ℕ) × (at ≤ a) × (a < at + len) × ((page_at m a).mapped ≡ false)
