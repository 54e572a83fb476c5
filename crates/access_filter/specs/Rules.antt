-- What the stamps of words and regions say. Word q has the 4 bytes at 4 * q, and the stamp
-- of region r stands at place r + 1.
use Rattle.std.specs.Prelude.{◌≡◌, ◌≢◌, ℕ, ◌+◌, ◌*◌, ◌/◌, ◌<◌, ◌≤◌, ◌⊎◌, ◌^◌, Bool, true, false, not, ◌&&◌, ◌||◌}
use Rattle.std.specs.Prelude.{◌==◌, nat_le}
use Rattle.std.specs.List.{list_any}
use Rattle.base.specs.Touch.{Touch, is_write}
use Rattle.sharing_rules.specs.AccessLists.{AccessList}
use Rattle.sharing_rules.specs.Filtered.{is_near, is_redundant}
use Rattle.access_filter.specs.Stamps.{IsVisited, blank_stamp, number_of}
use Rattle.access_filter.specs.declared.stamp.Stamp.{Stamp}

-- a word's stamp says that an access of it is redundant, where its region has this number
abbrev pub is_covered : Stamp → ℕ → Touch → Bool
is_covered m n a =
    ((m.last == a.hart) && (m.writes || not (is_write a.kind))) && (number_of m == n)

abbrev pub finds_redundant : ℕ → (ℕ → Stamp) → (ℕ → Stamp) → Touch → Bool
finds_redundant k words regions a =
    is_covered (words (a.addr / 4)) (number_of (regions (a.addr / 2 ^ k + 1))) a

-- the place of the stamp of a word's region
abbrev pub place_of : ℕ → ℕ → ℕ
place_of k q = q * 4 / 2 ^ k + 1

-- Since the last access that was kept of a word, by a hart, no other hart came near.
pub record IsFresh (k : ℕ) (words regions : ℕ → Stamp) (q : ℕ) : Type 0 where
  pub some : (words q).last ≢ 256
  pub number : number_of (words q) ≡ number_of (regions (place_of k q))

-- What holds of the stamps after so many accesses: of a fresh word the hart came last to its region,
-- and fresh words that are near have one hart.
pub record AreFit (k n : ℕ) (words regions : ℕ → Stamp) : Type 0 where
  pub last : (q : ℕ) → IsFresh k words regions q
      → (regions (place_of k q)).last ≡ (words q).last
  pub agree : (q r : ℕ) → IsFresh k words regions q → IsFresh k words regions r
      → place_of k q ≤ place_of k r + 1 → place_of k r ≤ place_of k q + 1
      → (words q).last ≡ (words r).last
  pub low : (q : ℕ) → number_of (words q) ≤ number_of (regions (place_of k q))
  pub few : (p : ℕ) → number_of (regions p) ≤ n
  pub seen : (q p : ℕ) → (words q).last ≢ 256 → p ≤ place_of k q + 1 → place_of k q ≤ p + 1
      → (regions p).last ≢ 256

-- an access of word q, and one near the region at place p
abbrev pub is_of_word : ℕ → Touch → Bool
is_of_word q c = c.addr / 4 == q

abbrev pub is_beside : ℕ → ℕ → Touch → Bool
is_beside k p c = nat_le (c.addr / 2 ^ k) p && nat_le p (c.addr / 2 ^ k + 2)

-- What the stamps say of a list: which accesses would be redundant next, and which words and regions
-- are new.
pub record HasStamps (k : ℕ) (t : AccessList) (words regions : ℕ → Stamp) : Type 0 where
  pub answers : (a : Touch) → a.hart < 256
      → finds_redundant k words regions a ≡ is_redundant k t a
  pub new_words : (q : ℕ) → (words q).last ≡ 256 → list_any (is_of_word q) t ≡ false
  pub new_regions : (p : ℕ) → (regions p).last ≡ 256 → list_any (is_beside k p) t ≡ false

-- What an access that is kept makes of the stamps, of word q and region r.
pub record IsKept (q r : ℕ) (a : Touch) (words regions newWords newRegions : ℕ → Stamp) : Type 0 where
  pub last : (newWords q).last ≡ a.hart
  pub writes : (newWords q).writes ≡ is_write a.kind
  pub number : number_of (newWords q) ≡ number_of (newRegions (r + 1))
  pub others : (p : ℕ) → p ≢ q → newWords p ≡ words p
  pub inside : (p : ℕ) → r ≤ p → p ≤ r + 2 → IsVisited a.hart (regions p) (newRegions p)
  pub outside : (p : ℕ) → (p < r) ⊎ (r + 2 < p) → newRegions p ≡ regions p

-- one of the regions at an access has a blank stamp, its own or one beside it
pub record HasBlankBeside (regions : ℕ → Stamp) (r : ℕ) : Type 0 where
  pub place : ℕ
  pub above : 0 < place
  pub low : r ≤ place
  pub high : place ≤ r + 2
  pub blank : regions place ≡ blank_stamp

-- no access is of another's word
abbrev pub IsNewWord : AccessList → Touch → Type 0
IsNewWord t a = list_any (is_of_word (a.addr / 4)) t ≡ false

-- no access came near one of the regions that an access comes near
pub record HasNewRegion (k : ℕ) (t : AccessList) (a : Touch) : Type 0 where
  pub addr : ℕ
  pub near : is_near k a.addr addr ≡ true
  pub new : list_any (λ c. is_near k c.addr addr) t ≡ false
