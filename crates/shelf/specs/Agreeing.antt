-- Which files agree with what reads have given, and what these reads show of a file.
use Rattle.std.specs.Prelude.{◌≡◌, ◌↔◌, ◌<◌, ◌≤◌, ℕ, List, [], ◌∷◌, ◌++◌, length, take, drop}
use Rattle.shelf.specs.Fetch.{IsFront}
use Rattle.shelf.specs.Shelf.{Given}

-- A file agrees with a read: it has these bytes from the place on, and it ends there if there was
-- room and none were given.
pub record Agrees (file : List ℕ) (read : Given) : Type 0 where
  pub bytes : read.bytes ≡ take (length read.bytes) (drop read.at file)
  pub ends : length read.bytes ≡ 0 → 0 < read.room → length file ≤ read.at

-- it agrees with each of them
abbrev pub AgreesWith : List ℕ → List Given → Type 0
AgreesWith file [] = Unit {0}
AgreesWith file (read ∷ reads) = Agrees file read × AgreesWith file reads

-- each of them is of this name
abbrev pub AreOf : List ℕ → List Given → Type 0
AreOf name [] = Unit {0}
AreOf name (read ∷ reads) = (read.name ≡ name) × AreOf name reads

-- All reads since then are of this name. There is a file that agrees with them, and P holds of each
-- that does.
pub record HasShown (name : List ℕ) (P : List ℕ → Type 0) (before now : List Given) : Type 0 where
  pub reads : List Given
  pub since : now ≡ reads ++ before
  pub named : AreOf name reads
  pub file : List ℕ
  pub agrees : AgreesWith file reads
  pub each : (other : List ℕ) → AgreesWith other reads → P other

-- All reads since then are of this name, and they gave its first bytes, these: the files that agree
-- with them are those that begin so.
pub record HasReadFront (name bytes : List ℕ) (before now : List Given) : Type 0 where
  pub reads : List Given
  pub since : now ≡ reads ++ before
  pub named : AreOf name reads
  pub files : (file : List ℕ) → AgreesWith file reads ↔ IsFront file bytes
