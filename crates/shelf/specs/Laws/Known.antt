-- What holds of a known meaning, of one that goes over into another, and of faults that rose.
use Rattle.std.proofs.Common.{◌≡◌, ℕ, ◌≤◌, List, [], ◌∷◌, ◌++◌, Option, Some, None, arith, length}
use Rattle.std.proofs.Common.{◌∙◌, ap, append_assoc, refl, subst, sym}
use Rattle.std.proofs.Math.Seq.{take-length}
use Rattle.shelf.specs.Shelf.{Known, Narrows, Goes, Rose, Adds, AddsFront, Given, Grows, HasRead}
use Rattle.shelf.specs.Shelf.{OnlyReads, OnlyWrites, OnlyWritesAndReads, Outside}

-- what holds of each value holds where it is known
pub if_known : {A : Type 0} {P : A → Type 0} (o : Option A) → ((x : A) → P x) → Known o P
if_known None p = tt
if_known (Some x) p = p x

pub known_map : {A : Type 0} {P Q : A → Type 0} (o : Option A) → ((x : A) → P x → Q x) → Known o P
    → Known o Q
known_map None f p = tt
known_map (Some x) f p = f x p

pub known_both : {A : Type 0} {P Q R : A → Type 0} (o : Option A) → ((x : A) → P x → Q x → R x)
    → Known o P → Known o Q → Known o R
known_both None f p q = tt
known_both (Some x) f p q = f x p q

-- ---- a meaning of which less is known

pub narrows_same : {A : Type 0} (o : Option A) → Narrows o o
narrows_same None = tt
narrows_same (Some x) = refl

-- what held where it was known holds where it is known still
pub known_still : {A : Type 0} (P : A → Type 0) (o n : Option A) → Narrows o n → Known o P → Known n P
known_still P o None narrow p = tt
known_still {A = A} P o (Some x) narrow p = subst (λ (h : Option A). Known h P) narrow p

pub known_same : {A : Type 0} (P : A → Type 0) (o n : Option A) → n ≡ o → Known o P → Known n P
known_same {A = A} P o n same p = subst (λ (h : Option A). Known h P) (sym same) p

pub narrows_then : {A : Type 0} (a b c : Option A) → Narrows a b → Narrows b c → Narrows a c
narrows_then {A = A} a b c first then = known_still (λ (x : A). a ≡ Some x) b c then first

pub narrows_by : {A : Type 0} (a b : Option A) → b ≡ a → Narrows a b
narrows_by {A = A} a b same = subst (λ (o : Option A). Narrows o b) same (narrows_same b)

-- ---- more is given

pub grows_same : (a b : List Given) → b ≡ a → Grows a b
grows_same a b same = ([], same)

-- one read more was given
pub grows_one : {g : Given} {mid : List Given} (a b : List Given) → b ≡ g ∷ mid → mid ≡ a
    → Grows a b
grows_one {g = g} {mid = mid} a b is same = (g ∷ [], is ∙ ap (λ (l : List Given). g ∷ l) same)

pub grows_then : (a b c : List Given) → Grows a b → Grows b c → Grows a c
grows_then a b c first then = (
  then.0 ++ first.0,
  then.1 ∙ ap (λ (l : List Given). then.0 ++ l) first.1 ∙ sym (append_assoc then.0 first.0 a),
)

-- ---- one reading after another

pub only_both : (a b c : Outside) → OnlyReads a b → OnlyReads b c → OnlyReads a c
only_both a b c first then = record {
  held = narrows_then a.held b.held c.held first.held then.held;
  written = then.written ∙ first.written;
  printed = then.printed ∙ first.printed;
  write_faults = then.write_faults ∙ first.write_faults;
  print_faults = then.print_faults ∙ first.print_faults;
  given = grows_then a.given b.given c.given first.given then.given;
}

-- nothing was read
pub only_none : (a : Outside) → OnlyReads a a
only_none a = record {
  held = narrows_same a.held;
  written = refl;
  printed = refl;
  write_faults = refl;
  print_faults = refl;
  given = grows_same a.given a.given refl;
}

pub read_none : (a : Outside) → HasRead a a
read_none a = record { only = only_none a; faults = refl }

pub read_both : (a b c : Outside) → HasRead a b → HasRead b c → HasRead a c
read_both a b c first then = record {
  only = only_both a b c first.only then.only;
  faults = then.faults ∙ first.faults;
}

-- ---- writes, and reads between them

pub writes_alone : (a b : Outside) → OnlyWrites a b → OnlyWritesAndReads a b
writes_alone a b only = record {
  held = narrows_by a.held b.held only.held;
  printed = only.printed;
  read_faults = only.read_faults;
  print_faults = only.print_faults;
  given = grows_same a.given b.given only.given;
}

pub reads_alone : (a b : Outside) → HasRead a b → OnlyWritesAndReads a b
reads_alone a b read = record {
  held = read.only.held;
  printed = read.only.printed;
  read_faults = read.faults;
  print_faults = read.only.print_faults;
  given = read.only.given;
}

pub writes_both : (a b c : Outside) → OnlyWritesAndReads a b → OnlyWritesAndReads b c
    → OnlyWritesAndReads a c
writes_both a b c first then = record {
  held = narrows_then a.held b.held c.held first.held then.held;
  printed = then.printed ∙ first.printed;
  read_faults = then.read_faults ∙ first.read_faults;
  print_faults = then.print_faults ∙ first.print_faults;
  given = grows_then a.given b.given c.given first.given then.given;
}

-- ---- a meaning that goes over into another

-- a meaning that did not change
pub goes_same : {A : Type 0} (P : A → A → Type 0) (o : Option A) → ((x : A) → P x x) → Goes o o P
goes_same P None p = tt
goes_same P (Some x) p = p x

pub goes_map : {A : Type 0} {P Q : A → A → Type 0} (o n : Option A) → ((x y : A) → P x y → Q x y)
    → Goes o n P → Goes o n Q
goes_map None None f p = tt
goes_map None (Some y) f p = p
goes_map (Some x) None f p = p
goes_map (Some x) (Some y) f p = f x y p

pub rose_later : (before now after : ℕ) → Rose before now → now ≤ after → Rose before after
rose_later before now after rose later = omega arith

-- the whole is a front
pub whole_prefix : (old new : Option (List ℕ)) (text : List ℕ) → Adds old new text
    → AddsFront old new text
whole_prefix old new text added = (length text, rw (take-length text) added)
