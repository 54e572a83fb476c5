-- What follows from how files are on their way, by the definitions alone.
use Rattle.std.proofs.Common.{◌≡◌, ◌≢◌, ℕ, zero, suc, List, [], ◌∷◌, ◌++◌, take, length, Option}
use Rattle.std.proofs.Common.{Some, None, true, false, refl, sym, ap, ◌∙◌, subst, inl, inr, map}
use Rattle.std.proofs.Common.{arith}
use Rattle.std.specs.Prelude.{IsSome}
use Rattle.std.proofs.lemmas.Bool.{cases_Bool}
use Rattle.std.proofs.lemmas.List.{append-nil}
use Rattle.std.proofs.Math.Seq.{take-append_seam, take-length}
use Rattle.std.proofs.lemmas.Slice.Eq.{bytes_eq-Decides}
use Rattle.std.specs.Option.{option_or}
use Rattle.std.specs.Str.{bytes_eq}
use Rattle.shelf.specs.Shelf.{Outside, Files, Known, Goes, HasRead}
use Rattle.shelf.specs.declared.shelf.ShelfError.{ShelfError}
use Rattle.shelf.specs.declared.shelf.ShelfError.TheVariants.{Failed}
use Rattle.shelf.specs.Files.{Output, bytes_for, IsFrontOf, BegunInOrder, AreWhole, GoOn}
use Rattle.shelf.specs.Files.{HasCauseAmong, RoseAmong, AreCut, AreWritten}
use Rattle.shelf.specs.OneFile.{Waiting, AddsUp, IsBegun, Sunk, Holds, HoldsFront}
use Rattle.shelf.specs.OnTheirWay.{names_of, IsNew, AreBegun, AreSunk, IsOutputs, outputs_with}
use Rattle.shelf.specs.Laws.Known.{goes_map, reads_alone, writes_both}

-- ---- meanings that may be unknown

pub goes_then : {A : Type 0} (P Q R : A → A → Type 0) (a b c : Option A)
    → ((x y z : A) → P x y → Q y z → R x z) → Goes a b P
    → Goes b c Q → Goes a c R
goes_then P Q R None None None f p q = tt
goes_then P Q R None None (Some z) f p q = absurd q
goes_then P Q R None (Some y) c f p q = absurd p
goes_then P Q R (Some x) None c f p q = absurd p
goes_then P Q R (Some x) (Some y) None f p q = absurd q
goes_then P Q R (Some x) (Some y) (Some z) f p q = f x y z p q

pub goes_by : {A : Type 0} (P Q : A → A → Type 0) (a b : Option A)
    → ((x y : A) → a ≡ Some x → b ≡ Some y → P x y → Q x y) → Goes a b P
    → Goes a b Q
goes_by P Q None None f p = tt
goes_by P Q None (Some y) f p = absurd p
goes_by P Q (Some x) None f p = absurd p
goes_by P Q (Some x) (Some y) f p = f x y refl refl p

pub goes_at : {A : Type 0} (P : A → A → Type 0) (a b : Option A) (x y : A) → a ≡ Some x → b ≡ Some y
    → Goes a b P → P x y
goes_at {A = A} P a b x y i j goes =
    let so : Goes (Some x) (Some y) P = subst (λ (o : Option A). Goes (Some x) o P) j
    (subst (λ (o : Option A). Goes o b P) i goes) in
    so

pub stated_at : {A : Type 0} (P : A → Type 0) (a : Option A) (x : A) → a ≡ Some x → Known a P → P x
stated_at {A = A} P a x i stated = let so : Known (Some x) P = subst (λ (o : Option A). Known o P) i stated
    in so

-- ---- one file

begun_where_known : (sink : Waiting) (pushed : List ℕ) (written : Option Files)
    → Known written (AddsUp sink pushed)
    → (files : Files) → written ≡ Some files → IsSome (files sink.name)
begun_where_known sink pushed None sunk files stated = cc
begun_where_known sink pushed (Some before) sunk files stated = cc (stated, sunk.1)

-- the name of a sink is begun
pub Sunk-begun : (sink : Waiting) (pushed : List ℕ) (outside : Outside) → Sunk sink pushed outside
    → IsBegun sink.name outside
Sunk-begun sink pushed outside sunk = begun_where_known sink pushed outside.written sunk

front_where_known : (sink : Waiting) (pushed : List ℕ) (written : Option Files)
    → Known written (AddsUp sink pushed)
    → Known written (λ files. (k : ℕ) × (files sink.name ≡ Some (take k pushed)))
front_where_known sink pushed None sunk = tt
front_where_known sink pushed (Some files) sunk =
    let front : take (length sunk.0) pushed ≡ sunk.0 =
    ap (take (length sunk.0)) (sym sunk.2) ∙ take-append_seam sunk.0 sink.kept in
    (length sunk.0, sunk.1 ∙ ap (λ x. Some x) (sym front))

-- the file of the name is a front of what was put
pub Sunk-front : (sink : Waiting) (pushed : List ℕ) (outside : Outside) → Sunk sink pushed outside
    → HoldsFront sink.name pushed outside
Sunk-front sink pushed outside sunk = front_where_known sink pushed outside.written sunk

-- ---- files by their names

abbrev pub output_names : List Output → List (List ℕ)
output_names outputs = map (λ o. o.name) outputs

-- each name that is none of these is as it was
abbrev pub Others : List (List ℕ) → Files → Files → Type 0
Others names old new = (name : List ℕ) → IsNew name names → new name ≡ old name

here : (o : Output) (rest : List Output) (name : List ℕ) → bytes_eq o.name name ≡ true
    → bytes_for (o ∷ rest) name ≡ Some o.bytes
here o rest name is = rw is refl

later : (o : Output) (rest : List Output) (name : List ℕ) → bytes_eq o.name name ≡ false
    → bytes_for (o ∷ rest) name ≡ bytes_for rest name
later o rest name is = rw is refl

same_name : (a b : List ℕ) → bytes_eq a b ≡ true → a ≡ b
same_name a b is = (bytes_eq-Decides a b).0 is

other_name : (a b : List ℕ) → bytes_eq a b ≡ false → a ≢ b
other_name a b is = λ e. let both : true ≡ false = sym ((bytes_eq-Decides a b).1 e) ∙ is in cc

-- what is to be shown of the bytes for a name is shown where it is the first, and where it is not
at_name : (P : Option (List ℕ) → Type 0) (o : Output) (rest : List Output) (name : List ℕ)
    → (o.name ≡ name → P (Some o.bytes)) → (o.name ≢ name → P (bytes_for rest name))
    → P (bytes_for (o ∷ rest) name)
at_name P o rest name h k =
    elim (cases_Bool (bytes_eq o.name name)) [
      | inl is ↦ subst P (sym (here o rest name is)) (h (same_name o.name name is))
      | inr is ↦ subst P (sym (later o rest name is)) (k (other_name o.name name is))
    ]

-- ---- whole files

abbrev pub AreHeld : List Output → Outside → Type 0
AreHeld [] outside = Unit {0}
AreHeld (o ∷ outputs) outside = Holds o.name o.bytes outside × AreHeld outputs outside

whole_name : (outputs : List Output) (now : Outside) (name : List ℕ) (b n : Files)
    → now.written ≡ Some n → AreHeld outputs now
    → (IsNew name (output_names outputs) → n name ≡ b name)
    → n name ≡ option_or (bytes_for outputs name) (b name)
whole_name [] now name b n stated held others = others tt
whole_name (o ∷ outputs) now name b n stated held others =
    at_name (λ (x : Option (List ℕ)). n name ≡ option_or x (b name)) o outputs name
    (λ is. let holds : n o.name ≡ Some o.bytes = stated_at (λ (f : Files). f o.name ≡ Some o.bytes)
    now.written n stated held.0 in subst
    (λ (x : List ℕ). n x ≡ Some o.bytes) is holds)
    (λ other. whole_name outputs now name b n stated held.1 (λ new. others (other, new)))

pub held_whole : (outputs : List Output) (before now : Outside)
    → Goes before.written now.written (Others (output_names outputs))
    → AreHeld outputs now
    → Goes before.written now.written (AreWhole outputs)
held_whole outputs before now goes held =
    goes_by (Others (output_names outputs)) (AreWhole outputs) before.written now.written
    (λ b n i j others name. whole_name outputs now name b n j held (others name)) goes

-- ---- files of which a front stands

abbrev pub HaveFronts : List Output → Files → Type 0
HaveFronts [] now = Unit {0}
HaveFronts (o ∷ outputs) now = ((k : ℕ) × (now o.name ≡ Some (take k o.bytes)))
    × HaveFronts outputs now

pub front_name : (outputs : List Output) (name : List ℕ) (b n : Files) → HaveFronts outputs n
    → (IsNew name (output_names outputs) → n name ≡ b name)
    → IsFrontOf (bytes_for outputs name) (b name) (n name)
front_name [] name b n fronts others = others tt
front_name (o ∷ outputs) name b n fronts others =
    at_name (λ (x : Option (List ℕ)). IsFrontOf x (b name) (n name)) o outputs name
    (λ is. subst (λ (x : List ℕ). IsFrontOf (Some o.bytes) (b x) (n x)) is fronts.0)
    (λ other. front_name outputs name b n fronts.1 (λ new. others (other, new)))

-- all of them are begun
pub all_begun : (outputs : List Output) (b n : Files) → HaveFronts outputs n
    → Others (output_names outputs) b n → BegunInOrder outputs b n
all_begun outputs b n fronts others = (
  length outputs,
  λ name. rw (take-length outputs) (front_name outputs name b n fronts (others name)),
)

-- none of them is
pub none_begun : (outputs : List Output) (b n : Files) → ((name : List ℕ) → n name ≡ b name)
    → BegunInOrder outputs b n
none_begun outputs b n same = (0, same)

none_of : (k : ℕ) (outputs : List Output) (name : List ℕ) → bytes_for outputs name ≡ None
    → bytes_for (take k outputs) name ≡ None
none_of zero outputs name none = refl
none_of (suc k) [] name none = refl
none_of (suc k) (o ∷ os) name none =
    elim (cases_Bool (bytes_eq o.name name)) [
      | inl is ↦ let both : Some o.bytes ≡ None = sym (here o os name is) ∙ none in cc
      | inr is ↦
          later o (take k os) name is ∙ none_of k os name (sym (later o os name is) ∙ none)
    ]

-- a name that is none of theirs is as it was
pub BegunInOrder-others : (outputs : List Output) (b n : Files) → BegunInOrder outputs b n
    → (name : List ℕ) → bytes_for outputs name ≡ None → n name ≡ b name
BegunInOrder-others outputs b n begun name none =
    subst (λ (x : Option (List ℕ)). IsFrontOf x (b name) (n name))
    (none_of begun.0 outputs name none) (begun.1 name)

-- ---- more bytes, and more files

take_within : (k : ℕ) (xs ys : List ℕ) → (j : ℕ) × (take k xs ≡ take j (xs ++ ys))
take_within zero [] ys = (0, refl)
take_within zero (x ∷ xs) ys = (0, refl)
take_within (suc k) [] ys = (0, refl)
take_within (suc k) (x ∷ xs) ys = let r = take_within k xs ys
    in (suc r.0, ap (λ (l : List ℕ). x ∷ l) r.1)

front_longer : (xs ys : List ℕ) (before now : Option (List ℕ)) → IsFrontOf (Some xs) before now
    → IsFrontOf (Some (xs ++ ys)) before now
front_longer xs ys before now front = let r = take_within front.0 xs ys
    in (r.0, front.1 ∙ ap (λ (l : List ℕ). Some l) r.1)

-- the first one goes on, and so do the others
first_longer : (o l : Output) (os ls : List Output) (name more : List ℕ)
    (before now : Option (List ℕ)) → l.name ≡ o.name → l.bytes ≡ o.bytes ++ more
    → (IsFrontOf (bytes_for os name) before now → IsFrontOf (bytes_for ls name) before now)
    → IsFrontOf (bytes_for (o ∷ os) name) before now
    → IsFrontOf (bytes_for (l ∷ ls) name) before now
first_longer o l os ls name more before now named longer rest front =
    elim (cases_Bool (bytes_eq o.name name)) [
      | inl is ↦
          let short : IsFrontOf (Some o.bytes) before now =
          subst (λ (x : Option (List ℕ)). IsFrontOf x before now) (here o os name is) front in
          let long : IsFrontOf (Some l.bytes) before now =
          subst (λ (x : List ℕ). IsFrontOf (Some x) before now) (sym longer)
          (front_longer o.bytes more before now short) in
          subst (λ (x : Option (List ℕ)). IsFrontOf x before now)
          (sym (here l ls name (ap (λ (x : List ℕ). bytes_eq x name) named ∙ is)))
          long
      | inr is ↦
          subst (λ (x : Option (List ℕ)). IsFrontOf x before now)
          (sym (later l ls name (ap (λ (x : List ℕ). bytes_eq x name) named ∙ is)))
          (rest (subst (λ (x : Option (List ℕ)). IsFrontOf x before now) (later o os name is) front))
    ]

-- of the longer ones as many are begun as of these, which are all that there are at most
fronts_longer : (begun : ℕ) (outputs longer : List Output) → GoOn outputs longer
    → (m : ℕ) × ((name : List ℕ) (before now : Option (List ℕ))
    → IsFrontOf (bytes_for (take begun outputs) name) before now
    → IsFrontOf (bytes_for (take m longer) name) before now)
fronts_longer zero outputs longer on = (0, λ name before now front. front)
fronts_longer (suc k) [] longer on = (0, λ name before now front. front)
fronts_longer (suc k) (o ∷ os) [] on = absurd on
fronts_longer (suc k) (o ∷ os) (l ∷ ls) on =
    let rest = fronts_longer k os ls on.2 in (
      suc rest.0,
      λ name before now. first_longer o l (take k os) (take rest.0 ls) name on.1.0 before now on.0
          on.1.1 (rest.1 name before now),
    )

begun_longer : (outputs longer : List Output) (b n : Files) → GoOn outputs longer
    → BegunInOrder outputs b n → BegunInOrder longer b n
begun_longer outputs longer b n on begun = let r = fronts_longer begun.0 outputs longer on
    in (r.0, λ name. r.1 name (b name) (n name) (begun.1 name))

rose_longer : (outputs longer : List Output) (f g : List ℕ → ℕ) → GoOn outputs longer
    → RoseAmong outputs f g → RoseAmong longer f g
rose_longer [] longer f g on rose = absurd rose
rose_longer (o ∷ os) [] f g on rose = absurd on
rose_longer (o ∷ os) (l ∷ ls) f g on (inl rose) = inl (rw on.0 rose)
rose_longer (o ∷ os) (l ∷ ls) f g on (inr rose) = inr (rose_longer os ls f g on.2 rose)

pub cause_longer : (outputs longer : List Output) (f g : List ℕ → ℕ) (e : ShelfError)
    → GoOn outputs longer
    → HasCauseAmong outputs f g e → HasCauseAmong longer f g e
cause_longer outputs longer f g e on cause = record {
  later = cause.later;
  failed = λ i. rose_longer outputs longer f g on
      (cause.failed i);
  quiet = cause.quiet;
}

-- what is cut is also cut where more bytes and more files were to come
pub AreCut-longer : (outputs longer : List Output) (before now : Outside) (e : ShelfError)
    → GoOn outputs longer
    → AreCut outputs before now e → AreCut longer before now e
AreCut-longer outputs longer before now e on cut = record {
  begun = goes_map before.written now.written (λ b n. begun_longer outputs longer b n on) cut.begun;
  cause = cause_longer outputs longer before.write_faults now.write_faults e on cut.cause;
  only = cut.only;
}

-- ---- files on their way

pub sunk_names : (files : List Waiting) (outputs : List Output) (outside : Outside)
    → AreSunk files outputs outside
    → output_names outputs ≡ names_of files
sunk_names [] [] outside sunk = refl
sunk_names [] (o ∷ outputs) outside sunk = absurd sunk
sunk_names (f ∷ files) [] outside sunk = absurd sunk
sunk_names (f ∷ files) (o ∷ outputs) outside sunk =
    cc (sunk.0, sunk_names files outputs outside sunk.2)

pub sunk_begun : (files : List Waiting) (outputs : List Output) (outside : Outside)
    → AreSunk files outputs outside
    → AreBegun (names_of files) outside
sunk_begun [] outputs outside sunk = tt
sunk_begun (f ∷ files) [] outside sunk = absurd sunk
sunk_begun (f ∷ files) (o ∷ outputs) outside sunk =
    (Sunk-begun f o.bytes outside sunk.1, sunk_begun files outputs outside sunk.2)

-- files on their way are begun
pub IsOutputs-begun : (files : List Waiting) (outputs : List Output) (before now : Outside)
    → IsOutputs files outputs before now
    → AreBegun (names_of files) now
IsOutputs-begun files outputs before now on = sunk_begun files outputs now on.sunk

pub front_at : (name bytes : List ℕ) (now : Outside) (n : Files) → now.written ≡ Some n
    → HoldsFront name bytes now → (k : ℕ) × (n name ≡ Some (take k bytes))
front_at name bytes now n stated front =
    stated_at (λ (f : Files). (k : ℕ) × (f name ≡ Some (take k bytes))) now.written n stated front

pub sunk_fronts : (files : List Waiting) (outputs : List Output) (now : Outside) (n : Files)
    → now.written ≡ Some n → AreSunk files outputs now → HaveFronts outputs n
sunk_fronts files [] now n stated sunk = tt
sunk_fronts [] (o ∷ outputs) now n stated sunk = absurd sunk
sunk_fronts (f ∷ files) (o ∷ outputs) now n stated sunk = (
  front_at o.name o.bytes now n stated
      (subst (λ (m : List ℕ). HoldsFront m o.bytes now) sunk.0
      (Sunk-front f o.bytes now sunk.1)),
  sunk_fronts files outputs now n stated sunk.2,
)

-- where another call gives up, what was put stands but for what waits
pub IsOutputs-cut : (files : List Waiting) (outputs : List Output) (before now : Outside)
    (e : ShelfError) → e ≢ Failed
    → IsOutputs files outputs before now → AreCut outputs before now e
IsOutputs-cut files outputs before now e quiet on =
    record {
      begun = goes_by (Others (names_of files)) (BegunInOrder outputs) before.written now.written
          (λ b n i j others. all_begun outputs b n (sunk_fronts files outputs now n j on.sunk)
          (subst (λ (l : List (List ℕ)). Others l b n) (sym (sunk_names files outputs now on.sunk))
          others)) on.others;
      cause = record {
        later = λ n. let same : now.write_faults n ≡ before.write_faults n =
            ap (λ (h : List ℕ → ℕ). h n) on.faults in
            omega arith;
        failed = λ i. absurd (quiet i);
        quiet = λ i. on.faults;
      };
      only = on.only;
    }

-- ---- files on their way, while others are read

sunk_still : (files : List Waiting) (outputs : List Output) (a b : Outside) → b.written ≡ a.written
    → AreSunk files outputs a
    → AreSunk files outputs b
sunk_still [] [] a b same sunk = tt
sunk_still [] (o ∷ outputs) a b same sunk = absurd sunk
sunk_still (f ∷ files) [] a b same sunk = absurd sunk
sunk_still (f ∷ files) (o ∷ outputs) a b same sunk = (
  sunk.0,
  subst (λ (w : Option Files). Known w (AddsUp f o.bytes)) (sym same) sunk.1,
  sunk_still files outputs a b same sunk.2,
)

-- a call that reads leaves them on their way
pub IsOutputs-read : (files : List Waiting) (outputs : List Output) (before mid now : Outside)
    → HasRead mid now
    → IsOutputs files outputs before mid → IsOutputs files outputs before now
IsOutputs-read files outputs before mid now read on = record {
  sunk = sunk_still files outputs mid now read.only.written on.sunk;
  others = subst (λ (w : Option Files). Goes before.written w
      (λ old new. (name : List ℕ) → IsNew name (names_of files) → new name ≡ old name))
      (sym read.only.written) on.others;
  faults = read.only.write_faults ∙ on.faults;
  only = writes_both before mid now on.only (reads_alone mid now read);
}

-- ---- files that are written behind some reading

-- what was written is written since before it too
pub AreWritten-behind : (outputs : List Output) (a m b : Outside) → HasRead a m
    → AreWritten outputs m b
    → AreWritten outputs a b
AreWritten-behind outputs a m b read written = record {
  whole = subst (λ (w : Option Files). Goes w b.written (AreWhole outputs)) read.only.written
      written.whole;
  faults = written.faults ∙ read.only.write_faults;
  only = writes_both a m b (reads_alone a m read) written.only;
}

-- and so is what was cut
pub AreCut-behind : (outputs : List Output) (a m b : Outside) (e : ShelfError) → HasRead a m
    → AreCut outputs m b e
    → AreCut outputs a b e
AreCut-behind outputs a m b e read cut = record {
  begun = subst (λ (w : Option Files). Goes w b.written (BegunInOrder outputs)) read.only.written
      cut.begun;
  cause = subst (λ (f : List ℕ → ℕ). HasCauseAmong outputs f b.write_faults e)
      read.only.write_faults cut.cause;
  only = writes_both a m b (reads_alone a m read) cut.only;
}

-- ---- outputs that go on

pub GoOn-same : (outputs : List Output) → GoOn outputs outputs
GoOn-same [] = tt
GoOn-same (o ∷ outputs) = (refl, ([], sym (append-nil o.bytes)), GoOn-same outputs)

pub GoOn-with : (outputs : List Output) (place : ℕ) (bytes : List ℕ)
    → GoOn outputs (outputs_with outputs place bytes)
GoOn-with [] place bytes = tt
GoOn-with (o ∷ outputs) zero bytes = (refl, (bytes, refl), GoOn-same outputs)
GoOn-with (o ∷ outputs) (suc place) bytes =
    (refl, ([], sym (append-nil o.bytes)), GoOn-with outputs place bytes)

-- no bytes more change nothing
pub outputs_with-nothing : (outputs : List Output) (place : ℕ)
    → outputs_with outputs place [] ≡ outputs
outputs_with-nothing [] place = refl
outputs_with-nothing (o ∷ outputs) zero =
    ap (λ (b : List ℕ). let l : List Output = record { name = o.name; bytes = b } ∷ outputs in l)
    (append-nil o.bytes)
outputs_with-nothing (o ∷ outputs) (suc place) = ap (λ (l : List Output). o ∷ l)
    (outputs_with-nothing outputs place)
