-- Lists whose elements may each stand behind those before it, and lists that rise.
use Rattle.std.proofs.Common.{◌≡◌, Bool, true, false, List, [], ◌∷◌, ◌++◌, length, map, refl, sym}
use Rattle.std.proofs.Common.{ap, ◌∙◌, subst, inl, inr, append_assoc, append-nil}
use Rattle.std.proofs.lemmas.Bool.{cases_Bool, and_from, or_left, or_right}
use Rattle.std.proofs.lemmas.Map.Keys.{IsDistinct-tail}
use Rattle.std.specs.Prelude.{filter, slice_get, Some}
use Rattle.std.specs.List.{IsDistinct, list_all, list_any}
use Rattle.sharing_rules.specs.Members.{IsRising, Member}
use Rattle.sharing_rules.specs.Laws.Kinds.{Member-append, append-Member_right}
use Rattle.sharing_rules.specs.Laws.Lists.{Member-filter, all_at, all_from_members}
use Rattle.saved_state.specs.Reading.{AllInTurn}

-- elements that may stand where the list is cut before them
pub in_turn-from_cuts : {X : Type 0} (P : List X → X → Type 0) (xs before : List X)
    → ((front back : List X) (x : X) → xs ≡ front ++ x ∷ back → P (before ++ front) x)
    → AllInTurn P before xs
in_turn-from_cuts P [] before each = tt
in_turn-from_cuts {X = X} P (x ∷ xs) before each = (
  subst (λ (ys : List X). P ys x) (append-nil before) (each [] xs x refl),
  in_turn-from_cuts P xs (before ++ x ∷ []) (λ front back y cut.
      subst (λ (ys : List X). P ys y) (sym (append_assoc before (x ∷ []) front))
      (each (x ∷ front) back y (ap (λ (ys : List X). x ∷ ys) cut))),
)

pub in_turn-append : {X : Type 0} (P : List X → X → Type 0) (xs ys before : List X)
    → AllInTurn P before xs → AllInTurn P (before ++ xs) ys → AllInTurn P before (xs ++ ys)
in_turn-append {X = X} P [] ys before all more =
    subst (λ (zs : List X). AllInTurn P zs ys) (append-nil before) more
in_turn-append {X = X} P (x ∷ xs) ys before all more = (
  all.0,
  in_turn-append P xs ys (before ++ x ∷ []) all.1
      (subst (λ (zs : List X). AllInTurn P zs ys) (sym (append_assoc before (x ∷ []) xs)) more),
)

-- where a list is cut there is an element
pub cut-Member : {X : Type 0} (xs front back : List X) (x : X) → xs ≡ front ++ x ∷ back
    → Member x xs
cut-Member {X = X} xs front back x cut = subst (λ (ys : List X). Member x ys) (sym cut)
    (append-Member_right front (x ∷ back) x (inl refl))

cut-front : {X : Type 0} (front back : List X) (x y : X) → Member y front
    → Member y (front ++ x ∷ back)
cut-front [] back x y m = absurd m
cut-front (z ∷ front) back x y m = elim m [
  | inl is ↦ inl is
  | inr later ↦ inr (cut-front front back x y later)
]

pub cut-Member_front : {X : Type 0} (xs front back : List X) (x y : X) → xs ≡ front ++ x ∷ back
    → Member y front → Member y xs
cut-Member_front {X = X} xs front back x y cut m = subst (λ (ys : List X). Member y ys) (sym cut)
    (cut-front front back x y m)

pub cut-get : {X : Type 0} (front back : List X) (x : X)
    → slice_get (front ++ x ∷ back) (length front) ≡ Some x
cut-get [] back x = refl
cut-get (y ∷ front) back x = cut-get front back x

cut-behind : {X : Type 0} (lt : X → X → Bool) (front back : List X) (x y : X)
    → IsRising lt (front ++ x ∷ back) → Member y front → lt y x ≡ true
cut-behind lt [] back x y rising m = absurd m
cut-behind lt (z ∷ front) back x y rising m = elim m [
  | inl is ↦ subst (λ w. lt w x ≡ true) (sym is)
      (all_at (λ w. lt z w ≡ true) (front ++ x ∷ back) x rising.0
      (append-Member_right front (x ∷ back) x (inl refl)))
  | inr later ↦ cut-behind lt front back x y rising.1 later
]

-- where a rising list is cut, what stands before comes before
pub cut-rises : {X : Type 0} (lt : X → X → Bool) (xs front back : List X) (x y : X)
    → xs ≡ front ++ x ∷ back → IsRising lt xs → Member y front → lt y x ≡ true
cut-rises {X = X} lt xs front back x y cut rising m =
    cut-behind lt front back x y (subst (λ (ys : List X). IsRising lt ys) cut rising) m

pub all_pass : {X : Type 0} (p : X → Bool) (xs : List X)
    → ((y : X) → Member y xs → p y ≡ true) → list_all p xs ≡ true
all_pass p [] each = refl
all_pass p (x ∷ xs) each = and_from (p x) (list_all p xs) (each x (inl refl))
    (all_pass p xs (λ y m. each y (inr m)))

pub one_passes : {X : Type 0} (p : X → Bool) (xs : List X) (x : X) → Member x xs → p x ≡ true
    → list_any p xs ≡ true
one_passes p [] x m passes = absurd m
one_passes p (y ∷ xs) x m passes = elim m [
  | inl is ↦ or_left (p y) (list_any p xs) (ap p (sym is) ∙ passes)
  | inr later ↦ or_right (p y) (list_any p xs) (one_passes p xs x later passes)
]

pub none_passes : {X : Type 0} (p : X → Bool) (xs : List X)
    → ((y : X) → Member y xs → p y ≡ false) → list_any p xs ≡ false
none_passes p [] each = refl
none_passes p (x ∷ xs) each = rw (each x (inl refl)) (none_passes p xs (λ y m. each y (inr m)))

pub Member-map : {X Y : Type 0} (f : X → Y) (xs : List X) (y : Y) → Member y (map f xs)
    → (x : X) × Member x xs × (y ≡ f x)
Member-map f [] y m = absurd m
Member-map f (x ∷ xs) y m = elim m [
  | inl is ↦ (x, inl refl, is)
  | inr later ↦ let w = Member-map f xs y later in (w.0, inr w.1, w.2)
]

pub map-Member : {X Y : Type 0} (f : X → Y) (xs : List X) (x : X) → Member x xs
    → Member (f x) (map f xs)
map-Member f [] x m = absurd m
map-Member f (y ∷ xs) x m = elim m [
  | inl is ↦ inl (ap f is)
  | inr later ↦ inr (map-Member f xs x later)
]

-- one rising list behind another
pub rising-append : {X : Type 0} (lt : X → X → Bool) (xs ys : List X) → IsRising lt xs
    → IsRising lt ys → ((x y : X) → Member x xs → Member y ys → lt x y ≡ true)
    → IsRising lt (xs ++ ys)
rising-append lt [] ys one other between = other
rising-append lt (x ∷ xs) ys one other between = (
  all_from_members (λ z. lt x z ≡ true) (xs ++ ys)
      (λ z m. elim (Member-append xs ys z m) [
        | inl a ↦ all_at (λ w. lt x w ≡ true) xs z one.0 a
        | inr b ↦ between x z (inl refl) b
      ]),
  rising-append lt xs ys one.1 other (λ w z m n. between w z (inr m) n),
)

pub rising-map : {X Y : Type 0} (f : X → Y) (lt : X → X → Bool) (comes : Y → Y → Bool)
    → ((x y : X) → lt x y ≡ true → comes (f x) (f y) ≡ true) → (xs : List X) → IsRising lt xs
    → IsRising comes (map f xs)
rising-map f lt comes keeps [] rising = tt
rising-map f lt comes keeps (x ∷ xs) rising = (
  all_from_members (λ z. comes (f x) z ≡ true) (map f xs)
      (λ z m. let w = Member-map f xs z m in
      subst (λ y. comes (f x) y ≡ true) (sym w.2)
      (keeps x w.0 (all_at (λ y. lt x y ≡ true) xs w.0 rising.0 w.1))),
  rising-map f lt comes keeps xs rising.1,
)

pub rising-filter : {X : Type 0} (lt : X → X → Bool) (p : X → Bool) (xs : List X) → IsRising lt xs
    → IsRising lt (filter p xs)
rising-filter lt p [] rising = tt
rising-filter lt p (x ∷ xs) rising =
    elim (cases_Bool (p x)) [
      | inl keeps ↦ rw keeps (
        all_from_members (λ z. lt x z ≡ true) (filter p xs)
            (λ z m. all_at (λ y. lt x y ≡ true) xs z rising.0 (Member-filter p xs z m).0),
        rising-filter lt p xs rising.1,
      )
      | inr drops ↦ rw drops (rising-filter lt p xs rising.1)
    ]

pub distinct-right : {X : Type 0} (e : X → X → Bool) (xs ys : List X) → IsDistinct e (xs ++ ys)
    → IsDistinct e ys
distinct-right e [] ys apart = apart
distinct-right e (x ∷ xs) ys apart = distinct-right e xs ys (IsDistinct-tail e x (xs ++ ys) apart)
