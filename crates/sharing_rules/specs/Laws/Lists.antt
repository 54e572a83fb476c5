-- Facts of lists and options that the laws rest on.
use Rattle.base.specs.Touch.{Touch}
use Rattle.sharing_rules.specs.Members.{Member}
use Rattle.sharing_rules.specs.Places.{below}
use Rattle.std.proofs.Common.{Bool, List, None, Option, Some, [], ap, arith, eqb, false, get_or}
use Rattle.std.proofs.Common.{inl, inr, length, length-append, map, refl, subst, suc, sym, take}
use Rattle.std.proofs.Common.{true, zero, ℕ, ◌++◌, ◌+◌, ◌<◌, ◌∙◌, ◌∷◌, ◌≡◌, ◌≢◌, option_to_list}
use Rattle.std.proofs.lemmas.Bool.{cases_Bool, cases_eq, eqb-true, false≢true, or_cases, or_left}
use Rattle.std.proofs.lemmas.Bool.{or_right, and_parts}
use Rattle.std.proofs.lemmas.List.{append-nil, append_assoc, length-append, length-map, map-append}
use Rattle.std.proofs.lemmas.List.{take_more}
use Rattle.std.proofs.lemmas.List.Elements.{All-from_recursion, recursion_from_All}
use Rattle.std.proofs.lemmas.List.Sorted.{All-permutation}
use Rattle.std.proofs.lemmas.Option.{none-some, same_Some, slice_get_read}
use Rattle.std.specs.List.{AllByRecursion, IsDistinct, list_any, list_all, cons_option}
use Rattle.std.specs.List.Sorted.{IsPermutation}
use Rattle.std.specs.Prelude.{filter, filter_map, get_or, slice_get, slice_set, take, ◌⊎◌, is_some}
use Rattle.std.specs.Prelude.{option_map}

pub slice_cases : {X : Type 0} (o : Option X) → (o ≡ None) ⊎ ((x : X) × (o ≡ Some x))
slice_cases None = inl refl
slice_cases (Some x) = inr (x, refl)

pub slice_get-append_left : {X : Type 0} (t s : List X) (i : ℕ) → i < length t
    → slice_get (t ++ s) i ≡ slice_get t i
slice_get-append_left [] s i h = absurd (omega (arith, h))
slice_get-append_left (x ∷ t) s zero h = refl
slice_get-append_left (x ∷ t) s (suc i) h = slice_get-append_left t s i (omega arith)

pub slice_get-push : {X : Type 0} (t : List X) (a : X) → slice_get (t ++ a ∷ []) (length t) ≡ Some a
slice_get-push [] a = refl
slice_get-push (x ∷ t) a = slice_get-push t a

-- a loop's step over a list: at place i stands x
pub take_step : (t : List Touch) (i : ℕ) (x : Touch) → i < length t → x ≡ get_or t i x
    → take (i + 1) t ≡ take i t ++ x ∷ []
take_step t i x l at = take_more t i x l ∙ ap (λ y. take i t ++ y ∷ []) (sym at)

-- an induction by one element more at the end
pub by_push_from : {X : Type 0} (P : List X → Type 0)
    → ((t : List X) (a : X) → P t → P (t ++ a ∷ [])) → (s t : List X) → P s → P (s ++ t)
by_push_from P step s [] h = subst P (sym (append-nil s)) h
by_push_from P step s (a ∷ t) h = subst P (append_assoc s (a ∷ []) t)
    (by_push_from P step (s ++ a ∷ []) t (step s a h))

pub by_push : {X : Type 0} (P : List X → Type 0) → P []
    → ((t : List X) (a : X) → P t → P (t ++ a ∷ [])) → (t : List X) → P t
by_push P none step t = by_push_from P step [] t none

pub map_same : {X : Type 0} (f g : ℕ → X) → ((i : ℕ) → f i ≡ g i) → (xs : List ℕ)
    → map f xs ≡ map g xs
map_same f g h [] = refl
map_same f g h (x ∷ xs) = rw (h x, map_same f g h xs)

pub length-below : (n : ℕ) → length (below n) ≡ n
length-below zero = refl
length-below (suc n) = let e = length-below n in omega (arith, length-append (below n) (n ∷ []))

pub slice_get-map-below : {X : Type 0} (f : ℕ → X) (n i : ℕ) → i < n
    → slice_get (map f (below n)) i ≡ Some (f i)
slice_get-map-below f zero i l = absurd (omega (arith, l))
slice_get-map-below f (suc n) i l =
    let len : length (map f (below n)) ≡ n = length-map (below n) f ∙ length-below n in
    rw (map-append f (below n) (n ∷ []))
    (elim (cases_eq i n) [
      | inl e ↦ ap (slice_get (map f (below n) ++ f n ∷ [])) (e ∙ sym len)
          ∙ slice_get-push (map f (below n)) (f n) ∙ ap (λ k. Some (f k)) (sym e)
      | inr ne ↦ slice_get-append_left (map f (below n)) (f n ∷ []) i (omega arith)
          ∙ slice_get-map-below f n i (omega arith)
    ])

pub same_by_get : {X : Type 0} (xs ys : List X) → ((i : ℕ) → slice_get xs i ≡ slice_get ys i)
    → xs ≡ ys
same_by_get [] [] h = refl
same_by_get [] (y ∷ ys) h = absurd (none-some y (h 0))
same_by_get (x ∷ xs) [] h = absurd (none-some x (sym (h 0)))
same_by_get (x ∷ xs) (y ∷ ys) h = ap (λ z. z ∷ xs) (same_Some x y (h 0))
    ∙ ap (λ zs. y ∷ zs) (same_by_get xs ys (λ i. h (suc i)))

pub get-set_same : {X : Type 0} (xs : List X) (i : ℕ) (x : X) → i < length xs
    → slice_get (slice_set xs i x) i ≡ Some x
get-set_same [] i x h = absurd (omega (arith, h))
get-set_same (y ∷ xs) zero x h = refl
get-set_same (y ∷ xs) (suc i) x h = get-set_same xs i x (omega arith)

pub get-set_other : {X : Type 0} (xs : List X) (i j : ℕ) (x : X) → j ≢ i
    → slice_get (slice_set xs i x) j ≡ slice_get xs j
get-set_other [] i j x other = refl
get-set_other (y ∷ xs) zero zero x other = absurd (other refl)
get-set_other (y ∷ xs) zero (suc j) x other = refl
get-set_other (y ∷ xs) (suc i) zero x other = refl
get-set_other (y ∷ xs) (suc i) (suc j) x other = get-set_other xs i j x (λ e. other (ap suc e))

pub any_get : (p : Touch → Bool) (t : List Touch) (i : ℕ) (b : Touch) → slice_get t i ≡ Some b
    → p b ≡ true → list_any p t ≡ true
any_get p [] i b e h = absurd (none-some b e)
any_get p (x ∷ t) zero b e h = or_left (p x) (list_any p t) (rw (same_Some x b e) h)
any_get p (x ∷ t) (suc i) b e h = or_right _ _ (any_get p t i b e h)

pub all_at : {X : Type 0} (P : X → Type 0) (xs : List X) (z : X) → AllByRecursion P xs → Member z xs
    → P z
all_at P [] z all m = absurd m
all_at P (x ∷ xs) z all m = elim m [
  | inl here ↦ subst P (sym here) all.0
  | inr later ↦
      all_at P xs z all.1 later
]

pub weaker : {X : Type 0} (P Q : X → Type 0) → ((x : X) → P x → Q x) → (xs : List X)
    → AllByRecursion P xs → AllByRecursion Q xs
weaker P Q f [] all = tt
weaker P Q f (x ∷ xs) all = (f x all.0, weaker P Q f xs all.1)

pub each_member : {X : Type 0} (xs : List X) → AllByRecursion (λ z. Member z xs) xs
each_member [] = tt
each_member (x ∷ xs) = (
  inl refl,
  weaker (λ z. Member z xs) (λ z. Member z (x ∷ xs)) (λ z m. inr m) xs
      (each_member xs),
)

pub all_permuted : {X : Type 0} (P : X → Type 0) (xs ys : List X) → IsPermutation xs ys
    → AllByRecursion P xs → AllByRecursion P ys
all_permuted P xs ys perm all = recursion_from_All P ys
    (All-permutation P xs ys perm (All-from_recursion P xs all))

pub all_from_members : {X : Type 0} (P : X → Type 0) (xs : List X) → ((x : X) → Member x xs → P x)
    → AllByRecursion P xs
all_from_members P [] f = tt
all_from_members P (x ∷ xs) f = (f x (inl refl), all_from_members P xs (λ y m. f y (inr m)))

-- a permutation has the same elements
pub Member-permutation : {X : Type 0} (xs ys : List X) (z : X) → IsPermutation xs ys → Member z ys
    → Member z xs
Member-permutation xs ys z perm m = all_at (λ w. Member w xs) ys z
    (all_permuted (λ w. Member w xs) xs ys perm (each_member xs)) m

-- what a filter keeps
pub Member-filter : {X : Type 0} (p : X → Bool) (xs : List X) (z : X) → Member z (filter p xs)
    → Member z xs × (p z ≡ true)
Member-filter p [] z m = absurd m
Member-filter p (x ∷ xs) z m =
    elim (cases_Bool (p x)) [
      | inl keeps ↦
          let k : Member z (x ∷ filter p xs) = rw keeps at m in
          elim k [
            | inl here ↦ (inl here, ap p here ∙ keeps)
            | inr later ↦ let w =
                Member-filter p xs z later in (inr w.0, w.1)
          ]
      | inr drops ↦ let k : Member z (filter p xs) = rw drops at m in let w = Member-filter p xs z k
          in (inr w.0, w.1)
    ]

pub filter-Member : {X : Type 0} (p : X → Bool) (xs : List X) (z : X) → Member z xs → p z ≡ true
    → Member z (filter p xs)
filter-Member p [] z m e = absurd m
filter-Member p (x ∷ xs) z m e =
    elim m [
      | inl here ↦ let k : p x ≡ true = ap p (sym here) ∙ e in rw k (inl here)
      | inr later ↦ elim (cases_Bool (p x)) [
        | inl keeps ↦ rw keeps (inr (filter-Member p xs z later e))
        | inr drops ↦ rw drops (filter-Member p xs z later e)
      ]
    ]

filter-all : {X : Type 0} (P : X → Type 0) (p : X → Bool) (xs : List X) → AllByRecursion P xs
    → AllByRecursion P (filter p xs)
filter-all P p [] all = tt
filter-all P p (x ∷ xs) all =
    elim (cases_Bool (p x)) [
      | inl keeps ↦ rw keeps (all.0, filter-all P p xs all.1)
      | inr drops ↦ rw drops (filter-all P p xs all.1)
    ]

pub filter-distinct : {X : Type 0} (e : X → X → Bool) (p : X → Bool) (xs : List X) → IsDistinct e xs
    → IsDistinct e (filter p xs)
unfolding IsDistinct
filter-distinct e p [] d = tt
filter-distinct e p (x ∷ xs) d =
    elim (cases_Bool (p x)) [
      | inl keeps ↦ rw keeps (filter-all (λ y. e x y ≡ false) p xs d.0, filter-distinct e p xs d.1)
      | inr drops ↦ rw drops (filter-distinct e p xs d.1)
    ]

-- what a filter_map has, and the converse
pub Member-filter_map : {X Y : Type 0} (h : X → Option Y) (xs : List X) (y : Y)
    → Member y (filter_map h xs) → (x : X) × Member x xs × (h x ≡ Some y)
Member-filter_map h [] y m = absurd m
Member-filter_map h (x ∷ xs) y m =
    elim (slice_cases (h x)) [
      | inl none ↦ let k : Member y (filter_map h xs) = rw none at m
          in let w = Member-filter_map h xs y k in (w.0, inr w.1, w.2)
      | inr some ↦
          let k : Member y (some.0 ∷ filter_map h xs) = rw some.1 at m in
          elim k [
            | inl here ↦ (x, inl refl, some.1 ∙ ap Some (sym here))
            | inr later ↦ let w = Member-filter_map h xs y later in (w.0, inr w.1, w.2)
          ]
    ]

pub filter_map-Member : {X Y : Type 0} (h : X → Option Y) (xs : List X) (x : X) (y : Y)
    → Member x xs → h x ≡ Some y → Member y (filter_map h xs)
filter_map-Member h [] x y m e = absurd m
filter_map-Member h (z ∷ xs) x y m e =
    elim m [
      | inl here ↦ let k : h z ≡ Some y = ap h (sym here) ∙ e in rw k (inl refl)
      | inr later ↦ elim (slice_cases (h z)) [
        | inl none ↦ rw none (filter_map-Member h xs x y later e)
        | inr some ↦ rw some.1 (inr (filter_map-Member h xs x y later e))
      ]
    ]

pub Member-from_any : (k : ℕ) (ks : List ℕ) → list_any (eqb k) ks ≡ true → Member k ks
Member-from_any k [] e = absurd (false≢true e)
Member-from_any k (x ∷ ks) e = elim (or_cases (eqb k x) (list_any (eqb k) ks) e)
    [ inl here ↦ inl (eqb-true k x here) | inr later ↦ inr (Member-from_any k ks later) ]

-- what holds of each number of a list holds of one that is in it
pub all_any : (p : ℕ → Bool) (n : ℕ) (xs : List ℕ) → list_all p xs ≡ true
    → list_any (eqb n) xs ≡ true → p n ≡ true
all_any p n [] all any = absurd (false≢true any)
all_any p n (x ∷ xs) all any =
    let parts = and_parts (p x) (list_all p xs) all in
    elim (or_cases (eqb n x) (list_any (eqb n) xs) any) [
      | inl here ↦ subst (λ k. p k ≡ true) (sym (eqb-true n x here)) parts.0
      | inr later ↦ all_any p n xs parts.1 later
    ]

-- what was read at a place of a list that is another one stands there in that one
pub slice_get-seen : {X : Type 0} (xs ys : List X) (i : ℕ) (x : X) → ys ≡ xs → i < length xs
    → x ≡ get_or ys i x → slice_get xs i ≡ Some x
slice_get-seen xs ys i x same within read =
    rw (← same) (slice_get_read ys (length ys) i x refl (rw same within) read)

pub is_some-mapped : {X Y : Type 0} (f : X → Y) (o : Option X)
    → is_some (option_map f o) ≡ is_some o
is_some-mapped f None = refl
is_some-mapped f (Some x) = refl

-- none in front of nothing, or one alone
pub cons_option-nil : {X : Type 0} (o : Option X) → cons_option o [] ≡ option_to_list o
cons_option-nil None = refl
cons_option-nil (Some x) = refl
