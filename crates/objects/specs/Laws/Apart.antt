-- Where no two symbols are alike, each is in another place than every earlier one.
use Rattle.std.proofs.Common.{◌≡◌, Bool, true, false, List, [], ◌∷◌, All, length, refl, sym, ◌∙◌}
use Rattle.std.proofs.Common.{ap, inl, inr, subst, arith}
use Rattle.std.specs.List.{filter}
use Rattle.std.proofs.lemmas.Bool.{cases_Bool, not-true}
use Rattle.std.proofs.lemmas.List.Elements.{All-from_get_or, All-get_or, filter_passes}
use Rattle.std.proofs.lemmas.List.Kept.{AllPairs-cons}
use Rattle.objects.specs.Symbols.{EachApart, NoTwoAlike, Symbol, is_in_place_of, symbols_of}
use Rattle.objects.specs.Laws.Symbols.{apart_from, fewer, symbols_of-fewer}

all_kept : (p : Symbol → Bool) (xs : List Symbol) → length (filter p xs) ≡ length xs
    → filter p xs ≡ xs
all_kept p [] e = refl
all_kept p (x ∷ xs) e =
    elim (cases_Bool (p x)) [
      | inl passes ↦
          let longer : length (x ∷ filter p xs) ≡ length (x ∷ xs) = rw passes at e in
          rw passes (ap (λ zs. x ∷ zs) (all_kept p xs (omega (arith, longer))))
      | inr fails ↦
          let shorter : length (filter p xs) ≡ length (x ∷ xs) = rw fails at e in
          absurd (omega (arith, shorter, fewer p xs))
    ]

tail_of : List Symbol → List Symbol
tail_of [] = []
tail_of (s ∷ others) = others

others_kept : (s : Symbol) (others : List Symbol) → NoTwoAlike (s ∷ others)
    → filter (apart_from s) (symbols_of others) ≡ others
unfolding tail_of
others_kept s others alone = ap tail_of alone

rest_alone : (s : Symbol) (others : List Symbol) → NoTwoAlike (s ∷ others) → NoTwoAlike others
rest_alone s others alone =
    let kept = others_kept s others alone in
    let p = apart_from s in
    let same : length (filter p (symbols_of others)) ≡ length (symbols_of others) =
    omega (arith, ap length kept, fewer p (symbols_of others), symbols_of-fewer others) in
    sym (all_kept p (symbols_of others) same) ∙ kept

first_apart : (s : Symbol) (others : List Symbol) → NoTwoAlike (s ∷ others)
    → All (λ t. is_in_place_of t s ≡ false) others
first_apart s others alone =
    let P : Symbol → Type 0 = λ t. apart_from s t ≡ true in
    let passed : All P others =
    subst (All P) (others_kept s others alone)
    (filter_passes (apart_from s) (symbols_of others)) in
    All-from_get_or (λ t. is_in_place_of t s ≡ false) others s
    (λ i within. not-true _ (All-get_or P others i s within passed))

pub each_apart : (symbols : List Symbol) → NoTwoAlike symbols → EachApart symbols
each_apart [] alone = λ i j d before within. absurd (omega arith)
each_apart (s ∷ others) alone =
    AllPairs-cons (λ old new. is_in_place_of new old ≡ false) s others (first_apart s others alone)
    (each_apart others (rest_alone s others alone))
