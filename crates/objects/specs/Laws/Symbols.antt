-- The symbols of a list, with more behind it.
use Rattle.std.proofs.Common.{◌≡◌, ◌≤◌, Bool, true, false, not, List, [], ◌∷◌, ◌++◌, All, length}
use Rattle.std.proofs.Common.{refl, sym, ◌∙◌, ap, inl, inr, subst, true≢false, append_assoc, arith}
use Rattle.std.specs.Prelude.{if◌then◌else◌}
use Rattle.std.specs.List.{filter, list_any}
use Rattle.std.proofs.lemmas.Bool.{and_parts, cases_Bool, eqb-true}
use Rattle.std.proofs.lemmas.List.{append-nil}
use Rattle.std.proofs.lemmas.List.Elements.{All-cons, All-filter, All-head, All-tail}
use Rattle.std.proofs.lemmas.List.Elements.{filter-append}
use Rattle.std.proofs.lemmas.List.Sums.{count_by-le-length, length-filter}
use Rattle.objects.specs.declared.symbol.SymbolKind.{SymbolKind}
use Rattle.objects.specs.declared.symbol.SymbolKind.TheVariants.{Object, Function}
use Rattle.objects.specs.Symbols.{NoTwoAlike, Symbol, is_in_place_of, is_same_kind}
use Rattle.objects.specs.Symbols.{symbols_of}

-- whether a symbol is in another place than s
abbrev pub apart_from : Symbol → Symbol → Bool
apart_from s t = not (is_in_place_of t s)

-- the symbols once one more is seen
abbrev pub symbols_after : List Symbol → Symbol → List Symbol
symbols_after symbols new =
    if list_any (is_in_place_of new) symbols then symbols else symbols ++ new ∷ []

same_kinds : (k l : SymbolKind) → is_same_kind k l ≡ true → k ≡ l
same_kinds Object Object h = refl
same_kinds Function Function h = refl
same_kinds Object Function h = absurd (true≢false (sym h))
same_kinds Function Object h = absurd (true≢false (sym h))

-- two symbols of one place are distinguished from a third alike
alike : (a b : Symbol) → is_in_place_of a b ≡ true → (t : Symbol)
    → is_in_place_of a t ≡ is_in_place_of b t
alike a b h t =
    let kinds : a.kind ≡ b.kind = same_kinds _ _ (and_parts _ _ h).0 in
    let addrs : a.addr ≡ b.addr = eqb-true a.addr b.addr (and_parts _ _ (and_parts _ _ h).1).0 in
    let sizes : a.size ≡ b.size = eqb-true a.size b.size (and_parts _ _ (and_parts _ _ h).1).1 in
    rw (kinds, addrs, sizes) refl

never : (b : Bool) (c : Bool) → (b ≡ true → c ≡ true) → c ≡ false → b ≡ false
never true c h f = absurd (true≢false (sym (h refl) ∙ f))
never false c h f = refl

any-filter : (p q : Symbol → Bool) → ((t : Symbol) → p t ≡ true → q t ≡ true)
    → (xs : List Symbol) → list_any p (filter q xs) ≡ list_any p xs
any-filter p q h [] = refl
any-filter p q h (x ∷ xs) =
    elim (cases_Bool (q x)) [
      | inl passes ↦ rw (passes, any-filter p q h xs) refl
      | inr fails ↦ rw (fails, never (p x) (q x) (h x) fails) (any-filter p q h xs)
    ]

-- one more behind a first symbol, where `any` says whether one of the others is in its place
step_seen : (s x : Symbol) (ys : List Symbol) (any : Bool) → is_in_place_of x s ≡ true
    → filter (apart_from s) (if any then ys else ys ++ x ∷ []) ≡ filter (apart_from s) ys
step_seen s x ys true h = refl
step_seen s x ys false h =
    filter-append (apart_from s) ys (x ∷ []) ∙ rw h (append-nil (filter (apart_from s) ys))

step_new : (s x : Symbol) (ys : List Symbol) (any : Bool) → is_in_place_of x s ≡ false
    → s ∷ filter (apart_from s) (if any then ys else ys ++ x ∷ [])
    ≡ if any then s ∷ filter (apart_from s) ys else (s ∷ filter (apart_from s) ys) ++ x ∷ []
step_new s x ys true h = refl
step_new s x ys false h = ap (λ zs. s ∷ zs) (filter-append (apart_from s) ys (x ∷ []) ∙ rw h refl)

pub symbols_of-push : (xs : List Symbol) (x : Symbol)
    → symbols_of (xs ++ x ∷ []) ≡ symbols_after (symbols_of xs) x
symbols_of-push [] x = refl
symbols_of-push (s ∷ xs) x =
    let ys : List Symbol = symbols_of xs in
    let any : Bool = list_any (is_in_place_of x) ys in
    let more : s ∷ filter (apart_from s) (symbols_of (xs ++ x ∷ []))
    ≡ s ∷ filter (apart_from s) (symbols_after ys x) =
    ap (λ zs. s ∷ filter (apart_from s) zs) (symbols_of-push xs x) in
    elim (cases_Bool (is_in_place_of x s)) [
      | inl seen ↦ more ∙ ap (λ zs. s ∷ zs) (step_seen s x ys any seen) ∙ rw seen refl
      | inr new ↦
          more ∙ step_new s x ys any new
          ∙ rw (new, any-filter (is_in_place_of x) (apart_from s) (others s x new) ys) refl
    ]
  where
    others : (s x : Symbol) → is_in_place_of x s ≡ false → (t : Symbol)
        → is_in_place_of x t ≡ true → apart_from s t ≡ true
    others s x new t h = rw (sym (alike x t h s) ∙ new) refl

-- where no two are alike, none is alike one more that is kept
pub symbols_after-alone : (old : List Symbol) (new : Symbol) → NoTwoAlike old
    → NoTwoAlike (symbols_after old new)
symbols_after-alone old new alone =
    elim (cases_Bool (list_any (is_in_place_of new) old)) [
      | inl known ↦ rw known alone
      | inr fresh ↦
          rw fresh
          (symbols_of-push old new ∙ ap (λ ss. symbols_after ss new) alone ∙ rw fresh refl)
    ]

alone_on : (done more : List Symbol) → NoTwoAlike (symbols_of done)
    → NoTwoAlike (symbols_of (done ++ more))
alone_on done [] alone =
    subst (λ ss. NoTwoAlike (symbols_of ss)) (sym (append-nil done)) alone
alone_on done (s ∷ more) alone =
    let next : NoTwoAlike (symbols_of (done ++ s ∷ [])) =
    subst NoTwoAlike (sym (symbols_of-push done s)) (symbols_after-alone (symbols_of done) s alone)
    in
    subst (λ ss. NoTwoAlike (symbols_of ss)) (append_assoc done (s ∷ []) more)
    (alone_on (done ++ s ∷ []) more next)

-- no two symbols of a list are alike
pub symbols_of-alone : (xs : List Symbol) → NoTwoAlike (symbols_of xs)
symbols_of-alone xs = alone_on [] xs refl

-- lists of the same symbols have the same with more behind them
pub symbols_of-same : (xs ys more : List Symbol) → symbols_of xs ≡ symbols_of ys
    → symbols_of (xs ++ more) ≡ symbols_of (ys ++ more)
symbols_of-same xs ys [] same =
    ap symbols_of (append-nil xs) ∙ same ∙ ap symbols_of (sym (append-nil ys))
symbols_of-same xs ys (s ∷ more) same =
    let next : symbols_of (xs ++ s ∷ []) ≡ symbols_of (ys ++ s ∷ []) =
    symbols_of-push xs s ∙ ap (λ ss. symbols_after ss s) same ∙ sym (symbols_of-push ys s) in
    ap symbols_of (sym (append_assoc xs (s ∷ []) more))
    ∙ symbols_of-same (xs ++ s ∷ []) (ys ++ s ∷ []) more next
    ∙ ap symbols_of (append_assoc ys (s ∷ []) more)

-- those of a list go on as the list does
pub symbols_of-behind : (xs more : List Symbol)
    → symbols_of (symbols_of xs ++ more) ≡ symbols_of (xs ++ more)
symbols_of-behind xs more = symbols_of-same (symbols_of xs) xs more (symbols_of-alone xs)

-- what holds of each of a list holds of its symbols
pub All-symbols_of : (P : Symbol → Type 0) (xs : List Symbol) → All P xs → All P (symbols_of xs)
All-symbols_of P [] each = each
All-symbols_of P (s ∷ xs) each =
    let rest : All P (symbols_of xs) = All-symbols_of P xs (All-tail P s xs each) in
    All-cons P s (filter (apart_from s) (symbols_of xs)) (All-head P s xs each)
    (All-filter (apart_from s) P (symbols_of xs) rest)

-- a filter keeps no more than there are
pub fewer : (p : Symbol → Bool) (xs : List Symbol) → length (filter p xs) ≤ length xs
fewer p xs = omega (arith, length-filter p xs, count_by-le-length p xs)

pub symbols_of-fewer : (xs : List Symbol) → length (symbols_of xs) ≤ length xs
symbols_of-fewer [] = omega arith
symbols_of-fewer (s ∷ xs) =
    omega (arith, fewer (apart_from s) (symbols_of xs), symbols_of-fewer xs)
