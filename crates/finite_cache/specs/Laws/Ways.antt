-- Lists of lines as the entries of a table that drops the last one where it is full.
use Rattle.std.proofs.Common.{◌≡◌, ℕ, zero, suc, ◌-◌, ◌<◌, ◌≤◌, true, false, eqb}
use Rattle.std.proofs.Common.{List, [], ◌∷◌, length, take, refl, sym, ap, ◌∙◌, subst, arith}
use Rattle.std.proofs.Common.{inl, inr, Some, None}
use Rattle.std.proofs.lemmas.Bool.{cases_Bool, eqb-true, false≢true, or_parts}
use Rattle.std.proofs.lemmas.Bool.Decides.{nat_tests}
use Rattle.std.specs.List.{AllByRecursion, IsDistinct, list_any}
use Rattle.std.specs.Map.{keys_of, lookup, lookup_entry, remove_entry}
use Rattle.std.specs.Prelude.{is_some, nat_eq, option_map, slice_get}
use Rattle.std.proofs.lemmas.List.{length-map}
use Rattle.std.specs.Prelude.{Result, Ok, Err, OnOk, OnErr}
use Rattle.lru.specs.LruCache.{IsValid, LruCache, displaced, lru_cache, promoted, put_entries}
use Rattle.finite_cache.specs.Bounded.{has, in_front, without}
use Rattle.finite_cache.specs.CacheState.{WaySet}

abbrev pub ways_of : List ℕ → ℕ → WaySet
ways_of lines n = record { lines = lines; ways = n }

flip : (q r : ℕ) → eqb q r ≡ eqb r q
flip q r = grind (arith, nat_tests)

-- without a line that isn't there
pub without-none : (r : ℕ) (ls : List ℕ) → has r ls ≡ false → without r ls ≡ ls
without-none r [] none = refl
without-none r (q ∷ ls) none =
    let parts = or_parts (eqb r q) (list_any (eqb r) ls) none in
    rw (flip q r, parts.0) (ap (λ xs. q ∷ xs) (without-none r ls parts.1))

pub length-without : (r : ℕ) (ls : List ℕ) → length (without r ls) ≤ length ls
length-without r [] = omega arith
length-without r (q ∷ ls) =
    let rest = length-without r ls in
    elim (cases_Bool (eqb q r)) [
      | inl e ↦ rw e (omega (arith, rest))
      | inr e ↦ rw e (omega (arith, rest))
    ]

pub shorter-without : (r : ℕ) (ls : List ℕ) → has r ls ≡ true → length (without r ls) < length ls
shorter-without r [] there = absurd (false≢true there)
shorter-without r (q ∷ ls) there =
    let rest = length-without r ls in
    elim (cases_Bool (eqb r q)) [
      | inl e ↦ rw (flip q r, e) (omega (arith, rest))
      | inr e ↦
          let later : has r ls ≡ true = rw e at there in
          let less = shorter-without r ls later in
          rw (flip q r, e) (omega (arith, less))
    ]

take-long : {X : Type 0} (n : ℕ) (xs : List X) → length xs ≤ n → take n xs ≡ xs
take-long zero [] le = refl
take-long zero (x ∷ xs) le = absurd (omega (arith, le))
take-long (suc n) [] le = refl
take-long (suc n) (x ∷ xs) le = ap (λ ys. x ∷ ys) (take-long n xs (omega (arith, le)))

pub get-past : {X : Type 0} (xs : List X) (n : ℕ) → length xs ≤ n → slice_get xs n ≡ None
get-past [] n le = refl
get-past (x ∷ xs) zero le = absurd (omega (arith, le))
get-past (x ∷ xs) (suc n) le = get-past xs n (omega (arith, le))

-- a line that is there leaves no other out
pub used-known : (r n : ℕ) (ls : List ℕ) → has r ls ≡ true → length ls ≤ n
    → take n (in_front r ls) ≡ in_front r ls
used-known r n ls there le =
    take-long n (in_front r ls) (let less = shorter-without r ls there in omega (arith, less, le))

pub left-known : (r n : ℕ) (ls : List ℕ) → has r ls ≡ true → length ls ≤ n
    → slice_get (in_front r ls) n ≡ None
left-known r n ls there le =
    get-past (in_front r ls) n (let less = shorter-without r ls there in omega (arith, less, le))

none-of : (r : ℕ) (q : ℕ) (ks : List ℕ) → eqb r q ≡ true → AllByRecursion (λ y. eqb q y ≡ false) ks
    → has r ks ≡ false
none-of r q [] same all = refl
none-of r q (k ∷ ks) same all =
    let other : eqb r k ≡ false = subst (λ x. eqb x k ≡ false) (sym (eqb-true r q same)) all.0 in
    rw (other, none-of r q ks same all.1) refl

one-less : (n r : ℕ) (ks : List ℕ) → 0 < n → r ∷ take (n - 1) ks ≡ take n (r ∷ ks)
one-less zero r ks some = absurd (omega (arith, some))
one-less (suc n) r ks some =
    let e : suc n - 1 ≡ n = omega arith in rw e refl

get-less : (n r : ℕ) (ks : List ℕ) → 0 < n → slice_get ks (n - 1) ≡ slice_get (r ∷ ks) n
get-less zero r ks some = absurd (omega (arith, some))
get-less (suc n) r ks some =
    let e : suc n - 1 ≡ n = omega arith in rw e refl

module _ {V : Type 0} where
  pub found-has : (r : ℕ) (es : List (ℕ × V))
      → is_some (lookup (eqb r) es) ≡ has r (keys_of es)
  found-has r [] = refl
  found-has r (e ∷ es) =
      elim (cases_Bool (eqb r e.0)) [
        | inl here ↦ rw here refl
        | inr other ↦ rw other (found-has r es)
      ]

  pub keys-removed : (r : ℕ) (es : List (ℕ × V)) → IsDistinct eqb (keys_of es)
      → keys_of (remove_entry (eqb r) es) ≡ without r (keys_of es)
  unfolding IsDistinct
  keys-removed r [] d = refl
  keys-removed r (e ∷ es) d =
      elim (cases_Bool (eqb r e.0)) [
        | inl here ↦ rw (here, flip e.0 r, here)
            (sym (without-none r (keys_of es) (none-of r e.0 (keys_of es) here d.0)))
        | inr other ↦ rw (other, flip e.0 r, other)
            (ap (λ ks. e.0 ∷ ks) (keys-removed r es d.1))
      ]

  found-entry : (r : ℕ) (es : List (ℕ × V)) → has r (keys_of es) ≡ true
      → (e : ℕ × V) × (lookup_entry (eqb r) es ≡ Some e) × (e.0 ≡ r)
  found-entry r [] there = absurd (false≢true there)
  found-entry r (e ∷ es) there =
      elim (cases_Bool (eqb r e.0)) [
        | inl here ↦ rw here (e, refl, sym (eqb-true r e.0 here))
        | inr other ↦
            let later : has r (keys_of es) ≡ true = rw other at there in
            rw other (found-entry r es later)
      ]

  no-entry : (r : ℕ) (es : List (ℕ × V)) → has r (keys_of es) ≡ false
      → (lookup_entry (eqb r) es ≡ None) × (lookup (eqb r) es ≡ None)
  no-entry r [] none = (refl, refl)
  no-entry r (e ∷ es) none =
      let parts = or_parts (eqb r e.0) (list_any (eqb r) (keys_of es)) none in
      rw parts.0 (no-entry r es parts.1)

  -- a line that is there is promoted
  pub keys-promoted : (r : ℕ) (es : List (ℕ × V)) → IsDistinct eqb (keys_of es)
      → has r (keys_of es) ≡ true → keys_of (promoted (eqb r) es) ≡ in_front r (keys_of es)
  keys-promoted r es d there =
      let w = found-entry r es there in
      rw (w.1, w.2) (ap (λ ks. r ∷ ks) (keys-removed r es d))

  pub promoted-none : (r : ℕ) (es : List (ℕ × V)) → has r (keys_of es) ≡ false
      → promoted (eqb r) es ≡ es
  promoted-none r es none = rw (no-entry r es none).0 refl

  keys-take : (n : ℕ) (es : List (ℕ × V)) → keys_of (take n es) ≡ take n (keys_of es)
  keys-take zero es = refl
  keys-take (suc n) [] = refl
  keys-take (suc n) (e ∷ es) = ap (λ ks. e.0 ∷ ks) (keys-take n es)

  key-at : (es : List (ℕ × V)) (n : ℕ)
      → option_map (λ (e : ℕ × V). e.0) (slice_get es n) ≡ slice_get (keys_of es) n
  key-at [] n = refl
  key-at (e ∷ es) zero = refl
  key-at (e ∷ es) (suc n) = key-at es n

  -- a new line is put in front, and where the table is full the last one leaves
  pub keys-put : (c : LruCache ℕ V) (r : ℕ) (v : V) → 0 < c.cap
      → has r (keys_of c.entries) ≡ false
      → keys_of (put_entries nat_eq c r v) ≡ take c.cap (in_front r (keys_of c.entries))
  keys-put c r v some none =
      rw ((no-entry r c.entries none).0, without-none r (keys_of c.entries) none)
      (ap (λ ks. r ∷ ks) (keys-take (c.cap - 1) c.entries)
      ∙ one-less c.cap r (keys_of c.entries) some)

  pub key-displaced : (c : LruCache ℕ V) (r : ℕ) (v : V) → 0 < c.cap
      → has r (keys_of c.entries) ≡ false
      → option_map (λ (e : ℕ × V). e.0) (displaced nat_eq c r v)
      ≡ slice_get (in_front r (keys_of c.entries)) c.cap
  key-displaced c r v some none =
      rw (no-entry r c.entries none).1
      (key-at c.entries (c.cap - 1) ∙ get-less c.cap r (keys_of c.entries) some
      ∙ ap (λ ks. slice_get (r ∷ ks) c.cap) (sym (without-none r (keys_of c.entries) none)))

  -- what a full table says of a line that is there, and of one that isn't
  pub known-left : (c : LruCache ℕ V) (r : ℕ) → IsValid nat_eq c
      → is_some (lookup (eqb r) c.entries) ≡ true
      → None ≡ slice_get (in_front r (keys_of c.entries)) c.cap
  known-left c r valid found =
      let len = length-map c.entries (λ (e : ℕ × V). e.0) in
      sym (left-known r c.cap (keys_of c.entries) (sym (found-has r c.entries) ∙ found)
      (omega (arith, len, valid.1)))

  pub known-used : (c : LruCache ℕ V) (r : ℕ) → IsValid nat_eq c
      → is_some (lookup (eqb r) c.entries) ≡ true
      → keys_of (promoted (eqb r) c.entries) ≡ take c.cap (in_front r (keys_of c.entries))
  known-used c r valid found =
      let len = length-map c.entries (λ (e : ℕ × V). e.0) in
      let there : has r (keys_of c.entries) ≡ true = sym (found-has r c.entries) ∙ found in
      keys-promoted r c.entries valid.0 there
      ∙ sym (used-known r c.cap (keys_of c.entries) there (omega (arith, len, valid.1)))

  pub promoted-same : (c now : LruCache ℕ V) (r : ℕ) → is_some (lookup (eqb r) c.entries) ≡ false
      → now ≡ lru_cache (promoted (eqb r) c.entries) c.cap → now ≡ c
  promoted-same c now r none e =
      e ∙ ap (λ es. lru_cache es c.cap)
      (promoted-none r c.entries (sym (found-has r c.entries) ∙ none))

-- both parts of a record, where there is a result
pub both-on : {T E : Type 0} (result : Result T E) (ks ls : List ℕ) (n m : ℕ)
    → OnOk result (ks ≡ ls) → n ≡ m
    → OnOk result (ways_of ks n ≡ ways_of ls m)
both-on (Err e) ks ls n m same room = tt
both-on (Ok x) ks ls n m same room = ap (λ ys. ways_of ys n) same ∙ ap (ways_of ls) room

pub refused-on : {T E : Type 0} {A B : Type 0} (result : Result T E) (f : A → B) (x y : A) (z : B)
    → OnErr result (x ≡ y) → f y ≡ z → OnErr result (f x ≡ z)
refused-on (Ok x) f a b z same e = tt
refused-on (Err w) f a b z same e = ap f same ∙ e
