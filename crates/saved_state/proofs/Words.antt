-- The words behind a head, one after the other.
use Rattle.std.proofs.Common.{◌≡◌, ℕ, zero, suc, ◌+◌, ◌-◌, ◌*◌, ◌<◌, Bool, true, false, ◌&&◌, leb}
use Rattle.std.proofs.Common.{List, [], ◌∷◌, ◌++◌, length, drop, replicate, refl, sym, ap, ◌∙◌}
use Rattle.std.proofs.Common.{arith, append_assoc, append-nil}
use Rattle.std.proofs.lemmas.Bool.Decides.{nat_tests}
use Rattle.std.proofs.lemmas.Grind.{flat_map-append}
use Rattle.std.proofs.lemmas.List.{drop-drop}
use Rattle.std.proofs.lemmas.List.Folds.{list_all-append, sum_by-replicate}
use Rattle.std.proofs.lemmas.List.Sums.{sum_by-append, sum_by-cons}
use Rattle.std.proofs.Math.Seq.{set-append_seam}
use Rattle.std.specs.Prelude.{flat_map, nat_eq, nat_le, None, Some, is_some, if◌then◌else◌, sum_by}
use Rattle.std.specs.Prelude.{slice_set}
use Rattle.std.specs.List.{list_all, starts_with}
use Rattle.sharing_rules.specs.Words.{accesses, tally}
use Rattle.sharing_rules.specs.declared.word.Word.{Word}
use Rattle.saved_state.specs.Laws.Lengths.{length-words}
use Rattle.saved_state.specs.Parts.{are_words, is_word_within, word_in}
use Rattle.saved_state.specs.Spelling.{spell_word}
use Rattle.saved_state.specs.Units.{is_good_word, word_at, words_at, words_from}

-- bytes begin with two texts where they begin with the first, and behind it with the second
pub starts_append : (bs p q : List ℕ) → starts_with nat_eq bs (p ++ q)
    ≡ (starts_with nat_eq bs p && starts_with nat_eq (drop
    (length p) bs) q)
starts_append bs [] q = refl
starts_append [] (x ∷ p) q = refl
starts_append (b ∷ bs) (x ∷ p) q =
    ap (λ t. nat_eq x b && t) (starts_append bs p q)
    ∙ and_assoc (nat_eq x b) (starts_with nat_eq bs p) (starts_with nat_eq (drop
    (length p) bs) q)
  where
    and_assoc : (a b c : Bool) → (a && (b && c)) ≡ ((a && b) && c)
    and_assoc true b c = refl
    and_assoc false b c = refl

-- the next word
words_from-more : (n : ℕ) (bytes : List ℕ) → words_from (suc n) bytes ≡ words_from n bytes
    ++ word_at (drop (20 * n) bytes) ∷ []
words_from-more zero bytes = refl
words_from-more (suc n) bytes =
    let past : 20 + 20 * n ≡ 20 * suc n = omega arith in
    ap (λ ws. word_at bytes ∷ ws) (words_from-more n (drop 20 bytes)
    ∙ ap (λ t. words_from n (drop 20 bytes) ++ word_at t ∷ [])
    (drop-drop (20 * n) 20 bytes ∙ ap (λ k. drop k bytes) past))

words-more : (n : ℕ) (bytes : List ℕ) → words_at (n + 1) bytes ≡ words_at n bytes
    ++ word_at (drop (32 + 20 * n) bytes) ∷ []
words-more n bytes =
    let one : n + 1 ≡ suc n = omega arith in
    ap (λ m. words_at m bytes) one ∙ words_from-more n (drop 32 bytes)
    ∙ ap (λ t. words_at n bytes ++ word_at t ∷ []) (drop-drop (20 * n) 32 bytes)

length-words_from : (n : ℕ) (bytes : List ℕ) → length (words_from n bytes) ≡ n
length-words_from zero bytes = refl
length-words_from (suc n) bytes = ap suc (length-words_from n (drop 20 bytes))

pub length-words_at : (n : ℕ) (bytes : List ℕ) → length (words_at n bytes) ≡ n
length-words_at n bytes = length-words_from n (drop 32 bytes)

-- three tests of two parts each
by_parts : (a g l k b c : Bool) → (((a && g) && (l && k)) && (b && c))
    ≡ (((a && l) && b) && ((g && k) && c))
by_parts true true true true b c = refl
by_parts true true true false true c = refl
by_parts true true true false false c = refl
by_parts true true false k b c = refl
by_parts true false true k true c = refl
by_parts true false true k false c = refl
by_parts true false false k b c = refl
by_parts false g l k b c = refl

few_both : (s a most : ℕ) → leb (s + a) most ≡ (leb s most && leb a (most - s))
few_both s a most = grind (arith, nat_tests)

is_some-if : {X : Type 0} (b : Bool) (x : X) → is_some (if b then Some x else None) ≡ b
is_some-if true x = refl
is_some-if false x = refl

-- one word more is at no fault where it is good behind the others
pub are_words-more : (harts most n : ℕ) (bytes : List ℕ) → are_words harts most (n + 1) bytes
    ≡ (are_words harts most n bytes && is_some (word_in harts
    (most - sum_by accesses (words_at n bytes)) (drop (32 + 20 * n) bytes)))
unfolding are_words word_in
are_words-more harts most n bytes =
    let ws = words_at n bytes in
    let rest = drop (32 + 20 * n) bytes in
    let w = word_at rest in
    let good = is_good_word harts in
    let total = sum_by accesses ws in
    let all : list_all good (ws ++ w ∷ []) ≡ (list_all good ws && good w) =
    list_all-append good ws (w ∷ []) ∙ ap (λ b. list_all good ws && b) (and_true (good w)) in
    let sum : nat_le (sum_by accesses (ws ++ w ∷ [])) most
    ≡ (nat_le total most && nat_le (accesses w) (most - total)) =
    ap (λ s. nat_le s most) (let e : sum_by accesses (ws ++ w ∷ []) ≡ total + accesses w =
    omega (arith, sum_by-append accesses ws (w ∷ []), sum_by-cons accesses w []) in e)
    ∙ few_both total (accesses w) most in
    let spelled : starts_with nat_eq (drop 32 bytes) (flat_map spell_word (ws ++ w ∷ []))
    ≡ (starts_with nat_eq (drop 32 bytes) (flat_map spell_word ws) && starts_with nat_eq rest
    (spell_word w)) =
    ap (starts_with nat_eq (drop 32 bytes)) (flat_map-append spell_word ws (w ∷ [])
    ∙ ap (λ t. flat_map spell_word ws ++ t) (append-nil
    (spell_word w)))
    ∙ starts_append (drop 32 bytes) (flat_map spell_word ws) (spell_word w)
    ∙ ap (λ t. starts_with nat_eq (drop 32 bytes) (flat_map spell_word ws) && starts_with nat_eq t
    (spell_word w))
    (drop-drop (length (flat_map spell_word ws)) 32 bytes ∙ ap (λ k. drop k bytes)
    (let e : 32 + length (flat_map spell_word ws) ≡ 32 + 20 * n =
    omega (arith, length-words ws, length-words_at n bytes) in e)) in
    ap (λ (xs : List Word). list_all good xs && nat_le
    (sum_by accesses xs) most && starts_with nat_eq (drop 32 bytes)
    (flat_map spell_word xs))
    (words-more n bytes)
    ∙ (λ i. all i && sum i && spelled i)
    ∙ by_parts (list_all good ws) (good w) (nat_le total most) (nat_le (accesses w) (most - total))
    (starts_with nat_eq (drop 32 bytes) (flat_map spell_word ws))
    (starts_with nat_eq rest (spell_word w))
    ∙ ap (λ b. (list_all good ws && nat_le total most && starts_with nat_eq (drop 32 bytes)
    (flat_map spell_word ws)) && b)
    (sym (is_some-if (is_word_within harts (most - total) w && starts_with nat_eq rest
    (spell_word w)) w))
  where
    and_true : (b : Bool) → (b && true) ≡ b
    and_true true = refl
    and_true false = refl

-- none is at no fault
pub are_words-none : (harts most : ℕ) (bytes : List ℕ) → are_words harts most 0 bytes ≡ true
unfolding are_words
are_words-none harts most bytes = ap (λ b. b && true) (none_few most)
  where
    none_few : (m : ℕ) → leb 0 m ≡ true
    none_few m = grind (arith, nat_tests)

-- where some are at fault, more are
fails_on : (harts most n k : ℕ) (bytes : List ℕ) → are_words harts most n bytes ≡ false
    → are_words harts most (n + k) bytes ≡ false
fails_on harts most n zero bytes fails = ap (λ m. are_words harts most m bytes)
    (let e : n + 0 ≡ n = omega arith in e) ∙ fails
fails_on harts most n (suc k) bytes fails =
    ap (λ m. are_words harts most m bytes) (let e : n + suc k ≡ n + k + 1 = omega arith in e)
    ∙ are_words-more harts most (n + k) bytes
    ∙ ap (λ b. b && is_some (word_in harts (most - sum_by accesses (words_at (n + k) bytes))
    (drop (32 + 20 * (n + k)) bytes)))
    (fails_on harts most n k bytes fails)

-- a word at fault
pub are_words-fail : (harts most i n : ℕ) (bytes : List ℕ) → i < n
    → word_in harts (most - sum_by accesses (words_at i bytes)) (drop (32 + 20 * i) bytes) ≡ None
    → are_words harts most n bytes ≡ false
are_words-fail harts most i n bytes within none =
    ap (λ m. are_words harts most m bytes) (let e : n ≡ i + 1 + (n - (i + 1)) = omega arith in e)
    ∙ fails_on harts most (i + 1) (n - (i + 1)) bytes
    (are_words-more harts most i bytes ∙ ap (λ o. are_words harts most i bytes && is_some o) none
    ∙ and_none (are_words harts most i bytes))
  where
    and_none : (b : Bool) → (b && false) ≡ false
    and_none true = refl
    and_none false = refl

-- a word that is good behind the others
pub are_words-pass : (harts most i : ℕ) (bytes : List ℕ) (w : Word) → are_words harts most i bytes
    ≡ true
    → word_in harts (most - sum_by accesses (words_at i bytes)) (drop (32 + 20 * i) bytes) ≡ Some w
    → are_words harts most (i + 1) bytes
    ≡ true
are_words-pass harts most i bytes w passes some =
    are_words-more harts most i bytes ∙ (λ j. passes j && is_some (some j))

-- ---- words put in the place of blank ones

-- words, and blank ones behind them
abbrev pub then_blank : List Word → ℕ → List Word
then_blank ws n = ws ++ replicate n (tally [])

pub put_next : (ws : List Word) (i n : ℕ) (w : Word) → length ws ≡ i → i < n
    → slice_set (then_blank ws (n - i)) i w ≡ then_blank (ws ++ w ∷ []) (n - (i + 1))
put_next ws i n w is within =
    let m = n - (i + 1) in
    ap (λ k. slice_set (then_blank ws k) i w) (let e : n - i ≡ suc m = omega arith in e)
    ∙ ap (λ k. slice_set (ws ++ tally [] ∷ replicate m (tally [])) k w) (sym is)
    ∙ set-append_seam ws (tally []) (replicate m (tally [])) w
    ∙ sym (append_assoc ws (w ∷ []) (replicate m (tally [])))

pub sum-next : (ws : List Word) (w : Word) (n : ℕ) → sum_by accesses (then_blank (ws ++ w ∷ []) n)
    ≡ sum_by accesses ws + accesses w
sum-next ws w n = omega (
  arith,
  sum_by-append accesses (ws ++ w ∷ []) (replicate n (tally [])),
  sum_by-append accesses ws (w ∷ []),
  sum_by-cons accesses w [],
  sum_by-replicate accesses n (tally []),
)

pub words_at-more : (n : ℕ) (bytes : List ℕ) (w : Word) → w ≡ word_at (drop (32 + 20 * n) bytes)
    → words_at n bytes ++ w ∷ [] ≡ words_at (n + 1) bytes
words_at-more n bytes w is = ap (λ v. words_at n bytes ++ v ∷ []) is ∙ sym (words-more n bytes)

pub sum-more : (n : ℕ) (bytes : List ℕ) (w : Word) → w ≡ word_at (drop (32 + 20 * n) bytes)
    → sum_by accesses (words_at (n + 1) bytes) ≡ sum_by accesses (words_at n bytes) + accesses w
sum-more n bytes w is = ap (sum_by accesses) (sym (words_at-more n bytes w is))
    ∙ (let e : sum_by accesses (words_at n bytes ++ w ∷ [])
    ≡ sum_by accesses (words_at n bytes) + accesses w =
    omega (arith, sum_by-append accesses (words_at n bytes) (w ∷ []), sum_by-cons accesses w []) in
    e)
