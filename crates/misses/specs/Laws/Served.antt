-- One entry serves: of a line its latest write, of a word its latest write and that write's hart,
-- and of a hart in a line its latest access and its latest load determine each miss and each needed
-- load.
use Rattle.std.proofs.Common.{◌≡◌, ℕ, ◌+◌, ◌≤◌, Bool, true, false, eqb, not, ◌&&◌}
use Rattle.std.proofs.Common.{◌||◌, List, length, drop, refl, sym, ap, ◌∙◌}
use Rattle.std.proofs.Common.{arith, inl, inr}
use Rattle.std.proofs.lemmas.Bool.{cases_Bool, eqb-true, eq-eqb, false≢true, lt-ltb}
use Rattle.std.proofs.lemmas.Bool.Decides.{nat_tests}
use Rattle.std.proofs.Math.Bool.{and-false, or-false, or-true}
use Rattle.std.specs.Prelude.{if◌then◌else◌, nat_lt, nat_le, Option, None, Some}
use Rattle.std.specs.List.{list_any}
use Rattle.base.specs.Touch.{Touch, is_write, word_of}
use Rattle.sharing_rules.specs.Holders.{holders}
use Rattle.sharing_rules.specs.Laws.Counts.{holders-push}
use Rattle.sharing_rules.specs.Laws.Lists.{by_push}
use Rattle.misses.specs.Entries.{behind, last_hart, right_after, writes_in, writes_word}
use Rattle.misses.specs.Laws.Copies.{above_zero, copies-empty, copies-push, copies-within}
use Rattle.misses.specs.Laws.Copies.{wants-empty}
use Rattle.misses.specs.Laws.Copies.{wants-push}
use Rattle.misses.specs.Laws.Entries.{behind-push, behind-within, last_hart-push}
use Rattle.misses.specs.Misses.{copies, is_by_in, lacks, wants}
use Rattle.misses.specs.WordLines.{KeepsWords}

-- a hart that came holds the line where the latest write there isn't behind its latest access
abbrev pub is_kept : ℕ → ℕ → Bool
is_kept accessed written = nat_lt 0 accessed && nat_le written accessed

kept-own : (n m : ℕ) → m ≤ n → is_kept (n + 1) m ≡ true
kept-own n m le = grind (arith, nat_tests)

kept-now : (n : ℕ) → is_kept (n + 1) (n + 1) ≡ true
kept-now n = grind (arith, nat_tests)

kept-taken : (n m : ℕ) → m ≤ n → is_kept m (n + 1) ≡ false
kept-taken n m le = grind (arith, nat_tests)

pub holders-kept : (line_of : ℕ → ℕ) (h r : ℕ) (t : List Touch)
    → holders line_of t h r ≡ is_kept (behind (is_by_in line_of h r) t)
    (behind (writes_in line_of r) t)
holders-kept line_of h r t =
    by_push (λ (t : List Touch). holders line_of t h r
    ≡ is_kept (behind (is_by_in line_of h r) t) (behind (writes_in line_of r) t))
    refl
    (λ t a ih.
    rw (
      holders-push line_of t a h r,
      behind-push (is_by_in line_of h r) t a,
      behind-push (writes_in line_of r) t a,
    )
    (elim (cases_Bool (eqb (line_of a.addr) r)) [
      | inl i ↦ elim (cases_Bool (eqb h a.hart)) [
        | inl e ↦ elim (cases_Bool (is_write a.kind)) [
          | inl w ↦ rw (i, e, w) (sym (kept-now (length t)))
          | inr w ↦ rw (i, e, w) (sym (kept-own (length t) (behind (writes_in line_of r) t)
              (behind-within (writes_in line_of r) t)))
        ]
        | inr e ↦ elim (cases_Bool (is_write a.kind)) [
          | inl w ↦ rw (i, e, w) (sym (kept-taken (length t) (behind (is_by_in line_of h r) t)
              (behind-within (is_by_in line_of h r) t)))
          | inr w ↦ rw (i, e, w) ih
        ]
      ]
      | inr i ↦ rw (
        i,
        and-false (eqb h a.hart),
        and-false (is_write a.kind),
      ) ih
    ]))
    t

-- what a copy lacks depends on the word alone
pub lacks-word : (c : Option ℕ) (t : List Touch) (h x y : ℕ) → word_of x ≡ word_of y
    → lacks c t h x ≡ lacks c t h y
lacks-word None t h x y same = refl
lacks-word (Some load) t h x y same = ap (λ w. list_any (λ (b : Touch). is_write b.kind
    && not (eqb h b.hart) && eqb (word_of b.addr) w) (drop (load + 1) t)) same

-- and where it lacks nothing there is one
copy-there : (c : Option ℕ) (t : List Touch) (h x : ℕ) → lacks c t h x ≡ false
    → eqb (right_after c) 0 ≡ false
copy-there None t h x e = absurd (false≢true (sym e))
copy-there (Some load) t h x e = above_zero load

-- a copy, where there is one, is old where the word's latest write is another hart's and is behind
-- the load
abbrev pub is_old : ℕ → ℕ → ℕ → ℕ → Bool
is_old loaded h written by = (eqb loaded 0) || (nat_lt loaded written && not (eqb h by))

old-loaded : (n m h g : ℕ) → m ≤ n + 1 → is_old (n + 1) h m g ≡ false
old-loaded n m h g le = grind (arith, nat_tests)

written-within : (p : Touch → Bool) (t : List Touch) (a : Touch)
    → (if p a then length t + 1 else behind p t) ≤ length t + 1
written-within p t a =
    let le = behind-within p t in
    elim (cases_Bool (p a)) [ inl e ↦ rw e (omega arith) | inr e ↦ rw e (omega (arith, le)) ]

-- where h wrote the word itself and needed no load for it, its copy lacks nothing of the word
own_write : (line_of : ℕ → ℕ) (h x : ℕ) (t : List Touch) (a : Touch) → KeepsWords line_of
    → eqb h a.hart ≡ true → word_of a.addr ≡ word_of x
    → (is_by_in line_of h (line_of x) a && lacks (copies line_of t h (line_of x)) t h a.addr)
    ≡ false
    → (eqb (right_after (copies line_of t h (line_of x))) 0 ≡ false) × (wants line_of t h x ≡ false)
own_write line_of h x t a keeps e same unneeded =
    let i : eqb (line_of a.addr) (line_of x) ≡ true = eq-eqb _ _ (keeps a.addr x same) in
    let none : lacks (copies line_of t h (line_of x)) t h a.addr ≡ false = rw (e, i) at unneeded in (
      copy-there (copies line_of t h (line_of x)) t h a.addr none,
      lacks-word (copies line_of t h (line_of x)) t h x a.addr (sym same) ∙ none,
    )

pub wants-old : (line_of : ℕ → ℕ) (h x : ℕ) (t : List Touch) → KeepsWords line_of
    → wants line_of t h x ≡ is_old (right_after (copies line_of t h (line_of x))) h
    (behind (writes_word x) t) (last_hart (writes_word x) t)
wants-old line_of h x t keeps =
    by_push (λ (t : List Touch). wants line_of t h x
    ≡ is_old (right_after (copies line_of t h (line_of x))) h (behind (writes_word x) t)
    (last_hart (writes_word x) t))
    (rw (wants-empty line_of h x, copies-empty line_of h (line_of x)) refl)
    (λ t a ih.
    let c = copies line_of t h (line_of x) in
    let le = copies-within line_of t h (line_of x) in
    rw (
      wants-push line_of t a h x,
      copies-push line_of t a h (line_of x),
      behind-push (writes_word x) t a,
      last_hart-push (writes_word x) t a,
    )
    (elim (cases_Bool (is_by_in line_of h (line_of x) a && lacks c t h a.addr)) [
      | inl l ↦ rw l (sym (old-loaded (length t) _ h _ (written-within (writes_word x) t a)))
      | inr l ↦ elim (cases_Bool (is_write a.kind)) [
        | inr w ↦ rw (l, w, or-false) ih
        | inl w ↦ elim (cases_Bool (eqb (word_of a.addr) (word_of x))) [
          | inr v ↦ rw (l, w, v, and-false (not (eqb h a.hart)), or-false) ih
          | inl v ↦ elim (cases_Bool (eqb h a.hart)) [
            | inl e ↦
                let own = own_write line_of h x t a keeps e (eqb-true _ _ v) l in
                rw (l, w, v, e, own.1, own.0, and-false) refl
            | inr e ↦
                rw (
                  l,
                  w,
                  v,
                  e,
                  or-true (wants line_of t h x),
                  lt-ltb (right_after c) (length t + 1) (omega (arith, le)),
                  or-true (eqb (right_after c) 0),
                ) refl
          ]
        ]
      ]
    ]))
    t
