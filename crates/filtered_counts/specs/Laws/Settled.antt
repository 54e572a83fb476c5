-- What holds of a hart and a word once the hart has accessed the word and nobody else came near:
-- the hart holds the line, and its copy lacks nothing of the word.
use Rattle.std.proofs.Common.{◌≡◌, ℕ, Bool, true, false, eqb, not, ◌&&◌, ◌||◌, List, [], ◌∷◌, ◌++◌}
use Rattle.std.proofs.Common.{Option, Some, None, refl, sym, ap, ◌∙◌, subst, inl, inr, drop, ◌+◌}
use Rattle.std.proofs.lemmas.Bool.{cases_Bool, false≢true, and_parts, and_from, and_right, or_cases}
use Rattle.std.proofs.lemmas.Bool.{or_left, or_right, eqb-true, eq-eqb}
use Rattle.std.proofs.lemmas.List.Folds.{list_any-append}
use Rattle.std.specs.Prelude.{if◌then◌else◌}
use Rattle.std.specs.List.{list_any}
use Rattle.base.specs.Touch.{Touch, is_write, word_of}
use Rattle.sharing_rules.specs.AccessLists.{AccessList, writes_to}
use Rattle.sharing_rules.specs.Holders.{holders}
use Rattle.sharing_rules.specs.Laws.Counts.{holders-push}
use Rattle.sharing_rules.specs.Laws.Lists.{by_push}
use Rattle.misses.specs.Misses.{changes, copies, is_by_in, lacks, wants}
use Rattle.misses.specs.Laws.Copies.{wants-push}
use Rattle.misses.specs.WordLines.{KeepsWords}
use Rattle.sharing_rules.specs.Filtered.{comes_near, covers, is_near, is_redundant}
use Rattle.filtered_counts.specs.Laws.Redundant.{covers-parts, is_redundant-push}

-- the addresses of a line are near each other under k
abbrev pub LiesNear : ℕ → (ℕ → ℕ) → Type 0
LiesNear k line_of = (x y : ℕ) → line_of x ≡ line_of y → is_near k x y ≡ true

-- Hart h holds the line of address x with its word, and has come there. Where it wrote, no other
-- hart holds the line, and the other harts' copies lack the word.
pub record IsSettled (line_of : ℕ → ℕ) (wrote : Bool) (h x : ℕ) (t : AccessList) : Type 0 where
  pub holds : holders line_of t h (line_of x) ≡ true
  pub complete : wants line_of t h x ≡ false
  pub come : list_any (is_by_in line_of h (line_of x)) t ≡ true
  pub alone : wrote ≡ true → (g : ℕ) → eqb g h ≡ false → holders line_of t g (line_of x) ≡ false
  pub lacking : wrote ≡ true → (g y : ℕ) → eqb g h ≡ false → word_of y ≡ word_of x
      → wants line_of t g y ≡ true
  pub written : wrote ≡ true → list_any (writes_to (λ b. eqb (line_of b) (line_of x))) t ≡ true

own : (x : ℕ) → eqb x x ≡ true
own x = eq-eqb x x refl

and-not : (x y : Bool) → ((x && not true) && y) ≡ false
and-not true y = refl
and-not false y = refl

and-no : (x y : Bool) → ((x && y) && false) ≡ false
and-no true true = refl
and-no true false = refl
and-no false y = refl

and-none : (x : Bool) → (x && false) ≡ false
and-none true = refl
and-none false = refl

always : (x : Bool) → (x || true) ≡ true
always true = refl
always false = refl

none-either : (x : Bool) → (if x then false else false) ≡ false
none-either true = refl
none-either false = refl

pub own-hart : (x y : Bool) → not (not x && y) ≡ true → y ≡ true → x ≡ true
own-hart true y e f = refl
own-hart false true e f = absurd (false≢true e)
own-hart false false e f = absurd (false≢true f)

wrote-too : (x y : Bool) → (x || not y) ≡ true → y ≡ true → x ≡ true
wrote-too true y e f = refl
wrote-too false true e f = absurd (false≢true e)
wrote-too false false e f = absurd (false≢true f)

-- a copy lacks all of a word or nothing of it
lacks-word : (c : Option ℕ) (t : List Touch) (h x y : ℕ) → word_of x ≡ word_of y
    → lacks c t h x ≡ lacks c t h y
lacks-word None t h x y same = refl
lacks-word (Some load) t h x y same =
    ap (λ w. list_any (λ b. is_write b.kind && not (eqb h b.hart) && eqb (word_of b.addr) w)
    (drop (load + 1) t)) same

unchanged : (b : Touch) (x : ℕ) → changes b.hart x b ≡ false
unchanged b x = rw (own b.hart) (and-not (is_write b.kind) (eqb (word_of b.addr) (word_of x)))

-- right after an access of the word
settled-first : (line_of : ℕ → ℕ) (t : List Touch) (b : Touch) (wrote : Bool) (x : ℕ)
    → KeepsWords line_of → word_of b.addr ≡ word_of x → (wrote ≡ true → is_write b.kind ≡ true)
    → IsSettled line_of wrote b.hart x (t ++ b ∷ [])
settled-first line_of t b wrote x keeps word write =
    let line : line_of b.addr ≡ line_of x = keeps b.addr x word in
    let in_line : eqb (line_of b.addr) (line_of x) ≡ true = eq-eqb _ _ line in
    let by : is_by_in line_of b.hart (line_of x) b ≡ true = and_from _ _ (own b.hart) in_line in
    record {
      holds = rw (holders-push line_of t b b.hart (line_of x), in_line, own b.hart) refl;
      complete =
          wants-push line_of t b b.hart x
          ∙ rw by (elim (cases_Bool (lacks (copies line_of t b.hart (line_of x)) t b.hart b.addr)) [
            | inl e ↦ rw e refl
            | inr e ↦
                let there : wants line_of t b.hart x ≡ false =
                sym (lacks-word (copies line_of t b.hart (line_of x)) t b.hart b.addr x word) ∙ e in
                rw (e, there, unchanged b x) refl
          ]);
      come = list_any-append (is_by_in line_of b.hart (line_of x)) t (b ∷ [])
          ∙ or_right _ _ (or_left _ _ by);
      alone = λ w g other.
          rw (holders-push line_of t b g (line_of x), in_line, other, write w) refl;
      lacking = λ w g y other same.
          let new : changes g y b ≡ true =
          rw (write w, other, eq-eqb (word_of b.addr) (word_of y) (word ∙ sym same)) refl in
          let away : is_by_in line_of g (line_of y) b ≡ false = rw other refl in
          wants-push line_of t b g y ∙ rw (away, new) (always (wants line_of t g y));
      written = λ w. list_any-append (writes_to (λ b. eqb (line_of b) (line_of x))) t (b ∷ [])
          ∙ or_right _ _ (or_left _ _ (and_from _ _ (write w) in_line));
    }

-- after an access elsewhere, or by the same hart
settled-later : (line_of : ℕ → ℕ) (t : List Touch) (c : Touch) (wrote : Bool) (h x : ℕ)
    → KeepsWords line_of → (line_of c.addr ≡ line_of x → c.hart ≡ h)
    → IsSettled line_of wrote h x t → IsSettled line_of wrote h x (t ++ c ∷ [])
settled-later line_of t c wrote h x keeps alone s = record {
  holds = holders-push line_of t c h (line_of x)
      ∙ elim (cases_Bool (eqb (line_of c.addr) (line_of x))) [
        | inl here ↦
            let same : eqb h c.hart ≡ true = eq-eqb _ _ (sym (alone (eqb-true _ _ here))) in
            rw (here, same) refl
        | inr there ↦ rw there s.holds
      ];
  complete =
      let old : changes h x c ≡ false =
      elim (cases_Bool (eqb (word_of c.addr) (word_of x))) [
        | inl word ↦
            let same : eqb h c.hart ≡ true =
            eq-eqb _ _ (sym (alone (keeps c.addr x (eqb-true _ _ word)))) in
            rw same (and-not (is_write c.kind) (eqb (word_of c.addr) (word_of x)))
        | inr word ↦ rw word (and-no (is_write c.kind) (not (eqb h c.hart)))
      ] in
      wants-push line_of t c h x ∙ rw (s.complete, old) (none-either _);
  come = list_any-append (is_by_in line_of h (line_of x)) t (c ∷ []) ∙ or_left _ _ s.come;
  alone = λ w g other. holders-push line_of t c g (line_of x)
      ∙ elim (cases_Bool (eqb (line_of c.addr) (line_of x))) [
        | inl here ↦
            let away : eqb g c.hart ≡ false =
            subst (λ i. eqb g i ≡ false) (sym (alone (eqb-true _ _ here))) other in
            rw (here, away, s.alone w g other) (and-none (not (is_write c.kind)))
        | inr there ↦ rw there (s.alone w g other)
      ];
  lacking = λ w g y other same.
      let line : line_of y ≡ line_of x = keeps y x same in
      let away : is_by_in line_of g (line_of y) c ≡ false =
      elim (cases_Bool (eqb (line_of c.addr) (line_of y))) [
        | inl here ↦
            let not_g : eqb g c.hart ≡ false =
            subst (λ i. eqb g i ≡ false) (sym (alone (eqb-true _ _ here ∙ line))) other in
            rw not_g refl
        | inr there ↦ and_right _ _ there
      ] in
      wants-push line_of t c g y ∙ rw away (or_left _ _ (s.lacking w g y other same));
  written = λ w. list_any-append (writes_to (λ b. eqb (line_of b) (line_of x))) t (c ∷ [])
      ∙ or_left _ _ (s.written w);
}

-- a redundant access finds all so
pub settled : (k : ℕ) (line_of : ℕ → ℕ) (t : List Touch) (a : Touch) → KeepsWords line_of
    → LiesNear k line_of → is_redundant k t a ≡ true
    → IsSettled line_of (is_write a.kind) a.hart a.addr t
settled k line_of t a keeps near =
    by_push (λ (t : List Touch). is_redundant k t a ≡ true
    → IsSettled line_of (is_write a.kind) a.hart a.addr t)
    (λ e. absurd (false≢true e))
    (λ t c ih e.
    let g : ((is_redundant k t a && not (comes_near k a.hart a.addr c)) || covers c a) ≡ true =
    sym (is_redundant-push k t c a) ∙ e in
    elim (or_cases (is_redundant k t a && not (comes_near k a.hart a.addr c)) (covers c a) g) [
      | inl before ↦
          let p = and_parts (is_redundant k t a) (not (comes_near k a.hart a.addr c)) before in
          settled-later line_of t c (is_write a.kind) a.hart a.addr keeps
          (λ line. eqb-true _ _ (own-hart (eqb c.hart a.hart) (is_near k c.addr a.addr) p.1
          (near c.addr a.addr line))) (ih p.0)
      | inr now ↦
          let p = covers-parts c a now in
          subst (λ h. IsSettled line_of (is_write a.kind) h a.addr (t ++ c ∷ []))
          (eqb-true _ _ p.0)
          (settled-first line_of t c (is_write a.kind) a.addr keeps p.1
          (λ w. wrote-too (is_write c.kind) (is_write a.kind) p.2 w))
    ])
    t
