-- The words after one access more.
use Rattle.std.proofs.Common.{◌≡◌, ℕ, ◌+◌, ◌/◌, ◌<◌, ◌≤◌, Bool, true, cond, eqb, not, ◌&&◌, List}
use Rattle.std.proofs.Common.{[], ◌∷◌, ◌++◌, Some, map, length, refl, sym, ap, ◌∙◌, arith, inl, inr}
use Rattle.std.proofs.lemmas.List.{append-nil, map-append, drop-append-le, length-map, length-set}
use Rattle.std.proofs.lemmas.Option.{slice_get_past}
use Rattle.std.proofs.lemmas.List.Sums.{sum_by_push}
use Rattle.std.proofs.lemmas.List.Elements.{filter-append}
use Rattle.std.proofs.lemmas.Bool.{cases_Bool, cases_eq, cases_lt, eq-eqb, ne_eqb}
use Rattle.std.proofs.Math.Nat.{add-zero}
use Rattle.std.specs.Prelude.{if◌then◌else◌, filter, drop, slice_get, slice_set, count_by}
use Rattle.std.specs.List.{list_any}
use Rattle.base.specs.Touch.{Touch, is_write}
use Rattle.sharing_rules.specs.Arrivals.{each_once, note_arrival}
use Rattle.sharing_rules.specs.Lines.{Line, is_inside, word_place}
use Rattle.sharing_rules.specs.Places.{below}
use Rattle.sharing_rules.specs.Words.{tally, owner_of, word_since, words_since, note_owner}
use Rattle.sharing_rules.specs.Words.{note_word}
use Rattle.sharing_rules.specs.declared.word.Word.{Word}
use Rattle.sharing_rules.specs.Laws.Arrivals.{each_once-push}
use Rattle.sharing_rules.specs.Laws.Lists.{get-set_other, get-set_same, length-below, same_by_get}
use Rattle.sharing_rules.specs.Laws.Lists.{slice_get-map-below}

owner-push : (hs : List ℕ) (h : ℕ) → owner_of (note_arrival hs h) ≡ note_owner (owner_of hs) h
owner-push [] h = refl
owner-push (g ∷ []) h = elim (cases_Bool (eqb h g)) [ inl e ↦ rw e | inr e ↦ rw e ]
owner-push (g ∷ (k ∷ hs)) h = elim (cases_Bool (list_any (eqb h) (g ∷ (k ∷ hs))))
    [ inl e ↦ rw e | inr e ↦ rw e ]

same_word : (w v : Word) → w.reads ≡ v.reads → w.writes ≡ v.writes → w.owner ≡ v.owner → w ≡ v
same_word w v r x o = ap (λ n. record { reads = n; writes = w.writes; owner = w.owner }) r
    ∙ ap (λ n. record { reads = v.reads; writes = n; owner = w.owner }) x
    ∙ ap (λ n. record { reads = v.reads; writes = v.writes; owner = n }) o

count-push : (p : Touch → Bool) (u : List Touch) (a : Touch)
    → count_by p (u ++ a ∷ []) ≡ count_by p u + cond (p a) 1 0
count-push p u a = sum_by_push (λ x. cond (p x) 1 0) u a

pub tally-push : (u : List Touch) (a : Touch) → tally (u ++ a ∷ []) ≡ note_word (tally u) a
tally-push u a =
    let owner : owner_of (each_once (map (λ b. b.hart) (u ++ a ∷ []))) ≡ note_owner
    (owner_of (each_once (map (λ b. b.hart) u))) a.hart =
    rw (map-append {B = ℕ} (λ (b : Touch). b.hart) u (a ∷ []), each_once-push)
    (owner-push (each_once (map (λ b. b.hart) u)) a.hart) in
    same_word _ _
    (rw (count-push (λ b. not (is_write b.kind)) u a)
    (elim (cases_Bool (is_write a.kind)) [ inl e ↦ rw (e, add-zero) | inr e ↦ rw e ]))
    (rw (count-push (λ b. is_write b.kind) u a)
    (elim (cases_Bool (is_write a.kind)) [ inl e ↦ rw e | inr e ↦ rw (e, add-zero) ]))
    owner

-- a word of the line, at the access's place and elsewhere
pub word_since-push : (l : Line) (s : ℕ) (t : List Touch) (a : Touch) (i : ℕ) → s ≤ length t
    → word_since l s (t ++ a ∷ []) i ≡ if is_inside l a.addr && eqb (word_place l a.addr) i
    then note_word (word_since l s t i) a else word_since l s t i
word_since-push l s t a i le =
    let p : Touch → Bool = λ b. is_inside l b.addr && eqb (word_place l b.addr) i in
    rw (
      drop-append-le s t (a ∷ []) le,
      filter-append
          (λ (b : Touch). is_inside l b.addr && eqb (word_place l b.addr) i) (drop s t) (a ∷ []),
    )
    (elim (cases_Bool (is_inside l a.addr && eqb (word_place l a.addr) i)) [
      | inl e ↦ rw e
          (tally-push (filter (λ (b : Touch). is_inside l b.addr && eqb (word_place l b.addr) i)
          (drop s t)) a)
      | inr e ↦ rw (
        e,
        append-nil (filter (λ (b : Touch). is_inside l b.addr && eqb (word_place l b.addr) i)
            (drop s t)),
      )
    ])

-- the words, place by place
pub words_since-at : (l : Line) (s : ℕ) (t : List Touch) (i : ℕ) → i < l.size / 4
    → slice_get (words_since l s t) i ≡ Some (word_since l s t i)
unfolding words_since
words_since-at l s t i h = slice_get-map-below (word_since l s t) (l.size / 4) i h

pub length-words_since : (l : Line) (s : ℕ) (t : List Touch)
    → length (words_since l s t) ≡ l.size / 4
unfolding words_since
length-words_since l s t = length-map (below (l.size / 4)) (word_since l s t)
    ∙ length-below (l.size / 4)

-- the words with the access's own word note_word
pub words_since-push : (l : Line) (s : ℕ) (t : List Touch) (a : Touch) → s ≤ length t
    → is_inside l a.addr ≡ true → word_place l a.addr < l.size / 4
    → slice_set (words_since l s t) (word_place l a.addr)
    (note_word (word_since l s t (word_place l a.addr)) a) ≡ words_since l s (t ++ a ∷ [])
words_since-push l s t a le inside within =
    let p = word_place l a.addr in
    let len = length-words_since l s t in
    let len2 = length-words_since l s (t ++ a ∷ []) in
    same_by_get _ _ (λ i.
    elim (cases_lt i (l.size / 4)) [
      | inl here ↦
          elim (cases_eq i (word_place l a.addr)) [
            | inl at ↦
                let hit : word_since l s (t ++ a ∷ []) i ≡ note_word (word_since l s t i) a =
                rw (
                  word_since-push l s t a i le,
                  inside,
                  eq-eqb (word_place l a.addr) i
                      (sym at),
                ) in
                ap (slice_get
                (slice_set (words_since l s t) (word_place l a.addr)
                (note_word (word_since l s t (word_place l a.addr)) a))) at
                ∙ get-set_same (words_since l s t) (word_place l a.addr)
                (note_word (word_since l s t (word_place l a.addr)) a) (omega arith)
                ∙ ap (λ k. Some (note_word (word_since l s t k) a)) (sym at) ∙ ap Some (sym hit)
                ∙ sym (words_since-at l s (t ++ a ∷ []) i here)
            | inr off ↦
                let miss : word_since l s (t ++ a ∷ []) i ≡ word_since l s t i =
                rw (
                  word_since-push l s t a i le,
                  inside,
                  ne_eqb (word_place l a.addr) i
                      (λ e. off (sym e)),
                ) in
                get-set_other (words_since l s t) (word_place l a.addr) i
                (note_word (word_since l s t (word_place l a.addr)) a) off
                ∙ words_since-at l s t i here ∙ ap Some (sym miss)
                ∙ sym (words_since-at l s (t ++ a ∷ []) i here)
          ]
      | inr past ↦
          slice_get_past _ i
          (omega (
            arith,
            length-set (words_since l s t) (word_place l a.addr)
                (note_word (word_since l s t (word_place l a.addr)) a),
          ))
          ∙ sym (slice_get_past (words_since l s (t ++ a ∷ [])) i (omega arith))
    ])
