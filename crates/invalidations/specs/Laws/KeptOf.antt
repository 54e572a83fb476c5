-- One access more of a list is one access more of what is kept of it.
use Rattle.std.proofs.Common.{◌≡◌, ℕ, ◌+◌, true, false, List, [], ◌∷◌, ◌++◌, length, refl}
use Rattle.std.proofs.Common.{sym, ap, ◌∙◌, inl, inr, None, subst, zero, suc}
use Rattle.std.proofs.Common.{Result, Ok, Err}
use Rattle.std.proofs.lemmas.Bool.{cases_Bool}
use Rattle.std.proofs.lemmas.List.{append-nil, length-append}
use Rattle.std.specs.Prelude.{OnOk, nat_eq, nat_le}
use Rattle.sharing_rules.specs.Lines.{Line}
use Rattle.sharing_rules.specs.Laws.Words.{tally-push}
use Rattle.sharing_rules.specs.Places.{count_places}
use Rattle.sharing_rules.specs.Words.{tally}
use Rattle.sharing_rules.specs.declared.word.Word.{Word}
use Rattle.invalidations.specs.declared.latest.LatestTwo.{LatestTwo}
use Rattle.invalidations.specs.declared.sited.Sides.{Sides}
use Rattle.invalidations.specs.declared.sited.Sited.{Sited}
use Rattle.invalidations.specs.declared.tables.Taken.{Taken}
use Rattle.invalidations.specs.Groups.{group_of}
use Rattle.invalidations.specs.LineInvalidations.{LineInvalidations, StandsFor, kept_of}
use Rattle.invalidations.specs.LineInvalidations.{note_access, note_since, note_visit}
use Rattle.invalidations.specs.Latest.{accesses_of, latest, latest_place}
use Rattle.invalidations.specs.Laws.Bounds.{sites-at, reported_word}
use Rattle.invalidations.specs.Laws.Groups.{groups-push, nat_eq-exact}
use Rattle.invalidations.specs.Laws.Latest.{accesses_of-push}
use Rattle.invalidations.specs.Laws.Sums.{table, table-more}
use Rattle.invalidations.specs.Laws.Invalidations.{count-push, invalidations-push, visits-elsewhere}
use Rattle.invalidations.specs.Laws.Invalidations.{visits-push}
use Rattle.invalidations.specs.Laws.Two.{invalidation-elsewhere, invalidation-two, two_of-elsewhere}
use Rattle.invalidations.specs.Laws.Two.{two_of-push}
use Rattle.invalidations.specs.Invalidations.{harts_of, is_in, pairs, pcs_of, sites}
use Rattle.invalidations.specs.Invalidations.{invalidation_of, invalidations, visits}

word-push : (v : List Sited) (s : Sited)
    → reported_word (v ++ s ∷ []) ≡ Rattle.sharing_rules.specs.Words.note_word (reported_word v) s.access
word-push v s = ap tally (accesses_of-push v s) ∙ tally-push (accesses_of v) s.access

sites-push : (l : Line) (start : ℕ) (u : List Sited) (s : Sited) → is_in l s ≡ true
    → sites l start (u ++ s ∷ [])
    ≡ note_since (sites l start u) s (nat_le start (length u))
sites-push l start u s i =
    let v = visits l start u in
    rw (visits-push l start u s i)
    (elim (cases_Bool (nat_le start (length u))) [
      | inr early ↦ rw early refl
      | inl since ↦ rw since
          (groups-push nat_eq nat_eq-exact (λ (x : Sited). x.pc) reported_word v s
          ∙ rw (
            word-push (group_of nat_eq (λ (x : Sited). x.pc) v s.pc) s,
            sites-at l start u s.pc,
          ) refl)
    ])

abbrev kept_with : Line → ℕ → ℕ → ℕ → LatestTwo → List (ℕ × Word) → List (Sides × Taken)
    → List (Sides × Taken) → LineInvalidations
kept_with l start position count two sites pairs harts = record {
  line = l;
  start = start;
  position = position;
  count = count;
  two = two;
  sites = sites;
  pairs = pairs;
  harts = harts;
}

same_kept : (l : Line) (start p q c d : ℕ) (x y : LatestTwo) (es fs : List (ℕ × Word))
    (ps qs hs gs : List (Sides × Taken)) → p ≡ q → c ≡ d → x ≡ y → es ≡ fs → ps ≡ qs → hs ≡ gs
    → kept_with l start p c x es ps hs ≡ kept_with l start q d y fs qs gs
same_kept l start p q c d x y es fs ps qs hs gs e1 e2 e3 e4 e5 e6 =
    ap (λ k. kept_with l start k c x es ps hs) e1
    ∙ ap (λ k. kept_with l start q k x es ps hs) e2
    ∙ ap (λ k. kept_with l start q d k es ps hs) e3
    ∙ ap (λ k. kept_with l start q d y k ps hs) e4
    ∙ ap (λ k. kept_with l start q d y fs k hs) e5
    ∙ ap (λ k. kept_with l start q d y fs qs k) e6

kept-visited : (l : Line) (start : ℕ) (u : List Sited) (s : Sited) → is_in l s ≡ true
    → kept_of l start (u ++ s ∷ []) ≡ note_visit (kept_of l start u) s
kept-visited l start u s i =
    rw (← invalidation-two l start u s i)
    (same_kept l start _ _ _ _ _ _ _ _ _ _ _ _
    (length-append u (s ∷ []))
    (count-push l start u s)
    (two_of-push l u s i)
    (sites-push l start u s i)
    (ap (table pcs_of) (invalidations-push l start u s)
    ∙ table-more pcs_of (invalidations l start u) (invalidation_of l start u s))
    (ap (table harts_of) (invalidations-push l start u s)
    ∙ table-more harts_of (invalidations l start u) (invalidation_of l start u s)))

kept-passed : (l : Line) (start : ℕ) (u : List Sited) (s : Sited) → is_in l s ≡ false
    → kept_of l start (u ++ s ∷ [])
    ≡ record (kept_of l start u) { position = length u + 1 }
kept-passed l start u s out =
    let none = invalidation-elsewhere l start u s out in
    let same : invalidations l start (u ++ s ∷ []) ≡ invalidations l start u =
    invalidations-push l start u s ∙ rw none (append-nil (invalidations l start u)) in
    same_kept l start _ _ _ _ _ _ _ _ _ _ _ _
    (length-append u (s ∷ []))
    (count-push l start u s ∙ rw none refl)
    (two_of-elsewhere l u s out)
    (rw (visits-elsewhere l start u s out) refl)
    (ap (table pcs_of) same)
    (ap (table harts_of) same)

pub kept_of-push : (l : Line) (start : ℕ) (u : List Sited) (s : Sited)
    → kept_of l start (u ++ s ∷ []) ≡ note_access (kept_of l start u) s
kept_of-push l start u s =
    elim (cases_Bool (is_in l s)) [
      | inl i ↦ rw i (kept-visited l start u s i)
      | inr out ↦ rw out (kept-passed l start u s out)
    ]

-- so where what is kept stands for a list, it stands for the longer one after the access
pub visited : (u : List Sited) (k : LineInvalidations) (s : Sited) → StandsFor u k → is_in k.line s ≡ true
    → note_visit k s ≡ kept_of k.line k.start (u ++ s ∷ [])
visited u k s stands i =
    ap (λ (x : LineInvalidations). note_visit x s) stands ∙ sym (kept-visited k.line k.start u s i)

abbrev pub one_later : LineInvalidations → LineInvalidations
one_later k = record k { position = k.position + 1 }

pub passed : (u : List Sited) (k : LineInvalidations) (s : Sited) → StandsFor u k → is_in k.line s ≡ false
    → one_later k ≡ kept_of k.line k.start (u ++ s ∷ [])
passed u k s stands out =
    ap one_later stands ∙ sym (kept-passed k.line k.start u s out)

pub stands-visited : {T E : Type 0} (r : Result T E) (u : List Sited) (k new : LineInvalidations) (s : Sited)
    → StandsFor u k → is_in k.line s ≡ true → OnOk r (new ≡ note_visit k s)
    → OnOk r (StandsFor (u ++ s ∷ []) new)
stands-visited (Ok x) u k new s stands i noted =
    subst (StandsFor (u ++ s ∷ [])) (sym noted) (visited u k s stands i)
stands-visited (Err e) u k new s stands i noted = tt

pub stands-passed : (u : List Sited) (k new : LineInvalidations) (s : Sited) → StandsFor u k
    → is_in k.line s ≡ false → new ≡ one_later k → StandsFor (u ++ s ∷ []) new
stands-passed u k new s stands out noted =
    subst (StandsFor (u ++ s ∷ [])) (sym noted) (passed u k s stands out)

pub stands-push : (u : List Sited) (k : LineInvalidations) (s : Sited) → StandsFor u k
    → StandsFor (u ++ s ∷ []) (note_access k s)
stands-push u k s stands =
    elim (cases_Bool (is_in k.line s)) [
      | inl i ↦ rw i (visited u k s stands i)
      | inr out ↦ rw out (passed u k s stands out)
    ]

-- the empty list
pub kept_of-empty : (l : Line) (start : ℕ)
    → kept_with l start 0 0 (record { latest = None; other = None; held = false }) [] [] []
    ≡ kept_of l start []
unfolding count_places latest latest_place invalidations
kept_of-empty l zero = refl
kept_of-empty l (suc n) = refl
