-- Tracks with the verdict false are quiet.
use Rattle.std.proofs.Common.{◌≡◌, Bool, true, false, List, [], ◌∷◌, map, refl, ap, subst, inl, inr}
use Rattle.std.proofs.lemmas.Bool.{cases_Bool, false≢true}
use Rattle.std.proofs.lemmas.List.Elements.{All-cons, All-map, All-nil}
use Rattle.std.proofs.lemmas.List.Sorted.{All-permutation, IsPermutation-sym}
use Rattle.std.specs.Prelude.{IsTrue, ◌||◌, ◌==◌}
use Rattle.std.specs.List.{All, list_all, list_any}
use Rattle.base.specs.Lines.{is_layout}
use Rattle.line_tracks.specs.Laws.Quiet.{track-words, unshared-quiet}
use Rattle.sharing_rules.specs.AccessLists.{AccessList}
use Rattle.sharing_rules.specs.Lines.{is_inside}
use Rattle.sharing_rules.specs.Listed.{may_predict}
use Rattle.sharing_rules.specs.Members.{Member}
use Rattle.sharing_rules.specs.Observed.{first_write_from}
use Rattle.sharing_rules.specs.Opened.{Opened, opened}
use Rattle.sharing_rules.specs.Verdicts.{is_truly_shared, verdict_of}
use Rattle.sharing_rules.specs.declared.line_kind.Verdict.{Verdict}
use Rattle.sharing_rules.specs.declared.line_kind.Verdict.TheVariants.{FalseSharing, TrueSharing}
use Rattle.sharing_rules.specs.declared.line_kind.Verdict.TheVariants.{Mixed}
use Rattle.sharing_rules.specs.declared.word.Word.{Word}
use Rattle.line_tracks.specs.KeptIn.{kept_in}
use Rattle.line_tracks.specs.Laws.WordLines.{held-inside, layout-sized}
use Rattle.detector.specs.Quiet.{AreQuietWhereFalse, IsQuietWhereFalse}
use Rattle.detector.specs.Standing.{StandsFor}
use Rattle.detector.specs.Watch.{Watch}
use Rattle.detector.proofs.StatedLaws.{good_lines}

abbrev is_false : Verdict → Bool
is_false FalseSharing = true
is_false TrueSharing = false
is_false Mixed = false

-- the verdict is false only where no word is truly shared
unshared : (ws : List Word) → verdict_of ws ≡ FalseSharing → list_any is_truly_shared ws ≡ false
unshared ws e =
    let z : is_false (verdict_of ws) ≡ true = ap is_false e in
    elim (cases_Bool (list_any is_truly_shared ws)) [
      | inl shared ↦ elim (cases_Bool (list_all (λ w. is_truly_shared w || (w.writes == 0)) ws)) [
        | inl each ↦ let no : false ≡ true = rw (shared, each) at z in absurd (false≢true no)
        | inr some ↦ let no : false ≡ true = rw (shared, some) at z in absurd (false≢true no)
      ]
      | inr none ↦ none
    ]

quiet_kept : (t : AccessList) (o : Opened) → is_layout o.line.size o.line.offset ≡ true
    → IsQuietWhereFalse t (kept_in t o)
quiet_kept t o allowed = λ s start verdict addr holds.
    let words = track-words o.line t (first_write_from o.from (is_inside o.line) t) s start in
    let none = subst (λ (ws : List Word). list_any is_truly_shared ws ≡ false) words
    (unshared (kept_in t o).words verdict) in
    unshared-quiet o.line s t allowed none addr (held-inside o.line addr
    (layout-sized o.line.size o.line.offset allowed).0 holds)

all_of_members : (P : Opened → Type 0) (os : List Opened) → ((o : Opened) → Member o os → P o)
    → All P os
all_of_members P [] each = All-nil P
all_of_members P (o ∷ os) each = All-cons P o os (each o (inl refl))
    (all_of_members P os (λ z m. each z (inr m)))

pub quiet_tracks : (t : AccessList) (w : Watch) → is_layout w.grid.size w.grid.offset ≡ true
    → IsTrue (may_predict w.grid w.levels)
    → StandsFor t w
    → AreQuietWhereFalse t w
quiet_tracks t w allowed may stands =
    let each = all_of_members (λ o. IsQuietWhereFalse t (kept_in t o)) (opened w.grid w.levels t)
    (λ o m. quiet_kept t o
    (good_lines w.grid w.levels t o (record { allowed = allowed; may = may }) m).0) in
    All-permutation (IsQuietWhereFalse t) (map (kept_in t) (opened w.grid w.levels t)) w.tracks
    (IsPermutation-sym w.tracks (map (kept_in t) (opened w.grid w.levels t)) stands.tracks)
    (All-map (IsQuietWhereFalse t) (kept_in t) (opened w.grid w.levels t) each)
