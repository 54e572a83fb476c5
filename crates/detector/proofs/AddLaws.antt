-- What a written line and a saved track leave of the entries.
use Rattle.std.proofs.Common.{◌≡◌, ℕ, ◌<◌, ◌≤◌, ◌^◌, eqb, List, [], ◌∷◌, ◌++◌, Some, None}
use Rattle.std.proofs.Common.{length, refl, sym, ap, ◌∙◌, subst, arith, inl, inr, length-append}
use Rattle.std.proofs.lemmas.Bool.{cases_Bool, cases_lt, eqb-true}
use Rattle.std.specs.Prelude.{if◌then◌else◌, unwrap_or, is_some, IfSome, Result, OnErr, Err}
use Rattle.std.specs.FinMap as finite
use Rattle.base.specs.Levels.{Levels}
use Rattle.base.specs.Lines.{Grid}
use Rattle.detector.specs.declared.line_entry.LineEntry.{LineEntry}
use Rattle.detector.specs.Entries.{Entries, IsEntry, blank_entry, entry_at}
use Rattle.sharing_rules.specs.declared.line_kind.LineKind.{LineKind}
use Rattle.sharing_rules.specs.declared.line_kind.LineKind.TheVariants.{Observed, Shifted, Doubled}
use Rattle.line_tracks.specs.TrackValue.{TrackValue}
use Rattle.detector.specs.Added.{IsAddable}
use Rattle.detector.specs.Index.{IsIndexed, IsNamed, Names, names_in, place_in}
use Rattle.detector.specs.Named.{line_of_base, track_named}
use Rattle.detector.specs.Tasks.{with_name}
use Rattle.detector.proofs.NamedLaws.{is_some-kept, named-more, same_name, with_name-other}
use Rattle.detector.proofs.CountLaws.{count_at-counts_of}
use Rattle.detector.proofs.FourPlaces.{slice_get-more}
use Rattle.detector.proofs.SettleLaws.{changed-names}
use Rattle.detector.proofs.TaskLaws.{none_from}
use Rattle.sharing_rules.specs.Laws.Lists.{slice_cases}

-- no line past 2^30 was written
pub none_past : (m : Entries) (q : ℕ) → IfSome (finite.get m q) (IsEntry q) → 2 ^ 30 < q
    → (entry_at m q).writes ≡ 0
none_past m q only past =
    elim (slice_cases (finite.get m q)) [
      | inl none ↦ ap (λ o. (unwrap_or o blank_entry).writes) none
      | inr there ↦ absurd (let small = (subst (λ o. IfSome o (IsEntry q)) there.1 only).in_range in
          omega arith)
    ]

-- a line that was written has a small number
pub written_small : (m : Entries) (q : ℕ) → IfSome (finite.get m q) (IsEntry q)
    → 0 < (entry_at m q).writes → q ≤ 2 ^ 30
written_small m q only some = elim (cases_lt (2 ^ 30) q) [
  | inl past ↦ absurd (let none = none_past m q only past in omega arith)
  | inr small ↦ small
]

-- an entry that counts as many writes
abbrev pub counting : LineEntry → ℕ → LineEntry
counting e n = record e { writes = n }

counting-places : (e : LineEntry) (n : ℕ) (kind : LineKind) → place_in (counting e n) kind
    ≡ place_in e kind
counting-places e n Observed = refl
counting-places e n Shifted = refl
counting-places e n Doubled = refl

-- a line without a write was written no more often than there were accesses
pub written-indexed : (f h : ℕ → LineEntry) (g : Grid) (xs : List TrackValue) (T p k n : ℕ)
    (e : LineEntry)
    → ((q : ℕ) → h q ≡ (if eqb q k then counting e n else f q)) → e ≡ f k → (f k).writes ≡ 0 → n ≤ p
    → IsIndexed f g xs T p
    → IsIndexed h g xs T p
written-indexed f h g xs T p k n e each lent fresh few indexed = record {
  names = subst (λ (N : Names). IsNamed N g xs) (sym names) indexed.names;
  late = λ q i at.
      let late = indexed.late q i (sym (ap (λ (N : Names). N Observed q) names) ∙ at) in
      elim (cases_Bool (eqb q k)) [
        | inl here ↦ let none : (f q).writes ≡ 0 = ap (λ z. (f z).writes) (eqb-true q k here)
            ∙ fresh in omega arith
        | inr other ↦ rw (each q, other) late
      ];
  written = λ q.
      elim (cases_Bool (eqb q k)) [
        | inl here ↦ rw (each q, here) few
        | inr other ↦ rw (each q, other) (indexed.written q)
      ];
  in_time = indexed.in_time;
  blank = indexed.blank;
  few = indexed.few;
}
  where
    names : names_in h ≡ names_in f
    names = changed-names f h k (counting e n) each
        (λ kind. counting-places e n kind ∙ ap (λ (x : LineEntry). place_in x kind) lent)

-- the line of a track that may be added was written
pub addable-written : (m : Entries) (g : Grid) (xs : List TrackValue) (v : Levels) (p k : ℕ) (x : TrackValue)
    → IsAddable m g xs v p x
    → k ≡ line_of_base g x.range → 0 < (entry_at m k).writes
addable-written m g xs v p k x addable line = subst (λ q. 0 < (entry_at m q).writes) (sym line)
    (subst (λ n. 0 < n) (count_at-counts_of m (line_of_base g x.range)) addable.can.written)

-- a track that has no track of its kind beside it has no name yet
unnamed : (N : Names) (g : Grid) (xs : List TrackValue) (kind : LineKind) (k : ℕ) → IsNamed N g xs
    → track_named g kind k xs ≡ None
    → N kind k ≡ None
unnamed N g xs kind k named fresh = none_from (N kind k)
    (sym (is_some-kept N g xs kind k named) ∙ ap is_some fresh)

-- one track more, as it was saved
pub added-indexed : (m n : Entries) (g : Grid) (xs ys : List TrackValue) (v : Levels) (p k : ℕ) (x : TrackValue)
    → IsAddable m g xs v p x
    → k ≡ line_of_base g x.range → names_in (entry_at n)
    ≡ with_name (names_in (entry_at m)) x.kind k (Some (length xs))
    → ((q : ℕ) → (entry_at n q).writes ≡ (entry_at m q).writes) → length xs < 2 ^ 31 → ys ≡ xs
    ++ x ∷ []
    → IsIndexed (entry_at n) g ys v.tracking p
added-indexed m n g xs ys v p k x addable line names writes room is =
    let can = addable.can in
    let indexed = addable.indexed in
    let now : names_in (entry_at n) ≡ with_name (names_in (entry_at m)) x.kind
    (line_of_base g x.range) (Some (length xs)) =
    names ∙ ap (λ q. with_name (names_in (entry_at m)) x.kind q (Some (length xs))) line in
    subst (λ zs. IsIndexed (entry_at n) g zs v.tracking p) (sym is) (record {
      names = subst (λ (M : Names). IsNamed M g (xs ++ x ∷ [])) (sym now)
          (named-more (names_in (entry_at m)) g xs x indexed.names
          (unnamed (names_in (entry_at m)) g xs x.kind
          (line_of_base g x.range) indexed.names can.fresh) can.shaped);
      late = λ q i at. subst (λ z. v.tracking ≤ z) (sym (writes q))
          (elim (same_name x.kind Observed (line_of_base g x.range) q) [
            | inl this ↦
                subst (λ z. v.tracking ≤ (entry_at m z).writes) (sym this.1)
                (subst (λ z. v.tracking ≤ z) (count_at-counts_of m (line_of_base g x.range))
                (can.due (sym this.0)))
            | inr other ↦ indexed.late q i
                (sym (with_name-other (names_in (entry_at m)) x.kind Observed
                (line_of_base g x.range) q (Some (length xs)) other)
                ∙ sym (ap (λ (M : Names). M Observed q) now) ∙ at)
          ]);
      written = λ q. subst (λ z. z ≤ p) (sym (writes q)) (indexed.written q);
      in_time = λ i y at. elim (slice_get-more xs x y i at) [
        | inl before ↦ indexed.in_time i y before
        | inr last ↦ rw last.1 can.in_time
      ];
      blank = λ i y at. elim (slice_get-more xs x y i at) [
        | inl before ↦ indexed.blank i y before
        | inr last ↦ rw last.1 can.blank
      ];
      few = omega (arith, length-append xs (x ∷ []));
    })

-- what an Err says
pub at_err : {A E : Type 0} (r : Result A E) (e : E) (P : Type 0) → r ≡ Err e → OnErr r P → P
at_err r e P is h = subst (λ z. OnErr z P) is h
