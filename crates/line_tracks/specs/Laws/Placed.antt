-- The order of tracks is an order, and no two tracks that a list keeps tie in it.
use Rattle.std.proofs.Common.{◌≡◌, ℕ, Bool, true, false, not, eqb, ltb, ◌&&◌, ◌||◌, ℤ, List, []}
use Rattle.std.proofs.Common.{◌∷◌, map, IsTrue, ◌<◌, ◌%◌, refl, ◌∙◌, arith}
use Rattle.std.proofs.lemmas.Bool.{and_parts}
use borrow.Author.Tests.{ltb-true}
use Rattle.std.proofs.lemmas.Bool.Decides.{nat_tests}
use Rattle.std.proofs.lemmas.Int.{ints}
use Rattle.std.specs.Cmp.{IsStrictWeakOrder}
use Rattle.std.specs.Prelude.{int_lt}
use Rattle.std.specs.List.{AllByRecursion, IsDistinct}
use Rattle.base.specs.Levels.{Levels}
use Rattle.base.specs.Lines.{Grid, is_layout, is_line_size}
use Rattle.sharing_rules.specs.AccessLists.{AccessList}
use Rattle.sharing_rules.specs.Listed.{may_predict, rank}
use Rattle.sharing_rules.specs.Members.{ties}
use Rattle.sharing_rules.specs.Opened.{is_placed_before as is_opened_before, opened}
use Rattle.sharing_rules.specs.Laws.Kept.{opened-apart}
use Rattle.line_tracks.specs.TrackValue.{TrackValue}
use Rattle.line_tracks.specs.KeptIn.{kept_in}
use Rattle.line_tracks.specs.Placed.{AreApart, is_placed_before}

-- by a number, then by an integer
abbrev pub placed : ℕ → ℤ → ℕ → ℤ → Bool
placed k b l e = ltb k l || (eqb k l && int_lt b e)

placed-one_way : (k : ℕ) (b : ℤ) (l : ℕ) (e : ℤ) → placed k b l e ≡ true → placed l e k b ≡ false
placed-one_way k b l e h = grind (arith, ints, nat_tests)

placed-chain : (k : ℕ) (b : ℤ) (l : ℕ) (e : ℤ) (m : ℕ) (z : ℤ) → placed k b l e ≡ false
    → placed l e m z ≡ false → placed k b m z ≡ false
placed-chain k b l e m z h i = grind (arith, ints, nat_tests)

pub is_placed_before-ranks : IsStrictWeakOrder is_placed_before
is_placed_before-ranks = record {
  one_way = λ x y h. placed-one_way (rank x.kind) x.range.base (rank y.kind) y.range.base h;
  chain = λ x y z h k. placed-chain (rank x.kind) x.range.base (rank y.kind) y.range.base
      (rank z.kind) z.range.base h k;
}

placed-ties : (k : ℕ) (b : ℤ) (l : ℕ) (e : ℤ) → not (placed k b l e || placed l e k b) ≡ true
    → (k ≡ l) × (b ≡ e)
placed-ties k b l e h = (grind (arith, ints, nat_tests), grind (arith, ints, nat_tests))

-- tracks that tie have one kind and one base
pub is_placed_before-ties : (x y : TrackValue) → ties is_placed_before x y ≡ true
    → (rank x.kind ≡ rank y.kind) × (x.range.base ≡ y.range.base)
is_placed_before-ties x y h = placed-ties (rank x.kind) x.range.base (rank y.kind) y.range.base h

all_map : {X Y : Type 0} (h : X → Y) (P : X → Type 0) (Q : Y → Type 0)
    → ((x : X) → P x → Q (h x)) → (xs : List X) → AllByRecursion P xs → AllByRecursion Q (map h xs)
all_map h P Q f [] all = tt
all_map h P Q f (x ∷ xs) all = (f x all.0, all_map h P Q f xs all.1)

distinct_map : {X Y : Type 0} (h : X → Y) (e : X → X → Bool) (d : Y → Y → Bool)
    → ((x y : X) → d (h x) (h y) ≡ e x y) → (xs : List X) → IsDistinct e xs
    → IsDistinct d (map h xs)
unfolding IsDistinct
distinct_map h e d same [] apart = tt
distinct_map h e d same (x ∷ xs) apart = (
  all_map h (λ y. e x y ≡ false) (λ y. d (h x) y ≡ false)
      (λ y a. same x y ∙ a) xs apart.0,
  distinct_map h e d same xs apart.1,
)

layout-some : (n o : ℕ) → is_layout n o ≡ true → 0 < n
layout-some n o e =
    let below = and_parts (is_line_size n) (ltb o n) (and_parts (is_line_size n && ltb o n) (eqb
    (o % 4) 0) e).0 in
    let least : o < n = ltb-true o n below.1 in
    omega arith

-- the tracks that a list keeps
pub kept-apart : (g : Grid) (v : Levels) (t : AccessList) → is_layout g.size g.offset ≡ true
    → IsTrue (may_predict g v) → AreApart (map (kept_in t) (opened g v t))
kept-apart g v t good native =
    distinct_map (kept_in t) (ties is_opened_before) (ties is_placed_before) (λ x y. refl)
    (opened g v t) (opened-apart g v t (layout-some g.size g.offset good) native)
