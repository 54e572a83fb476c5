-- Where the accesses of a moved list lie: those of a word on the lines of its group.
use Rattle.std.proofs.Common.{◌≡◌, ℕ, suc, ◌+◌, ◌-◌, ◌*◌, ◌/◌, ◌%◌, ◌<◌, ◌≤◌, Bool, true, false}
use Rattle.std.proofs.Common.{eqb, List, [], ◌∷◌, Option, None, Some, length, refl, sym, ap}
use Rattle.std.proofs.Common.{◌∙◌, arith, inl, inr}
use Rattle.std.proofs.Math.Nat.{div-div-eq-div-mul, mod-lt}
use Rattle.std.proofs.lemmas.Bool.{cases_Bool, cases_eq, cases_lt, eq-eqb, eqb-true, false≢true}
use Rattle.std.proofs.lemmas.Nat.{div-add-mod'}
use Rattle.std.specs.Option.{option_map_or}
use Rattle.std.specs.Prelude.{◌⊎◌, option_and_then, slice_get}
use Rattle.base.specs.Lines.{line_number}
use Rattle.base.specs.Touch.{Touch, word_of}
use Rattle.sharing_rules.specs.Laws.Kinds.{Member-append, append-Member_left, append-Member_right}
use Rattle.sharing_rules.specs.Laws.Lists.{all_at, by_push, slice_cases, slice_get-map-below}
use Rattle.sharing_rules.specs.Members.{Member}
use Rattle.sharing_rules.specs.Words.{note_owner}
use Rattle.sharing_rules.specs.declared.word.Owner.{Owner}
use Rattle.sharing_rules.specs.declared.word.Owner.TheVariants as owner
use Rattle.placement.specs.Groups.{group_of, group_start, many_group, untouched_group}
use Rattle.placement.specs.Laws.Groups.{IsLineSize, IsMultiple, rounded-up, start-grows}
use Rattle.placement.specs.Laws.Groups.{start-whole}
use Rattle.placement.specs.Laws.Plans.{area-whole, ends-before, in-group}
use Rattle.placement.specs.Laws.Words.{IsWord, length-owners, owner-push, owners-at, word-found}
use Rattle.placement.specs.Plans.{area_start, in_word, moved, place, place_behind, plan_of}
use Rattle.placement.specs.Words.{Owned, end_of, first_word, index_of, owned_of, owner_in}
use Rattle.placement.specs.declared.extent.Extent.{Extent}

-- ---- lines of n bytes

-- an address in line k, which ends at k * n
pub record IsInLine (n k x : ℕ) : Type 0 where
  pub low : k * n ≤ x + n
  pub high : x < k * n

pub in_line : (n k x : ℕ) → 0 < n → line_number n 0 x ≡ k → IsInLine n k x
in_line n k x some is =
    let v : ℕ = x + n in
    let split : v / n * n + v % n ≡ v = div-add-mod' v n in
    let rest : v % n < n = mod-lt v some in
    let plain : x + n ≡ x + n - 0 = omega arith in
    let at : v / n ≡ k = ap (λ (z : ℕ). z / n) plain ∙ is in
    let lines : v / n * n ≡ k * n = ap (λ (z : ℕ). z * n) at in
    record {
      low = omega (arith, split, lines);
      high = omega (arith, split, lines, rest);
    }

-- a line ends before a multiple of n, or begins behind it
pub side_of : (n k y : ℕ) → (k * n ≤ y * n) ⊎ (y * n + n ≤ k * n)
side_of n k y =
    elim (cases_lt y k) [
      | inl less ↦
          let d : ℕ = k - (y + 1) in
          let is : k ≡ y + 1 + d = omega (arith, less) in
          let same : k * n ≡ y * n + n + d * n = ap (λ (z : ℕ). z * n) is ∙ omega arith in
          inr (omega (arith, same))
      | inr le ↦
          let d : ℕ = y - k in
          let is : y ≡ k + d = omega (arith, le) in
          let same : y * n ≡ k * n + d * n = ap (λ (z : ℕ). z * n) is ∙ omega arith in
          inl (omega (arith, same))
    ]

by_quarter : (n m x : ℕ) → n ≡ 4 * m → line_number n 0 x ≡ (x / 4 + m) / m
by_quarter n m x sized =
    let in_words : (x + 4 * m - 0) / 4 ≡ x / 4 + m = omega arith in
    ap (λ (z : ℕ). line_number z 0 x) sized ∙ sym (div-div-eq-div-mul (x + 4 * m - 0) 4 m)
    ∙ ap (λ (z : ℕ). z / m) in_words

-- the bytes of a word lie in one line
pub one_line : (n x y : ℕ) → n % 4 ≡ 0 → x / 4 ≡ y / 4 → line_number n 0 x ≡ line_number n 0 y
one_line n x y whole same =
    let sized : n ≡ 4 * (n / 4) = omega (arith, whole) in
    by_quarter n (n / 4) x sized ∙ ap (λ (z : ℕ). (z + n / 4) / (n / 4)) same
    ∙ sym (by_quarter n (n / 4) y sized)

-- ---- lines of groups

-- line k lies in the room of group g
pub record IsLineOf (n : ℕ) (o : Owned) (g k : ℕ) : Type 0 where
  pub low : area_start n o + group_start n o.owners g + n ≤ k * n
  pub high : k * n ≤ area_start n o + group_start n o.owners (suc g)

pub bound_whole : (n : ℕ) (o : Owned) (g : ℕ) → 0 < n
    → IsMultiple n (area_start n o + group_start n o.owners g)
bound_whole n o g some =
    let start = area-whole n o some in
    let group = start-whole n o.owners g some in
    record {
      lines = start.lines + group.lines;
      whole =
          let one = start.whole in
          let other = group.whole in
          omega (arith, one, other);
    }

-- the line of an address in its room
pub line_of : (n : ℕ) (o : Owned) (g k x : ℕ) → 0 < n → IsInLine n k x
    → area_start n o + group_start n o.owners g ≤ x
    → x < area_start n o + group_start n o.owners (suc g) → IsLineOf n o g k
line_of n o g k x some inside above below =
    let low = inside.low in
    let high = inside.high in
    let first = bound_whole n o g some in
    let last = bound_whole n o (suc g) some in
    let begins = first.whole in
    let ends = last.whole in
    record {
      low = elim (side_of n k first.lines) [
        | inl before ↦ absurd (omega (arith, before, begins, above, high))
        | inr behind ↦ omega (arith, behind, begins)
      ];
      high = elim (side_of n k last.lines) [
        | inl before ↦ omega (arith, before, ends)
        | inr behind ↦ absurd (omega (arith, behind, ends, below, low))
      ];
    }

not_before : (n : ℕ) (o : Owned) (g h k : ℕ) → 0 < n → IsLineOf n o g k → IsLineOf n o h k → g < h
    → ⊥
not_before n o g h k some one other less =
    let grows = start-grows n o.owners (suc g) h (omega (arith, less)) in
    let high = one.high in
    let low = other.low in
    absurd (omega (arith, grows, high, low, some))

-- no line is one of two groups
pub one_group : (n : ℕ) (o : Owned) (g h k : ℕ) → 0 < n → IsLineOf n o g k → IsLineOf n o h k → g ≡ h
one_group n o g h k some one other =
    elim (cases_eq g h) [
      | inl same ↦ same
      | inr apart ↦ elim (cases_lt g h) [
        | inl less ↦ absurd (not_before n o g h k some one other less)
        | inr more ↦ absurd (not_before n o h g k some other one (omega (arith, more, apart)))
      ]
    ]

-- ---- owners

-- whether a word with an owner may have been accessed by a hart
abbrev pub fits : Owner → ℕ → Bool
fits owner.None g = false
fits (owner.One h) g = eqb h g
fits owner.Many g = true

fits_new : (o : Owner) (g : ℕ) → fits (note_owner o g) g ≡ true
fits_new owner.None g = eq-eqb g g refl
fits_new (owner.One h) g =
    elim (cases_Bool (eqb g h)) [
      | inl same ↦ rw same (eq-eqb h g (sym (eqb-true g h same)))
      | inr other ↦ rw other refl
    ]
fits_new owner.Many g = refl

fits_still : (o : Owner) (g x : ℕ) → fits o x ≡ true → fits (note_owner o g) x ≡ true
fits_still owner.None g x fit = absurd (false≢true fit)
fits_still (owner.One h) g x fit =
    elim (cases_Bool (eqb g h)) [ inl same ↦ rw same fit | inr other ↦ rw other refl ]
fits_still owner.Many g x fit = refl

-- the owner of a word fits each access of it
pub owner_fits : (t : List Touch) (w : ℕ) (a : Touch) → Member a t → a.addr / 4 ≡ w
    → fits (owner_in t w) a.hart ≡ true
owner_fits t w =
    by_push (λ (t : List Touch). (a : Touch) → Member a t → a.addr / 4 ≡ w
    → fits (owner_in t w) a.hart ≡ true)
    (λ a there at. absurd there)
    (λ t b ih a there at.
    let pushed = ap (λ (o : Owner). fits o a.hart) (owner-push t b w) in
    elim (Member-append t (b ∷ []) a there) [
      | inl before ↦ pushed ∙ (elim (cases_Bool (eqb (b.addr / 4) w)) [
        | inl here ↦ rw here (fits_still (owner_in t w) b.hart a.hart (ih a before at))
        | inr away ↦ rw away (ih a before at)
      ])
      | inr last ↦ elim last [
        | inl same ↦
            let here : eqb (b.addr / 4) w ≡ true =
            eq-eqb (b.addr / 4) w (ap (λ (c : Touch). c.addr / 4) (sym same) ∙ at) in
            pushed ∙ rw here
            (ap (λ (c : Touch). fits (note_owner (owner_in t w) b.hart) c.hart) same
            ∙ fits_new (owner_in t w) b.hart)
        | inr none ↦ absurd none
      ]
    ])
    t

noted_hart : (o : Owner) (x h : ℕ) → note_owner o x ≡ owner.One h → (o ≡ owner.One h) ⊎ (x ≡ h)
noted_hart owner.None x h is = inr (ap group_of is)
noted_hart (owner.One g) x h is =
    elim (cases_Bool (eqb x g)) [
      | inl same ↦ let k : owner.One g ≡ owner.One h = rw same at is in inl k
      | inr other ↦ let k : owner.Many ≡ owner.One h = rw other at is in absurd (not_one h k)
    ]
  where
    not_one : (h : ℕ) → owner.Many ≡ owner.One h → ⊥
    not_one h is = cc
noted_hart owner.Many x h is = inl is

-- the one owner of a word is a hart of the list
pub owner_low : (t : List Touch) (w : ℕ) → ((a : Touch) → Member a t → a.hart < 256)
    → (h : ℕ) → owner_in t w ≡ owner.One h → h < 256
owner_low t w =
    by_push (λ (t : List Touch). ((a : Touch) → Member a t → a.hart < 256)
    → (h : ℕ) → owner_in t w ≡ owner.One h → h < 256)
    (λ low h is. absurd (not_one h is))
    (λ t b ih low h is.
    let before = ih (λ a there. low a (append-Member_left t (b ∷ []) a there)) h in
    let last = low b (append-Member_right t (b ∷ []) b (inl refl)) in
    let noted = sym (owner-push t b w) ∙ is in
    elim (cases_Bool (eqb (b.addr / 4) w)) [
      | inl here ↦
          let k : note_owner (owner_in t w) b.hart ≡ owner.One h = rw here at noted in
          elim (noted_hart (owner_in t w) b.hart h k) [
            | inl had ↦ before had
            | inr new ↦ omega (arith, last, new)
          ]
      | inr away ↦ let k : owner_in t w ≡ owner.One h = rw away at noted in before k
    ])
    t
  where
    not_one : (h : ℕ) → owner.None ≡ owner.One h → ⊥
    not_one h is = cc

-- who may have accessed a word of a hart's group
pub group_hart : (o : Owner) (x g : ℕ) → fits o x ≡ true → group_of o ≡ g → g < 256 → x ≡ g
unfolding many_group
group_hart owner.None x g fit is low = absurd (false≢true fit)
group_hart (owner.One h) x g fit is low = sym (eqb-true h x fit) ∙ is
group_hart owner.Many x g fit is low = absurd (omega (arith, is, low))

-- nobody a word without an owner
pub none_touched : (o : Owner) (x : ℕ) → fits o x ≡ true → group_of o ≡ untouched_group
    → ((h : ℕ) → o ≡ owner.One h → h < 256) → ⊥
unfolding many_group untouched_group
none_touched owner.None x fit is low = false≢true fit
none_touched (owner.One h) x fit is low = let few = low h refl in absurd (omega (arith, is, few))
none_touched owner.Many x fit is low = absurd (omega (arith, is))

-- ---- moved accesses

-- an access of a word of the object
pub record IsMovedWord (n : ℕ) (e : Extent) (t : List Touch) (a : Touch) : Type 0 where
  pub word : ℕ
  pub found : IsWord e a.addr word
  pub is : moved (plan_of n (owned_of e t)) a ≡ in_word a (place n (owned_of e t) word)

pub moved_cases : (n : ℕ) (e : Extent) (t : List Touch) (a : Touch)
    → ((index_of e (word_of a.addr) ≡ None) × (moved (plan_of n (owned_of e t)) a ≡ a))
    ⊎ IsMovedWord n e t a
moved_cases n e t a =
    let o = owned_of e t in
    let places : List ℕ = (plan_of n o).places in
    elim (slice_cases (index_of e (word_of a.addr))) [
      | inl none ↦ inl (
        none,
        ap (λ (i : Option ℕ). option_map_or (in_word a) (option_and_then (slice_get places) i) a)
            none,
      )
      | inr some ↦
          let found = word-found e a.addr some.0 (sym some.1) in
          let within = found.within in
          let at : slice_get places some.0 ≡ Some (place n o some.0) =
          slice_get-map-below (place n o) (length o.owners) some.0
          (omega (arith, within, length-owners e t)) in
          inr (record {
            word = some.0;
            found = found;
            is = ap (λ (i : Option ℕ). option_map_or (in_word a)
                (option_and_then (slice_get places) i) a) some.1
                ∙ ap (λ (x : Option ℕ). option_map_or (in_word a) x a) at;
          })
    ]

same_hart : (a : Touch) (x : Option ℕ) → (option_map_or (in_word a) x a).hart ≡ a.hart
same_hart a None = refl
same_hart a (Some x) = refl

pub moved_hart : (n : ℕ) (o : Owned) (a : Touch) → (moved (plan_of n o) a).hart ≡ a.hart
moved_hart n o a = same_hart a _

-- no access that stays lies in the area
pub before_area : (n : ℕ) (e : Extent) (t : List Touch) (a : Touch) → 0 < n → Member a t
    → a.addr < area_start n (owned_of e t)
before_area n e t a some there =
    let round = rounded-up n (end_of t) some in
    let all = ends-before (area_start n (owned_of e t)) t round.above in
    let here = all_at (λ (b : Touch). word_of b.addr + 4 ≤ area_start n (owned_of e t)) t a all there
    in
    omega (arith, here)

-- a moved access lies in the room of its word's group
pub record IsInRoom (n : ℕ) (e : Extent) (t : List Touch) (i x : ℕ) : Type 0 where
  pub low : area_start n (owned_of e t)
      + group_start n (owned_of e t).owners (group_of (owner_in t (first_word e + i))) ≤ x
  pub high : x < area_start n (owned_of e t)
      + group_start n (owned_of e t).owners (suc (group_of (owner_in t (first_word e + i))))

pub in_room : (n : ℕ) (e : Extent) (t : List Touch) (addr i r : ℕ) → 0 < n → IsWord e addr i → r < 4
    → IsInRoom n e t i (place n (owned_of e t) i + r)
in_room n e t addr i r some found less =
    let o = owned_of e t in
    let group = in-group n (area_start n o) o.owners i (owner_in t (first_word e + i)) some
    (owners-at e t i found.within) in
    let low = group.low in
    let high = group.high in
    record { low = omega (arith, low); high = omega (arith, high, less) }

-- each place is that of a word
pub place_even : (n : ℕ) (e : Extent) (t : List Touch) (addr i : ℕ) → IsLineSize n → IsWord e addr i
    → place n (owned_of e t) i % 4 ≡ 0
place_even n e t addr i sized found =
    let o = owned_of e t in
    let w : Owner = owner_in t (first_word e + i) in
    let at = owners-at e t i found.within in
    let there : place n o i ≡ area_start n o + place_behind n o.owners i w =
    ap (λ (p : Option Owner). option_map_or (λ v. area_start n o + place_behind n o.owners i v) p 0)
    at in
    let bound = bound_whole n o (group_of w) sized.some in
    let lines : ℕ = bound.lines in
    let begins = bound.whole in
    let whole = sized.whole in
    let words : n ≡ 4 * (n / 4) = omega (arith, whole) in
    let product : lines * n ≡ 4 * (lines * (n / 4)) =
    ap (λ (z : ℕ). lines * z) words ∙ omega arith in
    omega (arith, there, begins, product)

-- whose word an access is of
pub record IsOfGroup (e : Extent) (t : List Touch) (a : Touch) (g : ℕ) : Type 0 where
  pub word : ℕ
  pub found : IsWord e a.addr word
  pub group : group_of (owner_in t (first_word e + word)) ≡ g

pub moved_line : (n : ℕ) (e : Extent) (t : List Touch) (k : ℕ) (a : Touch) → 0 < n
    → (w : IsMovedWord n e t a) → line_number n 0 (moved (plan_of n (owned_of e t)) a).addr ≡ k
    → IsLineOf n (owned_of e t) (group_of (owner_in t (first_word e + w.word))) k
moved_line n e t k a some w at =
    let o = owned_of e t in
    let x : ℕ = place n o w.word + a.addr % 4 in
    let here : line_number n 0 x ≡ k = ap (λ (b : Touch). line_number n 0 b.addr) (sym w.is) ∙ at in
    let room = in_room n e t a.addr w.word (a.addr % 4) some w.found (omega arith) in
    line_of n o (group_of (owner_in t (first_word e + w.word))) k x some (in_line n k x some here)
    room.low room.high

-- the accesses that come to a line of a group are of its words
pub moved_group : (n : ℕ) (e : Extent) (t : List Touch) (g k : ℕ) (a : Touch) → 0 < n
    → IsLineOf n (owned_of e t) g k → Member a t
    → line_number n 0 (moved (plan_of n (owned_of e t)) a).addr ≡ k → IsOfGroup e t a g
moved_group n e t g k a some line there at =
    elim (moved_cases n e t a) [
      | inl stays ↦
          let here : line_number n 0 a.addr ≡ k =
          ap (λ (b : Touch). line_number n 0 b.addr) (sym stays.1) ∙ at in
          let inside = in_line n k a.addr some here in
          let before = before_area n e t a some there in
          let below = inside.low in
          let low = line.low in
          absurd (omega (arith, before, below, low))
      | inr w ↦ record {
        word = w.word;
        found = w.found;
        group = one_group n (owned_of e t) (group_of (owner_in t (first_word e + w.word))) g k some
            (moved_line n e t k a some w at) line;
      }
    ]
