-- A beginning of a record never looks like a whole one.
use Rattle.std.proofs.Common.{◌≡◌, ℕ, ◌+◌, ◌-◌, ◌≤◌, ◌<◌, inl, inr, true, false, cond, ltb, List}
use Rattle.std.proofs.Common.{length, get_or, take, drop, Option, Some, None, refl, sym, ap, subst, ◌∙◌}
use Rattle.std.proofs.Common.{arith}
use Rattle.std.proofs.lemmas.Bool.{cases_lt}
use Rattle.std.proofs.lemmas.Bool.Decides.{nat_tests}
use Rattle.std.proofs.lemmas.List.{take-take, drop-take, length-take-le, get_or-take, get_or-drop}
use Rattle.std.proofs.lemmas.List.{get_or_past}
use Rattle.std.specs.Int.{w16, from_le_bytes}
use Rattle.trace_format.specs.declared.record.TraceEnd.{TraceEnd}
use Rattle.trace_format.specs.declared.record.Version.{Version}
use Rattle.trace_format.specs.declared.tag.Tag.{Tag}
use Rattle.trace_format.specs.declared.tag.Tag.TheVariants as tags
use Rattle.trace_format.specs.declared.read_so_far.ReadSoFar.{ReadSoFar}
use Rattle.trace_format.specs.Tags.{tag_of}
use Rattle.trace_format.specs.Numbers.{group_count}
use Rattle.base.specs.Fields.{number_at}
use Rattle.trace_format.specs.Judging.{symbol_extent, extent_of, extent_if}
use Rattle.trace_format.specs.Judging.{record_extent, short_touch_extent, sited_touch_extent}
use Rattle.trace_format.specs.Reading.{extent_at}
use Rattle.trace_format.specs.Laws.Ends.{end_long}
use Rattle.trace_format.specs.Laws.Reading.{FrontsWait}

-- a number of a list of which only the first k are there
there : (k i : ℕ) (bytes : List ℕ) → i < k → get_or (take k bytes) i 0 ≡ get_or bytes i 0
there k i bytes lt = get_or-take k bytes i 0 lt

missing : (k i : ℕ) (bytes : List ℕ) → k ≤ length bytes → k ≤ i → get_or (take k bytes) i 0 ≡ 0
missing k i bytes le past =
    get_or_past (take k bytes) i 0 (omega (arith, length-take-le k bytes le))

-- the groups of four numbers and one more
count_of : ℕ → ℕ → ℕ → ℕ → ℕ
count_of a b c d =
    cond (ltb a 128) 1 (cond (ltb b 128) 2 (cond (ltb c 128) 3 (cond (ltb d 128) 4 5)))

short_groups : (n k a b c d a' b' c' d' : ℕ) → (n < k → a' ≡ a) → (n + 1 < k → b' ≡ b)
    → (n + 2 < k → c' ≡ c) → (n + 3 < k → d' ≡ d)
    → (k ≤ n → a' ≡ 0) → (k ≤ n + 1 → b' ≡ 0) → (k ≤ n + 2 → c' ≡ 0) → (k ≤ n + 3 → d' ≡ 0)
    → k < n + count_of a b c d → k < n + count_of a' b' c' d'
unfolding count_of
short_groups n k a b c d a' b' c' d' ea eb ec ed za zb zc zd lt = grind (arith, nat_tests)

whole_groups : (n k a b c d a' b' c' d' : ℕ) → (n < k → a' ≡ a) → (n + 1 < k → b' ≡ b)
    → (n + 2 < k → c' ≡ c) → (n + 3 < k → d' ≡ d)
    → n + count_of a b c d ≤ k → count_of a' b' c' d' ≡ count_of a b c d
unfolding count_of
whole_groups n k a b c d a' b' c' d' ea eb ec ed is = grind (arith, nat_tests)

-- how a beginning of k bytes looks beside its whole
record IsFront (k whole front : ℕ) : Type 0 where
  short : k < whole → k < front
  same : whole ≤ k → front ≡ whole

module _ (k : ℕ) (bytes : List ℕ) (some : 1 ≤ k) (le : k ≤ length bytes) where
  byte_there : (n i : ℕ) → n + i < k
      → get_or (drop n (take k bytes)) i 0 ≡ get_or (drop n bytes) i 0
  byte_there n i lt = get_or-drop n (take k bytes) i 0 ∙ there k (n + i) bytes lt
      ∙ sym (get_or-drop n bytes i 0)

  byte_missing : (n i : ℕ) → k ≤ n + i → get_or (drop n (take k bytes)) i 0 ≡ 0
  byte_missing n i past = get_or-drop n (take k bytes) i 0 ∙ missing k (n + i) bytes le past

  first_there : (n : ℕ) → n < k → get_or (drop n (take k bytes)) 0 0 ≡ get_or (drop n bytes) 0 0
  first_there n lt = byte_there n 0 (omega arith)

  first_missing : (n : ℕ) → k ≤ n → get_or (drop n (take k bytes)) 0 0 ≡ 0
  first_missing n past = byte_missing n 0 (omega arith)

  -- the groups from a place on
  groups_front : (n : ℕ) → IsFront k (n + group_count (drop n bytes)) (n + group_count
      (drop n (take k bytes)))
  unfolding count_of
  groups_front n = record {
    short =
        λ lt. short_groups n k _ _ _ _ _ _ _ _ (first_there n) (byte_there n 1) (byte_there n 2)
        (byte_there n 3) (first_missing n) (byte_missing n 1) (byte_missing n 2)
        (byte_missing n 3) lt;
    same =
        λ is. ap (λ (m : ℕ). n + m) (whole_groups n k _ _ _ _ _ _ _ _ (first_there n)
        (byte_there n 1) (byte_there n 2) (byte_there n 3) is);
  }

  short_touch_front : IsFront k (short_touch_extent bytes) (short_touch_extent (take k bytes))
  short_touch_front = groups_front 2

  sited_touch_front : IsFront k (sited_touch_extent bytes) (sited_touch_extent (take k bytes))
  sited_touch_front =
      let whole = short_touch_extent bytes in
      let front = short_touch_extent (take k bytes) in
      let first = short_touch_front in
      elim (cases_lt k whole) [
        | inl lt ↦ record {
          short = λ _. (let longer : k < front = first.short lt in omega arith);
          same = λ is. absurd (omega arith);
        }
        | inr enough ↦
            let again : whole ≡ front = sym (first.same enough) in
            subst (λ (n : ℕ). IsFront k (whole + group_count (drop whole bytes)) (n + group_count
            (drop n (take k bytes)))) again (groups_front whole)
      ]

  -- the length that a symbol states, where it is there
  stated_again : 12 ≤ k → number_at w16 10 (take k bytes) ≡ number_at w16 10 bytes
  stated_again enough =
      let cut : drop 10 (take (10 + (k - 10)) bytes) ≡ take (k - 10) (drop 10 bytes) =
      drop-take 10 (k - 10) bytes in
      let whole : 10 + (k - 10) ≡ k = omega arith in
      let again : drop 10 (take k bytes) ≡ take (k - 10) (drop 10 bytes) =
      ap (λ (n : ℕ). drop 10 (take n bytes)) (sym whole)
      ∙ cut in
      ap (λ (xs : List ℕ). from_le_bytes w16 (take 2 xs)) again
      ∙ ap (from_le_bytes w16) (take-take 2 (k - 10) (drop 10 bytes) (omega arith))

  symbol_front : IsFront k (symbol_extent bytes) (symbol_extent (take k bytes))
  unfolding symbol_extent
  symbol_front =
      let size : length (take k bytes) ≡ k = length-take-le k bytes le in
      elim (cases_lt k 12) [
        | inl lt ↦
            let few : ltb (length (take k bytes)) 12 ≡ true = grind (arith, nat_tests) in
            rw few (record { short = λ _. lt; same = λ is. grind (arith, nat_tests) })
        | inr enough ↦
            let many : ltb (length bytes) 12 ≡ false = grind (arith, nat_tests) in
            let still : ltb (length (take k bytes)) 12 ≡ false = grind (arith, nat_tests) in
            rw (many, still, stated_again enough) (record { short = λ lt. lt; same = λ is. refl })
      ]

  tag_front : (v : Version) (tag : Tag)
      → IsFront k (extent_of v tag bytes) (extent_of v tag (take k bytes))
  tag_front v (tags.Touch kind) = record { short = λ lt. lt; same = λ is. refl }
  tag_front v (tags.ShortTouch kind size) = short_touch_front
  tag_front v (tags.SitedTouch kind size) = sited_touch_front
  tag_front v tags.Alloc = record { short = λ lt. lt; same = λ is. refl }
  tag_front v tags.Free = record { short = λ lt. lt; same = λ is. refl }
  tag_front v tags.Symbol = symbol_front
  tag_front v tags.End = record { short = λ lt. lt; same = λ is. refl }

  front_if : (v : Version) (tag : Option Tag)
      → IsFront k (extent_if v tag bytes) (extent_if v tag (take k bytes))
  front_if v None = record { short = λ lt. lt; same = λ is. refl }
  front_if v (Some tag) = tag_front v tag

  record_front : (v : Version)
      → IsFront k (record_extent v bytes) (record_extent v (take k bytes))
  unfolding record_extent
  record_front v = rw (there k 0 bytes (omega arith)) (front_if v (tag_of v (get_or bytes 0 0)))

  front_at : (p : Option ReadSoFar) (e : Option TraceEnd)
      → IsFront k (extent_at p e bytes) (extent_at p e (take k bytes))
  front_at None e = record { short = λ lt. lt; same = λ is. refl }
  front_at (Some p) None = record_front p.version
  front_at (Some p) (Some e) = record { short = λ lt. lt; same = λ is. refl }

-- the bytes of an access up to the end of its distance are all that those have
pub front_whole : (bytes : List ℕ) (n : ℕ) → n ≡ short_touch_extent bytes → 1 ≤ n
    → n ≤ length bytes → length (take n bytes) ≡ short_touch_extent (take n bytes)
front_whole bytes n is some le =
    length-take-le n bytes le ∙ is ∙ sym ((short_touch_front n bytes some le).same (omega arith))

-- they are as many in a beginning that has them all
pub front_still : (bytes : List ℕ) (m : ℕ) → short_touch_extent bytes ≤ m → 1 ≤ m
    → m ≤ length bytes → short_touch_extent (take m bytes) ≡ short_touch_extent bytes
front_still bytes m enough some le = (short_touch_front m bytes some le).same enough

-- The header and each record wait until they are whole.
pub fronts_wait_at : (p : Option ReadSoFar) (e : Option TraceEnd) (bytes : List ℕ)
    → FrontsWait p e bytes
fronts_wait_at p e bytes = record {
  short = λ k some le lt. (front_at k bytes some le p e).short lt;
  whole = λ k some le is. (front_at k bytes some le p e).same (omega arith);
}

some_groups : (a b c d : ℕ) → 1 ≤ count_of a b c d
unfolding count_of
some_groups a b c d = grind (arith, nat_tests)

some_symbol : (bytes : List ℕ) → 1 ≤ symbol_extent bytes
unfolding symbol_extent
some_symbol bytes = grind (arith, nat_tests)

some_tag : (v : Version) (tag : Option Tag) (bytes : List ℕ) → 1 ≤ extent_if v tag bytes
unfolding count_of
some_tag v None bytes = omega arith
some_tag v (Some (tags.Touch kind)) bytes = omega arith
some_tag v (Some (tags.ShortTouch kind size)) bytes =
    omega (
      arith,
      some_groups (get_or (drop 2 bytes) 0 0) (get_or (drop 2 bytes) 1 0)
          (get_or (drop 2 bytes) 2 0) (get_or (drop 2 bytes) 3 0),
    )
some_tag v (Some (tags.SitedTouch kind size)) bytes = omega arith
some_tag v (Some tags.Alloc) bytes = omega arith
some_tag v (Some tags.Free) bytes = omega arith
some_tag v (Some tags.Symbol) bytes = some_symbol bytes
some_tag v (Some tags.End) bytes = omega (arith, end_long v)

-- What is judged has at least a byte.
pub extent_is_some : (p : Option ReadSoFar) (e : Option TraceEnd) (bytes : List ℕ)
    → 1 ≤ extent_at p e bytes
unfolding record_extent
extent_is_some None e bytes = omega arith
extent_is_some (Some p) None bytes = some_tag p.version (tag_of p.version (get_or bytes 0 0)) bytes
extent_is_some (Some p) (Some e) bytes = omega arith
