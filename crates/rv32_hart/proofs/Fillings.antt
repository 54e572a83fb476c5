-- A content put among the bytes, seen at each address.
use Rattle.std.proofs.Common.{◌≡◌, ℕ, ◌+◌, ◌-◌, ◌<◌, ◌≤◌, ◌∙◌, ◌++◌, cond, List, length, take, drop}
use Rattle.std.proofs.Common.{get_or, refl, ap, arith, inl, inr, sym, Vec}
use Rattle.std.proofs.Common.{nat_lt, nat_le}
use Rattle.std.proofs.lemmas.Bool.{ltb-false, ltb-true, leb-true, leb-false, lt-leb, cases_Bool}
use Rattle.std.proofs.lemmas.List.{length-append, length-take-le, length-drop, get_or-take}
use Rattle.std.proofs.lemmas.List.{get_or-drop, get_or_append_left}
use Rattle.std.proofs.lemmas.List.{get_or-append_right, append_assoc, drop-drop, with_items_is}
use Rattle.std.specs.Vec.{with_items}
use borrow.Rule.Slice.PartMut.{put_mid}
use Rattle.rv32_hart.specs.Space.{Space, IsRange, IsSpace, byte_at, is_among}
use Rattle.rv32_hart.specs.Changes.{Fills}

abbrev pub spliced : List ℕ → ℕ → List ℕ → List ℕ
spliced bytes i content = take i bytes ++ content ++ drop (i + length content) bytes

length-spliced : (bytes : List ℕ) (i : ℕ) (content : List ℕ) → i + length content ≤ length bytes
    → length (spliced bytes i content) ≡ length bytes
length-spliced bytes i content within =
    simp (length-append, length-drop) (rw (length-take-le i bytes (omega arith)) (omega arith))

before : (bytes : List ℕ) (i : ℕ) (content : List ℕ) (k : ℕ) → i + length content ≤ length bytes
    → k < i
    → get_or (spliced bytes i content) k 0 ≡ get_or bytes k 0
before bytes i content k within below =
    let lengths : length (take i bytes) ≡ i = length-take-le i bytes (omega arith) in
    rw append_assoc (
    get_or_append_left (take i bytes) (content ++ drop (i + length content) bytes) 0 k (omega arith)
    ∙ get_or-take i bytes k 0 below
    )

inside_content : (bytes : List ℕ) (i : ℕ) (content : List ℕ) (k : ℕ)
    → i + length content ≤ length bytes → i ≤ k → k < i + length content
    → get_or (spliced bytes i content) k 0 ≡ get_or content (k - i) 0
inside_content bytes i content k within above below =
    let lengths : length (take i bytes) ≡ i = length-take-le i bytes (omega arith) in
    rw append_assoc (
    get_or-append_right (take i bytes) (content ++ drop (i + length content) bytes) i k 0 lengths
    above
    ∙ get_or_append_left content (drop (i + length content) bytes) 0 (k - i) (omega arith)
    )

after : (bytes : List ℕ) (i : ℕ) (content : List ℕ) (k : ℕ) → i + length content ≤ length bytes
    → i + length content ≤ k
    → get_or (spliced bytes i content) k 0 ≡ get_or bytes k 0
after bytes i content k within above =
    let lengths : length (take i bytes) ≡ i = length-take-le i bytes (omega arith) in
    let front : length (take i bytes ++ content) ≡ i + length content = length-append (take i bytes)
    content
    ∙ ap (λ n. n + length content) lengths in
    let place : i + length content + (k - (i + length content)) ≡ k = omega arith in
    get_or-append_right (take i bytes ++ content) (drop (i + length content) bytes)
    (i + length content) k 0 front above
    ∙ get_or-drop (i + length content) bytes (k - (i + length content)) 0
    ∙ ap (λ n. get_or bytes n 0) place

at_address : (m : Space) (at : ℕ) (content : List ℕ) → IsRange m at (length content) → (a : ℕ)
    → cond (nat_lt a m.base) 0 (get_or (spliced m.bytes (at - m.base) content) (a - m.base) 0)
    ≡ cond (is_among at (length content) a)
    (get_or content (a - at) 0) (byte_at m a)
at_address m at content range a =
    let within : at - m.base + length content ≤ length m.bytes = omega (arith, range.0, range.1) in
    elim (cases_Bool (nat_lt a m.base)) [
      | inl below ↦ rw (below, lt-leb at a (omega (arith, range.0, ltb-true a m.base below))) refl
      | inr above ↦
          let from_base : m.base ≤ a = ltb-false a m.base above in
          elim (cases_Bool (nat_le at a)) [
            | inl from_at ↦
                let begun : at ≤ a = leb-true at a from_at in
                elim (cases_Bool (nat_lt a (at + length content))) [
                  | inl not_past ↦
                      let not_ended : a < at + length content = ltb-true a (at + length content)
                      not_past in
                      let place : a - m.base - (at - m.base) ≡ a - at = omega (arith, range.0) in
                      rw (above, from_at, not_past) (
                      inside_content m.bytes (at - m.base) content (a - m.base) within
                      (omega (arith, range.0)) (omega (arith, range.0))
                      ∙ ap (λ n. get_or content n 0) place
                      )
                  | inr past ↦
                      let ended : at + length content ≤ a = ltb-false a (at + length content)
                      past in
                      rw (above, from_at, past)
                      (after m.bytes (at - m.base) content (a - m.base) within
                      (omega (arith, range.0)))
                ]
            | inr early ↦
                rw (above, early) (before m.bytes (at - m.base) content (a - m.base) within
                (omega (arith, range.0, leb-false at a early)))
          ]
    ]

pub fills : (m : Space) (at : ℕ) (content : List ℕ) → IsRange m at (length content)
    → Fills m (record m { bytes = spliced m.bytes (at - m.base) content }) at content
fills m at content range = record {
  base = refl;
  size = length-spliced m.bytes (at - m.base) content (omega (arith, range.0, range.1));
  pages = refl;
  bytes = at_address m at content range;
}

-- a content put over as many bytes
put_there : (bytes : List ℕ) (i : ℕ) (content : List ℕ) → put_mid i (i + length content - i) bytes
    content ≡ spliced bytes i content
put_there bytes i content =
    let some : i + length content - i ≡ length content = omega arith in
    rw (some, append_assoc)
    (ap (λ l. take i bytes ++ (content ++ l)) (drop-drop (length content) i bytes
    ∙ ap (λ n. drop n bytes) (omega arith)))

-- what the code leaves of the bytes
pub bytes_put : {Z : Type 0} (v : Vec ℕ Z) (m : Space) (at : ℕ) (old put content : List ℕ) → v.items
    ≡ m.bytes
    → IsRange m at (length content) → old ≡ v.items → put ≡ content
    → (with_items v (put_mid (at - m.base) (at - m.base + length content - (at - m.base)) old
    put)).items
    ≡ spliced m.bytes (at - m.base) content
bytes_put v m at old put content whole range is same =
    let i : ℕ = at - m.base in
    let put_is : put_mid i (i + length content - i) old put ≡ spliced m.bytes i content =
    rw (is, same, whole) (put_there m.bytes i content) in
    let long : length (put_mid i (i + length content - i) old put) ≡ length v.items =
    ap length put_is ∙ length-spliced m.bytes i content (omega (arith, range.0, range.1))
    ∙ ap length (sym whole) in
    with_items_is v (put_mid i (i + length content - i) old put) (long ∙ sym v.ok.0) ∙ put_is

-- bytes that are those of a filled memory make one
pub filled : (m : Space) (at : ℕ) (bytes content : List ℕ) → IsRange m at (length content)
    → bytes ≡ spliced m.bytes (at - m.base) content → Fills m (record m { bytes = bytes }) at
    content
filled m at bytes content range e = rw e (fills m at content range)

-- a filled memory is a memory
pub still_space : (m : Space) (at : ℕ) (bytes content : List ℕ) → IsRange m at (length content)
    → bytes ≡ spliced m.bytes (at - m.base) content → IsSpace m
    → IsSpace (record m { bytes = bytes })
still_space m at bytes content range e space =
    let long : length bytes ≡ length m.bytes = ap length e ∙ length-spliced m.bytes (at - m.base)
    content (omega (arith, range.0, range.1)) in
    record {
      aligned = space.aligned;
      whole = long ∙ space.whole;
      room = omega (arith, space.room, long);
      rights = space.rights;
    }
