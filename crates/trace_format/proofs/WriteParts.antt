-- Parts of a trace, put together.
use Rattle.std.proofs.Common.{◌≡◌, ℕ, List, [], ◌∷◌, ◌++◌, length, get_or, Result, Ok, Err, refl}
use Rattle.std.proofs.Common.{ap, ◌∙◌, append_assoc, arith}
use Rattle.std.specs.Prelude.{OnOk}
use Rattle.std.specs.Int.{w16, w32, w64, to_le_bytes}
use Rattle.std.specs.List.{flat_map}
use Rattle.trace_format.specs.declared.record.Header.{Header}
use Rattle.trace_format.specs.declared.record.Version.{Version}
use Rattle.trace_format.specs.Spelling.{magic_of, spell_header}

-- four sites, each in four bytes
pub sites_spelled : (sites a b c d : List ℕ) → length sites ≡ 4 → a
    ≡ to_le_bytes w32 (get_or sites 0 0)
    → b ≡ to_le_bytes w32 (get_or sites 1 0) → c ≡ to_le_bytes w32 (get_or sites 2 0) → d
    ≡ to_le_bytes w32 (get_or sites 3 0)
    → get_or a 0 0 ∷ get_or a 1 0 ∷ get_or a 2 0 ∷ get_or a 3 0 ∷ get_or b 0 0 ∷ get_or b 1
    0 ∷ get_or b 2 0 ∷ get_or b 3 0 ∷ get_or c 0 0
    ∷ get_or c 1 0 ∷ get_or c 2 0 ∷ get_or c 3 0 ∷ get_or d 0 0 ∷ get_or d 1 0 ∷ get_or d 2
    0 ∷ get_or d 3 0 ∷ []
    ≡ flat_map (to_le_bytes w32) sites
sites_spelled (s0 ∷ s1 ∷ s2 ∷ s3 ∷ []) a b c d four ea eb ec ed = rw (ea, eb, ec, ed) refl
sites_spelled [] a b c d four ea eb ec ed = absurd (omega arith)
sites_spelled (s0 ∷ []) a b c d four ea eb ec ed = absurd (omega arith)
sites_spelled (s0 ∷ s1 ∷ []) a b c d four ea eb ec ed = absurd (omega arith)
sites_spelled (s0 ∷ s1 ∷ s2 ∷ []) a b c d four ea eb ec ed = absurd (omega arith)
sites_spelled (s0 ∷ s1 ∷ s2 ∷ s3 ∷ s4 ∷ rest) a b c d four ea eb ec ed = absurd (omega arith)

pub on_ok : {A E : Type 0} (r : Result A E) (P Q : Type 0) → (P → Q) → OnOk r P → OnOk r Q
on_ok (Ok x) P Q f p = f p
on_ok (Err e) P Q f p = tt

-- the magic and then the fields
pub header_spelled : (v : Version) (h : Header) (old new magic fields : List ℕ) → magic ≡ magic_of v
    → fields ≡ to_le_bytes w64 h.first ++ (to_le_bytes w16 h.harts ++ to_le_bytes w16 h.near) → new
    ≡ old ++ magic ++ fields
    → new ≡ old ++ spell_header v h
unfolding spell_header
header_spelled v h old new magic fields m f is = is ∙ append_assoc old magic fields
    ∙ ap (λ (xs : List ℕ). old ++ (xs ++ fields)) m
    ∙ ap (λ (xs : List ℕ). old ++ (magic_of v ++ xs)) f
