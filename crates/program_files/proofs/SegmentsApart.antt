-- Segments of a file that was read: each has its content within it, and no two share an address.
use Rattle.std.proofs.Common.{◌≡◌, ℕ, ◌+◌, ◌≤◌, List, [], ◌∷◌, Bool, true, false, ◌&&◌, cond}
use Rattle.std.proofs.Common.{nat_lt, None, map, filter, take, drop}
use Rattle.std.proofs.Common.{length, refl, ap, sym, ◌∙◌, arith}
use Rattle.std.proofs.lemmas.Bool.{or_parts}
use Rattle.std.proofs.lemmas.Bool.Decides.{nat_tests}
use Rattle.std.proofs.lemmas.List.{length-take}
use Rattle.std.specs.List.{list_any, find}
use Rattle.rv32_hart.specs.Space.{is_among}
use Rattle.program_files.specs.declared.program.ProgramHeader.{ProgramHeader}
use Rattle.program_files.specs.Programs.{Loaded, loaded, is_segment, has_wrong_size, overlap}
use Rattle.program_files.specs.Programs.{some_pair, segments_in}
use Rattle.program_files.specs.Images.{holds}
use Rattle.program_files.specs.PlacedSegments.{IsApart, AreApart}

apart : (x n y m a : ℕ) → is_among x n a ≡ true → (nat_lt x (y + m) && nat_lt y (x + n)) ≡ false
    → is_among y m a ≡ false
apart x n y m a h k = grind (arith, nat_tests)

and_right : (a b : Bool) → a ≡ true → (a && b) ≡ false → b ≡ false
and_right true b h k = k
and_right false b h k = absurd (cc)

-- one header more among the others
apart_step : (file : List ℕ) (a : ℕ) (t : ProgramHeader) (rest : List Loaded) (b : Bool)
    (segments : List ProgramHeader)
    → rest ≡ map (loaded file) segments → (b ≡ true → holds a (loaded file t) ≡ false)
    → find (holds a) rest ≡ None
    → find (holds a) (map (loaded file) (cond b (t ∷ segments) segments)) ≡ None
apart_step file a t rest true segments e h k = rw (h refl) (ap (find (holds a)) (sym e) ∙ k)
apart_step file a t rest false segments e h k = ap (find (holds a)) (sym e) ∙ k

apart_from : (file : List ℕ) (h : ProgramHeader) (others : List ProgramHeader) → is_segment h ≡ true
    → list_any (overlap h) others ≡ false
    → IsApart (loaded file h) (segments_in file others)
apart_from file h [] s o a k = refl
apart_from file h (t ∷ others) s o a k =
    let here = (or_parts (overlap h t) (list_any (overlap h) others) o).0 in
    let rest = apart_from file h others s (or_parts (overlap h t) (list_any (overlap h) others) o).1
    a k in
    apart_step file a t (segments_in file others) (is_segment t) (filter is_segment others) refl
    (λ is. apart h.addr h.size t.addr t.size a k (and_right (is_segment t)
    (nat_lt h.addr (t.addr + t.size) && nat_lt t.addr (h.addr + h.size)) is
    (and_right (is_segment h)
    (is_segment t && (nat_lt h.addr (t.addr + t.size) && nat_lt t.addr (h.addr + h.size))) s
    here)))
    rest

fits : (file : List ℕ) (h : ProgramHeader) → is_segment h ≡ true → has_wrong_size h ≡ false
    → length (take h.file_size (drop h.offset file)) ≤ h.size
fits file h s w =
    let long = length-take h.file_size (drop h.offset file) in
    grind (arith, nat_tests)

are_step : (file : List ℕ) (h : ProgramHeader) (segments : List ProgramHeader) (b : Bool)
    → (b ≡ true → (length (take h.file_size (drop h.offset file)) ≤ h.size)
    × IsApart (loaded file h) (map (loaded file) segments))
    → AreApart (map (loaded file) segments)
    → AreApart (map (loaded file) (cond b (h ∷ segments) segments))
are_step file h segments true here rest = ((here refl).0, (here refl).1, rest)
are_step file h segments false here rest = rest

pub are_apart : (file : List ℕ) (headers : List ProgramHeader) → list_any has_wrong_size headers
    ≡ false → some_pair overlap headers ≡ false
    → AreApart (segments_in file headers)
are_apart file [] w o = tt
are_apart file (h ∷ headers) w o =
    let pairs = or_parts (list_any (overlap h) headers) (some_pair overlap headers) o in
    let sizes = or_parts (has_wrong_size h) (list_any has_wrong_size headers) w in
    are_step file h (filter is_segment headers) (is_segment h)
    (λ is. (fits file h is sizes.0, apart_from file h headers is pairs.0))
    (are_apart file headers sizes.1 pairs.1)
