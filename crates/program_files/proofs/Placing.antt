-- How placing one segment after the other gives the image.
use Rattle.std.proofs.Common.{◌≡◌, ℕ, ◌+◌, ◌-◌, ◌≤◌, List, [], ◌∷◌, Bool, true, false, ◌&&◌, ◌||◌}
use Rattle.std.proofs.Common.{cond, nat_lt, nat_le, Option, Some, None}
use Rattle.std.proofs.Common.{length, slice_index, refl, ap, sym, subst, ◌∙◌, ◌^◌, ◌%◌, ◌*◌, ◌/◌}
use Rattle.std.proofs.Common.{arith, if◌then◌else◌}
use Rattle.std.proofs.lemmas.Bool.Decides.{nat_tests}
use Rattle.std.proofs.lemmas.List.{get_or_past}
use Rattle.std.specs.List.{list_any, find}
use Rattle.std.specs.Option.{option_map_or, is_some}
use Rattle.rv32_hart.specs.declared.page.Page.{Page}
use Rattle.rv32_hart.specs.Space.{Space, byte_at, page_at, size_of, is_among, no_page, IsFresh}
use Rattle.rv32_hart.specs.Changes.{touches, granted, Maps}
use Rattle.program_files.specs.Programs.{Loaded}
use Rattle.program_files.specs.Images.{may_run, may_write, holds, image_byte, least, greatest_end}
use Rattle.program_files.specs.Images.{touches_page, writes_at, runs_at}
use Rattle.program_files.specs.Images.{image_page, base_of, heap_start_of, IsImage}
use Rattle.program_files.specs.PlacedSegments.{AreApart, AreWithin, with_segments}

pub same_pages : (m n : Space) (a : ℕ) → n.base ≡ m.base → n.pages ≡ m.pages → page_at n a
    ≡ page_at m a
same_pages m n a b p = rw (b, p) refl

pub same_bytes : (m n : Space) (a : ℕ) → n.base ≡ m.base → n.bytes ≡ m.bytes → byte_at n a
    ≡ byte_at m a
same_bytes m n a b p = rw (b, p) refl

-- the byte at an address once the segments that are left are placed over a memory
abbrev pub byte_over : List Loaded → ℕ → ℕ → ℕ
byte_over left a byte = option_map_or (λ s. slice_index s.content (a - s.addr))
    (find (holds a) left) byte

pub least_low : (segments : List Loaded) → least segments ≤ 2 ^ 32
least_low [] = omega arith
least_low (s ∷ others) = let rest = least_low others in omega arith

-- one part of the content, and the bytes past it
among_content : (x n m a : ℕ) → n ≤ m → is_among x m a ≡ false → is_among x n a ≡ false
among_content x n m a h k = grind (arith, nat_tests)

past_bound : (x n a : ℕ) → is_among x n a ≡ false → x ≤ a → n ≤ a - x
past_bound x n a h k = grind (arith, nat_tests)

past_content : (x a : ℕ) (content : List ℕ) → is_among x (length content) a ≡ false → x ≤ a
    → slice_index content (a - x) ≡ 0
past_content x a content h k = get_or_past content (a - x) 0 (past_bound x (length content) a h k)

not_before : (x n a : ℕ) → is_among x n a ≡ true → x ≤ a
not_before x n a h = grind (arith, nat_tests)

if_false : {X : Type 0} (b : Bool) (x y : X) → b ≡ false → (if b then x else y) ≡ y
if_false true x y h = absurd (cc)
if_false false x y h = refl

held : (s : Loaded) (a old new : ℕ) (b : Bool) → b ≡ is_among s.addr (length s.content) a
    → holds a s ≡ true → old ≡ 0
    → new ≡ (if b then slice_index s.content (a - s.addr) else old) → new
    ≡ slice_index s.content (a - s.addr)
held s a old new true e h z n = n
held s a old new false e h z n = n ∙ z
    ∙ sym (past_content s.addr a s.content (sym e) (not_before s.addr s.size a h))

bytes_step : (s : Loaded) (rest : List Loaded) (a old new : ℕ) (b : Bool) → holds a s ≡ b
    → length s.content ≤ s.size
    → (b ≡ true → find (holds a) rest ≡ None) → (b ≡ true → old ≡ 0)
    → new ≡ (if is_among s.addr (length s.content) a then slice_index s.content (a - s.addr) else
    old)
    → byte_over rest a new ≡ option_map_or (λ t. slice_index t.content (a - t.addr))
    (cond b (Some s) (find (holds a) rest)) old
bytes_step s rest a old new true h fit apart zero n =
    rw (apart refl) (held s a old new (is_among s.addr (length s.content) a) refl h (zero refl) n)
bytes_step s rest a old new false h fit apart zero n =
    ap (byte_over rest a)
    (n ∙ if_false (is_among s.addr (length s.content) a) (slice_index s.content (a - s.addr))
    old
    (among_content s.addr (length s.content) s.size a fit h))

zero_step : (s : Loaded) (rest : List Loaded) (a old new : ℕ) (b : Bool) → holds a s ≡ b
    → length s.content ≤ s.size
    → (b ≡ true → find (holds a) rest ≡ None)
    → (is_some (cond b (Some s) (find (holds a) rest)) ≡ true → old ≡ 0)
    → new ≡ (if is_among s.addr (length s.content) a then slice_index s.content (a - s.addr) else
    old)
    → is_some (find (holds a) rest) ≡ true → new ≡ 0
zero_step s rest a old new true h fit apart zero n is = let none = apart refl in absurd (cc)
zero_step s rest a old new false h fit apart zero n is =
    n ∙ if_false (is_among s.addr (length s.content) a) (slice_index s.content (a - s.addr)) old
    (among_content s.addr (length s.content) s.size a fit h) ∙ zero is

some_first : (b : Bool) (s : Loaded) (o : Option Loaded) → b ≡ true → is_some (cond b (Some s) o)
    ≡ true
some_first true s o h = refl
some_first false s o h = absurd (cc)

-- a memory in which some segments are placed and others are left
abbrev pub Placed : List Loaded → Space → List Loaded → Space → Type 0
Placed all start left m =
    (m.base ≡ start.base) × (size_of m ≡ size_of start)
    × AreApart left × AreWithin start.base (start.base + size_of start) left
    × ((a : ℕ) → byte_over left a (byte_at m a) ≡ image_byte all a)
    × ((a : ℕ) → is_some (find (holds a) left) ≡ true → byte_at m a ≡ 0)
    × ((a : ℕ) → with_segments left a (page_at m a) ≡ with_segments all a (page_at start a))

-- one segment more is placed
pub placed_step : (all : List Loaded) (start m n : Space) (s : Loaded) (left rest : List Loaded)
    → left ≡ s ∷ rest → Placed all start left m
    → n.base ≡ m.base → size_of n ≡ size_of m
    → ((a : ℕ) → byte_at n a
    ≡ (if is_among s.addr (length s.content) a then slice_index s.content (a - s.addr) else
    byte_at m a))
    → ((a : ℕ) → page_at n a
    ≡ (if touches s.addr s.size a then granted (may_write s) (may_run s) (page_at m a) else
    page_at m a))
    → Placed all start rest n
placed_step all start m n s left rest e old b z bytes pages =
    let p : Placed all start (s ∷ rest) m = subst (λ l. Placed all start l m) e old in (
      b ∙ p.0,
      z ∙ p.1,
      p.2.2,
      p.3.2,
      (λ a. bytes_step s rest a (byte_at m a) (byte_at n a) (holds a s) refl p.2.0 (p.2.1 a)
          (λ is. p.5 a (some_first (holds a s) s (find (holds a) rest) is)) (bytes a) ∙ p.4 a),
      (λ a is. zero_step s rest a (byte_at m a) (byte_at n a) (holds a s) refl p.2.0 (p.2.1 a)
          (p.5 a) (bytes a) is),
      (λ a. ap (with_segments rest a) (pages a) ∙ p.6 a),
    )

-- all segments lie where the first begins and the last ends
pub all_within : (low high : ℕ) (segments : List Loaded) → low ≤ least segments
    → greatest_end segments ≤ high → AreWithin low high segments
all_within low high [] l h = tt
all_within low high (s ∷ others) l h =
    let begins : low ≤ s.addr = omega arith in
    let ends : s.addr + s.size ≤ high = omega arith in
    (begins, ends, all_within low high others (omega arith) (omega arith))

-- two pages are the same
abbrev same_type : Page → Page → Type 0
same_type p q = p ≡ q

-- a page's rights and those that others give
abbrev more_page : List Loaded → ℕ → Page → Page
more_page others a p = record {
  mapped = p.mapped || list_any (touches_page a) others;
  writable = p.writable || list_any (writes_at a) others;
  executable = p.executable || list_any (runs_at a) others;
}

same_page : (m n w v x y : Bool) → m ≡ n → w ≡ v → x ≡ y
    → same_type (record { mapped = m; writable = w; executable = x })
    (record { mapped = n; writable = v; executable = y })
same_page m n w v x y e f g = rw (e, f, g) refl

or_false : (b : Bool) → b ≡ (b || false)
or_false true = refl
or_false false = refl

or_true : (b : Bool) → true ≡ (b || true)
or_true true = refl
or_true false = refl

and_true : (b : Bool) → b ≡ (b && true)
and_true true = refl
and_true false = refl

and_false : (b : Bool) → false ≡ (b && false)
and_false true = refl
and_false false = refl

or_assoc : (a b c : Bool) → ((a || b) || c) ≡ (a || (b || c))
or_assoc true b c = refl
or_assoc false b c = refl

page_true : (t w x : Bool) (p : Page) → same_type (if t then granted w x p else p)
    (record {
      mapped = p.mapped || t;
      writable = p.writable || (w && t);
      executable =
          p.executable || (x && t);
    })
page_true true w x p =
    same_page true (p.mapped || true) (p.writable || w) (p.writable || (w && true))
    (p.executable || x) (p.executable || (x && true))
    (or_true p.mapped) (ap (λ b. p.writable || b) (and_true w))
    (ap (λ b. p.executable || b) (and_true x))
page_true false w x p =
    same_page p.mapped (p.mapped || false) p.writable (p.writable || (w && false)) p.executable
    (p.executable || (x && false))
    (or_false p.mapped) (or_false p.writable ∙ ap (λ b. p.writable || b) (and_false w))
    (or_false p.executable
    ∙ ap (λ b. p.executable || b) (and_false x))

-- the rights that segments give are those of all that touch the page
pub pages_of : (segments : List Loaded) (a : ℕ) (p : Page) → same_type (with_segments segments a p)
    (record {
      mapped = p.mapped || list_any (touches_page a) segments;
      writable = p.writable || list_any (writes_at a) segments;
      executable = p.executable || list_any (runs_at a) segments;
    })
pages_of [] a p =
    same_page p.mapped (p.mapped || false) p.writable (p.writable || false) p.executable
    (p.executable || false) (or_false p.mapped)
    (or_false p.writable) (or_false p.executable)
pages_of (s ∷ others) a p =
    let t = touches s.addr s.size a in
    pages_of others a (if t then granted (may_write s) (may_run s) p else p)
    ∙ ap (more_page others a) (page_true t (may_write s) (may_run s) p)
    ∙ same_page ((p.mapped || t) || list_any (touches_page a) others)
    (p.mapped || (t || list_any (touches_page a) others))
    ((p.writable || writes_at a s) || list_any (writes_at a) others)
    (p.writable || (writes_at a s || list_any (writes_at a) others))
    ((p.executable || runs_at a s) || list_any (runs_at a) others)
    (p.executable || (runs_at a s || list_any (runs_at a) others))
    (or_assoc p.mapped t (list_any (touches_page a) others))
    (or_assoc p.writable (writes_at a s) (list_any (writes_at a) others))
    (or_assoc p.executable (runs_at a s) (list_any (runs_at a) others))

-- the pages behind the segments are those of the addresses from the heap to the top
pub touches_behind : (heap top a : ℕ) → heap % 4096 ≡ 0 → top % 4096 ≡ 0 → heap ≤ top
    → touches heap (top - heap) a ≡ (nat_le heap a && nat_lt a top)
touches_behind heap top a h t k = grind (arith, nat_tests)

-- the rights of the image: those of the segments, and those of data behind them
pub image_pages : (segments : List Loaded) (heap top a : ℕ) (fresh mid last : Page) → heap % 4096
    ≡ 0 → top % 4096 ≡ 0 → heap ≤ top
    → fresh ≡ no_page → mid ≡ with_segments segments a fresh → last
    ≡ (if touches heap (top - heap) a then granted true false mid else mid)
    → last ≡ image_page segments heap top a
image_pages segments heap top a fresh mid last h t k f m l =
    let rights = m ∙ ap (with_segments segments a) f ∙ pages_of segments a no_page in
    let behind = touches_behind heap top a h t k in
    l ∙ page_true (touches heap (top - heap) a) true false mid
    ∙ ap (λ q. record {
      mapped = q.mapped || touches heap (top - heap) a;
      writable = q.writable || touches heap (top - heap) a;
      executable = q.executable || false;
    }) rights
    ∙ same_page (list_any (touches_page a) segments || touches heap (top - heap) a)
    (list_any (touches_page a) segments || (nat_le heap a && nat_lt a top))
    (list_any (writes_at a) segments || touches heap (top - heap) a)
    (list_any (writes_at a) segments || (nat_le heap a && nat_lt a top))
    (list_any (runs_at a) segments || false) (list_any (runs_at a) segments)
    (ap (λ b. list_any (touches_page a) segments || b) behind)
    (ap (λ b. list_any (writes_at a) segments || b) behind)
    (sym (or_false (list_any (runs_at a) segments)))

pub whole_pages : (x : ℕ) → x / 4096 * 4096 % 4096 ≡ 0
whole_pages x = omega arith

-- the memory that is made so holds the image
pub image_made : (segments : List Loaded) (size base heap : ℕ) (fresh mid last : Space) → base
    ≡ base_of segments
    → heap ≡ heap_start_of segments → size % 4096 ≡ 0 → heap ≤ base + size → IsFresh fresh base size
    → mid.base ≡ fresh.base → size_of mid ≡ size_of fresh
    → ((a : ℕ) → byte_at mid a ≡ image_byte segments a)
    → ((a : ℕ) → page_at mid a ≡ with_segments segments a (page_at fresh a))
    → Maps mid last heap (base + size - heap) true false → IsImage segments size last
image_made segments size base heap fresh mid last b h whole room made mb ms bytes pages maps =
    let heap_whole : heap % 4096 ≡ 0 = ap (λ x. x % 4096) h
    ∙ whole_pages (greatest_end segments + 4095) in
    let base_whole : base % 4096 ≡ 0 = ap (λ x. x % 4096) b ∙ whole_pages (least segments) in
    let top_whole : (base + size) % 4096 ≡ 0 = omega arith in
    record {
      base = maps.base ∙ mb ∙ made.place ∙ b;
      size = ap length maps.bytes ∙ ms ∙ made.extent;
      bytes = λ a. same_bytes mid last a maps.base maps.bytes ∙ bytes a;
      pages = λ a. image_pages segments heap (base + size) a (page_at fresh a) (page_at mid a)
          (page_at last a) heap_whole top_whole room
          (made.pages a) (pages a) (maps.pages a)
          ∙ ap (λ x. image_page segments x (base + size) a) h
          ∙ ap (λ x. image_page segments (heap_start_of segments) (x + size) a) b;
    }
