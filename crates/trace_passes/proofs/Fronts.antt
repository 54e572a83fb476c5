-- The front of a file that a pass has read, and its end.
use Rattle.std.proofs.Common.{◌≡◌, ◌≢◌, ℕ, ◌+◌, ◌-◌, ◌≤◌, ◌<◌, List, [], ◌++◌, length, take, drop}
use Rattle.std.proofs.Common.{Bool, true, false, Option, Some, None, refl, sym, ap}
use Rattle.std.proofs.Common.{◌∙◌, arith}
use Rattle.std.proofs.Math.Seq.{take-add}
use Rattle.std.proofs.lemmas.List.{append-nil, drop_all, length-append, length-take-le}
use Rattle.std.proofs.lemmas.List.{take-append-drop, take_all}
use Rattle.shelf.specs.Shelf.{Files, Narrows, Reads, Known, content}
use Rattle.shelf.specs.Fetch.{IsFront}
use Rattle.shelf.specs.Laws.Known.{if_known, known_both, known_map, known_still}
use Rattle.trace_format.specs.declared.record.TraceRecord.{TraceRecord}
use Rattle.trace_format.specs.Reading.{Reading, begin, read_on, reading_of}
use Rattle.trace_format.specs.Rules.{longest_trace}
use Rattle.trace_passes.specs.Passes.{head_of, header_refusal, pcs_refusal, refusal_of}
use Rattle.trace_passes.specs.Passes.{version_refusal}
use Rattle.trace_format.specs.Laws.Counts.{few_bytes}
use Rattle.trace_passes.specs.declared.wanted.Refusal.{Refusal}
use Rattle.trace_passes.specs.declared.wanted.Wanted.{Wanted}
use Rattle.trace_passes.specs.Cursors.{HasCome, IsRead, Reached, StopsAtMagic, magic_length, longest_piece}

-- no more bytes are read than a trace may have
pub at_most : (held : Option Files) (name : List ℕ) (w : Wanted) (bytes : List ℕ) (now : Reached)
    → HasCome held name w bytes now
    → now.count ≤ longest_trace
at_most held name w bytes now come =
    let few = few_bytes bytes (ap (λ (r : Reading). r.fault) (sym come.read.reading)
    ∙ come.read.clean) in
    omega (arith, few, come.size)

pub nothing_read : reading_of [] ≡ ([], begin)
unfolding read_on
nothing_read = refl

no_magic : (pcs : Bool) → version_refusal pcs None ≡ None
no_magic false = refl
no_magic true = refl

-- before the first byte
pub first_come : (held : Option Files) (name : List ℕ) (w : Wanted) (now : Reached) → now.reading
    ≡ begin → now.count ≡ 0
    → 0 < now.piece → now.piece ≤ longest_piece → HasCome held name w [] now
first_come held name w now is at room few =
    let reading : now.reading ≡ (reading_of []).1 = is
    ∙ sym (ap (λ (x : List TraceRecord × Reading). x.1) nothing_read) in
    record {
      size = sym at;
      room = room;
      few = few;
      front = if_known held (λ files. record { within = omega arith; same = refl });
      read = record {
        reading = reading;
        clean = ap (λ (r : Reading). r.fault) is;
        sited = no_magic w.pcs;
        unrefused = ap (λ (r : Reading). header_refusal w (head_of r.progress)) is;
      };
    }

-- the front of a file, and the piece that was read behind it
pub longer_front : (file bytes buffer : List ℕ) (at n : ℕ) → length bytes ≡ at → n ≤ length buffer
    → IsFront file bytes
    → Reads file at n buffer → IsFront file (bytes ++ take n buffer)
longer_front file bytes buffer at n size fits front reads =
    let more = bytes ++ take n buffer in
    let len : length more ≡ length bytes + n =
    length-append bytes (take n buffer) ∙ ap (λ k. length bytes + k) (length-take-le n buffer fits)
    in
    let taken : take (length more) file ≡ take (length bytes + n) file =
    ap (λ k. take k file) len in
    record {
      within = omega (arith, front.within, reads.within, size, len);
      same = cc (size, front.same, reads.bytes, take-add (length bytes) n file, taken);
    }

-- a front behind which nothing is read is all
pub whole_front : (file bytes buffer : List ℕ) (at n : ℕ) → length bytes ≡ at → n ≡ 0
    → 0 < length buffer → IsFront file bytes
    → Reads file at n buffer → bytes ≡ file
whole_front file bytes buffer at n size none some front reads =
    let ends = reads.ends none some in
    front.same ∙ take_all (length bytes) file (omega arith)

-- what is behind a front
pub behind_front : (file bytes : List ℕ) → IsFront file bytes → bytes ++ drop (length bytes) file
    ≡ file
behind_front file bytes front =
    ap (λ (xs : List ℕ). xs ++ drop (length bytes) file) front.same
    ∙ take-append-drop (length bytes) file

-- what a buffer holds once all of it was lent and given back
pub given_back : (n : ℕ) (buffer was : List ℕ) → length buffer ≡ n → length was ≡ n
    → take n (buffer ++ drop (length buffer) was) ≡ buffer
given_back n buffer was size same =
    let none : drop (length buffer) was ≡ [] = drop_all (length buffer) was (omega arith) in
    ap (λ (xs : List ℕ). take n (buffer ++ xs)) none ∙ ap (take n) (append-nil buffer)
    ∙ take_all n buffer (omega arith)

-- the buffer's front behind the bytes before it
pub longer : (bytes buffer : List ℕ) (at n : ℕ) → length bytes ≡ at → n ≤ length buffer
    → length (bytes ++ take n buffer) ≡ at + n
longer bytes buffer at n size fits =
    omega (arith, size, length-append bytes (take n buffer), length-take-le n buffer fits)

-- where pcs are wanted, a piece that was read doesn't go beyond the magic
pub stops_there : (w : Wanted) (bytes buffer : List ℕ) (at n : ℕ) → length bytes ≡ at
    → n ≤ length buffer → pcs_refusal w bytes ≡ None
    → (w.pcs ≡ true → at < magic_length → at + n ≤ magic_length)
    → StopsAtMagic w bytes (take n buffer)
stops_there w bytes buffer at n size fits sited stops =
    record {
      sited = sited;
      stops = λ pcs short.
          let few = stops pcs (omega (arith, size, short)) in
          omega (arith, size, few, length-take-le n buffer fits);
    }

-- what was read stands as long as its file is known
pub come_still : (o n : Option Files) (name : List ℕ) (w : Wanted) (bytes : List ℕ) (now : Reached)
    → Narrows o n → HasCome o name w bytes now
    → HasCome n name w bytes now
come_still o n name w bytes now narrow come = record {
  size = come.size;
  room = come.room;
  few = come.few;
  front = known_still (λ files. IsFront (content files name) bytes) o n narrow come.front;
  read = come.read;
}

-- one piece more is read
pub next_come : (held : Option Files) (name : List ℕ) (w : Wanted) (bytes buffer : List ℕ)
    (at n : ℕ) (now : Reached)
    → length bytes ≡ at → n ≤ length buffer
    → Known held (λ files. IsFront (content files name) bytes)
    → Known held (λ files. Reads (content files name) at n buffer)
    → IsRead w (bytes ++ take n buffer) now.reading
    → now.count ≡ at + n → 0 < now.piece → now.piece ≤ longest_piece
    → HasCome held name w (bytes ++ take n buffer) now
next_come held name w bytes buffer at n now size fits front reads read is room few =
    record {
      size = longer bytes buffer at n size fits ∙ sym is;
      room = room;
      few = few;
      front = known_both held (λ files. longer_front (content files name) bytes buffer at n size
          fits) front reads;
      read = read;
    }

-- a front that is refused, with what is behind it
pub refused_file : (held : Option Files) (name bytes : List ℕ) (w : Wanted) (refusal : Refusal)
    → Known held (λ files. IsFront (content files name) bytes)
    → ((more : List ℕ) → refusal_of w (bytes ++ more) ≡ Some refusal)
    → Known held (λ files. refusal_of w (content files name) ≡ Some refusal)
refused_file held name bytes w refusal front refused =
    known_map held (λ files is. ap (refusal_of w) (sym (behind_front (content files name) bytes is))
    ∙ refused _) front

-- how many bytes a trace may have more falls with each piece
pub falls : (at n : ℕ) → n ≢ 0 → at + n ≤ longest_trace
    → longest_trace - (at + n) < longest_trace - at
falls at n some low = omega arith
