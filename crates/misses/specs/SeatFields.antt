-- How the fields of a seat stand for a hart's number and its visits: the lowest 32 bits of both
-- positions, and 2^21 times the rest of the second, 1,024 times that of the first, and the number.
use Rattle.std.specs.Prelude.{ℕ, ◌+◌, ◌*◌, ◌/◌, ◌%◌, ◌<◌}
use Rattle.misses.specs.declared.line_misses.Visits.{Visits}
use Rattle.misses.specs.declared.seat.Seat.TheInside.{Inside}

abbrev pub visitor_of : Inside → ℕ × Visits
visitor_of s = (
  s.rest % 1024,
  record {
    accessed = s.rest / 1024 % 2048 * 4294967296 + s.accessed;
    loaded = s.rest / 2097152 * 4294967296 + s.loaded;
  },
)

abbrev pub AreLow : Inside → Type 0
AreLow s = (s.accessed < 4294967296) × (s.loaded < 4294967296)

abbrev pub fields_of : ℕ × Visits → Inside
fields_of e = record {
  accessed = e.1.accessed % 4294967296;
  loaded = e.1.loaded % 4294967296;
  rest = e.1.loaded / 4294967296 * 2097152 + e.1.accessed / 4294967296 * 1024 + e.0;
}
