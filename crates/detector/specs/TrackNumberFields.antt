-- How a place's field stands for an option.
use Rattle.std.specs.Prelude.{ℕ, ◌==◌, if◌then◌else◌, Option, Some, None}
use Rattle.detector.specs.declared.line_entry.TrackNumber.TheInside.{Inside}

abbrev pub track_number_of : Inside → Option ℕ
track_number_of p = if p.number == 4294967295 then None else Some p.number

abbrev pub fields_of : Option ℕ → Inside
fields_of None = record { number = 4294967295 }
fields_of (Some n) = record { number = n }
