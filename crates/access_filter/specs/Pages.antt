-- Stamps in pages of 4096. A page that isn't there yet is an empty vector.
use Rattle.std.specs.Prelude.{ℕ, ◌/◌, ◌%◌, Bool, nat_lt, List, [], length, slice_get, unwrap_or}
use Rattle.std.specs.Option.{option_map_or}
use Rattle.std.specs.declared.vec.Vec.{Vec}
use Rattle.std.specs.declared.alloc.Global.{Global}
use Rattle.access_filter.specs.Stamps.{blank_stamp}
use Rattle.access_filter.specs.declared.stamp.Stamp.{Stamp}

-- the stamps of the page at a place
abbrev pub page_at : List (Vec Stamp Global) → ℕ → List Stamp
page_at pages k = option_map_or (λ v. v.items) (slice_get pages k) []

-- the stamp at a place of a page, blank past its end
abbrev pub stamp_in : List Stamp → ℕ → Stamp
stamp_in page k = unwrap_or (slice_get page k) blank_stamp

abbrev pub stamp_at : List (Vec Stamp Global) → ℕ → Stamp
stamp_at pages q = stamp_in (page_at pages (q / 4096)) (q % 4096)

-- whether the page of a stamp is there
abbrev pub has_stamp : List (Vec Stamp Global) → ℕ → Bool
has_stamp pages q = nat_lt (q % 4096) (length (page_at pages (q / 4096)))
