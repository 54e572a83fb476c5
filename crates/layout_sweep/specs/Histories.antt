-- What one access makes of the history of a set of addresses: none before the first write.
use Rattle.std.specs.Prelude.{ℕ, Bool, false, ◌&&◌, if◌then◌else◌, List, [], ◌∷◌, Option, None, Some}
use Rattle.base.specs.Touch.{Touch, is_write}
use Rattle.line_tracks.specs.Entries.{entries_after_read, has_another}

abbrev pub history_after : Option (List ℕ) → Touch → Option (List ℕ)
history_after None a = if is_write a.kind then Some (a.hart ∷ []) else None
history_after (Some hs) a =
    Some (if is_write a.kind then a.hart ∷ [] else entries_after_read hs a.hart)

-- whether the access is a write that finds another hart there
abbrev pub finds_another : Option (List ℕ) → Touch → Bool
finds_another None a = false
finds_another (Some hs) a = is_write a.kind && has_another hs a.hart
