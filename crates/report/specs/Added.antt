-- What a text gains.
use Rattle.std.specs.Prelude.{◌≡◌, ℕ, List, ◌++◌, string_bytes}
use Rattle.std.specs.declared.string.String.{String}
use Rattle.std.specs.declared.alloc.Global.{Global}
use Rattle.base.specs.TextLines.{line_text, text_of}

-- some bytes
abbrev pub AddsText : String Global → String Global → List ℕ → Type 0
AddsText old new bytes = string_bytes new ≡ string_bytes old ++ bytes

-- a line, as its words
abbrev pub AddsLine : String Global → String Global → List (List ℕ) → Type 0
AddsLine old new words = AddsText old new (line_text words)

-- lines, each as its words
abbrev pub AddsLines : String Global → String Global → List (List (List ℕ)) → Type 0
AddsLines old new lines = AddsText old new (text_of lines)
