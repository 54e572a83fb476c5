-- Names of symbols: any bytes, cut where they are long.
use Rattle.std.specs.Prelude.{ℕ, List, take}

-- how many bytes of a name are kept
abbrev pub longest_name : ℕ
longest_name = 1024

-- the first bytes of a content, as many as a name keeps
abbrev pub name_of : List ℕ → List ℕ
name_of content = take longest_name content
