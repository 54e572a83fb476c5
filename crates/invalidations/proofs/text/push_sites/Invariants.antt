use Rattle.std.proofs.Common.{◌≡◌, ◌∷◌, ◌++◌, [], codes, length, map, string_bytes, take}
use Rattle.std.specs.Fmt.{decimal}
use Rattle.base.specs.TextLines.{text_of}
use Rattle.invalidations.specs.Text.{site_line}
use Rattle.invalidations.proofs.text.push_sites.Given as goal

abbrev pub invariant-loop-site : goal.invariant-loop-site
invariant-loop-site l = string_bytes l.text ≡ string_bytes l.fn.text
    ++ text_of ((codes "sites" ∷ decimal (length l.sites) ∷ []) ∷ map (site_line l.index.symbols) (take l.site-index l.sites))
