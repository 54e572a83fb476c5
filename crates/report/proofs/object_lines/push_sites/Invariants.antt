use Rattle.std.proofs.Common.{◌≡◌, ◌++◌, string_bytes, take}
use Rattle.base.specs.TextLines.{text_of}
use Rattle.report.specs.Lines.{site_lines}
use Rattle.report.proofs.object_lines.push_sites.Given as goal

abbrev pub invariant-loop-site : goal.invariant-loop-site
invariant-loop-site l = string_bytes l.text ≡ string_bytes l.fn.text
    ++ text_of (site_lines l.index.symbols (take l.site-index l.sites))
