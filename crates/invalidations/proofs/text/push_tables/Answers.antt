use Rattle.std.proofs.Common.{codes, map, string_bytes}
use Rattle.invalidations.specs.Text.{hart_line, headed, pair_line, site_line}
use Rattle.invalidations.proofs.TextLaws.{table_pieces}
use Rattle.invalidations.proofs.text.push_tables.Goals as goal

pub returns : goal.returns
returns c =
    rw (← table_pieces (string_bytes c.args.text.now)
    (headed (codes "sites") (map (site_line c.args.index.now.symbols) c.args.sites.now))
    (headed (codes "pairs") (map pair_line c.args.pairs.now))
    (headed (codes "harts") (map hart_line c.args.harts.now)))
    (rw (c.in_ok-push_harts.ensures, c.in_ok-push_pairs.ensures, c.in_ok-push_sites.ensures) at
    c.push_end.ensures)
