use Rattle.std.proofs.Common.{◌≡◌, String, Global, string_bytes, find, rules, tests}
use Rattle.std.proofs.lemmas.Iterator.Consumers.{YieldsList-from_rest}
use Rattle.std.proofs.lemmas.Iterator.Search.{find_from_yields_List}
use Rattle.std.specs.BTreeMap.{keys}
use Rattle.std.specs.Map.Iter.{deref}
use Rattle.std.specs.Option.{option_copied}
use Rattle.settings.specs.Tables.{is_unknown}
use Rattle.settings.proofs.Unknown.{first-least_unknown}
use Rattle.settings.proofs.read.first_unknown.Goals as goal

pub returns : goal.returns
returns c =
    let found : option_copied c.find.result ≡ find (λ name. is_unknown (string_bytes name))
    (keys c.args.table.now) =
    find_from_yields_List (λ name. is_unknown (string_bytes name)) _ _ c.find.result
    c.find.ensures.ran
    (YieldsList-from_rest {shows = deref {X = String Global}} _ c.keys.ensures.rest)
    (λ x b q k. search (rules, tests)) in
    first-least_unknown c.find.result c.args.table.now.entries c.keys.ensures.ordered found
