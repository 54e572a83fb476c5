use Rattle.std.proofs.Common.{string_bytes}
use Rattle.objects.specs.Rows.{symbol_of}
use Rattle.report.proofs.TextLaws.{symbol_pieces}
use Rattle.report.proofs.object_lines.push_symbol.Goals as goal

pub returns : goal.returns
returns c =
    rw (← symbol_pieces (symbol_of c.args.symbol) (string_bytes c.args.text.now))
    (rw (
      c.in_ok-push_name.ensures,
      c.bytes.ensures.value,
      c.in_ok-push_str.ensures.bytes,
    ) at c.push_place.ensures)
