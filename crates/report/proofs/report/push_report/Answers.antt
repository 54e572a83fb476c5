use Rattle.std.proofs.Common.{OnOk, string_bytes, map, length, subst, sym, refl}
use Rattle.std.proofs.lemmas.List.{length-map}
use Rattle.objects.specs.Objects.{Objects}
use Rattle.report.specs.Added.{AddsLines}
use Rattle.report.specs.ListedTracks.{track_shown}
use Rattle.report.specs.Reports.{report_lines}
use Rattle.report.proofs.TextLaws.{report_pieces}
use Rattle.report.proofs.report.push_report.Goals as goal

pub returns : goal.returns
returns c =
    let f = c.args.findings.now in
    let rows = c.args.rows.now in
    subst (λ (all : Objects). OnOk c.push_end.result (AddsLines c.args.text.now c.push_end.new.text
    (report_lines f.ending f.layout f.thresholds all (map track_shown rows)))) c.requires
    (rw (← report_pieces (length rows) f.ending.accesses
    (string_bytes c.args.text.now) f.ending f.layout f.thresholds c.args.index.now
    (map track_shown rows) (sym (length-map rows track_shown)) refl)
    (rw (c.in_ok-push_tracks.ensures, c.in_ok-push_settings.ensures, c.in_ok-push_ending.ensures) at
    c.push_end.ensures))
