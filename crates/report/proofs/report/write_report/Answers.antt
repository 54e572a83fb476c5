use Rattle.std.proofs.Common.{◌≡◌, ap, ◌∙◌, map}
use Rattle.report.specs.OfLists.{report_of}
use Rattle.report.specs.Laws.OfLists.{listed_tracks-kept}
use Rattle.report.specs.ListedTracks.{track_shown}
use Rattle.report.specs.Shown.{listed_tracks}
use Rattle.base.specs.TextLines.{text_of}
use Rattle.report.specs.Reports.{report_lines}
use Rattle.report.proofs.report.write_report.Goals as goal

pub returns-clause-text : goal.returns-clause-text
returns-clause-text c =
    let f = c.args.findings.now in
    let rows : map track_shown c.deref.result.now ≡ listed_tracks f.thresholds.report f.tracks.now =
    ap (map track_shown) c.deref.ensures.value
    ∙ rw c.report.ensures at c.in_ok-rows.ensures in
    ap (λ v. v.items) c.into_bytes.ensures.value
    ∙ rw c.new-text.ensures.bytes at c.in_ok-push_report.ensures
    ∙ ap (λ ls. text_of (report_lines f.ending f.layout f.thresholds f.objects.now ls)) rows

pub returns-clause-of_list : goal.returns-clause-of_list
unfolding report_of
returns-clause-of_list c = λ t native perm.
    let f = c.args.findings.now in
    returns-clause-text c
    ∙ ap (λ ls. text_of (report_lines f.ending f.layout f.thresholds f.objects.now ls))
    (listed_tracks-kept f.layout f.thresholds t f.tracks.now c.size-size.ensures.allowed native
    perm)
