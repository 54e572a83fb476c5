use Rattle.std.proofs.Common.{◌≡◌, ℕ, ◌==◌, if◌then◌else◌, true, false, refl, arith, sym, ◌∙◌}
use Rattle.std.proofs.lemmas.Grind.{common_steps}
use Rattle.detector.specs.Laws.Entries.{changed, entry_at-entries_of, same_entries}
use Rattle.detector.specs.declared.line_entry.LineEntry.{LineEntry}
use Rattle.detector_tests.specs.declared.map_index.MapIndex.{MapIndex}
use Rattle.detector_tests.specs.MapEntries.{map_entry, map_place}
use Rattle.detector_tests.proofs.map_index.MapIndexLineIndex.entry.Goals as goal

pub returns-in-Some : goal.returns-in-Some
returns-in-Some c =
    let after : LineEntry → MapIndex = λ (w : LineEntry). record {
      lines =
          c.get_mut.follows.lender w;
    } in
    let each : (w : LineEntry) (q : ℕ) → map_entry (after w) q ≡ if q == c.args.line then w
    else map_entry c.args.self.now q =
    λ w q. grind (arith, common_steps, c.get_mut.follows.holds w, c.in-Ok.ensures.same q) in
    let keys : (w : LineEntry) (q : ℕ) → map_place (after w) q ≡ map_place c.make_place.new.self q =
    λ w q. grind (arith, common_steps, c.get_mut.follows.holds w, c.in-Ok.ensures.placed) in
    let value : c.in-Some.entry.now ≡ map_entry c.make_place.new.self c.args.line =
    grind (arith, common_steps, c.in-Some.ensures.value)
    in (
      (
        refl,
        (λ w _. (
          changed (map_entry c.args.self.now) (map_entry (after w)) c.args.line w c.requires
              (each w),
          keys w c.args.line ∙ c.in-Ok.ensures.placed,
          λ q had. keys w q ∙ c.in-Ok.ensures.keeps q had,
        )),
        tt,
      ),
      record {
        writes_back = tt;
        value = value ∙ c.in-Ok.ensures.same c.args.line
            ∙ sym (entry_at-entries_of (map_entry c.args.self.now) c.args.line c.requires);
        unplaced = tt;
        blank = tt;
      },
    )

pub returns-in-Err : goal.returns-in-Err
returns-in-Err c = (
  (
    refl,
    (λ w is. let no : false ≡ true = is in cc),
    (same_entries _ _ c.in-Err.ensures.same, c.in-Err.ensures.keeps),
  ),
  record {
    writes_back = tt;
    value = tt;
    unplaced = c.in-Err.ensures.unplaced;
    blank = entry_at-entries_of (map_entry c.args.self.now)
        c.args.line c.requires ∙ c.in-Err.ensures.blank;
  },
)
