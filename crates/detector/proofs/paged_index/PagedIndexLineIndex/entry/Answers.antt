use Rattle.std.proofs.Common.{◌≡◌, ℕ, ◌<◌, ◌/◌, ◌%◌, ◌==◌, if◌then◌else◌, true, false, nat_lt}
use Rattle.std.proofs.Common.{length, length-set, refl, sym, ◌∙◌, ap, subst}
use Rattle.std.specs.Vec.{with_item}
use Rattle.detector.specs.Laws.Entries.{changed, entry_at-entries_of, same_entries}
use Rattle.detector.specs.declared.line_entry.LineEntry.{LineEntry}
use Rattle.detector.specs.declared.paged_index.PagedIndex.{PagedIndex}
use Rattle.detector.specs.PagedEntries.{paged_entry, paged_place}
use Rattle.detector.specs.Pages.{directory_entry, items_at, page_entry}
use Rattle.detector.proofs.PageLaws.{block-set, items_at-held, items_at-within, page_entry-held}
use Rattle.detector.proofs.PageLaws.{page_entry-set, related-set}
use Rattle.detector.proofs.paged_index.PagedIndexLineIndex.entry.Goals as goal
use Rattle.std.proofs.lemmas.Bool.{ltb-true}

pub returns-in-Ok : goal.returns-in-Ok
returns-in-Ok c =
    let number : ℕ = c.args.line / 262144 in
    let place : ℕ = c.args.line % 262144 in
    let all = c.make_place.new.self.directories in
    let directory = c.index_mut-directory.result.now in
    let page = c.index_mut-page.result.now in
    let there : place % 64 < length (items_at (items_at all.items number) (place / 64)) =
    ltb-true _ _ c.in-Ok.ensures.placed in
    let paged : place / 64 < length (items_at all.items number) =
    items_at-within (items_at all.items number) (place / 64)
    (place % 64) there in
    let in_all : number < length all.items = items_at-within all.items number (place / 64) paged in
    let directory_is : items_at all.items number ≡ directory.items =
    items_at-held all.items number directory in_all
    c.index_mut-directory.ensures.value in
    let in_directory : place / 64 < length directory.items =
    subst (λ ps. place / 64 < length ps) directory_is paged in
    let page_is : items_at directory.items (place / 64) ≡ page.items =
    items_at-held directory.items (place / 64) page in_directory
    c.index_mut-page.ensures.value in
    let in_page : place % 64 < length page.items = subst (λ es. place % 64 < length es) page_is
    (subst (λ ps. place % 64 < length (items_at ps (place / 64))) directory_is there) in
    let after : LineEntry → PagedIndex =
    λ (w : LineEntry). record {
      directories = with_item all number (with_item directory (place / 64)
          (with_item page (place % 64) w));
      alloc = c.make_place.new.self.alloc;
    } in
    let in_one : (w : LineEntry) (k : ℕ) → page_entry (with_item page (place % 64) w).items k
    ≡ if k == place % 64 then w
    else page_entry (items_at directory.items (place / 64)) k =
    λ w k. page_entry-set page.items (place % 64) w k in_page
    ∙ ap (λ es. if k == place % 64 then w else page_entry es k) (sym page_is) in
    let in_two : (w : LineEntry) (k : ℕ) → directory_entry
    (with_item directory (place / 64) (with_item page (place % 64) w)).items k
    ≡ if k == place then w else directory_entry (items_at all.items number) k =
    λ w k. block-set 64 page_entry directory.items place
    (with_item page (place % 64) w) w in_directory (in_one w) k
    ∙ ap (λ ps. if k == place then w else directory_entry ps k) (sym directory_is) in
    let each : (w : LineEntry) (q : ℕ) → paged_entry (after w) q ≡ if q == c.args.line then w
    else paged_entry c.args.self.now q =
    λ w q. block-set 262144 directory_entry all.items c.args.line
    (with_item directory (place / 64) (with_item page (place % 64) w)) w
    in_all (in_two w) q
    ∙ ap (λ e. if q == c.args.line then w else e) (c.in-Ok.ensures.same q) in
    let pages_stay : (w : LineEntry) (b : ℕ) → length
    (items_at (with_item directory (place / 64) (with_item page (place % 64) w)).items b)
    ≡ length (items_at directory.items b) =
    λ w b. related-set (λ es fs. length fs ≡ length es) (λ es. refl) directory.items (place / 64)
    (with_item page (place % 64) w)
    in_directory
    (length-set page.items (place % 64) w ∙ ap length (sym page_is)) b in
    let places_stay : (w : LineEntry) (q : ℕ) → paged_place (after w) q
    ≡ paged_place c.make_place.new.self q =
    λ w q. ap (nat_lt (q % 262144 % 64))
    (related-set (λ ps qs. (b : ℕ) → length (items_at qs b) ≡ length (items_at ps b))
    (λ ps b. refl) all.items number
    (with_item directory (place / 64) (with_item page (place % 64) w)) in_all
    (λ b. pages_stay w b ∙ ap (λ ps. length (items_at ps b)) (sym directory_is)) (q / 262144)
    (q % 262144 / 64)) in
    let value : c.index_mut.result.now ≡ paged_entry c.make_place.new.self c.args.line =
    sym (page_entry-held page.items (place % 64) c.index_mut.result.now in_page
    c.index_mut.ensures.value)
    ∙ ap (λ es. page_entry es (place % 64)) (sym page_is)
    ∙ ap (λ ps. directory_entry ps place) (sym directory_is) in (
      (
        refl,
        (λ w _. (
          changed (paged_entry c.args.self.now) (paged_entry (after w)) c.args.line w c.requires
              (each w),
          places_stay w c.args.line ∙ c.in-Ok.ensures.placed,
          λ q had. places_stay w q ∙ c.in-Ok.ensures.keeps q had,
        )),
        tt,
      ),
      record {
        writes_back = tt;
        value = value ∙ c.in-Ok.ensures.same c.args.line
            ∙ sym (entry_at-entries_of (paged_entry c.args.self.now) c.args.line c.requires);
        unplaced = tt;
        blank = tt;
      },
    )

pub returns-in-Err : goal.returns-in-Err
returns-in-Err c = (
  (
    refl,
    (λ w is. let no : false ≡ true = is in cc),
    (same_entries _ _ c.in-Err.ensures.same, c.in-Err.ensures.keeps),
  ),
  record {
    writes_back = tt;
    value = tt;
    unplaced = c.in-Err.ensures.unplaced;
    blank = entry_at-entries_of (paged_entry c.args.self.now)
        c.args.line c.requires ∙ c.in-Err.ensures.blank;
  },
)
