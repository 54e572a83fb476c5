-- The rows of a table as they are read.
use Rattle.std.proofs.Common.{◌≡◌, ℕ, ◌+◌, Bool, true, false, not, List, [], ◌∷◌, ◌++◌}
use Rattle.std.proofs.Common.{map, get_or, take, drop, Some, None, refl, sym, ap, ◌∙◌}
use Rattle.std.proofs.Common.{arith}
use Rattle.std.specs.Prelude.{◌&&◌, nat_le, if◌then◌else◌}
use Rattle.std.specs.List.{insert, list_all}
use Rattle.std.proofs.lemmas.Bool.{and_from}
use Rattle.std.proofs.lemmas.Bool.Decides.{nat_tests}
use Rattle.std.proofs.lemmas.List.{map-append, take-append-drop}
use Rattle.std.proofs.lemmas.List.Elements.{All-push}
use Rattle.std.proofs.lemmas.List.Folds.{list_all-append, list_all-map}
use Rattle.std.proofs.lemmas.List.Quantifiers.{all_pairs_push}
use Rattle.std.proofs.lemmas.List.Sums.{AllPass-from_list_all}
use Rattle.trace_files.specs.declared.move_row.Move.{Move}
use Rattle.trace_files.specs.declared.table_fault.TableFault.TheVariants.{BadLine, Overlap}
use Rattle.trace_files.specs.Rows.{AreKept, AreRising, cross, crosses_none, turned}
use Rattle.trace_files.specs.Tables.{AreInOrder, IsTable, is_apart, is_behind, keeps_rules, meets}
use Rattle.trace_files.specs.Tables.{move_fault}

pub rising_table : (rows : List Move) → IsTable rows → AreRising rows
rising_table rows table = record {
  some = λ k d inside. let r = table.rules k d inside in grind (arith, nat_tests);
  order = λ i j d less inside. (table.order i j d less inside).rising;
}

-- ---- one more row

module _ (rows places : List Move) (m : Move) (kept : AreKept rows places) where
  pub apart_same : crosses_none places (turned m) ≡ is_apart rows m
  apart_same =
      kept.same (λ e. not (cross e (turned m)))
      ∙ list_all-map (λ e. not (cross e (turned m))) turned rows

  pub no_fault : (number : ℕ) → keeps_rules m ≡ true → is_behind rows m ≡ true
      → crosses_none places (turned m) ≡ true → move_fault rows number m ≡ None
  no_fault number rules behind apart =
      let good = and_from (keeps_rules m) (is_behind rows m) rules behind in
      ap (λ (b : Bool). if b then (if is_apart rows m then None else Some (Overlap number))
      else Some (BadLine number)) good
      ∙ ap (λ (b : Bool). if b then None else Some (Overlap number)) (sym apart_same ∙ apart)

  pub overlaps : (number : ℕ) → keeps_rules m ≡ true → is_behind rows m ≡ true
      → crosses_none places (turned m) ≡ false → move_fault rows number m ≡ Some (Overlap number)
  overlaps number rules behind apart =
      let good = and_from (keeps_rules m) (is_behind rows m) rules behind in
      ap (λ (b : Bool). if b then (if is_apart rows m then None else Some (Overlap number))
      else Some (BadLine number)) good
      ∙ ap (λ (b : Bool). if b then None else Some (Overlap number)) (sym apart_same ∙ apart)

  and_true : (z : Bool) → z ≡ (z && true)
  and_true true = refl
  and_true false = refl

  and_false : (z : Bool) → false ≡ (z && false)
  and_false true = refl
  and_false false = refl

  not_true : (b : Bool) → not b ≡ true → b ≡ false
  not_true false is = refl
  not_true true is = absurd cc

  three : (x y z : Bool) → (x && (y && z)) ≡ ((x && z) && (y && true))
  three true true z = and_true z
  three true false z = and_false z
  three false y z = refl

  same_on : (test : Move → Bool) (place : ℕ)
      → list_all test (insert places place (turned m))
      ≡ list_all test (map turned (rows ++ m ∷ []))
  same_on test place =
      let t = test (turned m) in
      let front = list_all test (take place places) in
      let back = list_all test (drop place places) in
      list_all-append test (take place places) (turned m ∷ drop place places)
      ∙ three front t back
      ∙ ap (λ (b : Bool). b && (t && true))
      (sym (list_all-append test (take place places) (drop place places))
      ∙ ap (list_all test) (take-append-drop place places) ∙ kept.same test)
      ∙ sym (list_all-append test (map turned rows) (turned m ∷ []))
      ∙ ap (list_all test) (sym (map-append turned rows (m ∷ [])))

  pub kept_on : (place : ℕ) → keeps_rules m ≡ true → is_behind rows m ≡ true
      → crosses_none places (turned m) ≡ true → AreRising (insert places place (turned m))
      → AreKept (rows ++ m ∷ []) (insert places place (turned m))
  kept_on place rules behind apart rising =
      let all_behind = AllPass-from_list_all (λ e. nat_le (e.from + e.size) m.from) rows behind in
      let all_apart = AllPass-from_list_all (λ e. not (meets e m)) rows (sym apart_same ∙ apart) in
      record {
        table = record {
          rules = All-push (λ e. keeps_rules e ≡ true) rows m kept.table.rules rules;
          order = all_pairs_push AreInOrder rows m kept.table.order
              (λ k d inside. record {
                rising = let o = all_behind k d inside in grind (arith, nat_tests);
                apart = not_true (meets (get_or rows k d) m) (all_apart k d inside);
              });
        };
        rising = rising;
        same = λ test. same_on test place;
      }
