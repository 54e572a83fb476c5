use Rattle.std.proofs.Common.{◌++◌, List, ℕ, Result, Ok, Err, IfOk, drop, sym, ap, ◌∙◌}
use Rattle.std.proofs.lemmas.List.{take-append-drop}
use Rattle.disk_shelf.proofs.reasons.without_number.Goals as goal

ok_then : {T E : Type 0} (P Q : T → Type 0) (r : Result T E) → ((x : T) → P x → Q x) → IfOk r P
    → IfOk r Q
ok_then P Q (Ok x) f p = f x p
ok_then P Q (Err e) f p = tt

pub returns-in-Some : goal.returns-in-Some
returns-in-Some c =
    let whole = c.args.whole.now in
    let split = c.in-Some.ensures.cases in
    let rest = drop split.0 whole in
    ok_then _ _ c.from_str.result
    (λ reason same. (
      rest,
      sym (ap (λ (front : List ℕ). front ++ rest) (same ∙ split.3) ∙ take-append-drop split.0 whole),
    )) c.from_str.ensures.ok
