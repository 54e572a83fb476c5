-- The summary of a made trace, as one text with its numbers in it.
use Rattle.std.proofs.Common.{◌≡◌, ℕ, List, [], ◌∷◌, ◌++◌, append_assoc, ap, ◌∙◌}
use Rattle.std.specs.Prelude.{codes}
use Rattle.std.specs.Fmt.{decimal}
use Rattle.detector.specs.declared.totals.Totals.{Totals}
use Rattle.predator_cli.specs.Gen.{summary_text}

-- a line feed before what follows
fed : (digits more : List ℕ) → (digits ++ 10 ∷ []) ++ more ≡ digits ++ 10 ∷ more
fed digits more = append_assoc digits (10 ∷ []) more

pub summary_spelled : (count : ℕ) (x : Totals) → summary_text count x
    ≡ codes "generated " ++ (decimal count
    ++ (codes "\ntracked " ++ (decimal x.tracked ++ (codes "\nlisted " ++ (decimal x.listed
    ++ (codes "\ninvalidations " ++ (decimal x.invalidations ++ codes "\nend\n")))))))
summary_spelled count x =
    let last = fed (decimal x.invalidations) (codes "end\n") in
    let third = fed (decimal x.listed)
    (codes "invalidations " ++ ((decimal x.invalidations ++ 10 ∷ []) ++ codes "end\n"))
    ∙ ap (λ r. decimal x.listed ++ (codes "\ninvalidations " ++ r)) last in
    let second = fed (decimal x.tracked)
    (codes "listed " ++ ((decimal x.listed ++ 10 ∷ [])
    ++ (codes "invalidations " ++ ((decimal x.invalidations ++ 10 ∷ []) ++ codes "end\n"))))
    ∙ ap (λ r. decimal x.tracked ++ (codes "\nlisted " ++ r)) third in
    let first = fed (decimal count)
    (codes "tracked " ++ ((decimal x.tracked ++ 10 ∷ [])
    ++ (codes "listed " ++ ((decimal x.listed ++ 10 ∷ [])
    ++ (codes "invalidations " ++ ((decimal x.invalidations ++ 10 ∷ []) ++ codes "end\n"))))))
    ∙ ap (λ r. decimal count ++ (codes "\ntracked " ++ r)) second in
    ap (λ r. codes "generated " ++ r) first
