-- Which text a recount comes to.
use Rattle.std.proofs.Common.{◌≡◌, ℕ, List, [], sym, ap, ◌∙◌}
use Rattle.base.specs.TextLines.{text_of}
use Rattle.sharing_rules.specs.AccessLists.{AccessList}
use Rattle.trace_format.specs.Rules.{touches_in}
use Rattle.trace_format.specs.declared.record.TraceRecord.{TraceRecord}
use Rattle.placement.specs.Passing.{HasRecounted, RecountsFor}
use Rattle.placement.specs.Plans.{Planned, plan_of}
use Rattle.placement.specs.Texts.{Sums, place_lines, place_text, sums_of}
use Rattle.placement.specs.Words.{Owned, owned_of}
use Rattle.placement.specs.declared.recount.Recount.{Recount}

pub text-of_list : (n : ℕ) (name : List ℕ) (o : Owned) (p : Planned) (sums : Sums) (t : AccessList)
    → o ≡ owned_of o.extent t → p ≡ plan_of n o → sums ≡ sums_of n p t
    → text_of (place_lines n name o p sums) ≡ place_text n name o.extent t
unfolding place_text
text-of_list n name o p sums t owned planned summed =
    let q : Planned = plan_of n (owned_of o.extent t) in
    let is : p ≡ q = planned ∙ ap (plan_of n) owned in
    ap (λ (x : Sums). text_of (place_lines n name o p x)) (summed ∙ ap (λ (r : Planned). sums_of n r t) is)
    ∙ ap (λ (r : Planned). text_of (place_lines n name o r (sums_of n q t))) is
    ∙ ap (λ (x : Owned). text_of (place_lines n name x q (sums_of n q t))) owned

pub text-of_records : (name : List ℕ) (o : Owned) (begun now : Recount) (sums : Sums)
    (items : List TraceRecord) → o ≡ owned_of o.extent (touches_in items) → RecountsFor [] begun
    → begun.plan ≡ plan_of begun.size o → HasRecounted begun now items
    → ((t : AccessList) → RecountsFor t now → sums ≡ sums_of now.size now.plan t)
    → text_of (place_lines now.size name o now.plan sums)
    ≡ place_text begun.size name o.extent (touches_in items)
text-of_records name o begun now sums items owned fresh planned seen summed =
    let t : AccessList = touches_in items in
    let size : now.size ≡ begun.size = ap (λ (s : ℕ × Planned). s.0) seen.setting in
    let plan : now.plan ≡ begun.plan = ap (λ (s : ℕ × Planned). s.1) seen.setting in
    text-of_list now.size name o now.plan sums t owned
    (plan ∙ planned ∙ ap (λ (n : ℕ). plan_of n o) (sym size)) (summed t (seen.stands [] fresh))
    ∙ ap (λ (n : ℕ). place_text n name o.extent t) size
