-- Two entries are enough: they follow the first two arrivals, and determine whether another hart
-- holds the line.
use Rattle.std.proofs.Common.{◌≡◌, ℕ, Bool, true, false, eqb, List, [], ◌∷◌, ◌++◌, take, sym, ap}
use Rattle.std.proofs.Common.{◌∙◌}
use Rattle.std.specs.List.{list_any}
use Rattle.base.specs.Touch.{Touch, is_write}
use Rattle.sharing_rules.specs.AccessLists.{AccessList, writes_to}
use Rattle.sharing_rules.specs.Arrivals.{note_arrival, arrivals}
use Rattle.sharing_rules.specs.Holders.{is_held_by_another}
use Rattle.sharing_rules.specs.Laws.Arrivals.{arrivals-push, arrivals-some, arrivals-distinct}
use Rattle.sharing_rules.specs.Laws.Held.{another-arrived}
use Rattle.sharing_rules.specs.Laws.Tracks.{first_two-note, first_two-another}
use Rattle.line_tracks.specs.Entries.{entries_after_read, has_another}

-- after a read they are the first two of the list with it
pub entries-read : (inside : ℕ → Bool) (t : AccessList) (a : Touch) (hs : List ℕ) (h : ℕ)
    → list_any (writes_to inside) t ≡ true
    → inside a.addr ≡ true → is_write a.kind ≡ false → a.hart ≡ h
    → hs ≡ take 2 (arrivals inside t) → entries_after_read hs h
    ≡ take 2 (arrivals inside (t ++ a ∷ []))
entries-read inside t a hs h written here quiet same e =
    let g = arrivals-some inside t written in
    rw (← same, arrivals-push inside t a, here, quiet, g.2)
    (ap (λ x. take 2 (note_arrival x a.hart)) (e ∙ ap (take 2) g.2)
    ∙ first_two-note (g.0 ∷ g.1) a.hart)

-- another hart is among them where another hart holds the line
pub another-held : (line_of : ℕ → ℕ) (t : AccessList) (r : ℕ) (hs : List ℕ) (h : ℕ)
    → list_any (writes_to (λ addr. eqb (line_of addr) r)) t ≡ true
    → hs ≡ take 2 (arrivals (λ addr. eqb (line_of addr) r) t) → has_another hs h
    ≡ is_held_by_another line_of t h r
another-held line_of t r hs h written e =
    let inside : ℕ → Bool = λ addr. eqb (line_of addr) r in
    ap (λ x. has_another x h) e ∙ first_two-another (arrivals inside t) h
    (arrivals-distinct inside t)
    ∙ sym (another-arrived line_of r t h written)

-- after a write its hart is alone
pub entries-write : (inside : ℕ → Bool) (t : AccessList) (a : Touch) (h : ℕ) → inside a.addr ≡ true
    → is_write a.kind ≡ true → a.hart ≡ h
    → h ∷ [] ≡ take 2 (arrivals inside (t ++ a ∷ []))
entries-write inside t a h here writes same = rw (← same, arrivals-push inside t a, here, writes)
