-- What is counted of a line depends on the accesses in it alone, and is nothing where they are of
-- one hart.
use Rattle.std.proofs.Common.{◌≡◌, ℕ, ◌+◌, Bool, true, false, eqb, leb, ◌&&◌, List, [], ◌∷◌, ◌++◌}
use Rattle.std.proofs.Common.{Option, None, Some, length, map, refl, sym, ap, ◌∙◌, subst, arith}
use Rattle.std.proofs.Common.{inl, inr}
use Rattle.std.proofs.lemmas.Bool.{cases_Bool, eq-eqb}
use Rattle.std.proofs.lemmas.List.{map-append}
use Rattle.std.specs.Option.{option_map_or}
use Rattle.std.specs.Prelude.{◌⊎◌, if◌then◌else◌, option_map}
use Rattle.base.specs.Touch.{Touch, is_write}
use Rattle.sharing_rules.specs.AccessLists.{writes_to}
use Rattle.sharing_rules.specs.Laws.Kinds.{append-Member_left, append-Member_right}
use Rattle.sharing_rules.specs.Laws.Lists.{by_push}
use Rattle.sharing_rules.specs.Laws.Places.{first_place-empty}
use Rattle.sharing_rules.specs.Laws.Starts.{observed_start-one}
use Rattle.sharing_rules.specs.Laws.Tracks.{track_of-stays}
use Rattle.sharing_rules.specs.Lines.{Line, is_inside}
use Rattle.sharing_rules.specs.Listed.{Finding, found}
use Rattle.sharing_rules.specs.Members.{Member}
use Rattle.sharing_rules.specs.Observed.{first_write_from}
use Rattle.sharing_rules.specs.Recounts.{recount}
use Rattle.sharing_rules.specs.Tracks.{Traced, track_of, track_since}
use Rattle.sharing_rules.specs.declared.line_kind.LineKind.TheVariants.{Observed}
use Rattle.layout_sweep.specs.Histories.{finds_another, history_after}
use Rattle.layout_sweep.specs.Laws.Windows.{IsSized, window-blank, window-noted, window-stays}
use Rattle.layout_sweep.specs.Windows.{takes, window_after, window_of}
use Rattle.layout_sweep.specs.declared.window.Window.{Window}

-- the count of a line from its first write on
abbrev pub line_count : Line → List Touch → ℕ
line_count l t = (track_of l 0 t).count

-- Two lists alike in a line: what is kept of it, and its count.
pub record IsAlike (l : Line) (t u : List Touch) : Type 0 where
  pub window : window_of l t ≡ window_of l u
  pub count : line_count l t ≡ line_count l u

through : (l : Line) (t u v : List Touch) → IsAlike l t u → IsAlike l u v → IsAlike l t v
through l t u v one other =
    record { window = one.window ∙ other.window; count = one.count ∙ other.count }

back : (l : Line) (t u : List Touch) → IsAlike l t u → IsAlike l u t
back l t u one = record { window = sym one.window; count = sym one.count }

-- an access elsewhere
elsewhere : (l : Line) (t : List Touch) (a : Touch) → is_inside l a.addr ≡ false
    → IsAlike l (t ++ a ∷ []) t
elsewhere l t a outside = record {
  window = window-stays l t a outside;
  count = ap (λ (x : Traced). x.count) (track_of-stays l 0 t a outside);
}

-- the same access in the line
within : (l : Line) (t u : List Touch) (a : Touch) → IsSized l → is_inside l a.addr ≡ true
    → IsAlike l t u → IsAlike l (t ++ a ∷ []) (u ++ a ∷ [])
within l t u a sized inside same =
    let one = window-noted l t a sized inside in
    let other = window-noted l u a sized inside in
    record {
      window = one.window ∙ ap (λ (w : Window). window_after w a) same.window ∙ sym other.window;
      count = one.count
          ∙ ap (λ (w : Window). line_count l t + (if takes w a then 1 else 0)) same.window
          ∙ ap (λ (c : ℕ). c + (if takes (window_of l u) a then 1 else 0)) same.count
          ∙ sym other.count;
    }

same_access : (l : Line) (t u : List Touch) (a : Touch) → IsSized l → IsAlike l t u
    → IsAlike l (t ++ a ∷ []) (u ++ a ∷ [])
same_access l t u a sized same =
    elim (cases_Bool (is_inside l a.addr)) [
      | inl inside ↦ within l t u a sized inside same
      | inr outside ↦
          through l (t ++ a ∷ []) t (u ++ a ∷ []) (elsewhere l t a outside)
          (through l t u (u ++ a ∷ []) same (back l (u ++ a ∷ []) u (elsewhere l u a outside)))
    ]

-- an access stays as it is, or keeps off a line before and after
abbrev pub KeepsOff : Line → (Touch → Touch) → Touch → Type 0
KeepsOff l m a = (m a ≡ a) ⊎ ((is_inside l a.addr ≡ false) × (is_inside l (m a).addr ≡ false))

kept_access : (l : Line) (m : Touch → Touch) (t u : List Touch) (a : Touch) → IsSized l
    → KeepsOff l m a → IsAlike l u t → IsAlike l (u ++ m a ∷ []) (t ++ a ∷ [])
kept_access l m t u a sized keeps same =
    elim keeps [
      | inl is ↦
          subst (λ (b : Touch). IsAlike l (u ++ b ∷ []) (t ++ a ∷ [])) (sym is)
          (same_access l u t a sized same)
      | inr off ↦
          through l (u ++ m a ∷ []) u (t ++ a ∷ []) (elsewhere l u (m a) off.1)
          (through l u t (t ++ a ∷ []) same (back l (t ++ a ∷ []) t (elsewhere l t a off.0)))
    ]

-- accesses that are moved, and not into a line or out of it
pub moved_alike : (l : Line) (m : Touch → Touch) (t : List Touch) → IsSized l
    → ((a : Touch) → Member a t → KeepsOff l m a) → IsAlike l (map m t) t
moved_alike l m t sized =
    by_push (λ (t : List Touch). ((a : Touch) → Member a t → KeepsOff l m a)
    → IsAlike l (map m t) t)
    (λ each. record { window = refl; count = refl })
    (λ t a ih each.
    let before = ih (λ b there. each b (append-Member_left t (a ∷ []) b there)) in
    let last = each a (append-Member_right t (a ∷ []) a (inl refl)) in
    subst (λ (u : List Touch). IsAlike l u (t ++ a ∷ [])) (sym (map-append m t (a ∷ [])))
    (kept_access l m t (map m t) a sized last before))
    t

-- a history of one hart, or of none yet
abbrev IsOf : ℕ → Option (List ℕ) → Type 0
IsOf h s = (s ≡ None) ⊎ (s ≡ Some (h ∷ []))

of_one : (h : ℕ) (s : Option (List ℕ)) (a : Touch) → a.hart ≡ h → IsOf h s
    → IsOf h (history_after s a) × (finds_another s a ≡ false)
of_one h s a same is =
    let self : eqb h h ≡ true = eq-eqb h h refl in
    elim is [
      | inl none ↦ elim (cases_Bool (is_write a.kind)) [
        | inl writes ↦ rw (none, writes) (inr (ap (λ (g : ℕ). Some (g ∷ [])) same), refl)
        | inr reads ↦ rw (none, reads) (inl refl, refl)
      ]
      | inr some ↦ elim (cases_Bool (is_write a.kind)) [
        | inl writes ↦ rw (some, writes, same, self) (inr refl, refl)
        | inr reads ↦ rw (some, reads, same, self) (inr refl, refl)
      ]
    ]

-- one hart alone came to a line, and nothing is counted
record IsQuiet (l : Line) (h : ℕ) (t : List Touch) : Type 0 where
  history : IsOf h (window_of l t).history
  count : line_count l t ≡ 0

no_more : (b : Bool) (n : ℕ) → b ≡ false → (if b then n else 0) ≡ 0
no_more b n e = rw e refl

quiet_access : (l : Line) (h : ℕ) (t : List Touch) (a : Touch) → IsSized l
    → (is_inside l a.addr ≡ true → a.hart ≡ h) → IsQuiet l h t → IsQuiet l h (t ++ a ∷ [])
quiet_access l h t a sized own quiet =
    elim (cases_Bool (is_inside l a.addr)) [
      | inl inside ↦
          let noted = window-noted l t a sized inside in
          let one = of_one h (window_of l t).history a (own inside) quiet.history in
          let nothing = no_more (takes (window_of l t) a) 1 one.1 in
          record {
            history = subst (IsOf h) (sym (ap (λ (w : Window). w.history) noted.window)) one.0;
            count = omega (arith, noted.count, quiet.count, nothing);
          }
      | inr outside ↦
          let same = elsewhere l t a outside in
          record {
            history = subst (IsOf h) (sym (ap (λ (w : Window). w.history) same.window))
                quiet.history;
            count = same.count ∙ quiet.count;
          }
    ]

quiet_first : (l : Line) (h : ℕ) → IsQuiet l h []
quiet_first l h =
    let none : first_write_from 0 (is_inside l) [] ≡ None =
    first_place-empty (λ before a. leb 0 (length before) && writes_to (is_inside l) a) in
    record {
      history = inl (ap (λ (w : Window). w.history) (window-blank l));
      count = ap (λ (x : Traced). x.count) (ap (track_since l []) none);
    }

-- a line that one hart alone comes to
pub one_hart : (l : Line) (h : ℕ) (m : Touch → Touch) (t : List Touch) → IsSized l
    → ((a : Touch) → Member a t → is_inside l (m a).addr ≡ true → (m a).hart ≡ h)
    → line_count l (map m t) ≡ 0
one_hart l h m t sized own = (quiet t own).count
  where
    quiet : (t : List Touch)
        → ((a : Touch) → Member a t → is_inside l (m a).addr ≡ true → (m a).hart ≡ h)
        → IsQuiet l h (map m t)
    quiet =
        by_push (λ (t : List Touch).
        ((a : Touch) → Member a t → is_inside l (m a).addr ≡ true → (m a).hart ≡ h)
        → IsQuiet l h (map m t))
        (λ each. quiet_first l h)
        (λ t a ih each.
        let before = ih (λ b there. each b (append-Member_left t (a ∷ []) b there)) in
        let last = each a (append-Member_right t (a ∷ []) a (inl refl)) in
        subst (IsQuiet l h) (sym (map-append m t (a ∷ [])))
        (quiet_access l h (map m t) (m a) sized last before))

-- the count is the line's recount
recounted_from : (l : Line) (t : List Touch) (o : Option ℕ)
    → option_map_or (λ (f : Finding). f.count) (option_map (found t Observed l) o) 0
    ≡ (track_since l t o).count
recounted_from l t None = refl
recounted_from l t (Some s) = refl

pub recount_is : (l : Line) (t : List Touch) → recount l t ≡ line_count l t
recount_is l t =
    ap (λ (o : Option ℕ). option_map_or (λ (f : Finding). f.count)
    (option_map (found t Observed l) o) 0) (observed_start-one (is_inside l) t)
    ∙ recounted_from l t (first_write_from 0 (is_inside l) t)
