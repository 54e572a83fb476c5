-- What the answers of the tables' entries say of the tables.
use Rattle.std.proofs.Common.{◌≡◌, ℕ, ◌-◌, ◌<◌, Bool, true, false, eqb, not, List, [], ◌∷◌}
use Rattle.std.proofs.Common.{length, take, refl, sym, ap, ◌∙◌, subst, arith, inl, inr, Option}
use Rattle.std.proofs.Common.{Some}
use Rattle.std.proofs.Common.{None}
use Rattle.std.proofs.lemmas.Bool.{cases_Bool, eqb-true, false≢true}
use Rattle.std.proofs.lemmas.Option.{same_Some}
use Rattle.std.specs.List.{list_any, position}
use Rattle.std.specs.Map.{keys_of, lookup, values_of}
use Rattle.std.specs.Prelude.{slice_get, nat_eq, is_some, if◌then◌else◌, IfOk, IfSome, IsOk, IsTrue}
use Rattle.std.specs.Prelude.{OnErr, OnOk, Result, Ok, Err}
use Rattle.indexmap.specs.IndexMap.{insert_entry, set_value_at}
use Rattle.sharing_rules.specs.Arrivals.{note_arrival}
use Rattle.sharing_rules.specs.Laws.Lists.{slice_cases}
use Rattle.finite_cache.specs.Bounded.{has, in_front, without}
use Rattle.finite_cache.specs.Fits.{HaveWays}
use Rattle.finite_cache.specs.CacheState.{LineUse, WaySet, harts_of, lines_at, unused, use_of}
use Rattle.finite_cache.specs.Laws.Tables.{all-insert, at-lookup, found-changed, found-insert}
use Rattle.finite_cache.specs.Laws.Ways.{ways_of}

-- ---- lists by cell

abbrev shown_lines : WaySet → List ℕ
shown_lines w = w.lines

-- an index of a table, as a look-up gives it
module _ (es : List (ℕ × WaySet)) (c i : ℕ) (at : Some i ≡ position (eqb c) (keys_of es))
    (value : slice_get (values_of es) i ≡ lookup (eqb c) es)
    (found : true ≡ is_some (lookup (eqb c) es))
  where
    there : (w : WaySet) × (lookup (eqb c) es ≡ Some w) × (slice_get (values_of es) i ≡ Some w)
    there =
        elim (slice_cases (lookup (eqb c) es)) [
          | inl none ↦ let k : true ≡ false = rw none at found in absurd (false≢true (sym k))
          | inr some ↦ (some.0, some.1, value ∙ some.1)
        ]

    set-there : (w : WaySet) → lookup (eqb c) es ≡ Some w → lines_at es c ≡ w.lines
    set-there w e = rw e refl

    ways-there : (n : ℕ) (w : WaySet) → HaveWays n es → lookup (eqb c) es ≡ Some w → w.ways ≡ n
    ways-there n w ways e = (at-lookup (λ e. e.1.ways ≡ n) es c w ways e).1

    pub left-known : {E : Type 0} (result : Result (Option ℕ) E) (n line : ℕ) → HaveWays n es
        → IfOk result (λ left. IfSome (slice_get (values_of es) i)
        (λ w. left ≡ slice_get (in_front line w.lines) w.ways))
        → IfOk result (λ left. left ≡ slice_get (in_front line (lines_at es c)) n)
    left-known (Err e) n line ways stated = tt
    left-known (Ok x) n line ways stated =
        let w = there in
        let here : x ≡ slice_get (in_front line w.0.lines) w.0.ways = rw w.2 at stated in
        here ∙ ap (slice_get (in_front line w.0.lines)) (ways-there n w.0 ways w.1)
        ∙ ap (λ ls. slice_get (in_front line ls) n) (sym (set-there w.0 w.1))

    pub used-known : {E : Type 0} (result : Result (Option ℕ) E) (new : List (ℕ × WaySet))
        (n line : ℕ) → HaveWays n es
        → OnOk result (IfSome (slice_get (values_of es) i) (λ w. new
        ≡ set_value_at es i (ways_of (take w.ways (in_front line w.lines)) w.ways)))
        → OnOk result ((q : ℕ) → lines_at new q ≡ if eqb q c
        then take n (in_front line (lines_at es c)) else lines_at es q)
    used-known (Err e) new n line ways stated = tt
    used-known (Ok x) new n line ways stated = λ q.
        let g : WaySet → WaySet = λ w. ways_of (take w.ways (in_front line w.lines)) w.ways in
        let w = found-changed shown_lines [] g es new c i at value found stated in
        w.2 q
        ∙ ap (λ ls. if eqb q c then ls else lines_at es q)
        (ap (λ m. take m (in_front line w.0.lines)) (ways-there n w.0 ways w.1)
        ∙ ap (λ ls. take n (in_front line ls)) (sym (set-there w.0 w.1)))

    pub known-known : {E : Type 0} (result : Result (Option ℕ) E) (line : ℕ)
        → IfSome (slice_get (values_of es) i) (λ w. IsTrue (has line w.lines) → IsOk result)
        → IsTrue (has line (lines_at es c)) → IsOk result
    known-known result line stated here =
        let w = there in
        let known : IsTrue (has line w.0.lines) → IsOk result = rw w.2 at stated in
        known (ap (has line) (sym (set-there w.0 w.1)) ∙ here)

    ways-changed : (g : WaySet → WaySet) (new : List (ℕ × WaySet)) (n : ℕ)
        → ((w : WaySet) → (g w).ways ≡ w.ways) → HaveWays n es
        → IfSome (slice_get (values_of es) i) (λ w. new ≡ set_value_at es i (g w))
        → HaveWays n new
    ways-changed g new n same ways stated =
        let w = found-changed shown_lines [] g es new c i at value found stated in
        let fits : (g w.0).ways ≡ n = same w.0 ∙ ways-there n w.0 ways w.1 in
        subst (HaveWays n) (sym w.3)
        (all-insert (λ e. e.1.ways ≡ n) es c (g w.0) fits (λ q. fits) ways)

    pub kept-known : {E : Type 0} (result : Result (Option ℕ) E) (new : List (ℕ × WaySet))
        (n line : ℕ) → HaveWays n es
        → OnOk result (IfSome (slice_get (values_of es) i) (λ w. new
        ≡ set_value_at es i (ways_of (take w.ways (in_front line w.lines)) w.ways)))
        → OnErr result (new ≡ es) → HaveWays n new
    kept-known (Err e) new n line ways stated same = subst (HaveWays n) (sym same) ways
    kept-known (Ok x) new n line ways stated same =
        ways-changed (λ w. ways_of (take w.ways (in_front line w.lines)) w.ways) new n (λ w. refl)
        ways stated

    pub found-out : (result : Bool) (line : ℕ)
        → IfSome (slice_get (values_of es) i) (λ w. result ≡ has line w.lines)
        → result ≡ has line (lines_at es c)
    found-out result line stated =
        let w = there in
        let here : result ≡ has line w.0.lines = rw w.2 at stated in
        here ∙ ap (has line) (sym (set-there w.0 w.1))

    pub taken-out : (new : List (ℕ × WaySet)) (line : ℕ)
        → IfSome (slice_get (values_of es) i)
        (λ w. new ≡ set_value_at es i (ways_of (without line w.lines) w.ways))
        → (q : ℕ) → lines_at new q ≡ if eqb q c then without line (lines_at es c)
        else lines_at es q
    taken-out new line stated q =
        let g : WaySet → WaySet = λ w. ways_of (without line w.lines) w.ways in
        let w = found-changed shown_lines [] g es new c i at value found stated in
        w.2 q
        ∙ ap (λ ls. if eqb q c then without line ls else lines_at es q)
        (sym (set-there w.0 w.1))

    pub ways-out : (new : List (ℕ × WaySet)) (line : ℕ)
        → IfSome (slice_get (values_of es) i)
        (λ w. new ≡ set_value_at es i (ways_of (without line w.lines) w.ways))
        → (n : ℕ) → HaveWays n es → HaveWays n new
    ways-out new line stated n ways =
        ways-changed (λ w. ways_of (without line w.lines) w.ways) new n (λ w. refl) ways stated

-- a cell without an entry
module _ (es : List (ℕ × WaySet)) (c : ℕ) (none : false ≡ is_some (lookup (eqb c) es)) where
  pub empty : lines_at es c ≡ []
  empty =
      elim (slice_cases (lookup (eqb c) es)) [
        | inl gone ↦ rw gone refl
        | inr some ↦ let k : false ≡ true = rw some.1 at none in absurd (false≢true k)
      ]

  pub left-new : {E : Type 0} (result : Result (Option ℕ) E) (n line : ℕ)
      → IfOk result (λ left. left ≡ slice_get (line ∷ []) n)
      → IfOk result (λ left. left ≡ slice_get (in_front line (lines_at es c)) n)
  left-new result n line stated =
      subst (λ ls. IfOk result (λ left. left ≡ slice_get (in_front line ls) n)) (sym empty) stated

  pub used-new : {E : Type 0} (result : Result (Option ℕ) E) (new : List (ℕ × WaySet))
      (n line : ℕ) → OnOk result (new ≡ insert_entry nat_eq es c (ways_of (take n (line ∷ [])) n))
      → OnOk result ((q : ℕ) → lines_at new q ≡ if eqb q c
      then take n (in_front line (lines_at es c)) else lines_at es q)
  used-new (Err e) new n line stated = tt
  used-new (Ok x) new n line stated = λ q.
      ap (λ xs. lines_at xs q) stated
      ∙ found-insert shown_lines [] es c q (ways_of (take n (line ∷ [])) n)
      ∙ ap (λ ls. if eqb q c then take n (in_front line ls) else lines_at es q) (sym empty)

  pub known-new : {E : Type 0} (result : Result (Option ℕ) E) (line : ℕ)
      → IsTrue (has line (lines_at es c)) → IsOk result
  known-new result line here =
      let no : false ≡ true = sym (ap (has line) empty) ∙ here in absurd (false≢true no)

  pub kept-new : {E : Type 0} (result : Result (Option ℕ) E) (new : List (ℕ × WaySet))
      (n line : ℕ) → HaveWays n es
      → OnOk result (new ≡ insert_entry nat_eq es c (ways_of (take n (line ∷ [])) n))
      → OnErr result (new ≡ es) → HaveWays n new
  kept-new (Err e) new n line ways stated same = subst (HaveWays n) (sym same) ways
  kept-new (Ok x) new n line ways stated same =
      subst (HaveWays n) (sym stated)
      (all-insert (λ e. e.1.ways ≡ n) es c (ways_of (take n (line ∷ [])) n) refl (λ q. refl) ways)

  pub found-none : (line : ℕ) → false ≡ has line (lines_at es c)
  found-none line = sym (ap (has line) empty)

  pub out-none : (line q : ℕ) → lines_at es q ≡ if eqb q c then without line (lines_at es c)
      else lines_at es q
  out-none line q =
      elim (cases_Bool (eqb q c)) [
        | inl here ↦
            let same : q ≡ c = eqb-true q c here in
            rw here (ap (lines_at es) same ∙ empty ∙ sym (ap (without line) empty))
        | inr other ↦ rw other refl
      ]

-- ---- lines by number

abbrev whole : LineUse → LineUse
whole l = l

module _ (es : List (ℕ × LineUse)) (r i : ℕ) (at : Some i ≡ position (eqb r) (keys_of es))
    (value : slice_get (values_of es) i ≡ lookup (eqb r) es)
    (found : true ≡ is_some (lookup (eqb r) es))
  where
    pub use-there : (l : LineUse) × (use_of es r ≡ l) × (slice_get (values_of es) i ≡ Some l)
    use-there =
        elim (slice_cases (lookup (eqb r) es)) [
          | inl none ↦ let k : true ≡ false = rw none at found in absurd (false≢true (sym k))
          | inr some ↦ (some.0, rw some.1 refl, value ∙ some.1)
        ]

    pub use-at : (l : LineUse) → Some l ≡ slice_get (values_of es) i → use_of es r ≡ l
    use-at l e = let w = use-there in w.1 ∙ same_Some w.0 l (sym w.2 ∙ sym e)

    pub none-there : None ≡ slice_get (values_of es) i → ⊥
    none-there e =
        let w = use-there in let k : None ≡ Some w.0 = e ∙ w.2 in cc

    pub use-changed : (g : LineUse → LineUse) (new : List (ℕ × LineUse))
        → IfSome (slice_get (values_of es) i) (λ l. new ≡ set_value_at es i (g l))
        → (q : ℕ) → use_of new q ≡ if eqb q r then g (use_of es r) else use_of es q
    use-changed g new stated q =
        let w = found-changed whole unused g es new r i at value found stated in
        let same : use_of es r ≡ w.0 = rw w.1 refl in
        w.2 q ∙ ap (λ l. if eqb q r then g l else use_of es q) (sym same)

    pub use-written : (g : LineUse → LineUse) (old new : LineUse)
        → Some old ≡ slice_get (values_of es) i → new ≡ g old
        → (q : ℕ) → use_of (set_value_at es i new) q
        ≡ if eqb q r then g (use_of es r) else use_of es q
    use-written g old new there written =
        use-changed g (set_value_at es i new)
        (subst (λ o. IfSome o (λ l. set_value_at es i new ≡ set_value_at es i (g l))) there
        (ap (set_value_at es i) written))

    pub use-changed-on : {T E : Type 0} (result : Result T E) (g : LineUse → LineUse)
        (new : List (ℕ × LineUse))
        → OnOk result (IfSome (slice_get (values_of es) i) (λ l. new ≡ set_value_at es i (g l)))
        → OnOk result ((q : ℕ) → use_of new q ≡ if eqb q r then g (use_of es r) else use_of es q)
    use-changed-on (Err e) g new stated = tt
    use-changed-on (Ok x) g new stated = use-changed g new stated

    pub stated-known : {E : Type 0} (result : Result Bool E) (h : ℕ)
        → IfOk result (λ x. IfSome (slice_get (values_of es) i)
        (λ l. x ≡ not (list_any (eqb h) l.harts)))
        → IfOk result (λ x. x ≡ not (list_any (eqb h) (harts_of es r)))
    stated-known (Err e) h stated = tt
    stated-known (Ok x) h stated =
        let w = use-there in
        let here : x ≡ not (list_any (eqb h) w.0.harts) = rw w.2 at stated in
        here ∙ ap (λ (l : LineUse). not (list_any (eqb h) l.harts)) (sym w.1)

    pub arrives-known : {E : Type 0} (result : Result Bool E) (h : ℕ)
        → IfSome (slice_get (values_of es) i)
        (λ l. IsTrue (list_any (eqb h) l.harts) → IsOk result)
        → IsTrue (list_any (eqb h) (harts_of es r)) → IsOk result
    arrives-known result h stated here =
        let w = use-there in
        let known : IsTrue (list_any (eqb h) w.0.harts) → IsOk result = rw w.2 at stated in
        known (ap (λ (l : LineUse). list_any (eqb h) l.harts) (sym w.1) ∙ here)

module _ (es : List (ℕ × LineUse)) (r : ℕ) (none : false ≡ is_some (lookup (eqb r) es)) where
  pub no-use : use_of es r ≡ unused
  no-use =
      elim (slice_cases (lookup (eqb r) es)) [
        | inl gone ↦ rw gone refl
        | inr some ↦ let k : false ≡ true = rw some.1 at none in absurd (false≢true k)
      ]

  pub no-harts : 0 < length (harts_of es r) → ⊥
  no-harts some =
      let k : 0 < 0 = subst (λ (l : LineUse). 0 < length l.harts) no-use some in omega (arith, k)

  pub arrived-new : {E : Type 0} (result : Result Bool E) (h : ℕ) (new : List (ℕ × LineUse))
      → OnOk result (new ≡ insert_entry nat_eq es r (record { harts = h ∷ []; evicted = 0 }))
      → OnOk result ((q : ℕ) → use_of new q ≡ if eqb q r
      then record (use_of es r) { harts = note_arrival (harts_of es r) h } else use_of es q)
  arrived-new (Err e) h new stated = tt
  arrived-new (Ok x) h new stated = λ q.
      ap (λ xs. use_of xs q) stated
      ∙ found-insert whole unused es r q (record { harts = h ∷ []; evicted = 0 })
      ∙ ap (λ (l : LineUse). if eqb q r then record l { harts = note_arrival l.harts h }
      else use_of es q) (sym no-use)

  pub stated-new : {E : Type 0} (result : Result Bool E) (h : ℕ)
      → IfOk result (λ x. IsTrue x) → IfOk result (λ x. x ≡ not (list_any (eqb h) (harts_of es r)))
  stated-new (Err e) h stated = tt
  stated-new (Ok x) h stated =
      stated ∙ ap (λ (l : LineUse). not (list_any (eqb h) l.harts)) (sym no-use)

  pub arrives-new : {E : Type 0} (result : Result Bool E) (h : ℕ)
      → IsTrue (list_any (eqb h) (harts_of es r)) → IsOk result
  arrives-new result h here =
      let no : false ≡ true =
      sym (ap (λ (l : LineUse). list_any (eqb h) l.harts) no-use) ∙ here in
      absurd (false≢true no)

  pub taken-none : (q : ℕ) → use_of es q ≡ if eqb q r
      then record (use_of es r) { harts = take (length (harts_of es r) - 1) (harts_of es r) }
      else use_of es q
  taken-none q =
      elim (cases_Bool (eqb q r)) [
        | inl here ↦
            let same : q ≡ r = eqb-true q r here in
            rw here (ap (use_of es) same ∙ no-use
            ∙ sym (ap (λ (l : LineUse). record l {
              harts = take (length l.harts - 1) l.harts;
            }) no-use))
        | inr other ↦ rw other refl
      ]
