-- What an index of live blocks says of blocks that live at one address.
use Rattle.std.proofs.Common.{◌≡◌, ℕ, Bool, true, false, ◌&&◌, List, [], ◌∷◌, ◌++◌, length, get_or}
use Rattle.std.proofs.Common.{Option, None, Some, is_some}
use Rattle.std.proofs.Common.{refl, sym, ◌∙◌, arith}
use Rattle.std.specs.Prelude.{◌==◌, if◌then◌else◌, is_none}
use Rattle.std.specs.List.{list_any}
use Rattle.std.proofs.lemmas.Bool.{eq-eqb, eqb-true}
use Rattle.objects.specs.declared.block.Block.{Block}
use Rattle.objects.specs.Blocks.{NoTwoLive, is_live_at, live_together, meets_live}
use Rattle.objects.specs.Indexes.{IsIndex}
use Rattle.objects.specs.Laws.Indexes.{any_passes, index-join, never, no_place, none_passes}
use Rattle.objects.specs.Laws.Indexes.{passes_at}
use Rattle.objects.proofs.Lives.{both}

none_together : (addr : ℕ) (blocks : List Block) → list_any (λ a. false && is_live_at addr a) blocks
    ≡ false
none_together addr [] = refl
none_together addr (b ∷ bs) = none_together addr bs

module _ (f : ℕ → Option ℕ) (blocks : List Block) (index : IsIndex is_live_at f blocks) where
  live_found : (addr : ℕ) (place : Option ℕ) → f addr ≡ place → list_any (is_live_at addr) blocks
      ≡ is_some place
  live_found addr None is = none_passes (is_live_at addr) blocks
      (no_place is_live_at f blocks addr index is)
  live_found addr (Some n) is = any_passes (is_live_at addr) blocks n (index.found addr n is)

  -- a block of an address, where it lives, meets the one that the index has there
  pub meets_found : (addr : ℕ) (lives : Bool) → list_any (λ a. lives && is_live_at addr a) blocks
      ≡ (lives && is_some (f addr))
  meets_found addr true = live_found addr (f addr) refl
  meets_found addr false = none_together addr blocks

  free_there : (b : Block) → meets_live blocks b ≡ false → (q : ℕ) → is_live_at q b ≡ true
      → (place : Option ℕ) → f q ≡ place → place ≡ None
  free_there b apart q lives None is = refl
  free_there b apart q lives (Some n) is =
      let here = both (is_none b.died) (b.addr == q) lives in
      let addr : b.addr ≡ q = eqb-true b.addr q here.1 in
      let found = live_found q (Some n) is in
      let none : list_any (is_live_at q) blocks ≡ false = rw (here.0, addr) at apart in
      let no : true ≡ false = sym found ∙ none in
      absurd cc

  -- a block that meets none goes behind the others
  pub joined : (b : Block) (g : ℕ → Option ℕ) → meets_live blocks b ≡ false
      → ((q : ℕ) → g q ≡ (if is_live_at q b then Some (length blocks) else f q))
      → IsIndex is_live_at g (blocks ++ b ∷ [])
  joined b g apart is = index-join is_live_at f g blocks 0 b
      (λ q lives. free_there b apart q lives (f q) refl) is index

  pub lone : NoTwoLive blocks
  lone i j d before within = never (live_together (get_or blocks i d) (get_or blocks j d)) clash
    where
      clash : live_together (get_or blocks i d) (get_or blocks j d) ≡ true → ⊥
      clash h =
          let later = get_or blocks j d in
          let two = both (is_none later.died) (is_live_at later.addr (get_or blocks i d)) h in
          let here : is_live_at later.addr later
          ≡ true = rw (two.0, eq-eqb later.addr later.addr refl) refl in
          let second = index.has later.addr j
          (passes_at (is_live_at later.addr) blocks j d within here) in
          let first = index.has later.addr i
          (passes_at (is_live_at later.addr) blocks i d (omega arith) two.1) in
          let stated : Some i ≡ Some j = sym first ∙ second in
          let same : i ≡ j = cc in
          omega arith
