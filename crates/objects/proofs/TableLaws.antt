-- What a table's blocks and their index are once a block died, or one was made.
use Rattle.std.proofs.Common.{◌≡◌, ◌≢◌, ℕ, List, [], ◌∷◌, ◌++◌, length, get_or, Option, None, Some}
use Rattle.std.proofs.Common.{refl, sym, ◌∙◌, ap, inl, inr}
use Rattle.std.specs.Prelude.{slice_set, ◌==◌, if◌then◌else◌, MatchOption}
use Rattle.std.proofs.lemmas.Bool.{cond-false, cond-true, eqb-true, eq-eqb}
use Rattle.std.proofs.lemmas.List.{length-map}
use Rattle.std.proofs.lemmas.Bool.Decides.{eqb_tells}
use Rattle.objects.specs.declared.block.Block.{Block}
use Rattle.objects.specs.Blocks.{blocks_after_free, is_live_at, newborn}
use Rattle.objects.specs.Indexes.{IsIndex}
use Rattle.objects.specs.Laws.Indexes.{index-die, index-push, index-same, map_none, map_one}
use Rattle.objects.specs.Laws.Indexes.{no_place, not_same, only_place}
use Rattle.objects.proofs.Lives.{one_address}

no_block : Block
no_block = newborn 0 0 0 []

-- the block of a number died
abbrev pub Ended : List Block → List Block → ℕ → Option ℕ → Type 0
Ended blocks after position old =
    (d : Block) → MatchOption old (after ≡ blocks)
    (λ n. after ≡ slice_set blocks n (record (get_or blocks n d) { died = Some position }))

module _ (blocks after : List Block) (f : ℕ → Option ℕ) (position addr : ℕ)
    (index : IsIndex is_live_at f blocks) where
  pub freed : (old : Option ℕ) → f addr ≡ old → Ended blocks after position old → after
      ≡ blocks_after_free blocks position addr
  freed None is ended =
      ended no_block ∙ sym (map_none (is_live_at addr) (λ b. record b { died = Some position })
      blocks (no_place is_live_at f blocks addr
      index is))
  freed (Some n) is ended =
      ended no_block
      ∙ sym (map_one (is_live_at addr) (λ b. record b { died = Some position }) blocks n _ no_block
      (only_place is_live_at f blocks addr n index is) (index.found addr n is) refl)

  pub freed-index : (g : ℕ → Option ℕ) (old : Option ℕ) → f addr ≡ old
      → Ended blocks after position old
      → g addr ≡ None → ((q : ℕ) → q ≢ addr → g q ≡ f q) → IsIndex is_live_at g after
  freed-index g None is ended gone others = rw (ended no_block)
      (index-same is_live_at f g blocks addr same index)
    where
      same : (q : ℕ) → g q ≡ f q
      same q = elim (eqb_tells q addr) [
        | inl e ↦ rw e.1 (gone ∙ sym is)
        | inr apart ↦
            others q apart.1
      ]
  freed-index g (Some n) is ended gone others =
      rw (ended no_block) (index-die is_live_at f g blocks addr n _ one_address
      (λ q. refl) is gone others index)

  pub made-index : (g : ℕ → Option ℕ) (old : Option ℕ) (size : ℕ) (sites : List ℕ) → f addr ≡ old
      → Ended blocks after position old
      → g addr ≡ Some (length blocks) → ((q : ℕ) → q ≢ addr → g q ≡ f q)
      → IsIndex is_live_at g (after ++ newborn position addr size sites ∷ [])
  made-index g old size sites is ended new others =
      index-push is_live_at h g after addr (newborn position addr size sites)
      (λ q e. sym (eqb-true addr q e)) (eq-eqb addr addr refl)
      gone (new ∙ ap Some (sym (ap length (freed old is ended) ∙ length-map blocks _)))
      (λ q apart. others q apart ∙ sym (kept q apart))
      (freed-index h old is ended gone kept)
    where
      h : ℕ → Option ℕ
      h q = if q == addr then None else f q

      gone : h addr ≡ None
      gone = cond-true (addr == addr) None (f addr) (eq-eqb addr addr refl)

      kept : (q : ℕ) → q ≢ addr → h q ≡ f q
      kept q apart = cond-false (q == addr) None (f q) (not_same q addr apart)
