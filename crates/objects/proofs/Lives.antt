-- Where the blocks of a table live.
use Rattle.std.proofs.Common.{◌≡◌, ℕ, Bool, true, false, ◌&&◌, List, sym, ◌∙◌, ap, refl, true≢false}
use Rattle.std.proofs.lemmas.Bool.{eqb-true}
use Rattle.objects.specs.declared.block.Block.{Block}
use Rattle.objects.specs.Blocks.{is_live_at}
use Rattle.objects.specs.Objects.{Objects}
use Rattle.objects.specs.Symbols.{Symbol}

pub both : (a b : Bool) → (a && b) ≡ true → (a ≡ true) × (b ≡ true)
both true b h = (refl, h)
both false b h = absurd (true≢false (sym h))

pub one_address : (q k : ℕ) (b : Block) → is_live_at q b ≡ true → is_live_at k b ≡ true → q ≡ k
one_address q k b h g = sym (eqb-true b.addr q (both _ _ h).1) ∙ eqb-true b.addr k (both _ _ g).1

pub other_blocks : (symbols : List Symbol) (a b : List Block) → a ≡ b
    → let x : Objects = record { symbols = symbols; blocks = a } in x
    ≡ record { symbols = symbols; blocks = b }
other_blocks symbols a b e = ap (λ bs. (let x : Objects =
    record { symbols = symbols; blocks = bs } in x)) e

pub other_symbols : (blocks : List Block) (a b : List Symbol) → a ≡ b
    → let x : Objects = record { symbols = a; blocks = blocks } in x
    ≡ record { symbols = b; blocks = blocks }
other_symbols blocks a b e = ap (λ ss. (let x : Objects =
    record { symbols = ss; blocks = blocks } in x)) e
