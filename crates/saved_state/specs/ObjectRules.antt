-- The rules that saved objects keep.
use Rattle.std.specs.Prelude.{◌≡◌, ℕ, ◌^◌, ◌<◌, List, length, true}
use Rattle.std.specs.List.{All}
use Rattle.objects.specs.declared.block.Block.{Block}
use Rattle.objects.specs.Blocks.{NoTwoLive}
use Rattle.objects.specs.Objects.{Objects}
use Rattle.objects.specs.Symbols.{EachApart, Symbol}
use Rattle.trace_format.specs.Rules.{IsGoodSymbol}
use Rattle.saved_state.specs.ObjectJudging.{is_life}
use Rattle.saved_state.specs.ObjectSpelling.{spell_objects}

-- a symbol that a trace may have
abbrev pub IsSavedSymbol : Symbol → Type 0
IsSavedSymbol s = IsGoodSymbol s.addr s.size s.name

-- its fields fit, and it lived up to the position
pub record IsSavedBlock (position : ℕ) (b : Block) : Type 0 where
  pub addr_in_range : b.addr < 2 ^ 32
  pub size_in_range : b.size < 2 ^ 32
  pub four : length b.sites ≡ 4
  pub sites_in_range : All (λ site. site < 2 ^ 32) b.sites
  pub life : is_life position b.born b.died ≡ true

-- symbols and blocks that are good each
pub record AreSavable (position : ℕ) (o : Objects) : Type 0 where
  pub symbols : All IsSavedSymbol o.symbols
  pub blocks : All (IsSavedBlock position) o.blocks

-- and together, as a table has them
pub record IsSavable (position : ℕ) (o : Objects) : Type 0 where
  pub each : AreSavable position o
  pub apart : EachApart o.symbols
  pub lone : NoTwoLive o.blocks
  pub few_symbols : length o.symbols < 2 ^ 64
  pub few_blocks : length o.blocks < 2 ^ 64

-- the bytes are the part of these objects, which are good at the position
pub record IsPartOf (position : ℕ) (part : List ℕ) (o : Objects) : Type 0 where
  pub good : IsSavable position o
  pub spelled : part ≡ spell_objects o
