-- What good records leave may be saved.
use Rattle.std.proofs.Common.{◌≡◌, ◌∙◌, ◌<◌, ◌≤◌, ◌^◌, ℕ, true, List, [], ◌∷◌, length}
use Rattle.std.proofs.Common.{Option, Some, None, arith, sym, subst}
use Rattle.std.proofs.lemmas.Bool.Decides.{nat_tests}
use Rattle.std.proofs.lemmas.List.{take_all}
use Rattle.std.proofs.lemmas.List.Elements.{All-cons, All-contains, All-head, All-nil, All-tail}
use Rattle.std.proofs.lemmas.List.Elements.{All-weaker}
use Rattle.std.specs.List.{All}
use Rattle.std.specs.Prelude.{IfSome, nat_le}
use Rattle.objects.specs.Laws.Apart.{each_apart}
use Rattle.objects.specs.Blocks.{NoTwoLive}
use Rattle.base.specs.Names.{longest_name}
use Rattle.objects.specs.Symbols.{NoTwoAlike, Symbol}
use Rattle.objects.specs.declared.block.Block.{Block}
use Rattle.saved_state.specs.ObjectJudging.{is_life}
use Rattle.saved_state.specs.ObjectRules.{IsSavable, IsSavedBlock, IsSavedSymbol}
use Rattle.base.specs.Touch.{Touch}
use Rattle.trace_passes.specs.Lives.{objects_of}
use Rattle.observations.specs.Origins.{IsBlockOf, IsSymbolOf}
use Rattle.saved_state.specs.OfLists.{AreOf}
use Rattle.trace_format.specs.Rules.{IsGoodRecord, IsGoodSymbol, touches_in}
use Rattle.trace_format.specs.declared.record.TraceRecord.{TraceRecord}
use Rattle.trace_format.specs.declared.record.TraceRecord.TheVariants as records
use Rattle.trace_format.specs.declared.record.Version.{Version}

-- ---- the objects

no_more : (a b : ℕ) → a ≤ b → nat_le a b ≡ true
no_more a b within = grind (arith, nat_tests)

life_kept : (position born : ℕ) (died : Option ℕ) → born ≤ position
    → IfSome died (λ d. (born ≤ d) × (d ≤ position)) → is_life position born died ≡ true
life_kept position born None before life = no_more born position before
life_kept position born (Some d) before life =
    rw (no_more born d life.0) (no_more d position life.1)

module _ (w : Version) (harts : ℕ) (items : List TraceRecord)
    (good : All (IsGoodRecord w harts) items) where
  saved_block : (b : Block) → IsBlockOf items b → IsSavedBlock (length (touches_in items)) b
  saved_block b of =
      let made : (b.addr < 2 ^ 32) × (b.size < 2 ^ 32) × (length b.sites ≡ 4)
      × All (λ site. site < 2 ^ 32) b.sites =
      All-contains (IsGoodRecord w harts) items (records.Alloc b.addr b.size b.sites) good of.made
      in
      record {
        addr_in_range = made.0;
        size_in_range = made.1;
        four = made.2;
        sites_in_range = made.3;
        life = life_kept (length (touches_in items)) b.born b.died of.born of.died;
      }

  saved_symbol : (s : Symbol) → IsSymbolOf items s → IsSavedSymbol s
  saved_symbol s of =
      let stated : IsGoodSymbol s.addr s.size of.recorded_name =
      All-contains (IsGoodRecord w harts) items
      (records.Symbol s.kind s.addr s.size of.recorded_name) good of.stated in
      subst (IsGoodSymbol s.addr s.size)
      (sym (of.name ∙ take_all longest_name of.recorded_name stated.short)) stated

  pub savable : length (objects_of items).symbols < 2 ^ 64
      → length (objects_of items).blocks < 2 ^ 64 → All (IsBlockOf items) (objects_of items).blocks
      → All (IsSymbolOf items) (objects_of items).symbols → NoTwoLive (objects_of items).blocks
      → NoTwoAlike (objects_of items).symbols
      → IsSavable (length (touches_in items)) (objects_of items)
  savable few_symbols few_blocks blocks symbols lone apart = record {
    each = record {
      symbols = All-weaker (IsSymbolOf items) IsSavedSymbol saved_symbol (objects_of items).symbols
          symbols;
      blocks = All-weaker (IsBlockOf items) (IsSavedBlock (length (touches_in items))) saved_block
          (objects_of items).blocks blocks;
    };
    apart = each_apart (objects_of items).symbols apart;
    lone = lone;
    few_symbols = few_symbols;
    few_blocks = few_blocks;
  }

-- ---- the accesses

of_one_more : (w : Version) (harts : ℕ) (item : TraceRecord) (items : List TraceRecord)
    → IsGoodRecord w harts item
    → AreOf harts (touches_in items) → AreOf harts (touches_in (item ∷ items))
of_one_more w harts (records.Touch a pc) items good rest =
    All-cons (λ (a : Touch). (a.hart < harts) × (a.addr < 2 ^ 32)) a (touches_in items)
    (good.0.hart, good.0.allowed.addr_in_range) rest
of_one_more w harts (records.Alloc addr size sites) items good rest = rest
of_one_more w harts (records.Free addr) items good rest = rest
of_one_more w harts (records.Symbol kind addr size name) items good rest = rest
of_one_more w harts (records.End e) items good rest = rest

pub of_harts : (w : Version) (harts : ℕ) (items : List TraceRecord)
    → All (IsGoodRecord w harts) items
    → AreOf harts (touches_in items)
of_harts w harts [] good = All-nil (λ (a : Touch). (a.hart < harts) × (a.addr < 2 ^ 32))
of_harts w harts (item ∷ items) good =
    of_one_more w harts item items (All-head (IsGoodRecord w harts) item items good)
    (of_harts w harts items (All-tail (IsGoodRecord w harts) item items good))
