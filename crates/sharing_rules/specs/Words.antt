-- The words of a line since a position: their reads, their writes and their harts.
use Rattle.std.specs.Prelude.{ℕ, ◌+◌, ◌/◌, not, ◌&&◌, ◌==◌, if◌then◌else◌, List, [], ◌∷◌, map}
use Rattle.std.specs.Prelude.{filter, drop, count_by}
use Rattle.base.specs.Touch.{Touch, is_write}
use Rattle.sharing_rules.specs.AccessLists.{AccessList}
use Rattle.sharing_rules.specs.Places.{below}
use Rattle.sharing_rules.specs.Lines.{Line, is_inside, word_place}
use Rattle.sharing_rules.specs.Arrivals.{each_once}
use Rattle.sharing_rules.specs.declared.word.Word.{Word}
use Rattle.sharing_rules.specs.declared.word.Owner.{Owner}
use Rattle.sharing_rules.specs.declared.word.Owner.TheVariants as owner

-- none, one hart or many
abbrev pub owner_of : List ℕ → Owner
owner_of [] = owner.None
owner_of (h ∷ []) = owner.One h
owner_of (h ∷ (g ∷ hs)) = owner.Many

-- what a list of accesses makes of a word
abbrev pub tally : AccessList → Word
tally u = record {
  reads = count_by (λ a. not (is_write a.kind)) u;
  writes = count_by (λ a. is_write a.kind) u;
  owner = owner_of (each_once (map (λ a. a.hart) u));
}

abbrev pub accesses : Word → ℕ
accesses w = w.reads + w.writes

-- word i of a line, over the positions from s on
abbrev pub word_since : Line → ℕ → AccessList → ℕ → Word
word_since l s t i =
    tally (filter (λ a. is_inside l a.addr && (word_place l a.addr == i)) (drop s t))

-- all of its words in order
unfoldable pub words_since : Line → ℕ → AccessList → List Word
words_since l s t = map (word_since l s t) (below (l.size / 4))

-- one access more of a word
abbrev pub note_owner : Owner → ℕ → Owner
note_owner owner.None h = owner.One h
note_owner (owner.One g) h = if h == g then owner.One g else owner.Many
note_owner owner.Many h = owner.Many

abbrev pub note_word : Word → Touch → Word
note_word w a = record {
  reads = if is_write a.kind then w.reads else w.reads + 1;
  writes = if is_write a.kind then w.writes + 1 else w.writes;
  owner = note_owner w.owner a.hart;
}
