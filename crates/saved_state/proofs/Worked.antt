-- Worked states: each is closed by computing.
use Rattle.std.proofs.Common.{◌≡◌, ℕ, ◌+◌, ◌*◌, List, [], ◌∷◌, ◌++◌, replicate, length, Some, None}
use Rattle.std.proofs.Common.{pos, refl}
use Rattle.base.specs.Touch.{Touch}
use Rattle.base.specs.Lines.{Grid}
use Rattle.base.specs.declared.access.Kind.TheVariants.{Write}
use Rattle.sharing_rules.specs.Places.{first_place}
use Rattle.sharing_rules.specs.Pairs.{best_pair_of}
use Rattle.sharing_rules.specs.Words.{words_since}
use Rattle.sharing_rules.specs.Arrivals.{arrivals}
use Rattle.sharing_rules.specs.declared.line_kind.LineKind.TheVariants.{Observed, Shifted, Doubled}
use Rattle.sharing_rules.specs.declared.word.Owner.TheVariants as owner
use Rattle.line_tracks.specs.TrackValue.{TrackValue, waiting}
use Rattle.saved_state.specs.Spelling.{State, spell_head, spell_header, spell_line, spell_state}
use Rattle.saved_state.specs.Spelling.{spell_track, spell_word}
use Rattle.saved_state.specs.OfLists.{state_of_list}

-- PRDSTA01
abbrev pub magic : List ℕ
magic = 80 ∷ 82 ∷ 68 ∷ 83 ∷ 84 ∷ 65 ∷ 48 ∷ 49 ∷ []

-- lines of 64 bytes, the usual thresholds, 8 harts, no access
abbrev pub nothing : State
nothing = record {
  grid = record { size = 64; offset = 0 };
  tracking = 16;
  prediction = Some 64;
  harts = 8;
  position = 0;
  lines = [];
  tracks = [];
}

abbrev pub one : ℕ → ℕ → List ℕ
one bytes n = n ∷ replicate bytes 0

empty_state : spell_state nothing ≡ magic ++ (one 3 64
    ++ (one 3 0 ++ (one 7 16 ++ (one 7 64 ++ (one 1 8 ++ replicate 30 0)))))
unfolding spell_header
empty_state = refl

-- line 65 of 64 bytes from offset 0 on, which begins at 0x1000: written twice, by hart 0 and then
-- by hart 1, and read by hart 0
abbrev pub grid : Grid
grid = record { size = 64; offset = 0 }

abbrev pub shared : TrackValue
shared = record {
  kind = Observed;
  range = record { base = pos 0x1000; size = 64 };
  start = Some 0;
  entries = 1 ∷ 0 ∷ [];
  count = 1;
  words = record { reads = 1; writes = 2; owner = owner.Many }
      ∷ (waiting Observed (record { base = pos 0; size = 60 })).words;
}

abbrev pub one_line : State
one_line = record {
  grid = grid;
  tracking = 1;
  prediction = None;
  harts = 2;
  position = 3;
  lines = record { number = 65; writes = 2 } ∷ [];
  tracks = shared ∷ [];
}

-- 16 bytes of the line
line_spelled : spell_line grid (record { number = 65; writes = 2 })
    ≡ 0 ∷ 16 ∷ (replicate 6 0 ++ one 7 2)
unfolding spell_line
line_spelled = refl

-- the line below address 0 has a negative base
line_below : spell_line (record { size = 64; offset = 4 }) (record { number = 0; writes = 1 })
    ≡ 196 ∷ (replicate 7 255 ++ one 7 1)
unfolding spell_line
line_below = refl

head_spelled : spell_head shared
    ≡ 0 ∷ 2 ∷ 1 ∷ 0 ∷ 0 ∷ 0 ∷ 0 ∷ 0 ∷ 0 ∷ 16 ∷ (replicate 6 0 ++ (replicate 8 0 ++ one 7 1))
unfolding spell_head
head_spelled = refl

-- before its start it has no entries and no start
waits_spelled : spell_head (waiting Shifted (record { base = pos 0x1020; size = 64 }))
    ≡ 1 ∷ 0 ∷ 255 ∷ 255 ∷ 255 ∷ 255 ∷ 0 ∷ 0 ∷ 32 ∷ 16
    ∷ (replicate 6 0 ++ (replicate 8 255 ++ replicate 8 0))
unfolding spell_head
waits_spelled = refl

word_shared : spell_word (record { reads = 1; writes = 2; owner = owner.Many }) ≡ one 7 1
    ++ (one 7 2 ++ 254 ∷ 255 ∷ 0 ∷ 0 ∷ [])
unfolding spell_word
word_shared = refl

word_owned : spell_word (record { reads = 0; writes = 2; owner = owner.One 3 }) ≡ replicate 8 0
    ++ (one 7 2 ++ 3 ∷ 0 ∷ 0 ∷ 0 ∷ [])
unfolding spell_word
word_owned = refl

word_untouched : spell_word (record { reads = 0; writes = 0; owner = owner.None }) ≡ replicate 16 0
    ++ 255 ∷ 255 ∷ 0 ∷ 0 ∷ []
unfolding spell_word
word_untouched = refl

one_line_length : length (spell_state one_line) ≡ 64 + 16 + 352
unfolding spell_header spell_line spell_head spell_word
one_line_length = refl

shifted_length : length (spell_track (waiting Shifted (record { base = pos 0x1020; size = 64 })))
    ≡ 352
unfolding spell_head spell_word
shifted_length = refl

doubled_length : length (spell_track (waiting Doubled (record { base = pos 0x1000; size = 128 })))
    ≡ 672
unfolding spell_head spell_word
doubled_length = refl

-- the tracks are put in order, and the header stays
any_order : spell_state (record one_line {
  tracks =
      shared ∷ waiting Shifted (record { base = pos 0x1020; size = 64 }) ∷ [];
})
    ≡ spell_state (record one_line {
      tracks = waiting Shifted
          (record { base = pos 0x1020; size = 64 }) ∷ shared ∷ [];
    })
unfolding spell_header
any_order = refl

-- two harts write the words on both sides of a line's end in turn: two observed lines, and a
-- shifted and a doubled one
abbrev pub wr : ℕ → ℕ → Touch
wr h a = record { hart = h; addr = a; kind = Write; size = 4 }

abbrev pub across : List Touch
across = wr 0 0x103c ∷ wr 1 0x1040 ∷ wr 0 0x103c ∷ []

across_length : length (state_of_list grid (record {
  tracking = 1;
  prediction = Some 2;
  report =
      1;
}) 2 across)
    ≡ 64 + 2 * 16 + 3 * 352 + 672
unfolding first_place best_pair_of words_since arrivals spell_header spell_line spell_head
    spell_word
across_length = refl
