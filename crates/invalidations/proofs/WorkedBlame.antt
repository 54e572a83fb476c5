-- Worked lists, computed from the definitions.
use Rattle.std.specs.Prelude.{None}
use Rattle.std.proofs.Common.{◌≡◌, ℕ, List, [], ◌∷◌, ◌++◌, codes, refl}
use Rattle.std.specs.Fmt.{digits}
use Rattle.base.specs.Lines.{Grid}
use Rattle.base.specs.declared.access.Kind.{Kind}
use Rattle.base.specs.declared.access.Kind.TheVariants.{Read, Write}
use Rattle.sharing_rules.specs.Places.{count_places}
use Rattle.invalidations.specs.declared.sited.Sited.{Sited}
use Rattle.invalidations.specs.BlameText.{blame_text}
use Rattle.invalidations.specs.Latest.{latest, latest_place}
use Rattle.invalidations.specs.Invalidations.{invalidations}

-- Three harts each add 3 to a byte of their own, in turn: hart h loads at 0x1003c and stores at
-- 0x10044. Hart 0 writes a word of the line first.
abbrev load : ℕ → ℕ → Sited
load h a =
    record { access = record { hart = h; addr = a; kind = Read; size = 1 }; pc = 0x1003c }

abbrev store : ℕ → ℕ → Sited
store h a =
    record { access = record { hart = h; addr = a; kind = Write; size = 1 }; pc = 0x10044 }

abbrev first_store : Sited
first_store =
    record { access = record { hart = 0; addr = 0x11008; kind = Write; size = 4 }; pc = 0x10004 }

abbrev in_turn : List Sited
in_turn =
    first_store ∷ load 1 0x11004 ∷ store 1 0x11004 ∷ load 2 0x11005 ∷ load 1 0x11004
    ∷ load 0 0x11000 ∷ store 2 0x11005 ∷ store 1 0x11004 ∷ store 0 0x11000 ∷ load 2 0x11005
    ∷ load 1 0x11004 ∷ load 0 0x11000 ∷ store 2 0x11005 ∷ store 1 0x11004 ∷ store 0 0x11000
    ∷ load 2 0x11005 ∷ load 0 0x11000 ∷ store 2 0x11005 ∷ store 0 0x11000 ∷ []

-- the same in turns of three steps
abbrev in_longer_turns : List Sited
in_longer_turns =
    first_store ∷ load 1 0x11004 ∷ store 1 0x11004 ∷ load 1 0x11004 ∷ load 0 0x11000
    ∷ store 1 0x11004 ∷ load 2 0x11005 ∷ store 2 0x11005 ∷ store 0 0x11000 ∷ load 1 0x11004
    ∷ load 2 0x11005 ∷ load 0 0x11000 ∷ store 1 0x11004 ∷ store 2 0x11005 ∷ store 0 0x11000
    ∷ load 2 0x11005 ∷ load 0 0x11000 ∷ store 0 0x11000 ∷ store 2 0x11005 ∷ []

abbrev layout : ℕ → ℕ → Grid
layout n o = record { size = n; offset = o }

in_one_line : blame_text (layout 64 0) None in_turn ≡ codes "predator blame 1\n"
    ++ codes "accesses 19\n"
    ++ codes "layout 64 0\n"
    ++ codes "lines 1\n"
    ++ codes "line 0x00011000 takings 9 pairs 3 harts 5\n"
    ++ codes "pair 0x00010044 0x00010044 taken 5 same 2\n"
    ++ codes "pair 0x0001003c 0x00010044 taken 3 same 0\n"
    ++ codes "pair 0x00010004 0x00010044 taken 1 same 0\n"
    ++ codes "from 0 to 1 taken 1\n"
    ++ codes "from 0 to 2 taken 3\n"
    ++ codes "from 1 to 0 taken 2\n"
    ++ codes "from 2 to 0 taken 1\n"
    ++ codes "from 2 to 1 taken 2\n"
    ++ codes "total takings 9\n"
    ++ codes "end\n"
unfolding blame_text count_places digits latest latest_place invalidations
in_one_line = refl

-- under longer lines, whose base is lower
in_longer_lines : blame_text (layout 128 32) None in_turn ≡ codes "predator blame 1\n"
    ++ codes "accesses 19\n"
    ++ codes "layout 128 32\n"
    ++ codes "lines 1\n"
    ++ codes "line 0x00010fa0 takings 9 pairs 3 harts 5\n"
    ++ codes "pair 0x00010044 0x00010044 taken 5 same 2\n"
    ++ codes "pair 0x0001003c 0x00010044 taken 3 same 0\n"
    ++ codes "pair 0x00010004 0x00010044 taken 1 same 0\n"
    ++ codes "from 0 to 1 taken 1\n"
    ++ codes "from 0 to 2 taken 3\n"
    ++ codes "from 1 to 0 taken 2\n"
    ++ codes "from 2 to 0 taken 1\n"
    ++ codes "from 2 to 1 taken 2\n"
    ++ codes "total takings 9\n"
    ++ codes "end\n"
unfolding blame_text count_places digits latest latest_place invalidations
in_longer_lines = refl

by_longer_turns : blame_text (layout 64 0) None in_longer_turns ≡ codes "predator blame 1\n"
    ++ codes "accesses 19\n"
    ++ codes "layout 64 0\n"
    ++ codes "lines 1\n"
    ++ codes "line 0x00011000 takings 9 pairs 3 harts 4\n"
    ++ codes "pair 0x00010044 0x00010044 taken 5 same 2\n"
    ++ codes "pair 0x0001003c 0x00010044 taken 3 same 0\n"
    ++ codes "pair 0x00010004 0x00010044 taken 1 same 0\n"
    ++ codes "from 0 to 1 taken 3\n"
    ++ codes "from 0 to 2 taken 1\n"
    ++ codes "from 1 to 2 taken 2\n"
    ++ codes "from 2 to 0 taken 3\n"
    ++ codes "total takings 9\n"
    ++ codes "end\n"
unfolding blame_text count_places digits latest latest_place invalidations
by_longer_turns = refl

-- a line for each word leaves the two bytes that share a word
by_words : blame_text (layout 4 0) None in_turn ≡ codes "predator blame 1\n"
    ++ codes "accesses 19\n"
    ++ codes "layout 4 0\n"
    ++ codes "lines 1\n"
    ++ codes "line 0x00011004 takings 5 pairs 2 harts 2\n"
    ++ codes "pair 0x00010044 0x00010044 taken 3 same 3\n"
    ++ codes "pair 0x0001003c 0x00010044 taken 2 same 2\n"
    ++ codes "from 1 to 2 taken 3\n"
    ++ codes "from 2 to 1 taken 2\n"
    ++ codes "total takings 5\n"
    ++ codes "end\n"
unfolding blame_text count_places digits latest latest_place invalidations
by_words = refl

of_nothing : blame_text (layout 64 0) None [] ≡ codes "predator blame 1\n"
    ++ codes "accesses 0\n"
    ++ codes "layout 64 0\n"
    ++ codes "lines 0\n"
    ++ codes "total takings 0\n"
    ++ codes "end\n"
unfolding blame_text count_places digits latest latest_place invalidations
of_nothing = refl

abbrev at : ℕ → ℕ → Kind → ℕ → Sited
at h a kind pc =
    record { access = record { hart = h; addr = a; kind = kind; size = 4 }; pc = pc }

-- a line that was only read before its first write is taken by it
from_a_reader : blame_text (layout 64 0) None (at 1 0x1000 Read 4 ∷ at 0 0x1000 Write 8 ∷ []) ≡ codes "predator blame 1\n"
    ++ codes "accesses 2\n"
    ++ codes "layout 64 0\n"
    ++ codes "lines 1\n"
    ++ codes "line 0x00001000 takings 1 pairs 1 harts 1\n"
    ++ codes "pair 0x00000004 0x00000008 taken 1 same 1\n"
    ++ codes "from 1 to 0 taken 1\n"
    ++ codes "total takings 1\n"
    ++ codes "end\n"
unfolding blame_text count_places digits latest latest_place invalidations
from_a_reader = refl

-- the line that is taken most comes first, and each has pairs of its own
by_invalidations : blame_text (layout 64 0) None
    (at 1 0x1000 Read 4 ∷ at 0 0x1000 Write 8 ∷ at 1 0x2000 Read 4 ∷ at 0 0x2000 Write 8
    ∷ at 1 0x2008 Write 12 ∷ at 0 0x3000 Write 8 ∷ []) ≡ codes "predator blame 1\n"
    ++ codes "accesses 6\n"
    ++ codes "layout 64 0\n"
    ++ codes "lines 2\n"
    ++ codes "line 0x00002000 takings 2 pairs 2 harts 2\n"
    ++ codes "pair 0x00000004 0x00000008 taken 1 same 1\n"
    ++ codes "pair 0x00000008 0x0000000c taken 1 same 0\n"
    ++ codes "from 0 to 1 taken 1\n"
    ++ codes "from 1 to 0 taken 1\n"
    ++ codes "line 0x00001000 takings 1 pairs 1 harts 1\n"
    ++ codes "pair 0x00000004 0x00000008 taken 1 same 1\n"
    ++ codes "from 1 to 0 taken 1\n"
    ++ codes "total takings 3\n"
    ++ codes "end\n"
unfolding blame_text count_places digits latest latest_place invalidations
by_invalidations = refl
