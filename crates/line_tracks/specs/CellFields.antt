-- How the fields of a cell stand for a word: its reads 65,536 times, with the number of its owner.
use Rattle.std.specs.Prelude.{◌+◌, ◌*◌, ◌/◌, ◌%◌, ◌<◌}
use Rattle.sharing_rules.specs.declared.word.Word.{Word}
use Rattle.line_tracks.specs.declared.cell.Cell.TheInside.{Inside}
use Rattle.line_tracks.specs.OwnerNumbers.{owner_number, owner_of}

abbrev pub word_of : Inside → Word
word_of c = record {
  reads = c.reads / 65536;
  writes = c.writes;
  owner = owner_of (c.reads % 65536);
}

-- the owner is none, a hart or many
abbrev pub IsOwned : Inside → Type 0
IsOwned c = c.reads % 65536 < 258

abbrev pub fields_of : Word → Inside
fields_of w = record { reads = w.reads * 65536 + owner_number w.owner; writes = w.writes }
